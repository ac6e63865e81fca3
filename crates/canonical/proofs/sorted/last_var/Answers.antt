-- Each way out by its law of `Lasts`.
use Rattle.canonical.proofs.Lasts.{last_high, last_low, last_free, last_new}
use Rattle.canonical.proofs.sorted.last_var.Goals as goal

pub is_free-requires : goal.is_free-requires
is_free-requires c = record { names = c.requires.env.names; scope = c.requires.env.scope }

pub returns-then-is_free : goal.returns-then-is_free
returns-then-is_free c = last_free _ c.requires.node.below c.is_free.ensures c.if-is_free.true

pub returns-then-is_over : goal.returns-then-is_over
returns-then-is_over c = last_new _ c.requires.node.below c.is_under.ensures c.if-is_under.true c.is_over.ensures c.if-is_over.true c.is_free.ensures c.if-is_free.false

pub returns-then-is_under : goal.returns-then-is_under
returns-then-is_under c = last_low _ c.requires.node.below c.is_over.ensures c.if-is_over.false

pub returns : goal.returns
returns c = last_high _ c.requires.node.below c.is_under.ensures c.if-is_under.false
