-- Each way out by its law of `Leasts`.
use native.Mathlib.Omega.{arith}
use Rattle.canonical.proofs.Leasts.{least_low, least_high, least_free, least_new}
use Rattle.canonical.proofs.least_var.Goals as goal

pub returns-then-x-from : goal.returns-then-x-from
returns-then-x-from c = least_low c.requires.names _ c.if-x-from.true

pub returns-then-best-x : goal.returns-then-best-x
returns-then-best-x c = least_high c.requires.names _ c.if-best-x.true

pub is_free-requires : goal.is_free-requires
is_free-requires c = record { names = c.requires.names; scope = c.requires.scope }

pub returns-then-is_free : goal.returns-then-is_free
returns-then-is_free c = least_free c.requires.names _ c.is_free.ensures c.if-is_free.true

pub returns : goal.returns
returns c = let a = c.if-x-from.false in let b = c.if-best-x.false in least_new c.requires.names _ (omega arith) (omega arith) c.is_free.ensures c.if-is_free.false
