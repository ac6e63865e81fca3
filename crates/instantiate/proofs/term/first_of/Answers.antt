-- The loop's invariant: none of the rows so far is of the class.
use native.Mathlib.Omega.{arith}
use Rattle.instantiate.proofs.Finding.{none_yet, none_more, first_found, first_none}
use Rattle.instantiate.proofs.term.first_of.Goals as goal

pub loop-j-init : goal.loop-j-init
loop-j-init c = none_yet _ _

pub returns-then-binders-j : goal.returns-then-binders-j
returns-then-binders-j c = first_found c.loop-j.invariant c.loop-j-test.true c.if-binders-j.true

pub loop-j-preserved : goal.loop-j-preserved
loop-j-preserved c = none_more c.loop-j.invariant c.if-binders-j.false

pub returns : goal.returns
returns c = first_none c.loop-j.invariant (omega arith)
