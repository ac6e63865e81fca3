-- The loop's invariant: none of the words so far is the one.
use native.Mathlib.Omega.{arith}
use Rattle.rename.proofs.Places.{without_none, without_on, letter_hit, letter_miss}
use Rattle.rename.proofs.letter_of.Goals as goal

pub loop-k-init : goal.loop-k-init
loop-k-init c = without_none _ _

pub returns-then-y-x : goal.returns-then-y-x
returns-then-y-x c = letter_hit c.loop-k.invariant (omega arith) c.if-y-x.true

pub loop-k-preserved : goal.loop-k-preserved
loop-k-preserved c = without_on c.loop-k.invariant c.if-y-x.false

pub returns : goal.returns
returns c = letter_miss c.loop-k.invariant (omega arith)
