-- `compose::shift` meets its contract. The loop's invariant: the words before i have been moved.
use native.Mathlib.Omega.{arith}
use Rattle.compose.proofs.Placed.{shifting, shifting_on, shifted}
use Rattle.compose.proofs.shift.Goals as goal

pub loop-i-init : goal.loop-i-init
loop-i-init c = shifting _ _ _ c.requires.to_bound

pub loop-i-preserved : goal.loop-i-preserved
loop-i-preserved c = shifting_on c.loop-i.invariant (omega arith) c.requires.end_in_bounds c.index-v.ensures c.put.ensures

pub returns : goal.returns
returns c = shifted c.loop-i.invariant (omega arith)
