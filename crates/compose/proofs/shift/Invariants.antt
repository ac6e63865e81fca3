-- `compose::shift` meets its contract. The loop's invariant: the words before i have been moved.
use mathlib.Core.List.{◌++◌}
use Rattle.compose.proofs.Placed.{Shifting}
use Rattle.compose.proofs.shift.Given as goal

abbrev pub invariant-loop-i : goal.invariant-loop-i
invariant-loop-i l = Shifting (l.base.words.now ++ l.initial.work) (l.base.words.now ++ l.work) l.to l.end l.i
