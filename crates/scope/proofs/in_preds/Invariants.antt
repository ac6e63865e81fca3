-- The loop's invariant: what is left of the list has the variable just where all of it has. The measure is the list's word.
use mathlib.Core.List.{◌++◌}
use Rattle.scope.proofs.FreeLaws.{Looking}
use Rattle.scope.proofs.in_preds.Given as goal

abbrev pub invariant-loop-a : goal.invariant-loop-a
invariant-loop-a l = Looking l.base.names.now (l.base.words.now ++ l.work) l.top l.ps l.x l.l

abbrev pub decreases-loop-a : goal.decreases-loop-a
decreases-loop-a l = l.l
