-- `compose::sweep` meets its contract. The loop's invariant: the first i types have been replaced.
use mathlib.Core.List.{◌++◌}
use Rattle.compose.proofs.Values.{Sweeping}
use Rattle.compose.proofs.sweep.Given as goal

abbrev pub invariant-loop-i : goal.invariant-loop-i
invariant-loop-i l = Sweeping l.base.names.now (l.base.words.now ++ l.initial.work) l.initial.room.top l.initial.room.left l.fn.sides.lo l.fn.sides.k2 l.fn.sides.k1 (l.base.words.now ++ l.work) l.room.top l.room.left l.i
