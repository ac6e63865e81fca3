-- The loop's invariant: what all rows give is what the rows before row i have become, and then what the others give.
use mathlib.Core.List.{◌++◌}
use Rattle.pending.proofs.Loops.{Sweeping}
use Rattle.pending.proofs.apply_rows.Given as goal

abbrev pub invariant-loop-i : goal.invariant-loop-i
invariant-loop-i l = Sweeping l.base.names.now (l.base.words.now ++ l.initial.work) l.initial.binders l.initial.room.top l.initial.room.left l.sub.at l.sub.k l.n (l.base.words.now ++ l.work) l.binders l.room.top l.room.left l.i
