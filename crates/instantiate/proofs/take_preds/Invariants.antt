-- The loop's invariant: so many rows were written, and what is left of the list gives what all of it gives. The measure is the list's word.
use mathlib.Core.List.{◌++◌}
use Rattle.instantiate.proofs.Taking.{Taking}
use Rattle.instantiate.proofs.take_preds.Given as goal

abbrev pub invariant-loop-a : goal.invariant-loop-a
invariant-loop-a l = Taking l.base.names.now (l.base.words.now ++ l.initial.work) (l.base.words.now ++ l.work) l.initial.binders l.binders l.initial.room.top l.initial.room.left l.fresh.tv l.fresh.dv l.vs l.ps l.l l.m l.room.top l.room.left

abbrev pub decreases-loop-a : goal.decreases-loop-a
decreases-loop-a l = l.l
