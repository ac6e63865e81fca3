-- The loop's invariant: row i has come down to number k.
use Rattle.pending.proofs.Puts.{Rotating}
use Rattle.pending.proofs.order.rotate.Given as goal

abbrev pub invariant-loop-k : goal.invariant-loop-k
invariant-loop-k l = Rotating l.initial.binders l.binders l.a l.i l.k
