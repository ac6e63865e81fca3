-- The loop's invariant: the numbers from i on moved up by one.
use Rattle.order.proofs.Moves.{Moving}
use Rattle.order.proofs.make_room.Given as goal

abbrev pub invariant-loop-i : goal.invariant-loop-i
invariant-loop-i l = Moving l.names l.initial.order l.order l.k l.r l.i
