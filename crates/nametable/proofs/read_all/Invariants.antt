-- `nametable::read_all` meets its contract. The loop's invariant: the first i names stand in their rows. Assumes nothing.
use Rattle.nametable.proofs.Going.{Going}
use Rattle.nametable.proofs.read_all.Given as goal

abbrev pub invariant-loop-i : goal.invariant-loop-i
invariant-loop-i l = Going l.src l.initial.names l.initial.index l.names l.index l.at l.n l.i l.p
