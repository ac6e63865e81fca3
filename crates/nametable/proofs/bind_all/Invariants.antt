-- `nametable::bind_all` meets its contract. The loop's invariant: the first i names have their numbers. Assumes nothing.
use Rattle.nametable.proofs.Numbers.{Binding}
use Rattle.nametable.proofs.bind_all.Given as goal

abbrev pub invariant-loop-i : goal.invariant-loop-i
invariant-loop-i l = Binding l.initial.names l.initial.index l.names l.index l.n l.i
