-- `spelling::key_of` meets its contract. The loop's invariant: the bytes after those left are packed. Assumes nothing.
use Rattle.spelling.proofs.Loops.{Packing}
use Rattle.spelling.proofs.key_of.Given as goal

abbrev pub invariant-loop-b : goal.invariant-loop-b
invariant-loop-b l = Packing l.text l.b-iterator.iter.rest.now l.k
