-- The loop's invariant: none of the words so far is the one.
use Rattle.rename.proofs.Places.{Without}
use Rattle.rename.proofs.letter_of.Given as goal

abbrev pub invariant-loop-k : goal.invariant-loop-k
invariant-loop-k l = Without l.letters l.x l.k
