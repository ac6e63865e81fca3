-- The loop's invariant: none of the rows so far is of the class.
use Rattle.instantiate.specs.Looks.{NoneOf}
use Rattle.instantiate.proofs.term.first_of.Given as goal

abbrev pub invariant-loop-j : goal.invariant-loop-j
invariant-loop-j l = NoneOf l.binders l.c l.j
