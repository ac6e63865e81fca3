-- The loop's invariant: the superclasses passed so far are declared.
use Rattle.classes.proofs.Knowing.{Sure}
use Rattle.classes.proofs.supers_known.Given as goal

abbrev pub invariant-loop-i : goal.invariant-loop-i
invariant-loop-i l = Sure l.classes l.supers l.i
