-- The loop's invariant: no row before j is for the number d.
use Rattle.terms.proofs.RowLaws.{Looking}
use Rattle.terms.proofs.rows.replacement.Given as goal

abbrev pub invariant-loop-j : goal.invariant-loop-j
invariant-loop-j l = Looking l.binders l.n l.d l.e l.j
