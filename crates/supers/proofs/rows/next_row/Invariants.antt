-- The loop's invariant: the rows from j up to k were replaced.
use Rattle.supers.proofs.RowLaws.{Passing}
use Rattle.supers.proofs.rows.next_row.Given as goal

abbrev pub invariant-loop-k : goal.invariant-loop-k
invariant-loop-k l = Passing l.binders l.j l.n l.k
