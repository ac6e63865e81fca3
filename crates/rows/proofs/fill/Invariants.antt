-- `rows::fill` meets its contract. The loop's invariant: the rows before r are written. Assumes nothing.
use Rattle.rows.proofs.Start.{Filling}
use Rattle.rows.proofs.fill.Given as goal

abbrev pub invariant-loop-r : goal.invariant-loop-r
invariant-loop-r l = Filling l.names l.r
