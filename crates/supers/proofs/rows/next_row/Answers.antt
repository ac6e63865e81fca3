-- The loop's invariant: the rows from j up to k were replaced. The measure is how many are left.
use native.Mathlib.Omega.{arith}
use Rattle.supers.proofs.RowLaws.{passed_all, passed_on}
use Rattle.supers.proofs.rows.next_row.Goals as goal

pub loop-k-preserved : goal.loop-k-preserved
loop-k-preserved c = passed_on c.loop-k.invariant c.loop-k-test.true c.row_at-q.ensures c.in_default.is

pub returns : goal.returns
returns c = passed_all c.loop-k.invariant (let l = c.loop-k-test.false in omega arith)
