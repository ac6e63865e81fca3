-- No row before j is for the number d.
use native.Mathlib.Omega.{arith}
use Rattle.terms.proofs.RowLaws.{looked_all, looked_at, looked_on}
use Rattle.terms.proofs.rows.replacement.Goals as goal

pub returns-in-Some : goal.returns-in-Some
returns-in-Some c = looked_at c.loop-j.invariant c.loop-j-test.true c.row_for.ensures c.in-Some.is

pub loop-j-preserved : goal.loop-j-preserved
loop-j-preserved c = looked_on c.loop-j.invariant c.loop-j-test.true c.row_for.ensures c.in_default.is

pub returns : goal.returns
returns c = looked_all c.loop-j.invariant (let l = c.loop-j-test.false in omega arith)
