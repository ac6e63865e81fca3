-- The names that are left have the variable just where all have.
use native.Mathlib.Omega.{arith}
use Rattle.scope.proofs.FreeLaws.{asked_all, asked_hit, asked_on}
use Rattle.scope.proofs.is_free.Goals as goal

pub returns-then-in_row : goal.returns-then-in_row
returns-then-in_row c = asked_hit c.loop-r.invariant c.loop-r-test.true c.in_row.ensures c.if-in_row.true

pub loop-r-preserved : goal.loop-r-preserved
loop-r-preserved c = asked_on c.loop-r.invariant c.loop-r-test.true c.in_row.ensures c.if-in_row.false

pub returns : goal.returns
returns c = asked_all c.loop-r.invariant (let l = c.loop-r-test.false in omega arith)
