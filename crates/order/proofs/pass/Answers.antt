-- The loop's invariant: the pass has come to row r.
use native.Mathlib.Omega.{arith}
use Rattle.order.proofs.Gathering.{one_passed, all_passed}
use Rattle.order.proofs.pass.Goals as goal

pub loop-r-preserved : goal.loop-r-preserved
loop-r-preserved c = one_passed c.loop-r.invariant c.loop-r-test.true c.step-m.ensures

pub returns : goal.returns
returns c = all_passed c.loop-r.invariant (let l = c.loop-r-test.false in omega arith)
