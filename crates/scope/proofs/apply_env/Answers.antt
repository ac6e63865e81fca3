-- The rows of the names that are left, after those before them, give what all of them give.
use native.Mathlib.Omega.{arith}
use Rattle.errors.proofs.Thrown.{thrown}
use Rattle.pairs.proofs.Frames.{long}
use Rattle.scope.proofs.Seen.{ok_is, err_is}
use Rattle.scope.proofs.Sweeping.{sweeping, swept_all, swept_refused, swept_on}
use Rattle.scope.proofs.apply_env.Goals as goal

pub loop-r-init : goal.loop-r-init
loop-r-init c = sweeping c.requires.ready_env

pub returns-in_err-apply_row : goal.returns-in_err-apply_row
returns-in_err-apply_row c = rw (thrown _ c.from_residual.ensures.1) (swept_refused c.requires.ready_env c.loop-r.invariant c.loop-r-test.true c.apply_row.ensures (err_is c.in_err-apply_row.was))

pub loop-r-preserved : goal.loop-r-preserved
loop-r-preserved c = swept_on c.requires.ready_env c.loop-r.invariant c.loop-r-test.true c.apply_row.ensures (ok_is c.in_ok-apply_row.was) (long c.args.base.now.words.now c.apply_row.new.work c.loop-r.work c.apply_row.auto.work)

pub returns : goal.returns
returns c = swept_all c.requires.ready_env c.loop-r.invariant (let l = c.loop-r-test.false in omega arith)
