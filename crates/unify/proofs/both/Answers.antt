-- The second type is applied over the table that the first one left.
use Rattle.errors.proofs.Thrown.{thrown}
use Rattle.apply.proofs.Seen.{ok_is, err_is}
use Rattle.unify.proofs.Twice.{two_fails, two_fails_2, two_done}
use Rattle.unify.proofs.both.Goals as goal

pub returns : goal.returns
returns c = two_done c.requires.ready_one c.apply.ensures (ok_is c.in_ok-left.was) c.apply-2.ensures (ok_is c.in_ok-right.was)

pub returns-in_err-right : goal.returns-in_err-right
returns-in_err-right c = rw (thrown _ c.from_residual-in_err-right.ensures.1) (two_fails_2 c.requires.ready_one c.apply.ensures (ok_is c.in_ok-left.was) c.apply-2.ensures (err_is c.in_err-right.was))

pub returns-in_err-left : goal.returns-in_err-left
returns-in_err-left c = rw (thrown _ c.from_residual.ensures.1) (two_fails c.requires.ready_one c.apply.ensures (err_is c.in_err-left.was))
