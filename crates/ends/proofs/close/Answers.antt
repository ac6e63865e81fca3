-- The three regions made one, then a step for the variable.
use Rattle.errors.proofs.Thrown.{thrown}
use Rattle.apply.proofs.Seen.{ok_is, err_is}
use Rattle.ends.proofs.Closing.{close_refused, close_spent, close_done}
use Rattle.ends.proofs.close.Goals as goal

pub returns-then-room-eq0 : goal.returns-then-room-eq0
returns-then-room-eq0 c = rw c.if-room-eq0.true (close_spent c.requires.ready_gather c.seen-ty.ensures c.gather.ensures (ok_is c.in_ok-pairs.was) c.if-room-eq0.true)

pub returns : goal.returns
returns c = close_done c.requires.ready_gather c.seen-ty.ensures c.gather.ensures (ok_is c.in_ok-pairs.was) c.if-room-eq0.false

pub returns-in_err-pairs : goal.returns-in_err-pairs
returns-in_err-pairs c = rw (thrown _ c.from_residual.ensures.1) (close_refused c.requires.ready_gather c.seen-ty.ensures c.gather.ensures (err_is c.in_err-pairs.was))
