-- The unification, then the three regions.
use Rattle.errors.proofs.Thrown.{thrown}
use Rattle.pairs.proofs.Frames.{long}
use Rattle.apply.proofs.Seen.{ok_is, err_is}
use Rattle.ends.proofs.Closing.{app_refused, app_close, app_done}
use Rattle.ends.proofs.app_end.Goals as goal

pub returns-in_err-k3 : goal.returns-in_err-k3
returns-in_err-k3 c = rw (thrown _ c.from_residual.ensures.1) (app_refused c.requires.ready_app c.meet.ensures (err_is c.in_err-k3.was))

pub close-requires-clause-ready_gather : goal.close-requires-clause-ready_gather
close-requires-clause-ready_gather c = app_close c.requires.ready_app c.meet.ensures (ok_is c.in_ok-k3.was) (long c.args.base.now.words.now c.meet.new.work c.args.work.now c.meet.auto.work)

pub returns : goal.returns
returns c = app_done c.requires.ready_app c.meet.ensures (ok_is c.in_ok-k3.was) c.close.ensures
