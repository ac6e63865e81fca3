-- The two upper regions become one, the lowest one is raised, and both become one.
use Rattle.errors.proofs.Thrown.{thrown}
use Rattle.apply.proofs.Seen.{ok_is, err_is}
use Rattle.pairs.proofs.Frames.{long}
use Rattle.unify.proofs.Single.{join_both}
use Rattle.ends.proofs.Gathering.{gather_refused, gather_join, gather_done}
use Rattle.ends.proofs.gather.Goals as goal

pub compose_in-requires-2-clause-both : goal.compose_in-requires-2-clause-both
compose_in-requires-2-clause-both c = join_both (gather_join c.requires.ready_gather c.compose_in.ensures (ok_is c.in_ok-c.was) (long c.args.base.now.words.now c.compose_in.new.work c.args.work.now c.compose_in.auto.work) c.raise.ensures (long c.args.base.now.words.now c.raise.new.work c.compose_in.new.work c.raise.auto.work))

pub returns : goal.returns
returns c = gather_done c.requires.ready_gather c.compose_in.ensures (ok_is c.in_ok-c.was) (long c.args.base.now.words.now c.compose_in.new.work c.args.work.now c.compose_in.auto.work) c.raise.ensures (long c.args.base.now.words.now c.raise.new.work c.compose_in.new.work c.raise.auto.work) c.compose_in-2.ensures

pub returns-in_err-c : goal.returns-in_err-c
returns-in_err-c c = rw (thrown _ c.from_residual.ensures.1) (gather_refused c.requires.ready_gather c.compose_in.ensures (err_is c.in_err-c.was))
