-- The match of a with b decides, and where there is none the other way.
use Rattle.errors.proofs.Thrown.{thrown}
use Rattle.pairs.proofs.Frames.{long}
use Rattle.instances.proofs.Seen.{ok_as, got_is, failed_is, limit_is}
use Rattle.instances.proofs.Attempts.{overlaps_yes, overlaps_refused, back_ready, overlaps_back}
use Rattle.instances.proofs.overlaps.Goals as goal

pub overlaps_back-requires : goal.overlaps_back-requires
overlaps_back-requires c = rw (c.try_match.ensures.stays (ok_as c.in_ok-r.was c.in-None.is)) (record { base_len_bound = c.requires.base_len_bound; ready_u = back_ready c.requires.ready_u c.try_match.ensures.gives (failed_is _ c.in_ok-r.was c.in-None.is) (long c.args.base.now.words.now c.try_match.new.work c.args.work.now c.try_match.auto.work) })

pub returns-in_err-r-clause-gives : goal.returns-in_err-r-clause-gives
returns-in_err-r-clause-gives c = rw (thrown _ c.from_residual.ensures.1) (overlaps_refused c.requires.ready_u c.try_match.ensures.gives (limit_is c.in_err-r.was))

pub returns-in-Some-clause-gives : goal.returns-in-Some-clause-gives
returns-in-Some-clause-gives c = overlaps_yes c.requires.ready_u c.try_match.ensures.gives (got_is c.in_ok-r.was c.in-Some.is)

pub returns-in-None-clause-gives : goal.returns-in-None-clause-gives
returns-in-None-clause-gives c = let T = rw (c.try_match.ensures.stays (ok_as c.in_ok-r.was c.in-None.is)) at c.overlaps_back.ensures.gives in overlaps_back c.requires.ready_u c.try_match.ensures.gives (failed_is _ c.in_ok-r.was c.in-None.is) T
