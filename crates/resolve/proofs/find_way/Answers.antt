-- Givens first, then the instances.
use Rattle.errors.proofs.Thrown.{thrown}
use Rattle.pairs.proofs.Frames.{long}
use Rattle.instances.proofs.Seen.{ok_as}
use Rattle.supers.proofs.Seen.{found_is, none_is, err_is}
use Rattle.resolve.proofs.Choices.{way_found, way_refused, way_ready, way_goes}
use Rattle.resolve.proofs.find_way.Goals as goal

pub returns-in_err-f : goal.returns-in_err-f
returns-in_err-f c = rw (thrown _ c.from_residual.ensures.1) (way_refused c.requires.ready_resolve c.args.rules.classes.now c.args.c c.resolve_from_givens.ensures.gives (err_is c.in_err-f.was))

pub choose-requires : goal.choose-requires
choose-requires c = rw (c.resolve_from_givens.ensures.stays (ok_as c.in_ok-f.was c.in-None.is)) (record { base_len_bound = c.requires.base_len_bound; ready_pick = way_ready c.requires.ready_resolve c.args.rules.classes.now c.args.c c.resolve_from_givens.ensures.gives (none_is _ (ok_as c.in_ok-f.was c.in-None.is)) (long c.args.base.now.words.now c.resolve_from_givens.new.work c.args.work.now c.resolve_from_givens.auto.work) })

pub returns-in-Some : goal.returns-in-Some
returns-in-Some c = way_found c.requires.ready_resolve c.args.rules.classes.now c.args.c c.resolve_from_givens.ensures.gives (found_is (ok_as c.in_ok-f.was c.in-Some.is))

pub returns-in-None : goal.returns-in-None
returns-in-None c = let G = rw (c.resolve_from_givens.ensures.stays (ok_as c.in_ok-f.was c.in-None.is)) at c.choose.ensures in way_goes c.requires.ready_resolve c.args.rules.classes.now c.args.c c.resolve_from_givens.ensures.gives (none_is _ (ok_as c.in_ok-f.was c.in-None.is)) (long c.args.base.now.words.now c.resolve_from_givens.new.work c.args.work.now c.resolve_from_givens.auto.work) G
