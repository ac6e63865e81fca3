-- Each way out by its law of `Marks`.
use Rattle.pairs.proofs.Frames.{long}
use Rattle.instances.proofs.Seen.{ok_as}
use Rattle.supers.proofs.Seen.{found_is, none_is}
use Rattle.reduce.proofs.Marks.{row_found, row_stays}
use Rattle.reduce.proofs.reduce_row.Goals as goal

pub returns-in-Some : goal.returns-in-Some
returns-in-Some c = row_found c.requires.ready_reduce c.args.rules.classes.now c.row_at-q.ensures c.in-Pending.is c.reduce_one.ensures.gives (found_is (ok_as c.in_ok-r.was c.in-Some.is)) c.mark_row.ensures

pub returns-in_default-r : goal.returns-in_default-r
returns-in_default-r c = rw (c.reduce_one.ensures.stays (ok_as c.in_ok-r.was c.in_default-r.is)) (row_stays c.requires.ready_reduce c.args.rules.classes.now c.row_at-q.ensures c.in-Pending.is c.reduce_one.ensures.gives (none_is _ (ok_as c.in_ok-r.was c.in_default-r.is)) (long c.args.base.now.words.now c.reduce_one.new.work c.args.work.now c.reduce_one.auto.work))
