-- The types, then the rows.
use native.Mathlib.Omega.{arith}
use Rattle.errors.proofs.Thrown.{thrown}
use Rattle.ends.proofs.Returned.{join_is, join_refused}
use Rattle.pairs.proofs.Frames.{long}
use Rattle.inferred.proofs.Joins.{app_asks, app_lost, app_more, app_ready, app_closed}
use Rattle.inferred.proofs.app_close.Goals as goal

pub app_end-requires : goal.app_end-requires
app_end-requires c = record { base_len_bound = c.requires.base_len_bound; ready_app = app_asks c.requires.ready_app }

pub app_last-requires : goal.app_last-requires
app_last-requires c = let b = c.requires.base_len_bound in let m = app_more c.requires.ready_app c.app_end.ensures (join_is c.in_ok-join.was) in record { base_len_bound = omega arith; ready_last = app_ready c.requires.ready_app c.app_end.ensures (join_is c.in_ok-join.was) (long c.args.base.now.words.now c.app_end.new.work c.args.work.now c.app_end.auto.work) }

pub returns : goal.returns
returns c = app_closed c.requires.ready_app c.app_end.ensures (join_is c.in_ok-join.was) c.app_last.ensures

pub returns-in_err-join : goal.returns-in_err-join
returns-in_err-join c = rw (thrown _ c.from_residual.ensures.1) (app_lost c.requires.ready_app c.app_end.ensures (join_refused c.in_err-join.was))
