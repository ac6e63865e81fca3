-- The function's type, then the arrow, then the unification.
use native.Mathlib.Omega.{arith}
use Rattle.ast.proofs.Join.{both_fit}
use Rattle.errors.proofs.Thrown.{thrown}
use Rattle.pairs.proofs.Frames.{long}
use Rattle.apply.proofs.Seen.{ok_is, err_is}
use Rattle.ends.proofs.Meeting.{meet_refused, meet_room, meet_unify, meet_done}
use Rattle.ends.proofs.meet.Goals as goal

pub returns-in_err-u : goal.returns-in_err-u
returns-in_err-u c = rw (thrown _ c.from_residual.ensures.1) (meet_refused c.requires.ready_meet c.apply.ensures (err_is c.in_err-u.was))

pub add-arrow-requires-clause-top_in_bounds : goal.add-arrow-requires-clause-top_in_bounds
add-arrow-requires-clause-top_in_bounds c = let q = meet_room c.requires.ready_meet c.apply.ensures (ok_is c.in_ok-u.was) (long c.args.base.now.words.now c.apply.new.work c.args.work.now c.apply.auto.work) (both_fit c.args.base.now.words.now c.args.work.now (omega arith) c.well_formed.1.0.0) in q.room

pub unify-requires-clause-ready_u : goal.unify-requires-clause-ready_u
unify-requires-clause-ready_u c = rw (c.add-arrow.ensures.word, c.add-arrow.ensures.top, c.add-arrow.ensures.left) (meet_unify c.requires.ready_meet c.apply.ensures (ok_is c.in_ok-u.was) (long c.args.base.now.words.now c.apply.new.work c.args.work.now c.apply.auto.work) (both_fit c.args.base.now.words.now c.args.work.now (omega arith) c.well_formed.1.0.0) c.add-arrow.ensures.is)

pub returns : goal.returns
returns c = meet_done c.requires.ready_meet c.apply.ensures (ok_is c.in_ok-u.was) (long c.args.base.now.words.now c.apply.new.work c.args.work.now c.apply.auto.work) (both_fit c.args.base.now.words.now c.args.work.now (omega arith) c.well_formed.1.0.0) c.add-arrow.ensures.is (rw (c.add-arrow.ensures.word, c.add-arrow.ensures.top, c.add-arrow.ensures.left) at c.unify.ensures)
