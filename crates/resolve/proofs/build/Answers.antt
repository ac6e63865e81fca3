-- The head is filled, then the record and its application are made.
use native.Mathlib.Omega.{arith}
use Rattle.ast.proofs.Join.{both_fit}
use Rattle.errors.proofs.Thrown.{thrown}
use Rattle.pairs.proofs.Frames.{long}
use Rattle.apply.proofs.Seen.{ok_is, err_is}
use Rattle.resolve.proofs.Dictionaries.{build_ready, build_refused, build_room, build_record, build_args, build_done}
use Rattle.resolve.proofs.build.Goals as goal

pub apply-requires : goal.apply-requires
apply-requires c = record { base_len_bound = c.requires.base_len_bound; ready = build_ready c.requires.ready_build c.instance_at-x.ensures }

pub returns-in_err-u : goal.returns-in_err-u
returns-in_err-u c = rw (thrown _ c.from_residual.ensures.1) (build_refused c.requires.ready_build c.instance_at-x.ensures c.apply.ensures (err_is c.in_err-u.was))

pub with_args-requires : goal.with_args-requires
with_args-requires c = let b = c.requires.base_len_bound in let q = build_room c.requires.ready_build c.instance_at-x.ensures c.apply.ensures (ok_is c.in_ok-u.was) (long c.args.base.now.words.now c.apply.new.work c.args.work.now c.apply.auto.work) (both_fit c.args.base.now.words.now c.args.work.now (omega arith) c.well_formed.1.0.0) in let m = q.0.more in let n = q.1 in let P = build_record c.requires.ready_build c.instance_at-x.ensures c.apply.ensures (ok_is c.in_ok-u.was) (long c.args.base.now.words.now c.apply.new.work c.args.work.now c.apply.auto.work) (both_fit c.args.base.now.words.now c.args.work.now (omega arith) c.well_formed.1.0.0) c.push_rec-d.ensures.is in let y = P.long in rw (c.push_rec-d.ensures.word, c.push_rec-d.ensures.top) (record { base_len_bound = omega arith; top_in_bounds = omega arith; node = P.node; node_2 = build_args c.requires.ready_build c.instance_at-x.ensures c.apply.ensures (ok_is c.in_ok-u.was) (long c.args.base.now.words.now c.apply.new.work c.args.work.now c.apply.auto.work) (both_fit c.args.base.now.words.now c.args.work.now (omega arith) c.well_formed.1.0.0) c.push_rec-d.ensures.is })

pub returns : goal.returns
returns c = let w = rw (c.push_rec-d.ensures.word, c.push_rec-d.ensures.top) at c.with_args.ensures.wraps in rw (c.with_args.ensures.left, c.push_rec-d.ensures.left) (build_done c.requires.ready_build c.instance_at-x.ensures c.apply.ensures (ok_is c.in_ok-u.was) (long c.args.base.now.words.now c.apply.new.work c.args.work.now c.apply.auto.work) (both_fit c.args.base.now.words.now c.args.work.now (omega arith) c.well_formed.1.0.0) c.push_rec-d.ensures.is w)
