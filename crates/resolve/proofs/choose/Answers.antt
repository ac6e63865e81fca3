-- Each way out by its law of `Choices`.
use native.Mathlib.Omega.{arith}
use Rattle.errors.proofs.Thrown.{thrown}
use Rattle.pairs.proofs.Frames.{long}
use Rattle.apply.proofs.Seen.{ok_is, err_is}
use Rattle.instances.proofs.Seen.{ok_as, at_is, nothing_is, unpicked_is}
use Rattle.resolve.proofs.Choices.{choose_none, choose_refused, pick_grown, pick_open, pick_under, pick_ready, choose_lost, choose_by}
use Rattle.resolve.proofs.choose.Goals as goal

pub returns-in_err-p : goal.returns-in_err-p
returns-in_err-p c = rw (thrown _ c.from_residual.ensures.1) (choose_refused c.requires.ready_pick c.args.c c.by_inst.ensures.gives (unpicked_is c.in_err-p.was))

pub returns-in_default : goal.returns-in_default
returns-in_default c = rw (c.by_inst.ensures.stays (ok_as c.in_ok-p.was c.in_default.is)) (choose_none c.requires.ready_pick c.args.c c.by_inst.ensures.gives (nothing_is _ c.in_ok-p.was c.in_default.is) (long c.args.base.now.words.now c.by_inst.new.work c.args.work.now c.by_inst.auto.work))

pub instance_at-x-requires : goal.instance_at-x-requires
instance_at-x-requires c = let z = pick_open c.requires.ready_pick c.args.c c.by_inst.ensures.gives (at_is c.in_ok-p.was c.in-Some.is) in record { i_in_bounds = z.0; openable = z.1 }

pub overflow_mul-sub : goal.overflow_mul-sub
overflow_mul-sub c = let u = (pick_under c.requires.ready_pick c.args.c c.by_inst.ensures.gives (at_is c.in_ok-p.was c.in-Some.is)).0 in omega arith

pub overflow_sub-sub : goal.overflow_sub-sub
overflow_sub-sub c = let u = (pick_under c.requires.ready_pick c.args.c c.by_inst.ensures.gives (at_is c.in_ok-p.was c.in-Some.is)).0 in omega arith

pub apply_preds-requires : goal.apply_preds-requires
apply_preds-requires c = let b = c.requires.base_len_bound in let m = (pick_grown c.requires.ready_pick c.args.c c.by_inst.ensures.gives (at_is c.in_ok-p.was c.in-Some.is)).more in record { base_len_bound = omega arith; ready = pick_ready c.requires.ready_pick c.args.c c.by_inst.ensures.gives (at_is c.in_ok-p.was c.in-Some.is) c.instance_at-x.ensures }

pub returns-in_err-g : goal.returns-in_err-g
returns-in_err-g c = rw (thrown _ c.from_residual-in_err-g.ensures.1) (choose_lost c.requires.ready_pick c.args.c c.by_inst.ensures.gives (at_is c.in_ok-p.was c.in-Some.is) c.instance_at-x.ensures c.apply_preds.ensures (err_is c.in_err-g.was))

pub returns : goal.returns
returns c = choose_by c.requires.ready_pick c.args.c c.by_inst.ensures.gives (at_is c.in_ok-p.was c.in-Some.is) c.instance_at-x.ensures c.apply_preds.ensures (ok_is c.in_ok-g.was) (long c.args.base.now.words.now c.apply_preds.new.work c.by_inst.new.work c.apply_preds.auto.work)
