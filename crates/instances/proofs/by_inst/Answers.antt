-- The loop's invariant: the instances that are left give what all of them give.
use mathlib.Core.Path.{◌∙◌}
use native.Mathlib.Omega.{arith}
use Rattle.errors.proofs.Thrown.{thrown}
use Rattle.pairs.proofs.Frames.{long}
use Rattle.instances.proofs.Seen.{ok_as, got_is, failed_is, limit_is}
use Rattle.instances.proofs.Loops.{going, going_ready, pick_at, pick_refused, pick_on, pick_none}
use Rattle.instances.proofs.by_inst.Goals as goal

pub loop-i-init : goal.loop-i-init
loop-i-init c = (omega arith, going _ _ _ _ _ _ _)

pub try_instance-requires : goal.try_instance-requires
try_instance-requires c = rw c.loop-i.invariant.0 (record { base_len_bound = c.requires.base_len_bound; ready_pick = going_ready c.requires.ready_pick c.loop-i.invariant.1; i_in_bounds = (let h = c.loop-i-test.true in omega arith) })

pub returns-in_err-r-clause-gives : goal.returns-in_err-r-clause-gives
returns-in_err-r-clause-gives c = let T = rw c.loop-i.invariant.0 at c.try_instance.ensures.gives in rw (thrown _ c.from_residual.ensures.1) (pick_refused c.requires.ready_pick c.args.c c.loop-i.invariant.1 c.loop-i-test.true T (limit_is c.in_err-r.was))

pub returns-in-Some-clause-gives : goal.returns-in-Some-clause-gives
returns-in-Some-clause-gives c = let T = rw c.loop-i.invariant.0 at c.try_instance.ensures.gives in pick_at c.requires.ready_pick c.args.c c.loop-i.invariant.1 c.loop-i-test.true T (got_is c.in_ok-r.was c.in-Some.is)

pub loop-i-preserved : goal.loop-i-preserved
loop-i-preserved c = let T = rw c.loop-i.invariant.0 at c.try_instance.ensures.gives in (c.try_instance.ensures.stays (ok_as c.in_ok-r.was c.in_default.is) ∙ c.loop-i.invariant.0, pick_on c.requires.ready_pick c.args.c c.loop-i.invariant.1 c.loop-i-test.true T (failed_is _ c.in_ok-r.was c.in_default.is) (long c.args.base.now.words.now c.try_instance.new.work c.loop-i.work c.try_instance.auto.work))

pub returns-clause-gives : goal.returns-clause-gives
returns-clause-gives c = pick_none c.requires.ready_pick c.args.c c.loop-i.invariant.1 c.loop-i-test.false
