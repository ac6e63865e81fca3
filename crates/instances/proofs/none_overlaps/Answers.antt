-- The loop's invariant: the instances that are left give what all of them give.
use mathlib.Core.Path.{◌∙◌}
use native.Mathlib.Omega.{arith}
use Rattle.errors.proofs.Thrown.{thrown}
use Rattle.pairs.proofs.Frames.{long}
use Rattle.instances.proofs.Seen.{yes_is, no_is, untold_is}
use Rattle.instances.proofs.Loops.{going, going_ready, apart_not, apart_refused, apart_on, apart_all}
use Rattle.instances.proofs.none_overlaps.Goals as goal

pub loop-j-init : goal.loop-j-init
loop-j-init c = (omega arith, going _ _ _ _ _ _ _)

pub overlaps_instance-requires : goal.overlaps_instance-requires
overlaps_instance-requires c = rw c.loop-j.invariant.0 (record { base_len_bound = c.requires.base_len_bound; ready_pick = going_ready c.requires.ready_pick c.loop-j.invariant.1; i_in_bounds = c.loop-j-test.true })

pub returns-in_err-r-clause-gives : goal.returns-in_err-r-clause-gives
returns-in_err-r-clause-gives c = let T = rw c.loop-j.invariant.0 at c.overlaps_instance.ensures.gives in rw (thrown _ c.from_residual.ensures.1) (apart_refused c.requires.ready_pick c.args.c c.loop-j.invariant.1 c.loop-j-test.true T (untold_is c.in_err-r.was))

pub returns-then-r-clause-gives : goal.returns-then-r-clause-gives
returns-then-r-clause-gives c = let T = rw c.loop-j.invariant.0 at c.overlaps_instance.ensures.gives in let S = rw c.in_ok-r.was at c.overlaps_instance.ensures.stays in rw (S, c.loop-j.invariant.0) (apart_not c.requires.ready_pick c.args.c c.loop-j.invariant.1 c.loop-j-test.true T (yes_is _ c.in_ok-r.was c.if-r.true) (long c.args.base.now.words.now c.overlaps_instance.new.work c.loop-j.work c.overlaps_instance.auto.work))

pub loop-j-preserved : goal.loop-j-preserved
loop-j-preserved c = let T = rw c.loop-j.invariant.0 at c.overlaps_instance.ensures.gives in let S = rw c.in_ok-r.was at c.overlaps_instance.ensures.stays in (S ∙ c.loop-j.invariant.0, apart_on c.requires.ready_pick c.args.c c.loop-j.invariant.1 c.loop-j-test.true T (no_is _ c.in_ok-r.was c.if-r.false) (long c.args.base.now.words.now c.overlaps_instance.new.work c.loop-j.work c.overlaps_instance.auto.work))

pub returns-clause-gives : goal.returns-clause-gives
returns-clause-gives c = apart_all c.requires.ready_pick c.args.c c.loop-j.invariant.1 c.loop-j-test.false
