-- `compose::sweep` meets its contract. The loop's invariant: the first i types have been replaced.
use Rattle.errors.proofs.Thrown.{thrown}
use Rattle.pairs.proofs.Frames.{long}
use Rattle.apply.proofs.Seen.{ok_is, err_is}
use Rattle.compose.proofs.Values.{sweeping, sweeping_fails, sweeping_on, swept}
use Rattle.compose.proofs.sweep.Goals as goal

pub loop-i-init : goal.loop-i-init
loop-i-init c = sweeping c.requires.both

pub returns-in_err-m : goal.returns-in_err-m
returns-in_err-m c = rw (thrown _ c.from_residual.ensures.1) (sweeping_fails c.loop-i.invariant c.loop-i-test.true c.index-n.ensures c.apply.ensures (err_is c.in_err-m.was))

pub loop-i-preserved : goal.loop-i-preserved
loop-i-preserved c = sweeping_on c.loop-i.invariant c.loop-i-test.true c.index-n.ensures c.apply.ensures (ok_is c.in_ok-m.was) (long c.args.base.now.words.now c.apply.new.work c.loop-i.work c.apply.auto.work) c.put.ensures

pub returns : goal.returns
returns c = swept c.loop-i.invariant c.loop-i-test.false
