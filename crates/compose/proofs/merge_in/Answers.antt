-- `compose::merge_in` meets its contract. The loop's invariant: the first j pairs are left to be added.
use Rattle.pairs.proofs.Frames.{long}
use Rattle.compose.proofs.Joined.{merging, merging_on, merged}
use Rattle.compose.proofs.merge_in.Goals as goal

pub loop-j-init : goal.loop-j-init
loop-j-init c = merging _ _ _ _ _

pub loop-j-preserved : goal.loop-j-preserved
loop-j-preserved c = merging_on c.loop-j.invariant c.loop-j-test.true c.index-x.ensures c.index-t.ensures c.add-c.ensures (long c.args.base.now.words.now c.add-c.new.work c.loop-j.work c.add-c.auto.work)

pub returns : goal.returns
returns c = merged c.loop-j.invariant c.loop-j-test.false
