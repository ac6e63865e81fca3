-- `compose::insert` meets its contract: the pairs before the place move down, and the pair is written there. Assumes nothing.
use Rattle.pairs.proofs.Frames.{long}
use Rattle.compose.proofs.Moved.{opened}
use Rattle.compose.proofs.insert.Goals as goal

pub returns : goal.returns
returns c = opened _ c.place-j.ensures c.shift.ensures (long c.args.base.now.words.now c.shift.new.work c.args.work.now c.shift.auto.work) c.requires.k_in_bounds c.put.ensures c.put-2.ensures
