-- What all rows give is what those from row i on give now.
use native.Mathlib.Omega.{arith}
use Rattle.pairs.proofs.Frames.{long}
use Rattle.simplify.proofs.Loop.{going, all_done, turn_goes}
use Rattle.simplify.proofs.Seen.{ok_is}
use Rattle.simplify.proofs.simplify_context.Goals as goal

pub loop-i-init : goal.loop-i-init
loop-i-init c = going _ c.requires.ready_simplify

pub loop-i-preserved : goal.loop-i-preserved
loop-i-preserved c = turn_goes c.loop-i.invariant c.sift.ensures (ok_is c.in_ok-sift.was) c.loop-i-test.true (long c.args.base.now.words.now c.sift.new.work c.loop-i.work c.sift.auto.work) c.sift.auto.binders

pub returns : goal.returns
returns c = all_done c.loop-i.invariant (let l = c.loop-i-test.false in omega arith)
