-- The loop's invariant: the signatures that are left give what all of them give.
use Rattle.classes.proofs.Recording.{going_on}
use Rattle.classes.proofs.Recorded.{adds_methods}
use Rattle.classes.proofs.add_methods.Goals as goal

pub loop-j-preserved : goal.loop-j-preserved
loop-j-preserved c = going_on c.loop-j.invariant c.loop-j-test.true c.add_method.ensures

pub returns : goal.returns
returns c = adds_methods c.requires c.loop-j.invariant c.loop-j-test.false
