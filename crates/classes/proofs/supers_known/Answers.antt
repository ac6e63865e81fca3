-- The loop's invariant: the superclasses passed so far are declared.
use Rattle.classes.proofs.Knowing.{sure_next, knows_all, knows_missing}
use Rattle.classes.proofs.supers_known.Goals as goal

pub returns-then-not-known : goal.returns-then-not-known
returns-then-not-known c = knows_missing c.loop-i.invariant c.loop-i-test.true c.is_declared-known.ensures (mathlib.Core.Path.ap mathlib.Core.Bool.not c.if-not-known.true)

pub loop-i-preserved : goal.loop-i-preserved
loop-i-preserved c = sure_next c.loop-i.invariant c.is_declared-known.ensures (mathlib.Core.Path.ap mathlib.Core.Bool.not c.if-not-known.false)

pub returns : goal.returns
returns c = knows_all c.loop-i.invariant c.loop-i-test.false
