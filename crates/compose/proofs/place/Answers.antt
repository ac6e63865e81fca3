-- `compose::place` meets its contract. The loop's invariant: the pair goes somewhere after the first j pairs.
use mathlib.Core.Path.{◌≡◌}
use native.Mathlib.Omega.{arith}
use Rattle.compose.proofs.Placed.{placing, placing_on, placed_here, placed_last}
use Rattle.compose.proofs.place.Goals as goal

pub loop-j-init : goal.loop-j-init
loop-j-init c = placing _ _ _ _ _

pub returns-then-before : goal.returns-then-before
returns-then-before c = placed_here c.loop-j.invariant c.loop-j-test.true c.index-y.ensures c.before-in-loop-j.ensures c.if-before.true

pub loop-j-preserved : goal.loop-j-preserved
loop-j-preserved c = placing_on c.loop-j.invariant c.loop-j-test.true c.index-y.ensures c.before-in-loop-j.ensures c.if-before.false

pub returns : goal.returns
returns c = let e : c.loop-j.j ≡ c.args.sub.k = omega arith in rw e at (placed_last c.loop-j.invariant c.loop-j-test.false)
