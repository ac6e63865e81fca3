-- The loop's invariant: the numbers from i on moved up by one.
use mathlib.Core.Path.{◌≡◌}
use Prim.Native.Nat.{◌+◌, ◌-◌}
use native.Mathlib.Omega.{arith}
use Rattle.order.proofs.Moves.{all_moved, moved_stops, moved_on}
use Rattle.order.proofs.make_room.Goals as goal

pub returns-then-name_less : goal.returns-then-name_less
returns-then-name_less c = let h = c.loop-i-test.true in let z : c.loop-i.i - 1 + 1 ≡ c.loop-i.i = omega arith in rw z (moved_stops c.loop-i.invariant c.loop-i-test.true _ c.name_less.ensures c.if-name_less.true)

pub loop-i-preserved : goal.loop-i-preserved
loop-i-preserved c = let h = c.loop-i-test.true in let z : c.loop-i.i - 1 + 1 ≡ c.loop-i.i = omega arith in rw z (moved_on c.loop-i.invariant c.loop-i-test.true _ c.requires.k_in_bounds c.name_less.ensures c.if-name_less.false)

pub returns : goal.returns
returns c = all_moved c.loop-i.invariant (let l = c.loop-i-test.false in omega arith)
