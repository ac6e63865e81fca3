-- The loop's invariant: row i has come down to number k.
use native.Mathlib.Omega.{arith}
use Rattle.pending.proofs.Puts.{rotating, rotated, rotate_on}
use Rattle.pending.proofs.order.rotate.Goals as goal

pub loop-k-init : goal.loop-k-init
loop-k-init c = rotating _ _ _ c.requires.a_le_i

pub swap_rows-requires : goal.swap_rows-requires
swap_rows-requires c = let x = c.requires.i_in_bounds in let y = c.loop-k.invariant.under in let z = c.loop-k.invariant.wide in let v = c.loop-k-test.true in omega arith

pub loop-k-preserved : goal.loop-k-preserved
loop-k-preserved c = rotate_on c.loop-k.invariant c.loop-k-test.true c.swap_rows.ensures c.swap_rows.auto.binders

pub shape_of-binders : goal.shape_of-binders
shape_of-binders c = c.loop-k.invariant.wide

pub returns : goal.returns
returns c = rotated c.loop-k.invariant (let l = c.loop-k-test.false in omega arith)
