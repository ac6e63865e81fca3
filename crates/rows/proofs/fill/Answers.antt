-- `rows::fill` meets its contract. The loop's invariant: the rows before r are written. Assumes nothing.
use native.Mathlib.Omega.{arith}
use Rattle.rows.proofs.Start.{none_filled, one_filled, all_filled}
use Rattle.rows.proofs.fill.Goals as goal

pub loop-r-init : goal.loop-r-init
loop-r-init c = none_filled _ (omega arith)

pub put_row-requires : goal.put_row-requires
put_row-requires c = omega (arith, c.loop-r.invariant.length)

pub loop-r-preserved : goal.loop-r-preserved
loop-r-preserved c = one_filled _ _ _ _ c.loop-r.invariant (omega arith) c.first_key.ensures c.put_row.ensures

pub returns : goal.returns
returns c = all_filled _ _ c.loop-r.invariant (omega arith)
