-- `rows::put_row` meets its contract. Assumes nothing.
use mathlib.Core.Path.{refl}
use native.Mathlib.Omega.{arith}
use lib.ListN.{length-set}
use Rattle.rows.specs.Rows.{row_set}
use Rattle.rows.proofs.put_row.Goals as goal

pub bounds-names-i-2 : goal.bounds-names-i-2
bounds-names-i-2 c = simp length-set (omega arith)

pub bounds-names-i-3 : goal.bounds-names-i-3
bounds-names-i-3 c = simp length-set (omega arith)

pub bounds-names-i-4 : goal.bounds-names-i-4
bounds-names-i-4 c = simp length-set (omega arith)

pub returns : goal.returns
unfolding row_set
returns c = refl
