-- The mark decides.
use mathlib.Core.Path.{sym}
use Rattle.supers.specs.Rows.{row_at}
use Rattle.supers.proofs.RowLaws.{row_replaced, row_open}
use Rattle.supers.proofs.rows.row_at.Goals as goal

pub returns-then-c : goal.returns-then-c
unfolding row_at
returns-then-c c = sym (row_replaced _ _ _ c.if-c.true)

pub returns : goal.returns
unfolding row_at
returns c = sym (row_open _ _ _ c.if-c.false)
