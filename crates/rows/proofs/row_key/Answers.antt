-- `rows::row_key` meets its contract. Assumes nothing.
use Rattle.rows.proofs.Cells.{row_read}
use Rattle.rows.proofs.row_key.Goals as goal

pub returns : goal.returns
returns c = row_read _ _
