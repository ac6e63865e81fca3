-- What the row says.
use Rattle.generalize.proofs.TestWays.{row_first, row_none}
use Rattle.generalize.proofs.clear.refuse_row.Goals as goal

pub returns-in-Pending : goal.returns-in-Pending
returns-in-Pending c = row_first _ _ c.row_at-q.ensures c.in-Pending.is

pub returns-in-Replaced : goal.returns-in-Replaced
returns-in-Replaced c = row_none _ _ c.row_at-q.ensures c.in-Replaced.is
