-- One step, then the node.
use Rattle.canoncore.proofs.RowWays.{rows_spent, rows_stepped}
use Rattle.canoncore.proofs.rows.under_rows.Goals as goal

pub returns-then-room-eq0 : goal.returns-then-room-eq0
returns-then-room-eq0 c = rows_spent c.requires.ready_rows c.requires.node c.if-room-eq0.true

pub returns : goal.returns
returns c = rows_stepped c.requires.ready_rows c.requires.node c.if-room-eq0.false c.in_rows.ensures
