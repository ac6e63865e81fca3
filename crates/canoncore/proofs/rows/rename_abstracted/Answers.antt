-- By whether some row is pending.
use Rattle.canoncore.proofs.RowWays.{whole_none, whole_some}
use Rattle.canoncore.proofs.rows.rename_abstracted.Goals as goal

pub returns-in-Some : goal.returns-in-Some
returns-in-Some c = whole_some c.requires.ready_rows c.requires.node c.next_row-g.ensures c.in-Some.is c.under_rows.ensures

pub returns-in-None : goal.returns-in-None
returns-in-None c = whole_none c.requires.ready_rows c.requires.node c.next_row-g.ensures c.in-None.is c.rename_core.ensures
