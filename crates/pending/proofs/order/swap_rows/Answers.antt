-- The words of both rows are read first.
use Rattle.pending.proofs.Puts.{swapped}
use Rattle.pending.proofs.order.swap_rows.Goals as goal

pub returns : goal.returns
returns c = swapped c.args.binders.now c.args.k c.put_row.ensures c.put_row-2.ensures c.requires
