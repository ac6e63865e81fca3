-- The type first, then the row.
use Rattle.primitives.proofs.Added.{one_added}
use Rattle.primitives.proofs.add_one.Goals as goal

pub returns : goal.returns
returns c = one_added c.requires.ready_one c.row_of-r.ensures c.make_type-t.ensures c.put.ensures
