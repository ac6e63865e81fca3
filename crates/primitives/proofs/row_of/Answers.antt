-- The constant table holds the rows of the primitives.
use Rattle.primitives.proofs.Rowed.{prim_rows, row_says}
use Rattle.primitives.proofs.row_of.Goals as goal

pub returns : goal.returns
unfolding prim_rows
returns c = row_says _ c.requires
