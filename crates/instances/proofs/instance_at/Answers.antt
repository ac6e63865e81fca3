-- The cell is read once; the empty list is not met.
use Rattle.instances.proofs.Held.{class_there}
use Rattle.instances.proofs.instance_at.Goals as goal

pub class_at-requires : goal.class_at-requires
class_at-requires c = let z = class_there c.requires.openable c.cell_at-c.ensures c.in-Cons.is in record { first_node_le_l = z.0; l_bound = z.1 }
