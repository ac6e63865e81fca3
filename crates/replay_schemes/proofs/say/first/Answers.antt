-- The tests are what `subst::class_at` and `ast::cell_at` ask.
use native.Mathlib.Omega.{arith}
use Rattle.replay_schemes.proofs.say.first.Goals as goal

pub class_at-k-requires : goal.class_at-k-requires
class_at-k-requires g c = record { first_node_le_l = omega arith; l_bound = c.is_there.ensures c.if-is_there.true }

pub cell_at-c-requires : goal.cell_at-c-requires
cell_at-c-requires g c = c.is_there.ensures c.if-is_there.true
