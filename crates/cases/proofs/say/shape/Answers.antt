-- The test is what `ast::shape_at` asks.
use Rattle.cases.proofs.say.shape.Goals as goal

pub shape_at-requires : goal.shape_at-requires
shape_at-requires c = c.is_there.ensures c.if-is_there.true
