-- The test is what `ast::cell_at` asks.
use Rattle.cases.proofs.say.cell.Goals as goal

pub cell_at-requires : goal.cell_at-requires
cell_at-requires c = c.is_there.ensures c.if-is_there.true
