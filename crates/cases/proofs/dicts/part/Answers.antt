-- The test is what `cores::part_at` asks.
use Rattle.cases.proofs.dicts.part.Goals as goal

pub part_at-requires : goal.part_at-requires
part_at-requires c = c.is_there.ensures c.if-is_there.true
