-- What was tested is what `run` asks.
use Rattle.replay_schemes.proofs.schemes.tested.Goals as goal

pub run-requires : goal.run-requires
run-requires g c = record { base_len = c.requires.base_len; names = c.are_distinct.ensures c.if-are_distinct.true; schemed = c.is_scheme.ensures c.if-is_scheme.true }
