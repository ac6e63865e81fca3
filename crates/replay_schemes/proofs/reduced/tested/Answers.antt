-- What was tested is what `run` asks.
use Rattle.replay_schemes.proofs.reduced.tested.Goals as goal

pub run-requires : goal.run-requires
run-requires g c = record { base_len = c.requires.base_len; names = c.are_distinct.ensures c.if-are_distinct.true; posed = c.is_posed.ensures c.if-is_posed.true; typed_rows = c.are_typed.ensures c.if-are_typed.true; in_bounds = c.requires.in_bounds }
