-- The case is answered where the test says that it is one.
use Rattle.replay_pairs.proofs.answer.Goals as goal

pub run-r-requires : goal.run-r-requires
run-r-requires g c = record { base_len = c.requires.base_len; names = c.requires.names; fits = c.is_ready.ensures c.if-not-is_ready.false }
