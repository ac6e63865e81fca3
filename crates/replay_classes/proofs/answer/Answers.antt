-- The case is answered where the test says that it is one.
use Rattle.replay_classes.proofs.answer.Goals as goal

pub run-requires : goal.run-requires
run-requires g c = record { base_len = c.requires.base_len; names = c.requires.names; posed = c.is_posed.ensures c.if-not-is_posed.false }
