-- The end's answer with no rows.
use native.Mathlib.Omega.{arith}
use Rattle.infer.proofs.Plainly.{literal_asks, literal_gives}
use Rattle.infer.proofs.leaves.truth.Goals as goal

pub bool_literal-requires : goal.bool_literal-requires
bool_literal-requires c = record { base_len_bound = c.requires.base_len_bound; ready_literal = literal_asks c.requires.ready_i (omega arith) }

pub returns : goal.returns
returns c = literal_gives c.requires.ready_i (c.with_state.ensures _ _) c.bool_literal.ensures
