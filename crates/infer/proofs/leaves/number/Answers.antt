-- The end's answer with no rows.
use native.Mathlib.Omega.{arith}
use Rattle.infer.proofs.Plainly.{literal_asks, literal_gives}
use Rattle.infer.proofs.leaves.number.Goals as goal

pub int_literal-requires : goal.int_literal-requires
int_literal-requires c = record { base_len_bound = c.requires.base_len_bound; ready_literal = literal_asks c.requires.ready_i (omega arith) }

pub returns : goal.returns
returns c = literal_gives c.requires.ready_i (c.with_state.ensures _ _) c.int_literal.ensures
