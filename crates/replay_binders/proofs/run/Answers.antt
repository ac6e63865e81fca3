-- What was tested is what `simplify_context` asks.
use native.Mathlib.Omega.{arith}
use lib.ListN.{length-append}
use Rattle.replay_binders.proofs.Ready.{rows_ready}
use Rattle.replay_binders.proofs.run.Goals as goal

pub simplify_context-requires : goal.simplify_context-requires
simplify_context-requires g c = record { base_len_bound = omega arith; ready_simplify = rows_ready _ _ _ _ _ _ c.requires.names c.requires.typed_rows c.requires.in_bounds c.requires.left_in_bounds (simp length-append (omega arith)) }
