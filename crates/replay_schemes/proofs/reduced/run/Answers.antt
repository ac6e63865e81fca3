-- What was tested is what `reduce` asks.
use native.Mathlib.Omega.{arith}
use lib.ListN.{length-append}
use Rattle.replay_schemes.proofs.Ways.{reduce_ready}
use Rattle.replay_schemes.proofs.reduced.run.Goals as goal

pub reduce-requires : goal.reduce-requires
reduce-requires g c = record { base_len_bound = omega arith; ready_reduce = reduce_ready c.requires.names (simp length-append (omega arith)) c.requires.posed c.requires.typed_rows c.requires.in_bounds }
