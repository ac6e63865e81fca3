-- What was tested is what resolution and the test of overlap ask; the stack ends with the words.
use native.Mathlib.Omega.{arith}
use lib.ListN.{length-append}
use Rattle.replay_classes.proofs.Tested.{resolve_ready, pick_ready}
use Rattle.replay_classes.proofs.run.Goals as goal

pub resolve-r-requires : goal.resolve-r-requires
resolve-r-requires g c = record { base_len_bound = omega arith; ready_resolve = resolve_ready c.requires.names (simp length-append (omega arith)) c.requires.posed }

pub none_overlaps-r-requires : goal.none_overlaps-r-requires
none_overlaps-r-requires g c = record { base_len_bound = omega arith; ready_pick = pick_ready c.requires.names (simp length-append (omega arith)) c.requires.posed }
