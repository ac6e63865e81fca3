-- What was tested is what unification and matching ask; the stack ends with the words.
use native.Mathlib.Omega.{arith}
use lib.ListN.{length-append}
use Rattle.replay_pairs.proofs.Ready.{is_ready}
use Rattle.replay_pairs.proofs.run.Goals as goal

pub unify-requires : goal.unify-requires
unify-requires c = record { base_len_bound = omega arith; ready_u = is_ready c.requires.names (simp length-append (omega arith)) c.requires.fits }

pub match_ty-requires : goal.match_ty-requires
match_ty-requires c = record { base_len_bound = omega arith; ready_u = is_ready c.requires.names (simp length-append (omega arith)) c.requires.fits }
