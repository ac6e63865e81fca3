-- A scheme that was tested and one pair are what `apply_scheme` asks.
use native.Mathlib.Omega.{arith}
use lib.ListN.{length-append}
use Rattle.pairs.proofs.Frames.{long}
use Rattle.replay_schemes.proofs.Ways.{single_ready}
use Rattle.replay_schemes.proofs.schemes.filled.Goals as goal

pub singleton-s-requires : goal.singleton-s-requires
singleton-s-requires c = let r = c.requires.schemed.fits.room in record { base_len_bound = omega arith; sp_in_bounds = simp length-append (omega arith) }

pub apply_scheme-requires : goal.apply_scheme-requires
apply_scheme-requires c = record { base_len_bound = omega arith; ready_scheme = single_ready c.requires.names c.requires.schemed (simp length-append (omega arith)) (long c.args.base.now.words.now c.singleton-s.new.work c.args.work.now c.singleton-s.auto.work) (omega arith) c.singleton-s.ensures }
