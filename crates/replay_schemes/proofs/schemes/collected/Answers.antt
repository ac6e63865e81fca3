-- A scheme that was tested is what the collecting functions ask.
use native.Mathlib.Omega.{arith}
use lib.ListN.{length-append}
use Rattle.ast.proofs.Laws.{low_node}
use Rattle.replay_schemes.proofs.Ways.{type_wants, preds_wants, scheme_wants, qual_wants}
use Rattle.replay_schemes.proofs.schemes.collected.Goals as goal

pub ftv_type-requires : goal.ftv_type-requires
ftv_type-requires c = let S = c.requires.schemed in record { base_len_bound = omega arith; node = low_node S.vars.table (omega arith); node_2 = S.fits.second; wants = type_wants c.requires.names S (simp length-append (omega arith)) }

pub ftv_preds-requires : goal.ftv_preds-requires
ftv_preds-requires c = let S = c.requires.schemed in record { base_len_bound = omega arith; node = low_node S.vars.table (omega arith); node_2 = S.fits.first; wants = preds_wants c.requires.names S (simp length-append (omega arith)) }

pub ftv_qual-requires : goal.ftv_qual-requires
ftv_qual-requires c = let S = c.requires.schemed in record { base_len_bound = omega arith; node = S.fits.first; node_2 = S.fits.second; wants = qual_wants c.requires.names S (simp length-append (omega arith)) }

pub ftv_scheme-requires : goal.ftv_scheme-requires
ftv_scheme-requires c = let S = c.requires.schemed in record { base_len_bound = omega arith; node = S.vars; node_2 = S.fits.first; node_3 = S.fits.second; wants = scheme_wants c.requires.names S (simp length-append (omega arith)) _ }
