-- The rows, then the term.
use native.Mathlib.Omega.{arith}
use Rattle.errors.proofs.Thrown.{thrown}
use Rattle.pending.proofs.Seen.{swept_is, unswept_is}
use Rattle.ast.proofs.Join.{both_fit}
use Rattle.pairs.proofs.Frames.{long}
use Rattle.inferred.proofs.Ends.{last_sweep, last_lost, last_room, last_closed}
use Rattle.inferred.proofs.app_last.Goals as goal

pub apply_rows-requires : goal.apply_rows-requires
apply_rows-requires c = record { base_len_bound = c.requires.base_len_bound; ready_sweep = last_sweep c.requires.ready_last }

pub push_call-term-requires : goal.push_call-term-requires
push_call-term-requires c = let b = c.requires.base_len_bound in let q = last_room c.requires.ready_last c.apply_rows.ensures c.apply_rows.auto.binders (swept_is c.in_ok-apply_rows.was) (long c.args.base.now.words.now c.apply_rows.new.work c.args.work.now c.apply_rows.auto.work) (both_fit c.args.base.now.words.now c.args.work.now (omega arith) c.well_formed.1.0.0) in let m = q.0 in record { base_len_bound = omega arith; top_in_bounds = q.1.0 }

pub returns : goal.returns
returns c = let z = c.push_call-term.ensures in rw (z.word, z.top, z.left) (last_closed c.requires.ready_last c.apply_rows.ensures c.apply_rows.auto.binders (swept_is c.in_ok-apply_rows.was) (long c.args.base.now.words.now c.apply_rows.new.work c.args.work.now c.apply_rows.auto.work) (both_fit c.args.base.now.words.now c.args.work.now (omega arith) c.well_formed.1.0.0) z.is)

pub returns-in_err-apply_rows : goal.returns-in_err-apply_rows
returns-in_err-apply_rows c = rw (thrown _ c.from_residual.ensures.1) (last_lost c.requires.ready_last c.apply_rows.ensures c.apply_rows.auto.binders (unswept_is c.in_err-apply_rows.was))
