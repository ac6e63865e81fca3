-- The rows, then the rest.
use native.Mathlib.Omega.{arith}
use Rattle.errors.proofs.Thrown.{thrown}
use Rattle.pending.proofs.Seen.{swept_is, unswept_is}
use Rattle.pairs.proofs.Frames.{long}
use Rattle.toplevel.proofs.Moves.{rows_asks, rows_moved}
use Rattle.toplevel.proofs.Ways.{after_lost, after_gives}
use Rattle.toplevel.proofs.let_after.Goals as goal

pub apply_rows-requires : goal.apply_rows-requires
apply_rows-requires c = record { base_len_bound = c.requires.base_len_bound; ready_sweep = rows_asks c.requires.ready_rest }

pub let_typed-requires : goal.let_typed-requires
let_typed-requires c = let b = c.requires.base_len_bound in let p = rows_moved c.requires.ready_rest c.apply_rows.ensures c.apply_rows.auto.binders (swept_is c.in_ok-apply_rows.was) (long c.args.base.now.words.now c.apply_rows.new.work c.args.work.now c.apply_rows.auto.work) in let m = p.more in record { base_len_bound = omega arith; ready_rest = p.ready; x_in_bounds = c.requires.x_in_bounds }

pub returns : goal.returns
returns c = after_gives c.requires.ready_rest _ c.requires.x_in_bounds c.args.rules.classes.now c.apply_rows.ensures c.apply_rows.auto.binders (swept_is c.in_ok-apply_rows.was) (long c.args.base.now.words.now c.apply_rows.new.work c.args.work.now c.apply_rows.auto.work) c.let_typed.ensures

pub returns-in_err-apply_rows : goal.returns-in_err-apply_rows
returns-in_err-apply_rows c = rw (thrown _ c.from_residual.ensures.1) (after_lost c.requires.ready_rest _ c.requires.x_in_bounds c.args.rules.classes.now c.apply_rows.ensures c.apply_rows.auto.binders (unswept_is c.in_err-apply_rows.was))
