-- The rows, then the end.
use native.Mathlib.Omega.{arith}
use Rattle.errors.proofs.Thrown.{thrown}
use Rattle.pending.proofs.Seen.{swept_is, unswept_is}
use Rattle.pairs.proofs.Frames.{long}
use Rattle.toplevel.proofs.Moves.{rows_asks, rows_moved}
use Rattle.toplevel.proofs.Lasts.{rows_lost, rows_gives}
use Rattle.toplevel.proofs.checks.check_rows.Goals as goal

pub apply_rows-requires : goal.apply_rows-requires
apply_rows-requires c = record { base_len_bound = c.requires.base_len_bound; ready_sweep = rows_asks c.requires.ready_rest }

pub check_end-requires : goal.check_end-requires
check_end-requires c = let b = c.requires.base_len_bound in let p = rows_moved c.requires.ready_rest c.apply_rows.ensures c.apply_rows.auto.binders (swept_is c.in_ok-apply_rows.was) (long c.args.base.now.words.now c.apply_rows.new.work c.args.work.now c.apply_rows.auto.work) in let m = p.more in record { base_len_bound = omega arith; ready_rest = p.ready }

pub returns : goal.returns
returns c = rows_gives c.requires.ready_rest c.args.rules.classes.now c.apply_rows.ensures c.apply_rows.auto.binders (swept_is c.in_ok-apply_rows.was) (long c.args.base.now.words.now c.apply_rows.new.work c.args.work.now c.apply_rows.auto.work) c.check_end.ensures

pub returns-in_err-apply_rows : goal.returns-in_err-apply_rows
returns-in_err-apply_rows c = rw (thrown _ c.from_residual.ensures.1) (rows_lost c.requires.ready_rest c.args.rules.classes.now c.apply_rows.ensures c.apply_rows.auto.binders (unswept_is c.in_err-apply_rows.was))
