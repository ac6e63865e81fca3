-- The rows, then `generalize`.
use native.Mathlib.Omega.{arith}
use Rattle.errors.proofs.Thrown.{thrown}
use Rattle.pending.proofs.Seen.{swept_is, unswept_is}
use Rattle.pairs.proofs.Frames.{long}
use Rattle.binding.proofs.AfterRows.{rows_asks, rows_lost, rows_more, rows_ready, rows_gives}
use Rattle.binding.proofs.rest.Goals as goal

pub apply_rows-requires : goal.apply_rows-requires
apply_rows-requires c = record { base_len_bound = c.requires.base_len_bound; ready_sweep = rows_asks c.requires.ready_mid }

pub generalize-requires : goal.generalize-requires
generalize-requires c = let b = c.requires.base_len_bound in let m = rows_more c.requires.ready_mid c.args.rules.classes.now c.apply_rows.ensures c.apply_rows.auto.binders (swept_is c.in_ok-apply_rows.was) (long c.args.base.now.words.now c.apply_rows.new.work c.args.work.now c.apply_rows.auto.work) in record { base_len_bound = omega arith; ready_generalize = rows_ready c.requires.ready_mid c.args.rules.classes.now c.apply_rows.ensures c.apply_rows.auto.binders (swept_is c.in_ok-apply_rows.was) (long c.args.base.now.words.now c.apply_rows.new.work c.args.work.now c.apply_rows.auto.work) }

pub returns : goal.returns
returns c = rows_gives c.requires.ready_mid c.args.rules.classes.now c.apply_rows.ensures c.apply_rows.auto.binders (swept_is c.in_ok-apply_rows.was) (long c.args.base.now.words.now c.apply_rows.new.work c.args.work.now c.apply_rows.auto.work) c.generalize.ensures

pub returns-in_err-apply_rows : goal.returns-in_err-apply_rows
returns-in_err-apply_rows c = rw (thrown _ c.from_residual.ensures.1) (rows_lost c.requires.ready_mid c.args.rules.classes.now c.apply_rows.ensures c.apply_rows.auto.binders (unswept_is c.in_err-apply_rows.was))
