-- The deferred rows, then the pairs.
use native.Mathlib.Omega.{arith}
use Rattle.errors.proofs.Thrown.{thrown}
use Rattle.pending.proofs.Seen.{swept_is, unswept_is}
use Rattle.pairs.proofs.Frames.{long}
use Rattle.inferred.proofs.Lets.{let_sweep, let_lost, let_more, let_ready, let_closed}
use Rattle.inferred.proofs.let_close.Goals as goal

pub apply_rows-requires : goal.apply_rows-requires
apply_rows-requires c = record { base_len_bound = c.requires.base_len_bound; ready_sweep = let_sweep c.requires.ready_let }

pub let_last-requires : goal.let_last-requires
let_last-requires c = let b = c.requires.base_len_bound in let m = let_more c.requires.ready_let c.args.x c.apply_rows.ensures c.apply_rows.auto.binders (swept_is c.in_ok-apply_rows.was) (long c.args.base.now.words.now c.apply_rows.new.work c.args.work.now c.apply_rows.auto.work) in record { base_len_bound = omega arith; ready_let = let_ready c.requires.ready_let c.args.x c.apply_rows.ensures c.apply_rows.auto.binders (swept_is c.in_ok-apply_rows.was) (long c.args.base.now.words.now c.apply_rows.new.work c.args.work.now c.apply_rows.auto.work) }

pub returns : goal.returns
returns c = let_closed c.requires.ready_let c.args.x c.apply_rows.ensures c.apply_rows.auto.binders (swept_is c.in_ok-apply_rows.was) (long c.args.base.now.words.now c.apply_rows.new.work c.args.work.now c.apply_rows.auto.work) c.let_last.ensures

pub returns-in_err-apply_rows : goal.returns-in_err-apply_rows
returns-in_err-apply_rows c = rw (thrown _ c.from_residual.ensures.1) (let_lost c.requires.ready_let c.args.x c.apply_rows.ensures c.apply_rows.auto.binders (unswept_is c.in_err-apply_rows.was))
