-- The loop's invariant: what all rows give is what the rows before row i have become, and then what the others give.
use native.Mathlib.Omega.{arith}
use Rattle.pairs.proofs.Frames.{long}
use Rattle.compose.proofs.Pieces.{same_short}
use Rattle.errors.proofs.Thrown.{thrown}
use Rattle.pending.proofs.Seen.{swept_is, unswept_is}
use Rattle.pending.proofs.Loops.{sweeping, swept_all, swept_ready, swept_lost, swept_on}
use Rattle.pending.proofs.apply_rows.Goals as goal

pub loop-i-init : goal.loop-i-init
loop-i-init c = sweeping c.requires.ready_sweep

pub apply_row-requires : goal.apply_row-requires
apply_row-requires c = let a = c.requires.base_len_bound in let b = c.loop-i.invariant.more in record { base_len_bound = omega arith; ready_sweep = swept_ready c.requires.ready_sweep c.loop-i.invariant c.loop-i-test.true }

pub shape_of-work-in_err-apply_row : goal.shape_of-work-in_err-apply_row
shape_of-work-in_err-apply_row c = let y = same_short c.args.base.now.words.now c.args.work.now c.loop-i.work c.loop-i.invariant.long in let x = c.apply_row.auto.work in omega arith

pub shape_of-binders-in_err-apply_row : goal.shape_of-binders-in_err-apply_row
shape_of-binders-in_err-apply_row c = let y = c.loop-i.invariant.wide in let x = c.apply_row.auto.binders in omega arith

pub returns-in_err-apply_row : goal.returns-in_err-apply_row
returns-in_err-apply_row c = rw (thrown _ c.from_residual.ensures.1) (swept_lost c.requires.ready_sweep c.loop-i.invariant c.loop-i-test.true c.apply_row.ensures (unswept_is c.in_err-apply_row.was))

pub loop-i-preserved : goal.loop-i-preserved
loop-i-preserved c = swept_on c.requires.ready_sweep c.loop-i.invariant c.loop-i-test.true c.apply_row.ensures (swept_is c.in_ok-apply_row.was) (long c.args.base.now.words.now c.apply_row.new.work c.loop-i.work c.apply_row.auto.work) c.apply_row.auto.binders

pub shape_of-work : goal.shape_of-work
shape_of-work c = same_short c.args.base.now.words.now c.args.work.now c.loop-i.work c.loop-i.invariant.long

pub shape_of-binders : goal.shape_of-binders
shape_of-binders c = c.loop-i.invariant.wide

pub returns : goal.returns
returns c = swept_all c.requires.ready_sweep c.loop-i.invariant (let l = c.loop-i-test.false in omega arith)
