-- The loop's invariant: what all rows give is what those from row i on give now.
use native.Mathlib.Omega.{arith}
use Rattle.ast.proofs.Join.{joined}
use Rattle.pairs.proofs.Frames.{long}
use Rattle.errors.proofs.Thrown.{thrown}
use Rattle.canonical.proofs.Seen.{renamed_is, unrenamed_is}
use Rattle.canonical.proofs.Goes.{going, turn_stops, turn_goes, all_done}
use Rattle.canonical.proofs.renamed.rename_types.Goals as goal

pub loop-i-init : goal.loop-i-init
loop-i-init c = going c.requires.ready_rename

pub rename_row-requires : goal.rename_row-requires
rename_row-requires c = let x = c.requires.base_len_bound in let y = c.loop-i.invariant.more in record { base_len_bound = omega arith; ready_rename = c.loop-i.invariant.ready; i_lt_n = c.loop-i-test.true }

pub shape_of-work-in_err-rename_row : goal.shape_of-work-in_err-rename_row
shape_of-work-in_err-rename_row c = let x = joined c.args.base.now.words.now c.args.work.now in let y = joined c.args.base.now.words.now c.loop-i.work in let l = c.loop-i.invariant.long in let k = c.rename_row.auto.work in omega arith

pub shape_of-binders-in_err-rename_row : goal.shape_of-binders-in_err-rename_row
shape_of-binders-in_err-rename_row c = let l = c.loop-i.invariant.rows_long in let k = c.rename_row.auto.binders in omega arith

pub returns-in_err-rename_row : goal.returns-in_err-rename_row
returns-in_err-rename_row c = rw (thrown _ c.from_residual.ensures.1) (turn_stops c.loop-i.invariant c.rename_row.ensures c.loop-i-test.true (unrenamed_is c.in_err-rename_row.was))

pub loop-i-preserved : goal.loop-i-preserved
loop-i-preserved c = turn_goes c.loop-i.invariant c.rename_row.ensures (renamed_is c.in_ok-rename_row.was) c.loop-i-test.true (long c.args.base.now.words.now c.rename_row.new.work c.loop-i.work c.rename_row.auto.work) c.rename_row.auto.binders

pub shape_of-work : goal.shape_of-work
shape_of-work c = let x = joined c.args.base.now.words.now c.args.work.now in let y = joined c.args.base.now.words.now c.loop-i.work in let l = c.loop-i.invariant.long in omega arith

pub shape_of-binders : goal.shape_of-binders
shape_of-binders c = c.loop-i.invariant.rows_long

pub returns : goal.returns
returns c = all_done c.loop-i.invariant (let l = c.loop-i-test.false in omega arith)
