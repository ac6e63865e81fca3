-- Each way out by its law of `PredWays`. The measure is the list's word.
use mathlib.Core.Path.{◌∙◌}
use native.Mathlib.Omega.{arith}
use Rattle.ast.proofs.Join.{both_fit}
use Rattle.ast.proofs.Laws.{cons_head, cons_tail}
use Rattle.errors.proofs.Thrown.{thrown}
use Rattle.pairs.proofs.Frames.{long}
use Rattle.apply.proofs.Hand.{gives, stays}
use Rattle.apply.proofs.Seen.{ok_is, err_is}
use Rattle.apply.proofs.Arms.{but_first}
use Rattle.subst.proofs.PredWays.{no_preds, class_room, first_refused, rest_next, rest_refused, cell_room, cell_done}
use Rattle.subst.proofs.+apply_preds_but.Goals as goal

pub class_at-p-requires : goal.class_at-p-requires
class_at-p-requires t c = let z = class_room c.requires.ready_but.ty.node c.cell_at-c.ensures c.in-Cons.is in record { first_node_le_l = z.0; l_bound = z.1 }

pub apply_pred_but-requires : goal.apply_pred_but-requires
apply_pred_but-requires t c = let k = cons_head c.requires.ready_but.ty.node c.cell_at-c.ensures c.in-Cons.is in record { base_len_bound = c.requires.base_len_bound; ready_but = but_first c.requires.ready_but (omega arith) k.1 }

pub apply_preds_but-requires : goal.apply_preds_but-requires
apply_preds_but-requires t c = let k = cons_tail c.requires.ready_but.ty.node c.cell_at-c.ensures c.in-Cons.is in let q = rest_next c.requires.ready_but c.cell_at-c.ensures c.in-Cons.is c.class_at-p.ensures c.apply_pred_but.ensures (ok_is c.in_ok-m-in-Cons.was) (long c.args.base.now.words.now c.apply_pred_but.new.work c.args.work.now c.apply_pred_but.auto.work) in let m = q.0 in let cl = c.requires.base_len_bound in (omega arith, (omega arith, q.1))

pub add_pred-requires : goal.add_pred-requires
add_pred-requires t c = let q = cell_room c.requires.ready_but c.cell_at-c.ensures c.in-Cons.is c.class_at-p.ensures c.apply_pred_but.ensures (ok_is c.in_ok-m-in-Cons.was) c.apply_preds_but.ensures (ok_is c.in_ok-n-in-Cons.was) (long c.args.base.now.words.now c.apply_preds_but.new.work c.args.work.now (c.apply_preds_but.auto.work ∙ c.apply_pred_but.auto.work)) (both_fit c.args.base.now.words.now c.args.work.now (omega arith) c.well_formed.1.0.0) in let m = q.more in let cl = c.requires.base_len_bound in record { base_len_bound = omega arith; top_in_bounds = q.room }

pub returns-in-Nil : goal.returns-in-Nil
returns-in-Nil t c = gives (stays (no_preds _ c.requires.ready_but.ty.node _ _ c.cell_at-c.ensures c.in-Nil.is) c.requires.ready_but.ty.node (omega arith) (omega arith))

pub returns-in_ok-n-in-Cons : goal.returns-in_ok-n-in-Cons
returns-in_ok-n-in-Cons t c = rw (c.add_pred.ensures.word, c.add_pred.ensures.top, c.add_pred.ensures.left) (cell_done c.requires.ready_but c.cell_at-c.ensures c.in-Cons.is c.class_at-p.ensures c.apply_pred_but.ensures (ok_is c.in_ok-m-in-Cons.was) c.apply_preds_but.ensures (ok_is c.in_ok-n-in-Cons.was) (long c.args.base.now.words.now c.apply_preds_but.new.work c.args.work.now (c.apply_preds_but.auto.work ∙ c.apply_pred_but.auto.work)) (both_fit c.args.base.now.words.now c.args.work.now (omega arith) c.well_formed.1.0.0) c.add_pred.ensures.is)

pub returns-in_err-n-in-Cons : goal.returns-in_err-n-in-Cons
returns-in_err-n-in-Cons t c = rw (thrown _ c.from_residual-in_err-n-in-Cons.ensures.1) (rest_refused c.requires.ready_but c.cell_at-c.ensures c.in-Cons.is c.class_at-p.ensures c.apply_pred_but.ensures (ok_is c.in_ok-m-in-Cons.was) c.apply_preds_but.ensures (err_is c.in_err-n-in-Cons.was))

pub returns-in_err-m-in-Cons : goal.returns-in_err-m-in-Cons
returns-in_err-m-in-Cons t c = rw (thrown _ c.from_residual.ensures.1) (first_refused c.requires.ready_but c.cell_at-c.ensures c.in-Cons.is c.class_at-p.ensures c.apply_pred_but.ensures (err_is c.in_err-m-in-Cons.was))
