-- Every member but `rename_core` makes one node of what the calls gave; the measure is twice the steps left, and one more for those.
use mathlib.Core.Path.{◌∙◌}
use native.Mathlib.Omega.{arith}
use Rattle.ast.proofs.Join.{both_fit}
use Rattle.errors.proofs.Thrown.{thrown}
use Rattle.pairs.proofs.Frames.{long}
use Rattle.apply.proofs.Seen.{ok_is, err_is}
use Rattle.canoncore.proofs.Arms.{deep, spent, at_var, at_int, at_bool, at_own, at_context, at_dict, abs_asks, abs_gives, call_asks, call_gives, let_asks, let_gives, under_asks, under_gives, applied_asks, applied_gives, method_asks, method_gives, super_asks, super_gives, rec_asks, rec_gives}
use Rattle.canoncore.proofs.Ways.{fewer, abs_refused, abs_done, under_refused, under_refused_2, under_done, method_refused, method_done, super_refused, super_done, call_refused, call_refused_2, call_done, let_refused, let_refused_2, let_done, applied_refused, applied_refused_2, applied_done}
use Rattle.canoncore.proofs.ListWays.{each_nil, first_asks, list_refused, rest_asks, list_refused_2, list_done}
use Rattle.canoncore.proofs.+in_abs_in_call_in_dict_abs_in_dict_app_in_let_in_method_in_super_in_each_rename_core.Goals as goal

pub in_abs-returns : goal.in_abs-returns
in_abs-returns t c = rw (c.push_abs.ensures.word, c.push_abs.ensures.top, c.push_abs.ensures.left) (abs_done _ c.requires.ready_letters c.rename_core.ensures (ok_is c.in_ok-m.was) (long c.args.base.now.words.now c.rename_core.new.work c.args.work.now c.rename_core.auto.work) (both_fit c.args.base.now.words.now c.args.work.now (omega arith) c.well_formed.1.0.0) _ c.push_abs.ensures.is)

pub in_abs-returns-in_err-m : goal.in_abs-returns-in_err-m
in_abs-returns-in_err-m t c = rw (thrown _ c.from_residual.ensures.1) (abs_refused _ c.requires.ready_letters c.rename_core.ensures (err_is c.in_err-m.was) _)

pub in_call-returns : goal.in_call-returns
in_call-returns t c = rw (c.push_call.ensures.word, c.push_call.ensures.top, c.push_call.ensures.left) (call_done _ c.requires.ready_letters c.rename_core.ensures (ok_is c.in_ok-m.was) c.requires.node c.rename_core-2.ensures (ok_is c.in_ok-m2.was) (long c.args.base.now.words.now c.rename_core-2.new.work c.args.work.now (c.rename_core-2.auto.work ∙ c.rename_core.auto.work)) (both_fit c.args.base.now.words.now c.args.work.now (omega arith) c.well_formed.1.0.0) c.push_call.ensures.is)

pub in_call-returns-in_err-m2 : goal.in_call-returns-in_err-m2
in_call-returns-in_err-m2 t c = rw (thrown _ c.from_residual-in_err-m2.ensures.1) (call_refused_2 _ c.requires.ready_letters c.rename_core.ensures (ok_is c.in_ok-m.was) c.requires.node c.rename_core-2.ensures (err_is c.in_err-m2.was))

pub in_call-returns-in_err-m : goal.in_call-returns-in_err-m
in_call-returns-in_err-m t c = rw (thrown _ c.from_residual.ensures.1) (call_refused _ c.requires.ready_letters c.rename_core.ensures (err_is c.in_err-m.was) _)

pub in_dict_abs-returns : goal.in_dict_abs-returns
in_dict_abs-returns t c = rw (c.push_dict_abs.ensures.word, c.push_dict_abs.ensures.top, c.push_dict_abs.ensures.left) (under_done _ _ c.requires.ready_letters.room c.rename_binders.ensures c.requires.node (ok_is c.in_ok-m.was) c.rename_core.ensures (ok_is c.in_ok-m2.was) (long c.args.base.now.words.now c.rename_core.new.work c.args.work.now (c.rename_core.auto.work ∙ c.rename_binders.auto.work)) (both_fit c.args.base.now.words.now c.args.work.now (omega arith) c.well_formed.1.0.0) c.push_dict_abs.ensures.is)

pub in_dict_abs-returns-in_err-m2 : goal.in_dict_abs-returns-in_err-m2
in_dict_abs-returns-in_err-m2 t c = rw (thrown _ c.from_residual-in_err-m2.ensures.1) (under_refused_2 _ _ c.requires.ready_letters.room c.rename_binders.ensures c.requires.node (ok_is c.in_ok-m.was) c.rename_core.ensures (err_is c.in_err-m2.was))

pub in_dict_abs-returns-in_err-m : goal.in_dict_abs-returns-in_err-m
in_dict_abs-returns-in_err-m t c = rw (thrown _ c.from_residual.ensures.1) (under_refused _ _ c.requires.ready_letters.room c.rename_binders.ensures c.requires.node (err_is c.in_err-m.was))

pub in_dict_app-returns : goal.in_dict_app-returns
in_dict_app-returns t c = rw (c.push_app.ensures.word, c.push_app.ensures.top, c.push_app.ensures.left) (applied_done _ c.requires.ready_letters c.rename_core.ensures (ok_is c.in_ok-m.was) c.requires.node c.in_each.ensures (ok_is c.in_ok-m2.was) (long c.args.base.now.words.now c.in_each.new.work c.args.work.now (c.in_each.auto.work ∙ c.rename_core.auto.work)) (both_fit c.args.base.now.words.now c.args.work.now (omega arith) c.well_formed.1.0.0) c.push_app.ensures.is)

pub in_dict_app-returns-in_err-m2 : goal.in_dict_app-returns-in_err-m2
in_dict_app-returns-in_err-m2 t c = rw (thrown _ c.from_residual-in_err-m2.ensures.1) (applied_refused_2 _ c.requires.ready_letters c.rename_core.ensures (ok_is c.in_ok-m.was) c.requires.node c.in_each.ensures (err_is c.in_err-m2.was))

pub in_dict_app-returns-in_err-m : goal.in_dict_app-returns-in_err-m
in_dict_app-returns-in_err-m t c = rw (thrown _ c.from_residual.ensures.1) (applied_refused _ c.requires.ready_letters c.rename_core.ensures (err_is c.in_err-m.was) _)

pub in_let-returns : goal.in_let-returns
in_let-returns t c = rw (c.push_let.ensures.word, c.push_let.ensures.top, c.push_let.ensures.left) (let_done _ c.requires.ready_letters c.rename_core.ensures (ok_is c.in_ok-m.was) c.requires.node c.rename_core-2.ensures (ok_is c.in_ok-m2.was) (long c.args.base.now.words.now c.rename_core-2.new.work c.args.work.now (c.rename_core-2.auto.work ∙ c.rename_core.auto.work)) (both_fit c.args.base.now.words.now c.args.work.now (omega arith) c.well_formed.1.0.0) _ c.push_let.ensures.is)

pub in_let-returns-in_err-m2 : goal.in_let-returns-in_err-m2
in_let-returns-in_err-m2 t c = rw (thrown _ c.from_residual-in_err-m2.ensures.1) (let_refused_2 _ c.requires.ready_letters c.rename_core.ensures (ok_is c.in_ok-m.was) c.requires.node c.rename_core-2.ensures (err_is c.in_err-m2.was) _)

pub in_let-returns-in_err-m : goal.in_let-returns-in_err-m
in_let-returns-in_err-m t c = rw (thrown _ c.from_residual.ensures.1) (let_refused _ c.requires.ready_letters c.rename_core.ensures (err_is c.in_err-m.was) _ _)

pub in_method-returns : goal.in_method-returns
in_method-returns t c = rw (c.push_method.ensures.word, c.push_method.ensures.top, c.push_method.ensures.left) (method_done _ c.requires.ready_letters c.rename_core.ensures (ok_is c.in_ok-m.was) (long c.args.base.now.words.now c.rename_core.new.work c.args.work.now c.rename_core.auto.work) (both_fit c.args.base.now.words.now c.args.work.now (omega arith) c.well_formed.1.0.0) _ c.push_method.ensures.is)

pub in_method-returns-in_err-m : goal.in_method-returns-in_err-m
in_method-returns-in_err-m t c = rw (thrown _ c.from_residual.ensures.1) (method_refused _ c.requires.ready_letters c.rename_core.ensures (err_is c.in_err-m.was) _)

pub in_super-returns : goal.in_super-returns
in_super-returns t c = rw (c.push_proj.ensures.word, c.push_proj.ensures.top, c.push_proj.ensures.left) (super_done _ c.requires.ready_letters c.rename_core.ensures (ok_is c.in_ok-m.was) (long c.args.base.now.words.now c.rename_core.new.work c.args.work.now c.rename_core.auto.work) (both_fit c.args.base.now.words.now c.args.work.now (omega arith) c.well_formed.1.0.0) _ _ c.push_proj.ensures.is)

pub in_super-returns-in_err-m : goal.in_super-returns-in_err-m
in_super-returns-in_err-m t c = rw (thrown _ c.from_residual.ensures.1) (super_refused _ c.requires.ready_letters c.rename_core.ensures (err_is c.in_err-m.was) _ _)

pub lists::in_each-rename_core-requires : goal.lists::in_each-rename_core-requires
lists::in_each-rename_core-requires t c = (omega arith, (c.requires.base_len_bound, first_asks 0 c.requires.ready_letters c.cell_at-c.ensures c.in-Cons.is))

pub lists::in_each-in_each-requires : goal.lists::in_each-in_each-requires
lists::in_each-in_each-requires t c = let q = rest_asks _ c.requires.ready_letters c.cell_at-c.ensures c.in-Cons.is c.rename_core.ensures (ok_is c.in_ok-m-in-Cons.was) (long c.args.base.now.words.now c.rename_core.new.work c.args.work.now c.rename_core.auto.work) in let f = fewer (first_asks 0 c.requires.ready_letters c.cell_at-c.ensures c.in-Cons.is) c.rename_core.ensures (ok_is c.in_ok-m-in-Cons.was) (omega arith) in let m = q.0 in let cl = c.requires.base_len_bound in (omega arith, (omega arith, q.1))

pub lists::in_each-returns-in-Nil : goal.lists::in_each-returns-in-Nil
lists::in_each-returns-in-Nil t c = each_nil _ c.requires.ready_letters c.cell_at-c.ensures c.in-Nil.is

pub lists::in_each-returns-in_ok-m2-in-Cons : goal.lists::in_each-returns-in_ok-m2-in-Cons
lists::in_each-returns-in_ok-m2-in-Cons t c = rw (c.add.ensures.word, c.add.ensures.top, c.add.ensures.left) (list_done _ c.requires.ready_letters c.cell_at-c.ensures c.in-Cons.is c.rename_core.ensures (ok_is c.in_ok-m-in-Cons.was) c.in_each.ensures (ok_is c.in_ok-m2-in-Cons.was) (long c.args.base.now.words.now c.in_each.new.work c.args.work.now (c.in_each.auto.work ∙ c.rename_core.auto.work)) (both_fit c.args.base.now.words.now c.args.work.now (omega arith) c.well_formed.1.0.0) c.add.ensures.is)

pub lists::in_each-returns-in_err-m2-in-Cons : goal.lists::in_each-returns-in_err-m2-in-Cons
lists::in_each-returns-in_err-m2-in-Cons t c = rw (thrown _ c.from_residual-in_err-m2-in-Cons.ensures.1) (list_refused_2 _ c.requires.ready_letters c.cell_at-c.ensures c.in-Cons.is c.rename_core.ensures (ok_is c.in_ok-m-in-Cons.was) c.in_each.ensures (err_is c.in_err-m2-in-Cons.was))

pub lists::in_each-returns-in_err-m-in-Cons : goal.lists::in_each-returns-in_err-m-in-Cons
lists::in_each-returns-in_err-m-in-Cons t c = rw (thrown _ c.from_residual.ensures.1) (list_refused _ c.requires.ready_letters c.cell_at-c.ensures c.in-Cons.is c.rename_core.ensures (err_is c.in_err-m-in-Cons.was))

pub rename_core-returns-then-depth-eq0 : goal.rename_core-returns-then-depth-eq0
rename_core-returns-then-depth-eq0 t c = deep c.requires.ready_letters c.if-depth-eq0.true

pub rename_core-returns-then-room-eq0 : goal.rename_core-returns-then-room-eq0
rename_core-returns-then-room-eq0 t c = spent c.requires.ready_letters c.if-depth-eq0.false c.if-room-eq0.true

pub rename_core-in_abs-requires : goal.rename_core-in_abs-requires
rename_core-in_abs-requires t c = let k = abs_asks c.requires.ready_letters c.if-depth-eq0.false c.if-room-eq0.false c.part_at-p.ensures c.in-Abs.is in let y = c.if-room-eq0.false in (omega arith, (c.requires.base_len_bound, k))

pub rename_core-in_call-requires : goal.rename_core-in_call-requires
rename_core-in_call-requires t c = let k = call_asks c.requires.ready_letters c.if-depth-eq0.false c.if-room-eq0.false c.part_at-p.ensures c.in-App.is in let y = c.if-room-eq0.false in (omega arith, (c.requires.base_len_bound, k))

pub rename_core-in_let-requires : goal.rename_core-in_let-requires
rename_core-in_let-requires t c = let k = let_asks c.requires.ready_letters c.if-depth-eq0.false c.if-room-eq0.false c.part_at-p.ensures c.in-Let.is in let y = c.if-room-eq0.false in (omega arith, (c.requires.base_len_bound, k))

pub rename_core-in_dict_abs-requires : goal.rename_core-in_dict_abs-requires
rename_core-in_dict_abs-requires t c = let k = under_asks c.requires.ready_letters c.if-depth-eq0.false c.if-room-eq0.false c.part_at-p.ensures c.in-DictAbs.is in let y = c.if-room-eq0.false in (omega arith, (c.requires.base_len_bound, k))

pub rename_core-in_dict_app-requires : goal.rename_core-in_dict_app-requires
rename_core-in_dict_app-requires t c = let k = applied_asks c.requires.ready_letters c.if-depth-eq0.false c.if-room-eq0.false c.part_at-p.ensures c.in-DictApp.is in let y = c.if-room-eq0.false in (omega arith, (c.requires.base_len_bound, k))

pub rename_core-in_method-requires : goal.rename_core-in_method-requires
rename_core-in_method-requires t c = let k = method_asks c.requires.ready_letters c.if-depth-eq0.false c.if-room-eq0.false c.part_at-p.ensures c.in-Method.is in let y = c.if-room-eq0.false in (omega arith, (c.requires.base_len_bound, k))

pub rename_core-in_super-requires : goal.rename_core-in_super-requires
rename_core-in_super-requires t c = let k = super_asks c.requires.ready_letters c.if-depth-eq0.false c.if-room-eq0.false c.part_at-p.ensures c.in-Super.is in let y = c.if-room-eq0.false in (omega arith, (c.requires.base_len_bound, k))

pub rename_core-in_rec-requires : goal.rename_core-in_rec-requires
rename_core-in_rec-requires t c = record { base_len_bound = c.requires.base_len_bound; ready_letters = rec_asks c.requires.ready_letters c.if-depth-eq0.false c.if-room-eq0.false c.part_at-p.ensures c.in-Rec.is }

pub rename_core-returns-in-Var : goal.rename_core-returns-in-Var
rename_core-returns-in-Var t c = at_var c.requires.ready_letters c.if-depth-eq0.false c.if-room-eq0.false c.part_at-p.ensures c.in-Var.is

pub rename_core-returns-in-Dict : goal.rename_core-returns-in-Dict
rename_core-returns-in-Dict t c = at_dict c.requires.ready_letters c.if-depth-eq0.false c.if-room-eq0.false c.part_at-p.ensures c.in-Dict.is

pub rename_core-returns-in-Context : goal.rename_core-returns-in-Context
rename_core-returns-in-Context t c = at_context c.requires.ready_letters c.if-depth-eq0.false c.if-room-eq0.false c.part_at-p.ensures c.in-Context.is

pub rename_core-returns-in-Own : goal.rename_core-returns-in-Own
rename_core-returns-in-Own t c = at_own c.requires.ready_letters c.if-depth-eq0.false c.if-room-eq0.false c.part_at-p.ensures c.in-Own.is

pub rename_core-returns-in-Bool : goal.rename_core-returns-in-Bool
rename_core-returns-in-Bool t c = at_bool c.requires.ready_letters c.if-depth-eq0.false c.if-room-eq0.false c.part_at-p.ensures c.in-Bool.is

pub rename_core-returns-in-Int : goal.rename_core-returns-in-Int
rename_core-returns-in-Int t c = at_int c.requires.ready_letters c.if-depth-eq0.false c.if-room-eq0.false c.part_at-p.ensures c.in-Int.is

pub rename_core-returns-in-Abs : goal.rename_core-returns-in-Abs
rename_core-returns-in-Abs t c = abs_gives c.requires.ready_letters c.if-depth-eq0.false c.if-room-eq0.false c.part_at-p.ensures c.in-Abs.is c.in_abs.ensures

pub rename_core-returns-in-App : goal.rename_core-returns-in-App
rename_core-returns-in-App t c = call_gives c.requires.ready_letters c.if-depth-eq0.false c.if-room-eq0.false c.part_at-p.ensures c.in-App.is c.in_call.ensures

pub rename_core-returns-in-Let : goal.rename_core-returns-in-Let
rename_core-returns-in-Let t c = let_gives c.requires.ready_letters c.if-depth-eq0.false c.if-room-eq0.false c.part_at-p.ensures c.in-Let.is c.in_let.ensures

pub rename_core-returns-in-DictAbs : goal.rename_core-returns-in-DictAbs
rename_core-returns-in-DictAbs t c = under_gives c.requires.ready_letters c.if-depth-eq0.false c.if-room-eq0.false c.part_at-p.ensures c.in-DictAbs.is c.in_dict_abs.ensures

pub rename_core-returns-in-DictApp : goal.rename_core-returns-in-DictApp
rename_core-returns-in-DictApp t c = applied_gives c.requires.ready_letters c.if-depth-eq0.false c.if-room-eq0.false c.part_at-p.ensures c.in-DictApp.is c.in_dict_app.ensures

pub rename_core-returns-in-Method : goal.rename_core-returns-in-Method
rename_core-returns-in-Method t c = method_gives c.requires.ready_letters c.if-depth-eq0.false c.if-room-eq0.false c.part_at-p.ensures c.in-Method.is c.in_method.ensures

pub rename_core-returns-in-Super : goal.rename_core-returns-in-Super
rename_core-returns-in-Super t c = super_gives c.requires.ready_letters c.if-depth-eq0.false c.if-room-eq0.false c.part_at-p.ensures c.in-Super.is c.in_super.ensures

pub rename_core-returns-in-Rec : goal.rename_core-returns-in-Rec
rename_core-returns-in-Rec t c = rec_gives c.requires.ready_letters c.if-depth-eq0.false c.if-room-eq0.false c.part_at-p.ensures c.in-Rec.is c.in_rec.ensures
