-- The measure is eight times the depth, and a number for each member that is called with the depth already lowered.
use native.Mathlib.Omega.{arith}
use borrow.Author.Rules.{rules}
use Prim.Native.Nat.{◌*◌}
use mathlib.Core.Path.{refl}
use Rattle.errors.proofs.Thrown.{thrown}
use Rattle.scope.proofs.Seen.{ok_is as swept_is, err_is as unswept_is}
use Rattle.inferred.proofs.Seen.{ok_is, err_is}
use Rattle.binding.proofs.Seen.{general_is, general_refused}
use Rattle.pairs.proofs.Frames.{long}
use Rattle.infer.proofs.Handing.{refused_here}
use Rattle.infer.proofs.Abstractions.{abs_there, abs_row, abs_asks, abs_hidden, abs_gives, body_asks, body_lost, body_more, body_ends, body_gives}
use Rattle.infer.proofs.Applications.{first_asks, app_lost, app_more, app_asks, app_gives, arg_env, arg_lost, arg_asks, second_lost, second_more, second_ends, second_gives}
use Rattle.infer.proofs.Parts.{onward_asks, onward_gives}
use Rattle.infer.proofs.Bindings.{bound_asks, bound_lost, bound_more, bound_mid, bound_gives, mid_lost, mid_more, mid_body, mid_gives}
use Rattle.infer.proofs.Bodies.{let_there, let_row, let_asks, let_hidden, let_gives, rest_asks, rest_lost, rest_more, rest_ends, rest_gives}
use Rattle.infer.proofs.Dispatch.{node_is, infer_deep, infer_spent, infer_asks, infer_nothing, infer_name, infer_int, infer_bool, infer_abs, infer_app, infer_let}
use Rattle.infer.proofs.+app_app_arg_abs_abs_rest_infer_let_body_let_rest_binding_let_mid_onward.Goals as goal

pub calls::app-overflow_add-a : goal.calls::app-overflow_add-a
calls::app-overflow_add-a t c = let a = c.requires.ready_i.tvs in omega arith

pub calls::app-overflow_add-next : goal.calls::app-overflow_add-next
calls::app-overflow_add-next t c = let a = c.requires.ready_i.tvs in omega arith

pub calls::app-infer-requires : goal.calls::app-infer-requires
calls::app-infer-requires t c = (omega arith, (c.requires.base_len_bound, first_asks c.requires.ready_i))

pub calls::app-app_arg-requires : goal.calls::app-app_arg-requires
calls::app-app_arg-requires t c = let b = c.requires.base_len_bound in let m = app_more c.requires.ready_i c.args.depth c.args.x c.infer.ensures (ok_is c.in_ok-function.was) (long c.args.base.now.words.now c.infer.new.work c.args.work.now c.infer.auto.work) in (omega arith, (omega arith, app_asks c.requires.ready_i c.args.depth c.args.x c.infer.ensures (ok_is c.in_ok-function.was) (long c.args.base.now.words.now c.infer.new.work c.args.work.now c.infer.auto.work)))

pub calls::app-returns : goal.calls::app-returns
calls::app-returns t c = app_gives c.requires.ready_i c.args.depth c.args.x c.infer.ensures (ok_is c.in_ok-function.was) (long c.args.base.now.words.now c.infer.new.work c.args.work.now c.infer.auto.work) c.app_arg.ensures

pub calls::app-returns-in_err-function : goal.calls::app-returns-in_err-function
calls::app-returns-in_err-function t c = rw (thrown _ c.from_residual.ensures.1) (app_lost c.requires.ready_i c.args.depth c.args.x c.infer.ensures (err_is c.in_err-function.was))

pub calls::app_arg-overflow_mul-at : goal.calls::app_arg-overflow_mul-at
calls::app_arg-overflow_mul-at t c = let z = c.requires.ready_arg.ready.room in omega arith

pub calls::app_arg-overflow_sub-at : goal.calls::app_arg-overflow_sub-at
calls::app_arg-overflow_sub-at t c = let z = c.requires.ready_arg.ready.room in omega arith

pub calls::app_arg-apply_env-requires : goal.calls::app_arg-apply_env-requires
calls::app_arg-apply_env-requires t c = record { base_len_bound = c.requires.base_len_bound; ready_env = arg_env c.requires.ready_arg }

pub calls::app_arg-onward-requires : goal.calls::app_arg-onward-requires
calls::app_arg-onward-requires t c = let b = c.requires.base_len_bound in let q = arg_asks c.requires.ready_arg c.args.file.src.now c.args.file.index.now c.args.rules.classes.now c.args.methods.now c.args.depth c.args.x c.apply_env.ensures (swept_is c.in_ok-apply_env.was) (long c.args.base.now.words.now c.apply_env.new.work c.args.work.now c.apply_env.auto.work) in let m = q.0 in (omega arith, (omega arith, (q.1.0, q.1.1)))

pub calls::app_arg-overflow_add-argument : goal.calls::app_arg-overflow_add-argument
calls::app_arg-overflow_add-argument t c = let q = (second_more c.requires.ready_arg c.args.file.src.now c.args.file.index.now c.args.rules.classes.now c.args.methods.now c.args.depth c.args.x c.apply_env.ensures (swept_is c.in_ok-apply_env.was) (long c.args.base.now.words.now c.apply_env.new.work c.args.work.now c.apply_env.auto.work) c.onward.ensures (ok_is c.in_ok-argument.was) (long c.args.base.now.words.now c.onward.new.work c.apply_env.new.work c.onward.auto.work)).1 in let o = c.onward.ensures.wide in let g = c.well_formed.1.1.1.1.1.1.1.1.1.1.0.0 in omega arith

pub calls::app_arg-app_end-requires : goal.calls::app_arg-app_end-requires
calls::app_arg-app_end-requires t c = let b = c.requires.base_len_bound in let m = (second_more c.requires.ready_arg c.args.file.src.now c.args.file.index.now c.args.rules.classes.now c.args.methods.now c.args.depth c.args.x c.apply_env.ensures (swept_is c.in_ok-apply_env.was) (long c.args.base.now.words.now c.apply_env.new.work c.args.work.now c.apply_env.auto.work) c.onward.ensures (ok_is c.in_ok-argument.was) (long c.args.base.now.words.now c.onward.new.work c.apply_env.new.work c.onward.auto.work)).0 in record { base_len_bound = omega arith; ready_app_end = second_ends c.requires.ready_arg c.args.file.src.now c.args.file.index.now c.args.rules.classes.now c.args.methods.now c.args.depth c.args.x c.apply_env.ensures (swept_is c.in_ok-apply_env.was) (long c.args.base.now.words.now c.apply_env.new.work c.args.work.now c.apply_env.auto.work) c.onward.ensures (ok_is c.in_ok-argument.was) (long c.args.base.now.words.now c.onward.new.work c.apply_env.new.work c.onward.auto.work) }

pub calls::app_arg-shape_of-work : goal.calls::app_arg-shape_of-work
calls::app_arg-shape_of-work t c = let x = c.app_end.auto.work in let y = c.onward.auto.work in let z = c.apply_env.auto.work in omega arith

pub calls::app_arg-shape_of-env : goal.calls::app_arg-shape_of-env
calls::app_arg-shape_of-env t c = let y = c.onward.auto.env in let z = c.apply_env.auto.env in omega arith

pub calls::app_arg-returns : goal.calls::app_arg-returns
calls::app_arg-returns t c = second_gives c.requires.ready_arg c.args.file.src.now c.args.file.index.now c.args.rules.classes.now c.args.methods.now c.args.depth c.args.x c.apply_env.ensures (swept_is c.in_ok-apply_env.was) (long c.args.base.now.words.now c.apply_env.new.work c.args.work.now c.apply_env.auto.work) c.onward.ensures (ok_is c.in_ok-argument.was) (long c.args.base.now.words.now c.onward.new.work c.apply_env.new.work c.onward.auto.work) c.app_end.ensures

pub calls::app_arg-returns-in_err-argument : goal.calls::app_arg-returns-in_err-argument
calls::app_arg-returns-in_err-argument t c = rw (thrown _ c.from_residual-in_err-argument.ensures.1) (second_lost c.requires.ready_arg c.args.file.src.now c.args.file.index.now c.args.rules.classes.now c.args.methods.now c.args.depth c.args.x c.apply_env.ensures (swept_is c.in_ok-apply_env.was) (long c.args.base.now.words.now c.apply_env.new.work c.args.work.now c.apply_env.auto.work) c.onward.ensures (err_is c.in_err-argument.was))

pub calls::app_arg-returns-in_err-apply_env : goal.calls::app_arg-returns-in_err-apply_env
calls::app_arg-returns-in_err-apply_env t c = rw (thrown _ c.from_residual.ensures.1) (arg_lost c.requires.ready_arg c.args.file.src.now c.args.file.index.now c.args.rules.classes.now c.args.methods.now c.args.depth c.args.x c.apply_env.ensures (unswept_is c.in_err-apply_env.was))

pub functions::abs-returns-then-r-order : goal.functions::abs-returns-then-r-order
functions::abs-returns-then-r-order t c = refused_here tt (omega arith) (λ p z. absurd (abs_there c.requires.ready_i c.if-r-order.true z))

pub functions::abs-overflow_add-a : goal.functions::abs-overflow_add-a
functions::abs-overflow_add-a t c = let a = c.requires.ready_i.tvs in omega arith

pub functions::abs-row_at-old-requires : goal.functions::abs-row_at-old-requires
functions::abs-row_at-old-requires t c = abs_row c.requires.ready_i c.args.r c.if-r-order.false

pub functions::abs-put-requires : goal.functions::abs-put-requires
functions::abs-put-requires t c = abs_row c.requires.ready_i c.args.r c.if-r-order.false

pub functions::abs-overflow_add-next : goal.functions::abs-overflow_add-next
functions::abs-overflow_add-next t c = let a = c.requires.ready_i.tvs in omega arith

pub functions::abs-abs_rest-requires : goal.functions::abs-abs_rest-requires
functions::abs-abs_rest-requires t c = let a = c.requires.ready_i.tvs in (omega arith, (c.requires.base_len_bound, (abs_asks c.requires.ready_i c.args.r c.if-r-order.false c.put.ensures, (abs_hidden c.requires.ready_i c.args.r c.if-r-order.false c.put.ensures c.row_at-old.ensures, omega arith))))

pub functions::abs-returns : goal.functions::abs-returns
functions::abs-returns t c = abs_gives c.requires.ready_i c.args.r c.if-r-order.false c.put.ensures c.args.file.src.now c.args.file.index.now c.args.rules.classes.now c.args.methods.now c.args.depth c.args.b c.row_at-old.ensures c.abs_rest.ensures

pub functions::abs_rest-infer-requires : goal.functions::abs_rest-infer-requires
functions::abs_rest-infer-requires t c = (omega arith, (c.requires.base_len_bound, body_asks c.requires.ready_i c.args.a c.requires.hidden c.requires.a_lt_first_nullary))

pub functions::abs_rest-abs_end-requires : goal.functions::abs_rest-abs_end-requires
functions::abs_rest-abs_end-requires t c = let b = c.requires.base_len_bound in let m = body_more c.requires.ready_i c.args.a c.requires.hidden c.requires.a_lt_first_nullary c.args.depth c.infer.ensures (ok_is c.in_ok-body.was) (long c.args.base.now.words.now c.infer.new.work c.args.work.now c.infer.auto.work) in record { base_len_bound = omega arith; ready_abs_end = body_ends c.requires.ready_i c.args.a c.requires.hidden c.requires.a_lt_first_nullary c.args.depth c.infer.ensures (ok_is c.in_ok-body.was) (long c.args.base.now.words.now c.infer.new.work c.args.work.now c.infer.auto.work) }

pub functions::abs_rest-returns : goal.functions::abs_rest-returns
functions::abs_rest-returns t c = body_gives c.requires.ready_i c.args.a c.requires.hidden c.requires.a_lt_first_nullary c.args.depth c.infer.ensures (ok_is c.in_ok-body.was) (long c.args.base.now.words.now c.infer.new.work c.args.work.now c.infer.auto.work) c.abs_end.ensures

pub functions::abs_rest-returns-in_err-body : goal.functions::abs_rest-returns-in_err-body
functions::abs_rest-returns-in_err-body t c = rw (thrown _ c.from_residual.ensures.1) (body_lost c.requires.ready_i c.args.a c.requires.hidden c.requires.a_lt_first_nullary c.args.depth c.infer.ensures (err_is c.in_err-body.was))

pub infer-returns-then-depth-eq0 : goal.infer-returns-then-depth-eq0
infer-returns-then-depth-eq0 t c = infer_deep c.requires.ready_i c.args.file.src.now c.args.file.index.now c.args.rules.classes.now c.args.methods.now c.args.depth c.args.i c.if-depth-eq0.true

pub infer-returns-then-room-eq0 : goal.infer-returns-then-room-eq0
infer-returns-then-room-eq0 t c = infer_spent c.requires.ready_i c.args.file.src.now c.args.file.index.now c.args.rules.classes.now c.args.methods.now c.args.depth c.args.i c.if-depth-eq0.false c.if-room-eq0.true

pub infer-name-requires : goal.infer-name-requires
infer-name-requires t c = record { base_len_bound = c.requires.base_len_bound; ready_i = infer_asks c.requires.ready_i c.args.file.src.now c.args.file.index.now c.args.rules.classes.now c.args.methods.now c.args.depth c.args.i c.if-depth-eq0.false c.if-room-eq0.false 0 0 0 (omega arith) (omega arith) (omega arith) }

pub infer-number-requires : goal.infer-number-requires
infer-number-requires t c = record { base_len_bound = c.requires.base_len_bound; ready_i = infer_asks c.requires.ready_i c.args.file.src.now c.args.file.index.now c.args.rules.classes.now c.args.methods.now c.args.depth c.args.i c.if-depth-eq0.false c.if-room-eq0.false 8 0 0 (omega arith) (omega arith) (omega arith) }

pub infer-truth-requires : goal.infer-truth-requires
infer-truth-requires t c = record { base_len_bound = c.requires.base_len_bound; ready_i = infer_asks c.requires.ready_i c.args.file.src.now c.args.file.index.now c.args.rules.classes.now c.args.methods.now c.args.depth c.args.i c.if-depth-eq0.false c.if-room-eq0.false 8 0 0 (omega arith) (omega arith) (omega arith) }

pub infer-abs-requires : goal.infer-abs-requires
infer-abs-requires t c = let y = c.if-depth-eq0.false in (omega arith, (c.requires.base_len_bound, infer_asks c.requires.ready_i c.args.file.src.now c.args.file.index.now c.args.rules.classes.now c.args.methods.now c.args.depth c.args.i c.if-depth-eq0.false c.if-room-eq0.false 8 1 1 (omega arith) (omega arith) (omega arith)))

pub infer-app-requires : goal.infer-app-requires
infer-app-requires t c = let y = c.if-depth-eq0.false in (omega arith, (c.requires.base_len_bound, infer_asks c.requires.ready_i c.args.file.src.now c.args.file.index.now c.args.rules.classes.now c.args.methods.now c.args.depth c.args.i c.if-depth-eq0.false c.if-room-eq0.false 8 1 1 (omega arith) (omega arith) (omega arith)))

pub infer-binding-requires : goal.infer-binding-requires
infer-binding-requires t c = let y = c.if-depth-eq0.false in (omega arith, (c.requires.base_len_bound, infer_asks c.requires.ready_i c.args.file.src.now c.args.file.index.now c.args.rules.classes.now c.args.methods.now c.args.depth c.args.i c.if-depth-eq0.false c.if-room-eq0.false 8 0 1 (omega arith) (omega arith) (omega arith)))

pub infer-returns-in-Var : goal.infer-returns-in-Var
infer-returns-in-Var t c = infer_name c.requires.ready_i c.args.file.src.now c.args.file.index.now c.args.rules.classes.now c.args.methods.now c.args.depth c.args.i c.if-depth-eq0.false c.if-room-eq0.false c.expr_at.ensures (node_is c.in-Some.is c.in-Var.is) c.name.ensures

pub infer-returns-in-Int : goal.infer-returns-in-Int
infer-returns-in-Int t c = infer_int c.requires.ready_i c.args.file.src.now c.args.file.index.now c.args.rules.classes.now c.args.methods.now c.args.depth c.args.i c.if-depth-eq0.false c.if-room-eq0.false c.expr_at.ensures (node_is c.in-Some.is c.in-Int.is) c.number.ensures

pub infer-returns-in-Bool : goal.infer-returns-in-Bool
infer-returns-in-Bool t c = infer_bool c.requires.ready_i c.args.file.src.now c.args.file.index.now c.args.rules.classes.now c.args.methods.now c.args.depth c.args.i c.if-depth-eq0.false c.if-room-eq0.false c.expr_at.ensures (node_is c.in-Some.is c.in-Bool.is) c.truth.ensures

pub infer-returns-in-Abs : goal.infer-returns-in-Abs
infer-returns-in-Abs t c = infer_abs c.requires.ready_i c.args.file.src.now c.args.file.index.now c.args.rules.classes.now c.args.methods.now c.args.depth c.args.i c.if-depth-eq0.false c.if-room-eq0.false c.expr_at.ensures (node_is c.in-Some.is c.in-Abs.is) c.abs.ensures

pub infer-returns-in-App : goal.infer-returns-in-App
infer-returns-in-App t c = infer_app c.requires.ready_i c.args.file.src.now c.args.file.index.now c.args.rules.classes.now c.args.methods.now c.args.depth c.args.i c.if-depth-eq0.false c.if-room-eq0.false c.expr_at.ensures (node_is c.in-Some.is c.in-App.is) c.app.ensures

pub infer-returns-in-Let : goal.infer-returns-in-Let
infer-returns-in-Let t c = infer_let c.requires.ready_i c.args.file.src.now c.args.file.index.now c.args.rules.classes.now c.args.methods.now c.args.depth c.args.i c.if-depth-eq0.false c.if-room-eq0.false c.expr_at.ensures (node_is c.in-Some.is c.in-Let.is) c.binding.ensures

pub infer-returns-in_default : goal.infer-returns-in_default
infer-returns-in_default t c = infer_nothing c.requires.ready_i c.args.file.src.now c.args.file.index.now c.args.rules.classes.now c.args.methods.now c.args.depth c.args.i c.if-depth-eq0.false c.if-room-eq0.false c.expr_at.ensures c.in_default.is

pub inside::let_body-returns-then-r-order : goal.inside::let_body-returns-then-r-order
inside::let_body-returns-then-r-order t c = refused_here tt (omega arith) (λ p z. absurd (let_there c.requires.ready_body c.if-r-order.true z))

pub inside::let_body-row_at-old-requires : goal.inside::let_body-row_at-old-requires
inside::let_body-row_at-old-requires t c = let_row c.requires.ready_body c.args.r c.if-r-order.false

pub inside::let_body-put-requires : goal.inside::let_body-put-requires
inside::let_body-put-requires t c = let_row c.requires.ready_body c.args.r c.if-r-order.false

pub inside::let_body-let_rest-requires : goal.inside::let_body-let_rest-requires
inside::let_body-let_rest-requires t c = (omega arith, (c.requires.base_len_bound, (let_asks c.requires.ready_body c.args.r c.if-r-order.false c.put.ensures, let_hidden c.requires.ready_body c.args.r c.if-r-order.false c.put.ensures c.row_at-old.ensures)))

pub inside::let_body-returns : goal.inside::let_body-returns
inside::let_body-returns t c = let_gives c.requires.ready_body c.args.r c.if-r-order.false c.put.ensures c.args.file.src.now c.args.file.index.now c.args.rules.classes.now c.args.methods.now c.args.depth c.args.f c.row_at-old.ensures c.let_rest.ensures

pub inside::let_rest-overflow_mul-at : goal.inside::let_rest-overflow_mul-at
inside::let_rest-overflow_mul-at t c = let z = c.requires.ready_body.ready.room in omega arith

pub inside::let_rest-overflow_sub-at : goal.inside::let_rest-overflow_sub-at
inside::let_rest-overflow_sub-at t c = let z = c.requires.ready_body.ready.room in omega arith

pub inside::let_rest-onward-requires : goal.inside::let_rest-onward-requires
inside::let_rest-onward-requires t c = let q = rest_asks c.requires.ready_body c.requires.hidden in (omega arith, (c.requires.base_len_bound, (q.0, q.1)))

pub inside::let_rest-overflow_add-body : goal.inside::let_rest-overflow_add-body
inside::let_rest-overflow_add-body t c = let q = (rest_more c.requires.ready_body c.requires.hidden c.args.depth c.onward.ensures (ok_is c.in_ok-body.was) (long c.args.base.now.words.now c.onward.new.work c.args.work.now c.onward.auto.work)).1 in let o = c.onward.ensures.wide in let g = c.well_formed.1.1.1.1.1.1.1.1.1.1.0.0 in omega arith

pub inside::let_rest-let_end-requires : goal.inside::let_rest-let_end-requires
inside::let_rest-let_end-requires t c = let b = c.requires.base_len_bound in let m = (rest_more c.requires.ready_body c.requires.hidden c.args.depth c.onward.ensures (ok_is c.in_ok-body.was) (long c.args.base.now.words.now c.onward.new.work c.args.work.now c.onward.auto.work)).0 in record { base_len_bound = omega arith; ready_let_end = rest_ends c.requires.ready_body c.requires.hidden c.args.depth c.onward.ensures (ok_is c.in_ok-body.was) (long c.args.base.now.words.now c.onward.new.work c.args.work.now c.onward.auto.work) }

pub inside::let_rest-returns : goal.inside::let_rest-returns
inside::let_rest-returns t c = rest_gives c.requires.ready_body c.requires.hidden c.args.depth c.onward.ensures (ok_is c.in_ok-body.was) (long c.args.base.now.words.now c.onward.new.work c.args.work.now c.onward.auto.work) c.let_end.ensures

pub inside::let_rest-returns-in_err-body : goal.inside::let_rest-returns-in_err-body
inside::let_rest-returns-in_err-body t c = rw (thrown _ c.from_residual.ensures.1) (rest_lost c.requires.ready_body c.requires.hidden c.args.depth c.onward.ensures (err_is c.in_err-body.was))

pub lets::binding-infer-requires : goal.lets::binding-infer-requires
lets::binding-infer-requires t c = (omega arith, (c.requires.base_len_bound, bound_asks c.requires.ready_i c.args.r))

pub lets::binding-let_mid-requires : goal.lets::binding-let_mid-requires
lets::binding-let_mid-requires t c = let b = c.requires.base_len_bound in let m = bound_more c.requires.ready_i c.args.r c.args.depth c.args.f c.infer.ensures (ok_is c.in_ok-bound.was) (long c.args.base.now.words.now c.infer.new.work c.args.work.now c.infer.auto.work) in (omega arith, (omega arith, bound_mid c.requires.ready_i c.args.r c.args.depth c.args.f c.infer.ensures (ok_is c.in_ok-bound.was) (long c.args.base.now.words.now c.infer.new.work c.args.work.now c.infer.auto.work)))

pub lets::binding-returns : goal.lets::binding-returns
lets::binding-returns t c = bound_gives c.requires.ready_i c.args.r c.args.depth c.args.f c.infer.ensures (ok_is c.in_ok-bound.was) (long c.args.base.now.words.now c.infer.new.work c.args.work.now c.infer.auto.work) c.let_mid.ensures

pub lets::binding-returns-in_err-bound : goal.lets::binding-returns-in_err-bound
lets::binding-returns-in_err-bound t c = rw (thrown _ c.from_residual.ensures.1) (bound_lost c.requires.ready_i c.args.r c.args.depth c.args.f c.infer.ensures (err_is c.in_err-bound.was))

pub lets::let_mid-general-requires : goal.lets::let_mid-general-requires
lets::let_mid-general-requires t c = record { base_len_bound = c.requires.base_len_bound; ready_mid = c.requires.ready_mid }

pub lets::let_mid-let_body-requires : goal.lets::let_mid-let_body-requires
lets::let_mid-let_body-requires t c = let b = c.requires.base_len_bound in let m = mid_more c.requires.ready_mid c.args.r c.args.file.src.now c.args.file.index.now c.args.rules.classes.now c.args.methods.now c.args.depth c.args.f c.general.ensures (general_is c.in_ok-g.was) (long c.args.base.now.words.now c.general.new.work c.args.work.now c.general.auto.work) in (omega arith, (omega arith, mid_body c.requires.ready_mid c.args.r c.args.file.src.now c.args.file.index.now c.args.rules.classes.now c.args.methods.now c.args.depth c.args.f c.general.ensures (general_is c.in_ok-g.was) (long c.args.base.now.words.now c.general.new.work c.args.work.now c.general.auto.work)))

pub lets::let_mid-returns : goal.lets::let_mid-returns
lets::let_mid-returns t c = mid_gives c.requires.ready_mid c.args.r c.args.file.src.now c.args.file.index.now c.args.rules.classes.now c.args.methods.now c.args.depth c.args.f c.general.ensures (general_is c.in_ok-g.was) (long c.args.base.now.words.now c.general.new.work c.args.work.now c.general.auto.work) c.let_body.ensures

pub lets::let_mid-returns-in_err-g : goal.lets::let_mid-returns-in_err-g
lets::let_mid-returns-in_err-g t c = rw (thrown _ c.from_residual.ensures.1) (mid_lost c.requires.ready_mid c.args.r c.args.file.src.now c.args.file.index.now c.args.rules.classes.now c.args.methods.now c.args.depth c.args.f c.general.ensures (general_refused c.in_err-g.was))

pub onward-overflow_mul-from : goal.onward-overflow_mul-from
onward-overflow_mul-from t c = let h = c.requires.m_in_bounds in let g = c.well_formed.1.1.1.1.1.1.1.1.1.1.0.0 in omega arith

pub onward-offset_bounds-binders-from : goal.onward-offset_bounds-binders-from
onward-offset_bounds-binders-from t c = let h = c.requires.m_in_bounds in let g = c.well_formed.1.1.1.1.1.1.1.1.1.1.0.0 in search rules

pub onward-slice_bounds-infer-count : goal.onward-slice_bounds-infer-count
onward-slice_bounds-infer-count t c = let h = c.requires.m_in_bounds in search rules

pub onward-slice_bounds-infer-start : goal.onward-slice_bounds-infer-start
onward-slice_bounds-infer-start t c = let h = c.requires.m_in_bounds in omega arith

pub onward-infer-requires : goal.onward-infer-requires
onward-infer-requires t c = (omega arith, (c.requires.base_len_bound, onward_asks c.args.m c.args.binders.now (3 * c.args.m) _ refl refl c.requires.ready_i))

pub onward-returns : goal.onward-returns
onward-returns t c = onward_gives c.args.binders.now c.infer.new.binders (3 * c.args.m) _ refl c.requires.m_in_bounds c.infer.auto.binders refl c.infer.ensures
