-- The cycle of `apply_but` and `args_but`: each way out by its law of `Ways`, or by one of `Hand` where there was no call. The measure is the word.
use mathlib.Core.Path.{◌∙◌}
use native.Mathlib.Omega.{arith}
use Rattle.ast.proofs.Join.{both_fit}
use Rattle.ast.proofs.Laws.{con_child, arrow_left, arrow_right, cons_head, cons_tail}
use Rattle.errors.proofs.Thrown.{thrown}
use Rattle.pairs.proofs.Frames.{long}
use Rattle.apply.proofs.Hand.{gives, stays, refuses}
use Rattle.apply.proofs.Seen.{ok_is, err_is}
use Rattle.apply.proofs.Arms.{no_depth, no_steps, at_nullary, at_nil, but_first}
use Rattle.apply.proofs.Ways.{var_given, con_refused, con_done, arrow_refused, arrow_next, arrow_refused_2, arrow_done, cons_refused, cons_next, cons_refused_2, cons_room, cons_done}
use Rattle.apply.proofs.+apply_but_args_but.Goals as goal

pub apply_but-returns-then-depth-eq0 : goal.apply_but-returns-then-depth-eq0
apply_but-returns-then-depth-eq0 t c = gives (refuses (no_depth _ _ _ _ c.if-depth-eq0.true) tt (omega arith))

pub apply_but-returns-then-room-eq0 : goal.apply_but-returns-then-room-eq0
apply_but-returns-then-room-eq0 t c = gives (refuses (no_steps _ _ _ _ c.if-depth-eq0.false c.if-room-eq0.true ∙ rw c.if-room-eq0.true) tt (omega arith))

pub apply_but-returns-then-b-eq-NIL : goal.apply_but-returns-then-b-eq-NIL
apply_but-returns-then-b-eq-NIL t c = gives (stays (at_nullary _ c.requires.ready_but.ty.node _ c.if-depth-eq0.false c.if-room-eq0.false c.shape_at-s.ensures c.in-Con.is c.if-b-eq-NIL.true) c.requires.ready_but.ty.node (omega arith) (omega arith))

pub apply_but-args_but-requires : goal.apply_but-args_but-requires
apply_but-args_but-requires t c = let k = con_child c.requires.ready_but.ty.node c.shape_at-s.ensures c.in-Con.is in (omega arith, (c.requires.base_len_bound, but_first c.requires.ready_but (omega arith) k.1))

pub apply_but-returns-in_err-m-in-Con : goal.apply_but-returns-in_err-m-in-Con
apply_but-returns-in_err-m-in-Con t c = rw (thrown _ c.from_residual.ensures.1) (con_refused c.requires.ready_but c.if-depth-eq0.false c.if-room-eq0.false c.shape_at-s.ensures c.in-Con.is c.args_but.ensures (err_is c.in_err-m-in-Con.was))

pub apply_but-returns-in-Var : goal.apply_but-returns-in-Var
apply_but-returns-in-Var t c = rw c.unwrap_or.ensures (var_given c.requires.ready_but c.if-depth-eq0.false c.if-room-eq0.false c.shape_at-s.ensures c.in-Var.is _ c.find_but-f.ensures)

pub apply_but-returns-in_ok-m-in-Con : goal.apply_but-returns-in_ok-m-in-Con
apply_but-returns-in_ok-m-in-Con t c = rw (c.add.ensures.word, c.add.ensures.top, c.add.ensures.left) (con_done c.requires.ready_but c.if-depth-eq0.false c.if-room-eq0.false c.shape_at-s.ensures c.in-Con.is c.args_but.ensures (ok_is c.in_ok-m-in-Con.was) (long c.args.base.now.words.now c.args_but.new.work c.args.work.now c.args_but.auto.work) (both_fit c.args.base.now.words.now c.args.work.now (omega arith) c.well_formed.1.0.0) c.add.ensures.is)

pub apply_but-apply_but-requires : goal.apply_but-apply_but-requires
apply_but-apply_but-requires t c = let k = arrow_left c.requires.ready_but.ty.node c.shape_at-s.ensures c.in-Arrow.is in (omega arith, (c.requires.base_len_bound, but_first c.requires.ready_but (omega arith) k.1))

pub apply_but-returns-in_err-m-in-Arrow : goal.apply_but-returns-in_err-m-in-Arrow
apply_but-returns-in_err-m-in-Arrow t c = rw (thrown _ c.from_residual-in_err-m-in-Arrow.ensures.1) (arrow_refused c.requires.ready_but c.if-depth-eq0.false c.if-room-eq0.false c.shape_at-s.ensures c.in-Arrow.is c.apply_but.ensures (err_is c.in_err-m-in-Arrow.was))

pub apply_but-apply_but-requires-in-Arrow : goal.apply_but-apply_but-requires-in-Arrow
apply_but-apply_but-requires-in-Arrow t c = let k = arrow_right c.requires.ready_but.ty.node c.shape_at-s.ensures c.in-Arrow.is in let q = arrow_next c.requires.ready_but c.if-depth-eq0.false c.if-room-eq0.false c.shape_at-s.ensures c.in-Arrow.is c.apply_but.ensures (ok_is c.in_ok-m-in-Arrow.was) (long c.args.base.now.words.now c.apply_but.new.work c.args.work.now c.apply_but.auto.work) in let m = q.0 in let cl = c.requires.base_len_bound in (omega arith, (omega arith, q.1))

pub apply_but-returns-in_err-n-in-Arrow : goal.apply_but-returns-in_err-n-in-Arrow
apply_but-returns-in_err-n-in-Arrow t c = rw (thrown _ c.from_residual-in_err-n-in-Arrow.ensures.1) (arrow_refused_2 c.requires.ready_but c.if-depth-eq0.false c.if-room-eq0.false c.shape_at-s.ensures c.in-Arrow.is c.apply_but.ensures (ok_is c.in_ok-m-in-Arrow.was) c.apply_but-in-Arrow.ensures (err_is c.in_err-n-in-Arrow.was))

pub apply_but-returns-in_ok-n-in-Arrow : goal.apply_but-returns-in_ok-n-in-Arrow
apply_but-returns-in_ok-n-in-Arrow t c = rw (c.add-in-Arrow.ensures.word, c.add-in-Arrow.ensures.top, c.add-in-Arrow.ensures.left) (arrow_done c.requires.ready_but c.if-depth-eq0.false c.if-room-eq0.false c.shape_at-s.ensures c.in-Arrow.is c.apply_but.ensures (ok_is c.in_ok-m-in-Arrow.was) c.apply_but-in-Arrow.ensures (ok_is c.in_ok-n-in-Arrow.was) (long c.args.base.now.words.now c.apply_but-in-Arrow.new.work c.args.work.now (c.apply_but-in-Arrow.auto.work ∙ c.apply_but.auto.work)) (both_fit c.args.base.now.words.now c.args.work.now (omega arith) c.well_formed.1.0.0) c.add-in-Arrow.ensures.is)

pub args_but-apply_but-requires : goal.args_but-apply_but-requires
args_but-apply_but-requires t c = let k = cons_head c.requires.ready_but.ty.node c.cell_at-c.ensures c.in-Cons.is in (omega arith, (c.requires.base_len_bound, but_first c.requires.ready_but (omega arith) k.1))

pub args_but-returns-in_err-m-in-Cons : goal.args_but-returns-in_err-m-in-Cons
args_but-returns-in_err-m-in-Cons t c = rw (thrown _ c.from_residual.ensures.1) (cons_refused _ c.requires.ready_but c.cell_at-c.ensures c.in-Cons.is c.apply_but.ensures (err_is c.in_err-m-in-Cons.was))

pub args_but-args_but-requires : goal.args_but-args_but-requires
args_but-args_but-requires t c = let k = cons_tail c.requires.ready_but.ty.node c.cell_at-c.ensures c.in-Cons.is in let q = cons_next _ c.requires.ready_but c.cell_at-c.ensures c.in-Cons.is c.apply_but.ensures (ok_is c.in_ok-m-in-Cons.was) (long c.args.base.now.words.now c.apply_but.new.work c.args.work.now c.apply_but.auto.work) in let m = q.0 in let cl = c.requires.base_len_bound in (omega arith, (omega arith, q.1))

pub args_but-returns-in_err-l-in-Cons : goal.args_but-returns-in_err-l-in-Cons
args_but-returns-in_err-l-in-Cons t c = rw (thrown _ c.from_residual-in_err-l-in-Cons.ensures.1) (cons_refused_2 _ c.requires.ready_but c.cell_at-c.ensures c.in-Cons.is c.apply_but.ensures (ok_is c.in_ok-m-in-Cons.was) c.args_but.ensures (err_is c.in_err-l-in-Cons.was))

pub args_but-add-requires-clause-top_in_bounds : goal.args_but-add-requires-clause-top_in_bounds
args_but-add-requires-clause-top_in_bounds t c = (cons_room _ c.requires.ready_but c.cell_at-c.ensures c.in-Cons.is c.apply_but.ensures (ok_is c.in_ok-m-in-Cons.was) c.args_but.ensures (ok_is c.in_ok-l-in-Cons.was) (long c.args.base.now.words.now c.args_but.new.work c.args.work.now (c.args_but.auto.work ∙ c.apply_but.auto.work)) (both_fit c.args.base.now.words.now c.args.work.now (omega arith) c.well_formed.1.0.0)).room

pub args_but-returns-in-Nil : goal.args_but-returns-in-Nil
args_but-returns-in-Nil t c = gives (stays (at_nil _ c.requires.ready_but.ty.node _ _ _ c.cell_at-c.ensures c.in-Nil.is) c.requires.ready_but.ty.node (omega arith) (omega arith))

pub args_but-returns-in_ok-l-in-Cons : goal.args_but-returns-in_ok-l-in-Cons
args_but-returns-in_ok-l-in-Cons t c = rw (c.add.ensures.word, c.add.ensures.top, c.add.ensures.left) (cons_done _ c.requires.ready_but c.cell_at-c.ensures c.in-Cons.is c.apply_but.ensures (ok_is c.in_ok-m-in-Cons.was) c.args_but.ensures (ok_is c.in_ok-l-in-Cons.was) (long c.args.base.now.words.now c.args_but.new.work c.args.work.now (c.args_but.auto.work ∙ c.apply_but.auto.work)) (both_fit c.args.base.now.words.now c.args.work.now (omega arith) c.well_formed.1.0.0) c.add.ensures.is)
