-- The cycle of `rename` and `rename_list`: each way out by its law of `Arms` or `Ways`. The measure is the word.
use mathlib.Core.Path.{◌∙◌}
use native.Mathlib.Omega.{arith}
use Rattle.ast.proofs.Join.{both_fit}
use Rattle.ast.proofs.Laws.{con_child, arrow_left, arrow_right, cons_head, cons_tail}
use Rattle.pairs.proofs.Frames.{long}
use Rattle.errors.proofs.Thrown.{thrown}
use Rattle.apply.proofs.Seen.{ok_is, err_is}
use Rattle.rename.proofs.Arms.{ready_first, too_deep, no_step, var_done, nullary_done, nil_done}
use Rattle.rename.proofs.Ways.{con_refused, con_done, arrow_refused, arrow_next, arrow_refused_2, arrow_done, cons_refused, cons_next, cons_refused_2, cons_done}
use Rattle.rename.proofs.+rename_rename_list.Goals as goal

pub rename-returns-then-depth-eq0 : goal.rename-returns-then-depth-eq0
rename-returns-then-depth-eq0 t c = too_deep c.requires.ready_rename c.if-depth-eq0.true

pub rename-returns-then-room-eq0 : goal.rename-returns-then-room-eq0
rename-returns-then-room-eq0 t c = no_step c.requires.ready_rename c.if-depth-eq0.false c.if-room-eq0.true

pub rename-returns-in-Var : goal.rename-returns-in-Var
rename-returns-in-Var t c = var_done c.requires.ready_rename c.if-depth-eq0.false c.if-room-eq0.false c.shape_at-s.ensures c.in-Var.is c.renamed.ensures

pub rename-returns-then-b-eq-NIL : goal.rename-returns-then-b-eq-NIL
rename-returns-then-b-eq-NIL t c = nullary_done c.requires.ready_rename c.if-depth-eq0.false c.if-room-eq0.false c.shape_at-s.ensures c.in-Con.is c.if-b-eq-NIL.true

pub rename-rename_list-requires : goal.rename-rename_list-requires
rename-rename_list-requires t c = let k = con_child c.requires.ready_rename.node c.shape_at-s.ensures c.in-Con.is in (omega arith, (c.requires.base_len_bound, ready_first c.requires.ready_rename (omega arith) k.1))

pub rename-returns-in_err-m-in-Con : goal.rename-returns-in_err-m-in-Con
rename-returns-in_err-m-in-Con t c = rw (thrown _ c.from_residual.ensures.1) (con_refused c.requires.ready_rename c.if-depth-eq0.false c.if-room-eq0.false c.shape_at-s.ensures c.in-Con.is c.rename_list.ensures (err_is c.in_err-m-in-Con.was))

pub rename-returns-in_ok-m-in-Con : goal.rename-returns-in_ok-m-in-Con
rename-returns-in_ok-m-in-Con t c = let z = c.add.ensures in rw (z.word, z.top, z.left) (con_done c.requires.ready_rename c.if-depth-eq0.false c.if-room-eq0.false c.shape_at-s.ensures c.in-Con.is c.rename_list.ensures (ok_is c.in_ok-m-in-Con.was) (long c.args.base.now.words.now c.rename_list.new.work c.args.work.now c.rename_list.auto.work) (both_fit c.args.base.now.words.now c.args.work.now (omega arith) c.well_formed.1.0.0) z.is)

pub rename-rename-requires : goal.rename-rename-requires
rename-rename-requires t c = let k = arrow_left c.requires.ready_rename.node c.shape_at-s.ensures c.in-Arrow.is in (omega arith, (c.requires.base_len_bound, ready_first c.requires.ready_rename (omega arith) k.1))

pub rename-returns-in_err-m-in-Arrow : goal.rename-returns-in_err-m-in-Arrow
rename-returns-in_err-m-in-Arrow t c = rw (thrown _ c.from_residual-in_err-m-in-Arrow.ensures.1) (arrow_refused c.requires.ready_rename c.if-depth-eq0.false c.if-room-eq0.false c.shape_at-s.ensures c.in-Arrow.is c.rename.ensures (err_is c.in_err-m-in-Arrow.was))

pub rename-rename-requires-in-Arrow : goal.rename-rename-requires-in-Arrow
rename-rename-requires-in-Arrow t c = let k = arrow_right c.requires.ready_rename.node c.shape_at-s.ensures c.in-Arrow.is in let q = arrow_next c.requires.ready_rename c.if-depth-eq0.false c.if-room-eq0.false c.shape_at-s.ensures c.in-Arrow.is c.rename.ensures (ok_is c.in_ok-m-in-Arrow.was) (long c.args.base.now.words.now c.rename.new.work c.args.work.now c.rename.auto.work) in let m = q.0 in let cl = c.requires.base_len_bound in (omega arith, (omega arith, q.1))

pub rename-returns-in_err-n-in-Arrow : goal.rename-returns-in_err-n-in-Arrow
rename-returns-in_err-n-in-Arrow t c = rw (thrown _ c.from_residual-in_err-n-in-Arrow.ensures.1) (arrow_refused_2 c.requires.ready_rename c.if-depth-eq0.false c.if-room-eq0.false c.shape_at-s.ensures c.in-Arrow.is c.rename.ensures (ok_is c.in_ok-m-in-Arrow.was) c.rename-in-Arrow.ensures (err_is c.in_err-n-in-Arrow.was))

pub rename-returns-in_ok-n-in-Arrow : goal.rename-returns-in_ok-n-in-Arrow
rename-returns-in_ok-n-in-Arrow t c = let z = c.add-in-Arrow.ensures in rw (z.word, z.top, z.left) (arrow_done c.requires.ready_rename c.if-depth-eq0.false c.if-room-eq0.false c.shape_at-s.ensures c.in-Arrow.is c.rename.ensures (ok_is c.in_ok-m-in-Arrow.was) c.rename-in-Arrow.ensures (ok_is c.in_ok-n-in-Arrow.was) (long c.args.base.now.words.now c.rename-in-Arrow.new.work c.args.work.now (c.rename-in-Arrow.auto.work ∙ c.rename.auto.work)) (both_fit c.args.base.now.words.now c.args.work.now (omega arith) c.well_formed.1.0.0) z.is)

pub rename_list-returns-in-Nil : goal.rename_list-returns-in-Nil
rename_list-returns-in-Nil t c = nil_done _ c.requires.ready_rename c.cell_at-c.ensures c.in-Nil.is

pub rename_list-rename-requires : goal.rename_list-rename-requires
rename_list-rename-requires t c = let k = cons_head c.requires.ready_rename.node c.cell_at-c.ensures c.in-Cons.is in (omega arith, (c.requires.base_len_bound, ready_first c.requires.ready_rename (omega arith) k.1))

pub rename_list-returns-in_err-m-in-Cons : goal.rename_list-returns-in_err-m-in-Cons
rename_list-returns-in_err-m-in-Cons t c = rw (thrown _ c.from_residual.ensures.1) (cons_refused _ c.requires.ready_rename c.cell_at-c.ensures c.in-Cons.is c.rename.ensures (err_is c.in_err-m-in-Cons.was))

pub rename_list-rename_list-requires : goal.rename_list-rename_list-requires
rename_list-rename_list-requires t c = let k = cons_tail c.requires.ready_rename.node c.cell_at-c.ensures c.in-Cons.is in let q = cons_next _ c.requires.ready_rename c.cell_at-c.ensures c.in-Cons.is c.rename.ensures (ok_is c.in_ok-m-in-Cons.was) (long c.args.base.now.words.now c.rename.new.work c.args.work.now c.rename.auto.work) in let m = q.0 in let cl = c.requires.base_len_bound in (omega arith, (omega arith, q.1))

pub rename_list-returns-in_err-l-in-Cons : goal.rename_list-returns-in_err-l-in-Cons
rename_list-returns-in_err-l-in-Cons t c = rw (thrown _ c.from_residual-in_err-l-in-Cons.ensures.1) (cons_refused_2 _ c.requires.ready_rename c.cell_at-c.ensures c.in-Cons.is c.rename.ensures (ok_is c.in_ok-m-in-Cons.was) c.rename_list.ensures (err_is c.in_err-l-in-Cons.was))

pub rename_list-returns-in_ok-l-in-Cons : goal.rename_list-returns-in_ok-l-in-Cons
rename_list-returns-in_ok-l-in-Cons t c = let z = c.add.ensures in rw (z.word, z.top, z.left) (cons_done _ c.requires.ready_rename c.cell_at-c.ensures c.in-Cons.is c.rename.ensures (ok_is c.in_ok-m-in-Cons.was) c.rename_list.ensures (ok_is c.in_ok-l-in-Cons.was) (long c.args.base.now.words.now c.rename_list.new.work c.args.work.now (c.rename_list.auto.work ∙ c.rename.auto.work)) (both_fit c.args.base.now.words.now c.args.work.now (omega arith) c.well_formed.1.0.0) z.is)
