-- The measure is four times the steps left, and who calls whom at the same number of them.
use native.Mathlib.Omega.{arith}
use Rattle.pairs.proofs.Frames.{long}
use Rattle.errors.proofs.Thrown.{thrown}
use Rattle.apply.proofs.Seen.{ok_is, err_is}
use Rattle.compose.proofs.Hand.{got}
use Rattle.matching.proofs.Steps.{one_fails, one_both, one_more, one_done, zip_end, zip_end_2, zip_one, zip_fails, zip_ready, zip_goes}
use Rattle.matching.proofs.Heads.{cons_first, cons_second, cons_ready, cons_names, cons_lengths, cons_go, arrow_fails, arrow_goes}
use Rattle.matching.proofs.Ways.{ty_deep, ty_spent, ty_var, ty_con_var, ty_con_arrow, ty_arrow_var, ty_arrow_con, ty_cons, ty_sides, ty_arrows}
use Rattle.matching.proofs.+match_arrow_match_cons_match_one_match_ty_match_zip.Goals as goal

pub match_arrow-returns : goal.match_arrow-returns
match_arrow-returns t c = arrow_goes c.requires.ready_arrow c.args.depth c.match_ty.ensures (ok_is c.in_ok-k.was) c.match_one.ensures

pub match_arrow-returns-in_err-k : goal.match_arrow-returns-in_err-k
match_arrow-returns-in_err-k t c = rw (thrown _ c.from_residual.ensures.1) (arrow_fails c.requires.ready_arrow c.args.depth c.match_ty.ensures (err_is c.in_err-k.was))

pub match_cons-returns-then-c-d : goal.match_cons-returns-then-c-d
match_cons-returns-then-c-d t c = cons_names c.requires.ready_u c.requires.shapes c.args.depth c.if-c-d.true

pub match_cons-count_list-i-requires : goal.match_cons-count_list-i-requires
match_cons-count_list-i-requires t c = cons_first c.requires.ready_u c.requires.shapes

pub match_cons-count_list-j-requires : goal.match_cons-count_list-j-requires
match_cons-count_list-j-requires t c = cons_second c.requires.ready_u c.requires.shapes

pub match_cons-returns-then-i-j : goal.match_cons-returns-then-i-j
match_cons-returns-then-i-j t c = cons_lengths c.requires.ready_u c.requires.shapes c.args.depth c.count_list-i.ensures c.count_list-j.ensures c.if-c-d.false c.if-i-j.true

pub match_cons-match_zip-requires : goal.match_cons-match_zip-requires
match_cons-match_zip-requires t c = (omega arith, (c.requires.base_len_bound, cons_ready c.requires.ready_u c.requires.shapes))

pub match_cons-returns : goal.match_cons-returns
match_cons-returns t c = cons_go c.requires.ready_u c.requires.shapes c.args.depth c.count_list-i.ensures c.count_list-j.ensures c.if-c-d.false c.if-i-j.false c.match_zip.ensures

pub match_one-merge_pairs-requires : goal.match_one-merge_pairs-requires
match_one-merge_pairs-requires t c = let b = c.requires.base_len_bound in let m = one_more c.requires.ready_one c.args.depth c.match_ty.ensures (ok_is c.in_ok-k2.was) in record { base_len_bound = omega arith; both = one_both c.requires.ready_one c.args.depth c.match_ty.ensures (ok_is c.in_ok-k2.was) (long c.args.base.now.words.now c.match_ty.new.work c.args.work.now c.match_ty.auto.work) }

pub match_one-returns : goal.match_one-returns
match_one-returns t c = one_done c.requires.ready_one c.args.depth c.match_ty.ensures (ok_is c.in_ok-k2.was) c.merge_pairs.ensures

pub match_one-returns-in_err-k2 : goal.match_one-returns-in_err-k2
match_one-returns-in_err-k2 t c = rw (thrown _ c.from_residual.ensures.1) (one_fails c.requires.ready_one c.args.depth c.match_ty.ensures (err_is c.in_err-k2.was))

pub match_ty-returns-then-depth-eq0 : goal.match_ty-returns-then-depth-eq0
match_ty-returns-then-depth-eq0 t c = ty_deep c.requires.ready_u _ c.if-depth-eq0.true

pub match_ty-returns-then-room-eq0 : goal.match_ty-returns-then-room-eq0
match_ty-returns-then-room-eq0 t c = ty_spent c.requires.ready_u _ c.if-depth-eq0.false c.if-room-eq0.true

pub match_ty-match_arrow-requires : goal.match_ty-match_arrow-requires
match_ty-match_arrow-requires t c = (omega arith, (c.requires.base_len_bound, ty_sides c.requires.ready_u c.args.depth c.if-depth-eq0.false c.if-room-eq0.false c.shape_at-p.ensures c.shape_at-q.ensures c.in-Arrow.is c.in-Arrow-q-2.is))

pub match_ty-returns-in-Var : goal.match_ty-returns-in-Var
match_ty-returns-in-Var t c = ty_var c.requires.ready_u _ c.if-depth-eq0.false c.if-room-eq0.false c.shape_at-p.ensures c.shape_at-q.ensures c.in-Var.is c.put.ensures c.put-in-Var.ensures

pub match_ty-returns-in-Var-q : goal.match_ty-returns-in-Var-q
match_ty-returns-in-Var-q t c = ty_con_var c.requires.ready_u _ c.if-depth-eq0.false c.if-room-eq0.false c.shape_at-p.ensures c.shape_at-q.ensures c.in-Con.is c.in-Var-q.is

pub match_ty-returns-in-Con-q : goal.match_ty-returns-in-Con-q
match_ty-returns-in-Con-q t c = ty_cons c.requires.ready_u _ c.if-depth-eq0.false c.if-room-eq0.false c.shape_at-p.ensures c.shape_at-q.ensures c.match_cons.ensures

pub match_ty-returns-in-Arrow-q : goal.match_ty-returns-in-Arrow-q
match_ty-returns-in-Arrow-q t c = ty_con_arrow c.requires.ready_u _ c.if-depth-eq0.false c.if-room-eq0.false c.shape_at-p.ensures c.shape_at-q.ensures c.in-Con.is c.in-Arrow-q.is

pub match_ty-returns-in-Var-q-2 : goal.match_ty-returns-in-Var-q-2
match_ty-returns-in-Var-q-2 t c = ty_arrow_var c.requires.ready_u _ c.if-depth-eq0.false c.if-room-eq0.false c.shape_at-p.ensures c.shape_at-q.ensures c.in-Arrow.is c.in-Var-q-2.is

pub match_ty-returns-in-Con-q-2 : goal.match_ty-returns-in-Con-q-2
match_ty-returns-in-Con-q-2 t c = ty_arrow_con c.requires.ready_u _ c.if-depth-eq0.false c.if-room-eq0.false c.shape_at-p.ensures c.shape_at-q.ensures c.in-Arrow.is c.in-Con-q-2.is

pub match_ty-returns-in-Arrow-q-2 : goal.match_ty-returns-in-Arrow-q-2
match_ty-returns-in-Arrow-q-2 t c = ty_arrows c.requires.ready_u _ c.if-depth-eq0.false c.if-room-eq0.false c.shape_at-p.ensures c.shape_at-q.ensures c.in-Arrow.is c.in-Arrow-q-2.is c.match_arrow.ensures

pub match_zip-match_one-requires : goal.match_zip-match_one-requires
match_zip-match_one-requires t c = (omega arith, (c.requires.base_len_bound, zip_one c.requires.ready_one c.args.depth c.cell_at-p.ensures c.cell_at-q.ensures c.in-Cons.is c.in-Cons-q.is))

pub match_zip-match_zip-requires : goal.match_zip-match_zip-requires
match_zip-match_zip-requires t c = let g = (got c.match_one.ensures (ok_is c.in_ok-k2-in-Cons-q.was)).1 in (let d = g.down in omega arith, (let b = c.requires.base_len_bound in let m = g.more in omega arith, zip_ready c.requires.ready_one c.args.depth c.cell_at-p.ensures c.cell_at-q.ensures c.in-Cons.is c.in-Cons-q.is c.match_one.ensures (ok_is c.in_ok-k2-in-Cons-q.was) (long c.args.base.now.words.now c.match_one.new.work c.args.work.now c.match_one.auto.work)))

pub match_zip-returns-in-Nil : goal.match_zip-returns-in-Nil
match_zip-returns-in-Nil t c = zip_end c.requires.ready_one c.args.depth c.cell_at-p.ensures c.cell_at-q.ensures c.in-Nil.is

pub match_zip-returns-in-Nil-q : goal.match_zip-returns-in-Nil-q
match_zip-returns-in-Nil-q t c = zip_end_2 c.requires.ready_one c.args.depth c.cell_at-p.ensures c.cell_at-q.ensures c.in-Cons.is c.in-Nil-q.is

pub match_zip-returns-in_ok-k2-in-Cons-q : goal.match_zip-returns-in_ok-k2-in-Cons-q
match_zip-returns-in_ok-k2-in-Cons-q t c = zip_goes c.requires.ready_one c.args.depth c.cell_at-p.ensures c.cell_at-q.ensures c.in-Cons.is c.in-Cons-q.is c.match_one.ensures (ok_is c.in_ok-k2-in-Cons-q.was) c.match_zip.ensures

pub match_zip-returns-in_err-k2-in-Cons-q : goal.match_zip-returns-in_err-k2-in-Cons-q
match_zip-returns-in_err-k2-in-Cons-q t c = rw (thrown _ c.from_residual.ensures.1) (zip_fails c.requires.ready_one c.args.depth c.cell_at-p.ensures c.cell_at-q.ensures c.in-Cons.is c.in-Cons-q.is c.match_one.ensures (err_is c.in_err-k2-in-Cons-q.was))
