-- The measure is four times the steps left, and one or two more where a call passes the steps on as they are.
use native.Mathlib.Omega.{arith}
use Rattle.pairs.proofs.Frames.{long}
use Rattle.errors.proofs.Thrown.{thrown}
use Rattle.apply.proofs.Seen.{ok_is, err_is}
use Rattle.unify.proofs.Seen.{two_ok, two_err}
use Rattle.unify.proofs.Single.{one_limit, one_fails, one_more_2, one_join, one_done}
use Rattle.unify.proofs.Zip.{zip_end, zip_end_2, zip_ready, zip_fails, zip_more, zip_less, zip_rest, zip_go, no_pairs, con_names, con_lengths, con_go}
use Rattle.unify.proofs.Sides.{arrow_fails, arrow_go}
use Rattle.unify.proofs.Ways.{un_deep, un_spent, un_var, un_con_var, un_arrow_var, un_con_arrow, un_arrow_con, un_con_ready, un_con, un_arrow_ready, un_arrow}
use Rattle.unify.proofs.+one_unify_unify_arrow_unify_con_unify_zip.Goals as goal

pub one-join-requires : goal.one-join-requires
one-join-requires t c = record { base_len_bound = let m = one_more_2 c.requires.ready_one c.args.depth c.both.ensures (two_ok c.in_ok-p.was) c.unify.ensures (ok_is c.in_ok-k2.was) in omega arith; ready_join = one_join c.requires.ready_one c.args.depth c.both.ensures (two_ok c.in_ok-p.was) c.unify.ensures (ok_is c.in_ok-k2.was) (long c.args.base.now.words.now c.both.new.work c.args.work.now c.both.auto.work) (long c.args.base.now.words.now c.unify.new.work c.both.new.work c.unify.auto.work) }

pub one-returns : goal.one-returns
one-returns t c = one_done c.requires.ready_one c.args.depth c.both.ensures (two_ok c.in_ok-p.was) c.unify.ensures (ok_is c.in_ok-k2.was) c.join.ensures

pub one-returns-in_err-k2 : goal.one-returns-in_err-k2
one-returns-in_err-k2 t c = rw (thrown _ c.from_residual-in_err-k2.ensures.1) (one_fails c.requires.ready_one c.args.depth c.both.ensures (two_ok c.in_ok-p.was) c.unify.ensures (err_is c.in_err-k2.was))

pub one-returns-in_err-p : goal.one-returns-in_err-p
one-returns-in_err-p t c = rw (thrown _ c.from_residual.ensures.1) (one_limit c.requires.ready_one c.args.depth c.both.ensures (two_err c.in_err-p.was))

pub unify-returns-then-depth-eq0 : goal.unify-returns-then-depth-eq0
unify-returns-then-depth-eq0 t c = un_deep c.requires.ready_u _ c.if-depth-eq0.true

pub unify-returns-then-room-eq0 : goal.unify-returns-then-room-eq0
unify-returns-then-room-eq0 t c = un_spent c.requires.ready_u _ c.if-depth-eq0.false c.if-room-eq0.true

pub unify-unify_con-requires : goal.unify-unify_con-requires
unify-unify_con-requires t c = (omega arith, (c.requires.base_len_bound, un_con_ready c.requires.ready_u c.args.depth c.if-depth-eq0.false c.if-room-eq0.false c.shape_at-p.ensures c.shape_at-q.ensures c.in-Con.is c.in-Con-q.is))

pub unify-unify_arrow-requires : goal.unify-unify_arrow-requires
unify-unify_arrow-requires t c = (omega arith, (c.requires.base_len_bound, un_arrow_ready c.requires.ready_u c.args.depth c.if-depth-eq0.false c.if-room-eq0.false c.shape_at-p.ensures c.shape_at-q.ensures c.in-Arrow.is c.in-Arrow-q-2.is))

pub unify-returns-in-Var : goal.unify-returns-in-Var
unify-returns-in-Var t c = un_var c.requires.ready_u _ c.if-depth-eq0.false c.if-room-eq0.false c.shape_at-p.ensures c.shape_at-q.ensures c.in-Var.is c.bind.ensures

pub unify-returns-in-Var-q : goal.unify-returns-in-Var-q
unify-returns-in-Var-q t c = un_con_var c.requires.ready_u _ c.if-depth-eq0.false c.if-room-eq0.false c.shape_at-p.ensures c.shape_at-q.ensures c.in-Con.is c.in-Var-q.is c.bind-in-Var-q.ensures

pub unify-returns-in-Con-q : goal.unify-returns-in-Con-q
unify-returns-in-Con-q t c = un_con c.requires.ready_u _ c.if-depth-eq0.false c.if-room-eq0.false c.shape_at-p.ensures c.shape_at-q.ensures c.in-Con.is c.in-Con-q.is c.unify_con.ensures

pub unify-returns-in-Arrow-q : goal.unify-returns-in-Arrow-q
unify-returns-in-Arrow-q t c = un_con_arrow c.requires.ready_u _ c.if-depth-eq0.false c.if-room-eq0.false c.shape_at-p.ensures c.shape_at-q.ensures c.in-Con.is c.in-Arrow-q.is

pub unify-returns-in-Var-q-2 : goal.unify-returns-in-Var-q-2
unify-returns-in-Var-q-2 t c = un_arrow_var c.requires.ready_u _ c.if-depth-eq0.false c.if-room-eq0.false c.shape_at-p.ensures c.shape_at-q.ensures c.in-Arrow.is c.in-Var-q-2.is c.bind-in-Var-q-2.ensures

pub unify-returns-in-Con-q-2 : goal.unify-returns-in-Con-q-2
unify-returns-in-Con-q-2 t c = un_arrow_con c.requires.ready_u _ c.if-depth-eq0.false c.if-room-eq0.false c.shape_at-p.ensures c.shape_at-q.ensures c.in-Arrow.is c.in-Con-q-2.is

pub unify-returns-in-Arrow-q-2 : goal.unify-returns-in-Arrow-q-2
unify-returns-in-Arrow-q-2 t c = un_arrow c.requires.ready_u _ c.if-depth-eq0.false c.if-room-eq0.false c.shape_at-p.ensures c.shape_at-q.ensures c.in-Arrow.is c.in-Arrow-q-2.is c.unify_arrow.ensures

pub unify_arrow-returns : goal.unify_arrow-returns
unify_arrow-returns t c = arrow_go c.requires.ready_arrow _ c.unify.ensures (ok_is c.in_ok-k.was) c.one.ensures

pub unify_arrow-returns-in_err-k : goal.unify_arrow-returns-in_err-k
unify_arrow-returns-in_err-k t c = rw (thrown _ c.from_residual.ensures.1) (arrow_fails c.requires.ready_arrow _ c.unify.ensures (err_is c.in_err-k.was))

pub unify_con-returns-then-c-d : goal.unify_con-returns-then-c-d
unify_con-returns-then-c-d t c = con_names c.requires.ready_u _ _ _ c.if-c-d.true

pub unify_con-returns-then-i-j : goal.unify_con-returns-then-i-j
unify_con-returns-then-i-j t c = con_lengths c.requires.ready_u _ _ _ c.if-c-d.false c.count_list-i.ensures c.count_list-j.ensures c.if-i-j.true

pub unify_con-unify_zip-requires : goal.unify_con-unify_zip-requires
unify_con-unify_zip-requires t c = (omega arith, (c.requires.base_len_bound, no_pairs c.requires.ready_u))

pub unify_con-returns : goal.unify_con-returns
unify_con-returns t c = con_go c.requires.ready_u _ _ _ c.if-c-d.false c.count_list-i.ensures c.count_list-j.ensures c.if-i-j.false c.unify_zip.ensures

pub unify_zip-one-requires : goal.unify_zip-one-requires
unify_zip-one-requires t c = (omega arith, (c.requires.base_len_bound, zip_ready c.requires.ready_one c.args.depth c.cell_at-p.ensures c.cell_at-q.ensures c.in-Cons.is c.in-Cons-q.is))

pub unify_zip-unify_zip-requires : goal.unify_zip-unify_zip-requires
unify_zip-unify_zip-requires t c = (let y = zip_less c.requires.ready_one c.args.depth c.cell_at-p.ensures c.cell_at-q.ensures c.in-Cons.is c.in-Cons-q.is c.one.ensures (ok_is c.in_ok-k2-in-Cons-q.was) in omega arith, (let m = zip_more c.requires.ready_one c.args.depth c.cell_at-p.ensures c.cell_at-q.ensures c.in-Cons.is c.in-Cons-q.is c.one.ensures (ok_is c.in_ok-k2-in-Cons-q.was) in omega arith, zip_rest c.requires.ready_one c.args.depth c.cell_at-p.ensures c.cell_at-q.ensures c.in-Cons.is c.in-Cons-q.is c.one.ensures (ok_is c.in_ok-k2-in-Cons-q.was) (long c.args.base.now.words.now c.one.new.work c.args.work.now c.one.auto.work)))

pub unify_zip-returns-in-Nil : goal.unify_zip-returns-in-Nil
unify_zip-returns-in-Nil t c = zip_end c.requires.ready_one _ c.cell_at-p.ensures c.cell_at-q.ensures c.in-Nil.is

pub unify_zip-returns-in-Nil-q : goal.unify_zip-returns-in-Nil-q
unify_zip-returns-in-Nil-q t c = zip_end_2 c.requires.ready_one _ c.cell_at-p.ensures c.cell_at-q.ensures c.in-Cons.is c.in-Nil-q.is

pub unify_zip-returns-in_ok-k2-in-Cons-q : goal.unify_zip-returns-in_ok-k2-in-Cons-q
unify_zip-returns-in_ok-k2-in-Cons-q t c = zip_go c.requires.ready_one _ c.cell_at-p.ensures c.cell_at-q.ensures c.in-Cons.is c.in-Cons-q.is c.one.ensures (ok_is c.in_ok-k2-in-Cons-q.was) c.unify_zip.ensures

pub unify_zip-returns-in_err-k2-in-Cons-q : goal.unify_zip-returns-in_err-k2-in-Cons-q
unify_zip-returns-in_err-k2-in-Cons-q t c = rw (thrown _ c.from_residual.ensures.1) (zip_fails c.requires.ready_one _ c.cell_at-p.ensures c.cell_at-q.ensures c.in-Cons.is c.in-Cons-q.is c.one.ensures (err_is c.in_err-k2-in-Cons-q.was))
