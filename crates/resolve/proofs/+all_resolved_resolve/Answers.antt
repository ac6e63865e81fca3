-- The measure is twice the steps left, and one more for a list: a goal that is resolved has spent a step.
use native.Mathlib.Omega.{arith}
use Rattle.ast.proofs.Join.{both_fit}
use Rattle.errors.proofs.Thrown.{thrown}
use Rattle.pairs.proofs.Frames.{long}
use Rattle.subst.proofs.PredWays.{class_room}
use Rattle.resolve.proofs.Seen.{done_is, refused_is, given_is, by_is, unchosen_is}
use Rattle.resolve.proofs.Goals.{all_none, all_first, all_refused, all_less, all_next, all_lost, all_done}
use Rattle.resolve.proofs.Steps.{res_deep, res_spent, res_given, res_refused, res_under, res_down, res_goals, res_lost, res_more, res_build, res_done}
use Rattle.resolve.proofs.+all_resolved_resolve.Goals as goal

pub all_resolved-class_at-p-requires : goal.all_resolved-class_at-p-requires
all_resolved-class_at-p-requires t c = let z = class_room c.requires.ready_resolve.goal c.cell_at-c.ensures c.in-Cons.is in record { first_node_le_l = z.0; l_bound = z.1 }

pub all_resolved-resolve-requires : goal.all_resolved-resolve-requires
all_resolved-resolve-requires t c = (omega arith, (c.requires.base_len_bound, all_first c.requires.ready_resolve c.args.rules.classes.now c.args.depth c.cell_at-c.ensures c.in-Cons.is))

pub all_resolved-returns-in_err-e-in-Cons : goal.all_resolved-returns-in_err-e-in-Cons
all_resolved-returns-in_err-e-in-Cons t c = rw (thrown _ c.from_residual.ensures.1) (all_refused c.requires.ready_resolve c.args.rules.classes.now c.args.depth c.cell_at-c.ensures c.in-Cons.is c.class_at-p.ensures c.resolve.ensures (refused_is c.in_err-e-in-Cons.was))

pub all_resolved-all_resolved-requires : goal.all_resolved-all_resolved-requires
all_resolved-all_resolved-requires t c = let y = all_less c.requires.ready_resolve c.args.rules.classes.now c.args.depth c.cell_at-c.ensures c.in-Cons.is c.class_at-p.ensures c.resolve.ensures (done_is c.in_ok-e-in-Cons.was) (long c.args.base.now.words.now c.resolve.new.work c.args.work.now c.resolve.auto.work) in let f = y.0 in let m = y.1 in let b = c.requires.base_len_bound in (omega arith, (omega arith, all_next c.requires.ready_resolve c.args.rules.classes.now c.args.depth c.cell_at-c.ensures c.in-Cons.is c.class_at-p.ensures c.resolve.ensures (done_is c.in_ok-e-in-Cons.was) (long c.args.base.now.words.now c.resolve.new.work c.args.work.now c.resolve.auto.work)))

pub all_resolved-returns-in_err-es-in-Cons : goal.all_resolved-returns-in_err-es-in-Cons
all_resolved-returns-in_err-es-in-Cons t c = rw (thrown _ c.from_residual-in_err-es-in-Cons.ensures.1) (all_lost c.requires.ready_resolve c.args.rules.classes.now c.args.depth c.cell_at-c.ensures c.in-Cons.is c.class_at-p.ensures c.resolve.ensures (done_is c.in_ok-e-in-Cons.was) (long c.args.base.now.words.now c.resolve.new.work c.args.work.now c.resolve.auto.work) c.all_resolved.ensures (refused_is c.in_err-es-in-Cons.was))

pub all_resolved-returns-in-Nil : goal.all_resolved-returns-in-Nil
all_resolved-returns-in-Nil t c = all_none c.requires.ready_resolve c.args.rules.classes.now c.args.depth c.cell_at-c.ensures c.in-Nil.is

pub all_resolved-returns-in_ok-es-in-Cons : goal.all_resolved-returns-in_ok-es-in-Cons
all_resolved-returns-in_ok-es-in-Cons t c = rw (c.add.ensures.word, c.add.ensures.top, c.add.ensures.left) (all_done c.requires.ready_resolve c.args.rules.classes.now c.args.depth c.cell_at-c.ensures c.in-Cons.is c.class_at-p.ensures c.resolve.ensures (done_is c.in_ok-e-in-Cons.was) (long c.args.base.now.words.now c.resolve.new.work c.args.work.now c.resolve.auto.work) c.all_resolved.ensures (done_is c.in_ok-es-in-Cons.was) (long c.args.base.now.words.now c.all_resolved.new.work c.resolve.new.work c.all_resolved.auto.work) (both_fit c.args.base.now.words.now c.args.work.now (omega arith) c.well_formed.1.0.0) c.add.ensures.is)

pub resolve-returns-then-depth-eq0 : goal.resolve-returns-then-depth-eq0
resolve-returns-then-depth-eq0 t c = res_deep c.requires.ready_resolve c.args.rules.classes.now c.args.depth c.args.c c.if-depth-eq0.true

pub resolve-returns-then-room-eq0 : goal.resolve-returns-then-room-eq0
resolve-returns-then-room-eq0 t c = res_spent c.requires.ready_resolve c.args.rules.classes.now c.args.depth c.args.c c.if-depth-eq0.false c.if-room-eq0.true

pub resolve-returns-in_err-f : goal.resolve-returns-in_err-f
resolve-returns-in_err-f t c = rw (thrown _ c.from_residual.ensures.1) (res_refused c.requires.ready_resolve c.args.rules.classes.now c.args.depth c.args.c c.if-depth-eq0.false c.if-room-eq0.false c.find_way.ensures (unchosen_is c.in_err-f.was))

pub resolve-all_resolved-requires : goal.resolve-all_resolved-requires
resolve-all_resolved-requires t c = let b = c.requires.base_len_bound in let u = (res_under c.requires.ready_resolve c.args.rules.classes.now c.args.depth c.args.c c.if-depth-eq0.false c.if-room-eq0.false c.find_way.ensures (by_is c.in_ok-f.was c.in-By.is)).1 in let y = res_down c.requires.ready_resolve c.args.rules.classes.now c.args.depth c.args.c c.if-depth-eq0.false c.if-room-eq0.false c.find_way.ensures (by_is c.in_ok-f.was c.in-By.is) in (omega arith, (omega arith, res_goals c.requires.ready_resolve c.args.rules.classes.now c.args.depth c.args.c c.if-depth-eq0.false c.if-room-eq0.false c.find_way.ensures (by_is c.in_ok-f.was c.in-By.is) (long c.args.base.now.words.now c.find_way.new.work c.args.work.now c.find_way.auto.work)))

pub resolve-returns-in_err-es-in-By : goal.resolve-returns-in_err-es-in-By
resolve-returns-in_err-es-in-By t c = rw (thrown _ c.from_residual-in_err-es-in-By.ensures.1) (res_lost c.requires.ready_resolve c.args.rules.classes.now c.args.depth c.args.c c.if-depth-eq0.false c.if-room-eq0.false c.find_way.ensures (by_is c.in_ok-f.was c.in-By.is) c.all_resolved.ensures (refused_is c.in_err-es-in-By.was))

pub resolve-build-requires : goal.resolve-build-requires
resolve-build-requires t c = let b = c.requires.base_len_bound in let u = (res_under c.requires.ready_resolve c.args.rules.classes.now c.args.depth c.args.c c.if-depth-eq0.false c.if-room-eq0.false c.find_way.ensures (by_is c.in_ok-f.was c.in-By.is)).1 in let m = res_more c.requires.ready_resolve c.args.rules.classes.now c.args.depth c.args.c c.if-depth-eq0.false c.if-room-eq0.false c.find_way.ensures (by_is c.in_ok-f.was c.in-By.is) c.all_resolved.ensures (done_is c.in_ok-es-in-By.was) (long c.args.base.now.words.now c.all_resolved.new.work c.find_way.new.work c.all_resolved.auto.work) in record { base_len_bound = omega arith; ready_build = res_build c.requires.ready_resolve c.args.rules.classes.now c.args.depth c.args.c c.if-depth-eq0.false c.if-room-eq0.false c.find_way.ensures (by_is c.in_ok-f.was c.in-By.is) c.all_resolved.ensures (done_is c.in_ok-es-in-By.was) (long c.args.base.now.words.now c.all_resolved.new.work c.find_way.new.work c.all_resolved.auto.work) }

pub resolve-returns-in-Given : goal.resolve-returns-in-Given
resolve-returns-in-Given t c = res_given c.requires.ready_resolve c.args.rules.classes.now c.args.depth c.args.c c.if-depth-eq0.false c.if-room-eq0.false c.find_way.ensures (given_is c.in_ok-f.was c.in-Given.is)

pub resolve-returns-in_ok-es-in-By : goal.resolve-returns-in_ok-es-in-By
resolve-returns-in_ok-es-in-By t c = res_done c.requires.ready_resolve c.args.rules.classes.now c.args.depth c.args.c c.if-depth-eq0.false c.if-room-eq0.false c.find_way.ensures (by_is c.in_ok-f.was c.in-By.is) c.all_resolved.ensures (done_is c.in_ok-es-in-By.was) (long c.args.base.now.words.now c.all_resolved.new.work c.find_way.new.work c.all_resolved.auto.work) c.build.ensures
