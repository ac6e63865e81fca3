-- A cell's type is renamed, then the rest; the measure is the steps left.
use mathlib.Core.Path.{◌∙◌}
use native.Mathlib.Omega.{arith}
use Rattle.ast.proofs.Join.{both_fit}
use Rattle.errors.proofs.Thrown.{thrown}
use Rattle.pairs.proofs.Frames.{long}
use Rattle.apply.proofs.Seen.{ok_is, err_is}
use Rattle.canoncore.proofs.Arms.{asks_type}
use Rattle.canoncore.proofs.TypeWays.{binders_none, cell_asks, type_asks, binders_refused, binders_fewer, binders_asks, binders_refused_2, binders_done}
use Rattle.canoncore.proofs.types.+rename_binders.Goals as goal

pub class_at-x-requires : goal.class_at-x-requires
class_at-x-requires t c = let z = cell_asks c.requires.ready_letters c.cell_at-c.ensures c.in-Cons.is in record { first_node_le_l = z.0; l_bound = z.1 }

pub rename-requires : goal.rename-requires
rename-requires t c = record { base_len_bound = c.requires.base_len_bound; ready_rename = asks_type (type_asks c.requires.ready_letters c.cell_at-c.ensures c.in-Cons.is) }

pub rename_binders-requires : goal.rename_binders-requires
rename_binders-requires t c = let q = binders_asks c.requires.ready_letters c.cell_at-c.ensures c.in-Cons.is c.class_at-x.ensures c.rename.ensures (ok_is c.in_ok-m-in-Cons.was) (long c.args.base.now.words.now c.rename.new.work c.args.work.now c.rename.auto.work) in let f = binders_fewer c.requires.ready_letters c.cell_at-c.ensures c.in-Cons.is c.class_at-x.ensures c.rename.ensures (ok_is c.in_ok-m-in-Cons.was) in let m = q.0 in let cl = c.requires.base_len_bound in (omega arith, (omega arith, q.1))

pub returns-in-Nil : goal.returns-in-Nil
returns-in-Nil t c = binders_none c.requires.ready_letters c.cell_at-c.ensures c.in-Nil.is

pub returns-in_ok-m2-in-Cons : goal.returns-in_ok-m2-in-Cons
returns-in_ok-m2-in-Cons t c = rw (c.add_pred.ensures.word, c.add_pred.ensures.top, c.add_pred.ensures.left) (binders_done c.requires.ready_letters c.cell_at-c.ensures c.in-Cons.is c.class_at-x.ensures c.rename.ensures (ok_is c.in_ok-m-in-Cons.was) c.rename_binders.ensures (ok_is c.in_ok-m2-in-Cons.was) (long c.args.base.now.words.now c.rename_binders.new.work c.args.work.now (c.rename_binders.auto.work ∙ c.rename.auto.work)) (both_fit c.args.base.now.words.now c.args.work.now (omega arith) c.well_formed.1.0.0) c.add_pred.ensures.is)

pub returns-in_err-m2-in-Cons : goal.returns-in_err-m2-in-Cons
returns-in_err-m2-in-Cons t c = rw (thrown _ c.from_residual-in_err-m2-in-Cons.ensures.1) (binders_refused_2 c.requires.ready_letters c.cell_at-c.ensures c.in-Cons.is c.class_at-x.ensures c.rename.ensures (ok_is c.in_ok-m-in-Cons.was) c.rename_binders.ensures (err_is c.in_err-m2-in-Cons.was))

pub returns-in_err-m-in-Cons : goal.returns-in_err-m-in-Cons
returns-in_err-m-in-Cons t c = rw (thrown _ c.from_residual.ensures.1) (binders_refused c.requires.ready_letters c.cell_at-c.ensures c.in-Cons.is c.class_at-x.ensures c.rename.ensures (err_is c.in_err-m-in-Cons.was))
