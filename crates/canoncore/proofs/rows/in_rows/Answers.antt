-- The binders of the rows, then the term under them.
use native.Mathlib.Omega.{arith}
use mathlib.Core.Path.{◌∙◌}
use Rattle.ast.proofs.Join.{both_fit}
use Rattle.errors.proofs.Thrown.{thrown}
use Rattle.pairs.proofs.Frames.{long}
use Rattle.apply.proofs.Seen.{ok_is, err_is}
use Rattle.canoncore.proofs.Ways.{under_refused, under_refused_2, under_done}
use Rattle.canoncore.proofs.rows.in_rows.Goals as goal

pub returns : goal.returns
returns c = rw (c.push_dict_abs.ensures.word, c.push_dict_abs.ensures.top, c.push_dict_abs.ensures.left) (under_done _ _ c.requires.ready_rows.room c.rows_from.ensures c.requires.node (ok_is c.in_ok-m.was) c.rename_core.ensures (ok_is c.in_ok-m2.was) (long c.args.base.now.words.now c.rename_core.new.work c.args.work.now (c.rename_core.auto.work ∙ c.rows_from.auto.work)) (both_fit c.args.base.now.words.now c.args.work.now (omega arith) c.well_formed.1.0.0) c.push_dict_abs.ensures.is)

pub returns-in_err-m2 : goal.returns-in_err-m2
returns-in_err-m2 c = rw (thrown _ c.from_residual-in_err-m2.ensures.1) (under_refused_2 _ _ c.requires.ready_rows.room c.rows_from.ensures c.requires.node (ok_is c.in_ok-m.was) c.rename_core.ensures (err_is c.in_err-m2.was))

pub returns-in_err-m : goal.returns-in_err-m
returns-in_err-m c = rw (thrown _ c.from_residual.ensures.1) (under_refused _ _ c.requires.ready_rows.room c.rows_from.ensures c.requires.node (err_is c.in_err-m.was))
