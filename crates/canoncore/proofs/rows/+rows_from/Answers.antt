-- A pending row's type is renamed, then the rest; the measure is how many rows are left.
use native.Mathlib.Omega.{arith}
use mathlib.Core.Path.{◌∙◌}
use Rattle.ast.proofs.Join.{both_fit}
use Rattle.errors.proofs.Thrown.{thrown}
use Rattle.pairs.proofs.Frames.{long}
use Rattle.apply.proofs.Seen.{ok_is, err_is}
use Rattle.canoncore.proofs.Arms.{asks_type}
use Rattle.canoncore.proofs.RowWays.{below, rows_none, rows_passed, row_asks, rows_refused, rows_refused_2, rows_done}
use Rattle.canoncore.proofs.rows.+rows_from.Goals as goal

pub returns-then-j-n : goal.returns-then-j-n
returns-then-j-n t c = rows_none _ c.requires.ready_rows c.if-j-n.true

pub rename-requires : goal.rename-requires
rename-requires t c = record { base_len_bound = c.requires.base_len_bound; ready_rename = asks_type (row_asks _ c.requires.ready_rows (below _ _ c.requires.j_le_n c.if-j-n.false) c.row_at-w.ensures c.in-Pending.is) }

pub returns-in-Replaced : goal.returns-in-Replaced
returns-in-Replaced t c = rows_passed _ c.requires.ready_rows (below _ _ c.requires.j_le_n c.if-j-n.false) c.row_at-w.ensures c.in-Replaced.is c.rows_from.ensures

pub returns-in_ok-m2-in-Pending : goal.returns-in_ok-m2-in-Pending
returns-in_ok-m2-in-Pending t c = rw (c.add_pred.ensures.word, c.add_pred.ensures.top, c.add_pred.ensures.left) (rows_done _ c.requires.ready_rows (below _ _ c.requires.j_le_n c.if-j-n.false) c.row_at-w.ensures c.in-Pending.is c.rename.ensures (ok_is c.in_ok-m-in-Pending.was) c.rows_from-in-Pending.ensures (ok_is c.in_ok-m2-in-Pending.was) (long c.args.base.now.words.now c.rows_from-in-Pending.new.work c.args.work.now (c.rows_from-in-Pending.auto.work ∙ c.rename.auto.work)) (both_fit c.args.base.now.words.now c.args.work.now (omega arith) c.well_formed.1.0.0) c.add_pred.ensures.is)

pub returns-in_err-m2-in-Pending : goal.returns-in_err-m2-in-Pending
returns-in_err-m2-in-Pending t c = rw (thrown _ c.from_residual-in_err-m2-in-Pending.ensures.1) (rows_refused_2 _ c.requires.ready_rows (below _ _ c.requires.j_le_n c.if-j-n.false) c.row_at-w.ensures c.in-Pending.is c.rename.ensures (ok_is c.in_ok-m-in-Pending.was) c.rows_from-in-Pending.ensures (err_is c.in_err-m2-in-Pending.was))

pub returns-in_err-m-in-Pending : goal.returns-in_err-m-in-Pending
returns-in_err-m-in-Pending t c = rw (thrown _ c.from_residual.ensures.1) (rows_refused _ c.requires.ready_rows (below _ _ c.requires.j_le_n c.if-j-n.false) c.row_at-w.ensures c.in-Pending.is c.rename.ensures (err_is c.in_err-m-in-Pending.was))
