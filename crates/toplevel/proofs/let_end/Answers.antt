-- No row, or the first one.
use mathlib.Core.Path.{sym, ◌∙◌}
use Rattle.toplevel.proofs.Puts.{end_put, end_late, end_not}
use Rattle.toplevel.proofs.let_end.Goals as goal

pub returns-then-nd-eq0 : goal.returns-then-nd-eq0
returns-then-nd-eq0 c = end_put c.requires _ _ _ c.if-nd-eq0.true c.let_put.ensures

pub returns-in-Pending : goal.returns-in-Pending
returns-in-Pending c = end_late c.requires _ _ _ c.if-nd-eq0.false (sym c.in-Pending.is ∙ c.row_at-q.ensures)

pub returns-in-Replaced : goal.returns-in-Replaced
returns-in-Replaced c = absurd (end_not c.requires 0 0 0 c.if-nd-eq0.false (sym c.in-Replaced.is ∙ c.row_at-q.ensures))
