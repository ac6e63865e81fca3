-- By what the row is, and by its number.
use Rattle.terms.proofs.RowLaws.{for_this, for_other}
use Rattle.terms.proofs.rows.row_for.Goals as goal

pub returns-then-c-d : goal.returns-then-c-d
returns-then-c-d c = for_this _ _ _ c.row_at-q.ensures c.in-Replaced.is c.if-c-d.true

pub returns-else-c-d : goal.returns-else-c-d
returns-else-c-d c = for_other _ _ _ c.row_at-q.ensures c.in-Replaced.is c.if-c-d.false
