-- Each way out by its law of `FreeLaws`.
use Rattle.scope.proofs.FreeLaws.{none_free, closed_free}
use Rattle.scope.proofs.in_row.Goals as goal

pub returns-in-Nothing : goal.returns-in-Nothing
returns-in-Nothing c = none_free _ _ _ _ c.row_at-e.ensures _ c.in-Nothing.is

pub returns-in-Closed : goal.returns-in-Closed
returns-in-Closed c = closed_free _ _ _ _ c.row_at-e.ensures _ c.requires.entry_in _ c.in-Closed.is
