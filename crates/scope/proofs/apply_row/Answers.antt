-- Each way out by its law of `Sweeping`.
use Rattle.errors.proofs.Thrown.{thrown}
use Rattle.scope.proofs.Seen.{qual_ok, qual_err}
use Rattle.scope.proofs.Sweeping.{row_nothing, row_closed, row_applied, row_refused}
use Rattle.scope.proofs.apply_row.Goals as goal

pub returns-in-Nothing : goal.returns-in-Nothing
returns-in-Nothing c = row_nothing c.requires.ready_row c.row_at-e.ensures c.in-Nothing.is

pub returns-in-Closed : goal.returns-in-Closed
returns-in-Closed c = row_closed c.requires.ready_row c.row_at-e.ensures c.in-Closed.is

pub returns-in_ok-q-in-Local : goal.returns-in_ok-q-in-Local
returns-in_ok-q-in-Local c = row_applied c.requires.ready_row c.row_at-e.ensures c.in-Local.is c.apply_scheme.ensures (qual_ok c.in_ok-q-in-Local.was) c.put.ensures

pub returns-in_err-q-in-Local : goal.returns-in_err-q-in-Local
returns-in_err-q-in-Local c = rw (thrown _ c.from_residual.ensures.1) (row_refused c.requires.ready_row c.row_at-e.ensures c.in-Local.is c.apply_scheme.ensures (qual_err c.in_err-q-in-Local.was))
