-- A row by what it says.
use Rattle.canonical.proofs.Leasts.{row_least, row_none, ready_row, row_there}
use Rattle.canonical.proofs.least_row.Goals as goal

pub row_at-q-requires : goal.row_at-q-requires
row_at-q-requires c = row_there _ c.requires.binders c.requires.i_lt_n

pub least_in-requires : goal.least_in-requires
least_in-requires c = ready_row c.requires.ready_var c.requires.binders c.requires.i_lt_n c.row_at-q.ensures c.in-Pending.is

pub returns-in-Pending : goal.returns-in-Pending
returns-in-Pending c = row_least _ _ _ c.row_at-q.ensures c.in-Pending.is c.least_in.ensures

pub returns-in-Replaced : goal.returns-in-Replaced
returns-in-Replaced c = row_none _ _ _ c.row_at-q.ensures c.in-Replaced.is
