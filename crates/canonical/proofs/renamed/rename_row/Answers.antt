-- A row by what it says, and its type by what renaming answers.
use native.Mathlib.Omega.{arith}
use Rattle.errors.proofs.Thrown.{thrown}
use Rattle.apply.proofs.Seen.{ok_is, err_is}
use Rattle.canonical.proofs.Turns.{row_stays, row_asks, row_fits, row_refused, row_renamed}
use Rattle.canonical.proofs.renamed.rename_row.Goals as goal

pub returns-in_default : goal.returns-in_default
returns-in_default c = row_stays c.requires.ready_rename c.requires.i_lt_n c.row_at-q.ensures c.in_default.is

pub rename-requires : goal.rename-requires
rename-requires c = record { base_len_bound = c.requires.base_len_bound; ready_rename = row_asks c.requires.ready_rename c.requires.i_lt_n c.row_at-q.ensures c.in-Pending.is }

pub overflow_mul-i : goal.overflow_mul-i
overflow_mul-i c = let b = c.well_formed.1.1.1.1.0.0 in let f = row_fits c.requires.ready_rename c.requires.i_lt_n c.row_at-q.ensures c.in-Pending.is in omega arith

pub overflow_add-i : goal.overflow_add-i
overflow_add-i c = let b = c.well_formed.1.1.1.1.0.0 in let f = row_fits c.requires.ready_rename c.requires.i_lt_n c.row_at-q.ensures c.in-Pending.is in omega arith

pub put-requires : goal.put-requires
put-requires c = let f = row_fits c.requires.ready_rename c.requires.i_lt_n c.row_at-q.ensures c.in-Pending.is in omega arith

pub returns : goal.returns
returns c = row_renamed c.requires.ready_rename c.requires.i_lt_n c.row_at-q.ensures c.in-Pending.is c.rename.ensures (ok_is c.in_ok-u.was) c.put.ensures

pub returns-in_err-u : goal.returns-in_err-u
returns-in_err-u c = rw (thrown _ c.from_residual.ensures.1) (row_refused c.requires.ready_rename c.requires.i_lt_n c.row_at-q.ensures c.in-Pending.is c.rename.ensures (err_is c.in_err-u.was))
