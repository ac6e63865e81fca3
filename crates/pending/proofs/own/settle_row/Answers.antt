-- Each way out by its law.
use native.Mathlib.Omega.{arith}
use Rattle.pending.proofs.Aliases.{settle_gone, settle_type, settle_rows, settle_first, settle_small, settle_twin}
use mathlib.Core.List.{[]}
use Rattle.pending.proofs.own.settle_row.Goals as goal

pub returns-in_default : goal.returns-in_default
returns-in_default c = settle_gone _ _ _ c.requires c.row_at-q.ensures c.in_default.is

pub earlier-f-requires : goal.earlier-f-requires
earlier-f-requires c = record { names = c.requires.names; binders = settle_rows c.args.i [] [] c.requires c.row_at-q.ensures c.in-Pending.is; node = settle_type c.args.i [] [] c.requires c.row_at-q.ensures c.in-Pending.is }

pub returns-in_default-f : goal.returns-in_default-f
returns-in_default-f c = settle_first _ _ _ c.requires c.row_at-q.ensures c.in-Pending.is c.earlier-f.ensures c.in_default-f.is

pub is_own-own-requires : goal.is_own-own-requires
is_own-own-requires c = record { names = c.requires.names; scope = c.requires.scope; node = c.requires.type; node_2 = settle_type c.args.i [] [] c.requires c.row_at-q.ensures c.in-Pending.is }

pub overflow_add-x : goal.overflow_add-x
overflow_add-x c = let x = settle_small c.args.i [] [] c.requires c.row_at-q.ensures c.in-Pending.is c.earlier-f.ensures c.in-Some.is c.is_own-own.ensures c.pick-x.ensures in omega arith

pub put_row-requires : goal.put_row-requires
put_row-requires c = let x = c.requires.binders.rows.fits in omega arith

pub returns : goal.returns
returns c = settle_twin _ _ _ c.requires c.row_at-q.ensures c.in-Pending.is c.earlier-f.ensures c.in-Some.is c.is_own-own.ensures c.pick-x.ensures c.put_row.ensures
