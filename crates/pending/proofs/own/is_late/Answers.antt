-- The row was replaced, or what `is_own` says.
use Rattle.pending.proofs.Defers.{late_gone, late_type, late_own}
use Rattle.pending.proofs.own.is_late.Goals as goal

pub returns-in_default : goal.returns-in_default
returns-in_default c = late_gone _ _ _ _ c.row_at-q.ensures c.in_default.is

pub is_own-own-requires : goal.is_own-own-requires
is_own-own-requires c = record { names = c.requires.names; scope = c.requires.scope; node = c.requires.type; node_2 = late_type c.args.i c.requires c.row_at-q.ensures c.in-Pending.is }

pub returns : goal.returns
returns c = late_own _ _ _ _ c.row_at-q.ensures c.in-Pending.is c.is_own-own.ensures
