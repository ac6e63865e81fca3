-- Each way out by its law.
use mathlib.Core.Path.{sym, ◌∙◌}
use Rattle.pending.proofs.Owns.{row_gone, same_ready, other_class, other_type, same_row}
use Rattle.pending.proofs.own.equal_row.Goals as goal

pub returns-in_default : goal.returns-in_default
returns-in_default c = row_gone c.requires.names c.requires.node _ _ c.requires.binders c.row_at-q.ensures c.in_default.is

pub returns-then-b-c : goal.returns-then-b-c
returns-then-b-c c = other_class c.requires.names c.requires.node _ _ c.requires.binders c.row_at-q.ensures c.in-Pending.is c.if-b-c.true

pub same-requires : goal.same-requires
same-requires c = record { names = c.requires.names; node = same_ready c.requires.names c.requires.node _ c.args.c c.requires.binders c.row_at-q.ensures c.in-Pending.is; node_2 = c.requires.node }

pub returns-then-same : goal.returns-then-same
returns-then-same c = same_row c.requires.names c.requires.node _ _ c.requires.binders c.row_at-q.ensures c.in-Pending.is c.if-b-c.false (sym c.if-same.true ∙ c.same.ensures)

pub returns : goal.returns
returns c = other_type c.requires.names c.requires.node _ _ c.requires.binders c.row_at-q.ensures c.in-Pending.is (sym c.if-same.false ∙ c.same.ensures)
