-- The type has it, or what the environment says.
use mathlib.Core.Path.{sym, ◌∙◌}
use Rattle.pending.proofs.Owns.{own_in_type, own_by_scope}
use Rattle.pending.proofs.own.has_own.Goals as goal

pub returns-then-occurs_in : goal.returns-then-occurs_in
returns-then-occurs_in c = own_in_type _ _ _ (sym c.if-occurs_in.true ∙ c.occurs_in.ensures)

pub returns : goal.returns
returns c = own_by_scope _ _ _ (sym c.if-occurs_in.false ∙ c.occurs_in.ensures) c.is_free-f.ensures
