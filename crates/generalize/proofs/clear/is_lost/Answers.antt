-- The type has the variable, or what the environment says.
use mathlib.Core.Path.{sym, ◌∙◌}
use Rattle.generalize.proofs.TestWays.{lost_not, lost_by_scope}
use Rattle.generalize.proofs.clear.is_lost.Goals as goal

pub returns-then-occurs_in : goal.returns-then-occurs_in
returns-then-occurs_in c = lost_not _ _ _ (sym c.if-occurs_in.true ∙ c.occurs_in.ensures)

pub returns : goal.returns
returns c = lost_by_scope _ _ _ (sym c.if-occurs_in.false ∙ c.occurs_in.ensures) c.is_free-f.ensures
