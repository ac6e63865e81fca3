-- Where one name comes before the other, they differ.
use mathlib.Core.Path.{sym, ◌∙◌}
use Rattle.cases.proofs.Apart.{one_before, turned}
use Rattle.cases.proofs.rows.is_same.Goals as goal

pub returns-then-before : goal.returns-then-before
returns-then-before c = λ e. one_before _ _ _ c.requires.i_bound c.requires.j_bound (sym c.if-before.true ∙ c.before-2.ensures)

pub returns-then-before-2 : goal.returns-then-before-2
returns-then-before-2 c = λ e. turned _ _ _ (one_before _ _ _ c.requires.j_bound c.requires.i_bound (sym c.if-before-2.true ∙ c.before-3.ensures))
