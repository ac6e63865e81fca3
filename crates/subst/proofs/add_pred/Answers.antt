-- The class first, then the cell.
use mathlib.Core.Path.{◌∙◌}
use Rattle.subst.specs.Preds.{pushed_pred}
use Rattle.subst.proofs.add_pred.Goals as goal

pub returns-clause-is : goal.returns-clause-is
unfolding pushed_pred
returns-clause-is c = c.add.ensures.is ∙ rw c.put.ensures
