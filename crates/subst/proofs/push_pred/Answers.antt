-- The class first, then the cell.
use mathlib.Core.Path.{◌∙◌}
use Rattle.subst.specs.Preds.{pushed_pred}
use Rattle.subst.proofs.push_pred.Goals as goal

pub returns : goal.returns
unfolding pushed_pred
returns c = c.push.ensures ∙ rw c.put.ensures
