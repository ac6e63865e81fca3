-- The fourth word of the cell.
use Rattle.subst.specs.Preds.{class_at}
use Rattle.subst.proofs.class_at.Goals as goal

pub returns : goal.returns
unfolding class_at
returns c = c.index.ensures
