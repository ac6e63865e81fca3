-- The type is what changes.
use Rattle.subst.proofs.PredWays.{pred_gives}
use Rattle.subst.proofs.apply_pred_but.Goals as goal

pub returns : goal.returns
returns c = pred_gives _ c.requires.ready_but c.apply_but.ensures
