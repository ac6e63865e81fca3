-- Each way out by its law of `PredWays`. The measure is the list's word.
use Rattle.subst.proofs.+apply_preds_but.Given as goal

abbrev pub decreases-apply_preds_but : goal.decreases-apply_preds_but
decreases-apply_preds_but l = l.l
