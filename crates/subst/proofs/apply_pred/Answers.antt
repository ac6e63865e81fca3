-- The case of no variables that stay.
use Rattle.apply.proofs.Buts.{ready_all}
use Rattle.subst.proofs.Wholes.{whole_pred}
use Rattle.subst.proofs.apply_pred.Goals as goal

pub apply_pred_but-requires : goal.apply_pred_but-requires
apply_pred_but-requires c = record { base_len_bound = c.requires.base_len_bound; ready_but = ready_all c.requires.ready }

pub returns : goal.returns
returns c = whole_pred c.requires.ready _ c.apply_pred_but.ensures
