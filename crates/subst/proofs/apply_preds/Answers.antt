-- The case of no variables that stay.
use Rattle.apply.proofs.Buts.{ready_all}
use Rattle.subst.proofs.Wholes.{whole_preds}
use Rattle.subst.proofs.apply_preds.Goals as goal

pub apply_preds_but-requires : goal.apply_preds_but-requires
apply_preds_but-requires c = record { base_len_bound = c.requires.base_len_bound; ready_but = ready_all c.requires.ready }

pub returns : goal.returns
returns c = whole_preds c.requires.ready _ c.apply_preds_but.ensures
