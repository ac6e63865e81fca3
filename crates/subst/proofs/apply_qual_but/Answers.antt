-- Each way out by its law of `QualWays`.
use Rattle.errors.proofs.Thrown.{thrown}
use Rattle.apply.proofs.Seen.{ok_is, err_is}
use Rattle.subst.proofs.QualWays.{preds_first, preds_refused, type_refused, both_done}
use Rattle.subst.proofs.apply_qual_but.Goals as goal

pub apply_preds_but-requires : goal.apply_preds_but-requires
apply_preds_but-requires c = record { base_len_bound = c.requires.base_len_bound; ready_but = preds_first c.requires.ready_scheme }

pub returns : goal.returns
returns c = both_done c.requires.ready_scheme c.apply_preds_but.ensures (ok_is c.in_ok-preds.was) c.apply_but.ensures (ok_is c.in_ok-ty.was)

pub returns-in_err-ty : goal.returns-in_err-ty
returns-in_err-ty c = rw (thrown _ c.from_residual-in_err-ty.ensures.1) (type_refused c.requires.ready_scheme c.apply_preds_but.ensures (ok_is c.in_ok-preds.was) c.apply_but.ensures (err_is c.in_err-ty.was))

pub returns-in_err-preds : goal.returns-in_err-preds
returns-in_err-preds c = rw (thrown _ c.from_residual.ensures.1) (preds_refused c.requires.ready_scheme c.apply_preds_but.ensures (err_is c.in_err-preds.was))
