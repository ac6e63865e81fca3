-- The predicates, then the type.
use native.Mathlib.Omega.{arith}
use Rattle.errors.proofs.Thrown.{thrown}
use Rattle.pairs.proofs.Frames.{long}
use Rattle.apply.proofs.Seen.{ok_is, err_is}
use Rattle.generalize.proofs.QualWays.{preds_asked, preds_refused, preds_more, type_asked, type_refused, qual_named}
use Rattle.generalize.proofs.naming.name_qual.Goals as goal

pub rename_rows-requires : goal.rename_rows-requires
rename_rows-requires c = record { base_len_bound = c.requires.base_len_bound; ready_rename = preds_asked c.requires.ready_letters }

pub rename-requires : goal.rename-requires
rename-requires c = let x = c.requires.base_len_bound in let y = preds_more c.requires.ready_letters c.rename_rows.ensures (ok_is c.in_ok-preds.was) in record { base_len_bound = omega arith; ready_rename = type_asked c.requires.ready_letters c.rename_rows.ensures (ok_is c.in_ok-preds.was) (long c.args.base.now.words.now c.rename_rows.new.work c.args.work.now c.rename_rows.auto.work) }

pub returns : goal.returns
returns c = qual_named c.requires.ready_letters c.rename_rows.ensures (ok_is c.in_ok-preds.was) c.rename.ensures (ok_is c.in_ok-ty.was)

pub returns-in_err-ty : goal.returns-in_err-ty
returns-in_err-ty c = rw (thrown _ c.from_residual-in_err-ty.ensures.1) (type_refused c.requires.ready_letters c.rename_rows.ensures (ok_is c.in_ok-preds.was) c.rename.ensures (err_is c.in_err-ty.was))

pub returns-in_err-preds : goal.returns-in_err-preds
returns-in_err-preds c = rw (thrown _ c.from_residual.ensures.1) (preds_refused c.requires.ready_letters c.rename_rows.ensures (err_is c.in_err-preds.was))
