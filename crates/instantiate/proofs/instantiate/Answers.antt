-- The ways out by their laws of `Making`.
use native.Mathlib.Omega.{arith}
use Rattle.errors.proofs.Thrown.{thrown}
use Rattle.apply.proofs.Seen.{ok_is, err_is}
use Rattle.instantiate.proofs.Seen.{ok_taken, err_taken}
use Rattle.pairs.proofs.Frames.{long}
use Rattle.instantiate.proofs.Making.{few_made, type_ready, type_refused, preds_ready, preds_refused, few_named, inst_done}
use Rattle.instantiate.proofs.instantiate.Goals as goal

pub overflow_add-made : goal.overflow_add-made
overflow_add-made c = let z = few_made c.requires.ready_instance c.count_list.ensures in omega arith

pub rename-requires : goal.rename-requires
rename-requires c = record { base_len_bound = c.requires.base_len_bound; ready_rename = type_ready c.requires.ready_instance }

pub take_preds-requires : goal.take_preds-requires
take_preds-requires c = let z = preds_ready c.requires.ready_instance c.rename.ensures (ok_is c.in_ok-ty.was) (long c.args.base.now.words.now c.rename.new.work c.args.work.now c.rename.auto.work) in let m = z.0 in let cl = c.requires.base_len_bound in record { base_len_bound = omega arith; ready_preds = z.1 }

pub overflow_add-fresh : goal.overflow_add-fresh
overflow_add-fresh c = let z = few_named c.requires.ready_instance c.rename.ensures (ok_is c.in_ok-ty.was) c.take_preds.ensures (ok_taken c.in_ok-rows.was) in omega arith

pub returns : goal.returns
returns c = inst_done c.requires.ready_instance c.rename.ensures (ok_is c.in_ok-ty.was) c.take_preds.ensures (ok_taken c.in_ok-rows.was) c.count_list.ensures

pub returns-in_err-rows : goal.returns-in_err-rows
returns-in_err-rows c = rw (thrown _ c.from_residual-in_err-rows.ensures.1) (preds_refused c.requires.ready_instance c.rename.ensures (ok_is c.in_ok-ty.was) c.take_preds.ensures (err_taken c.in_err-rows.was))

pub returns-in_err-ty : goal.returns-in_err-ty
returns-in_err-ty c = rw (thrown _ c.from_residual.ensures.1) (type_refused c.requires.ready_instance c.rename.ensures (err_is c.in_err-ty.was))
