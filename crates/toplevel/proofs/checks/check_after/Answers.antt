-- The type, then the rest.
use native.Mathlib.Omega.{arith}
use Rattle.errors.proofs.Thrown.{thrown}
use Rattle.apply.proofs.Seen.{ok_is, err_is}
use Rattle.pairs.proofs.Frames.{long}
use Rattle.toplevel.proofs.Moves.{type_asks, type_moved}
use Rattle.toplevel.proofs.Lasts.{type_lost, type_gives}
use Rattle.toplevel.proofs.checks.check_after.Goals as goal

pub apply-requires : goal.apply-requires
apply-requires c = record { base_len_bound = c.requires.base_len_bound; ready = type_asks c.requires.ready_rest }

pub check_rows-requires : goal.check_rows-requires
check_rows-requires c = let b = c.requires.base_len_bound in let p = type_moved c.requires.ready_rest c.apply.ensures (ok_is c.in_ok-ty.was) (long c.args.base.now.words.now c.apply.new.work c.args.work.now c.apply.auto.work) in let m = p.more in record { base_len_bound = omega arith; ready_rest = p.ready }

pub returns : goal.returns
returns c = type_gives c.requires.ready_rest c.args.rules.classes.now c.apply.ensures (ok_is c.in_ok-ty.was) (long c.args.base.now.words.now c.apply.new.work c.args.work.now c.apply.auto.work) c.check_rows.ensures

pub returns-in_err-ty : goal.returns-in_err-ty
returns-in_err-ty c = rw (thrown _ c.from_residual.ensures.1) (type_lost c.requires.ready_rest c.args.rules.classes.now c.apply.ensures (err_is c.in_err-ty.was))
