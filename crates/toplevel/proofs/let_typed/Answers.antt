-- The type, then the rest.
use native.Mathlib.Omega.{arith}
use Rattle.errors.proofs.Thrown.{thrown}
use Rattle.apply.proofs.Seen.{ok_is, err_is}
use Rattle.pairs.proofs.Frames.{long}
use Rattle.toplevel.proofs.Moves.{type_asks, type_moved}
use Rattle.toplevel.proofs.Ways.{typed_lost, typed_gives}
use Rattle.toplevel.proofs.let_typed.Goals as goal

pub apply-requires : goal.apply-requires
apply-requires c = record { base_len_bound = c.requires.base_len_bound; ready = type_asks c.requires.ready_rest }

pub let_general-requires : goal.let_general-requires
let_general-requires c = let b = c.requires.base_len_bound in let p = type_moved c.requires.ready_rest c.apply.ensures (ok_is c.in_ok-ty.was) (long c.args.base.now.words.now c.apply.new.work c.args.work.now c.apply.auto.work) in let m = p.more in record { base_len_bound = omega arith; ready_rest = p.ready; x_in_bounds = c.requires.x_in_bounds }

pub returns : goal.returns
returns c = typed_gives c.requires.ready_rest _ c.requires.x_in_bounds c.args.rules.classes.now c.apply.ensures (ok_is c.in_ok-ty.was) (long c.args.base.now.words.now c.apply.new.work c.args.work.now c.apply.auto.work) c.let_general.ensures

pub returns-in_err-ty : goal.returns-in_err-ty
returns-in_err-ty c = rw (thrown _ c.from_residual.ensures.1) (typed_lost c.requires.ready_rest _ c.requires.x_in_bounds c.args.rules.classes.now c.apply.ensures (err_is c.in_err-ty.was))
