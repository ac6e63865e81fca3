-- The inference, then the rest.
use native.Mathlib.Omega.{arith}
use Rattle.errors.proofs.Thrown.{thrown}
use Rattle.inferred.proofs.Seen.{ok_is, err_is}
use Rattle.pairs.proofs.Frames.{long}
use Rattle.toplevel.proofs.Ways.{let_lost, let_rest, let_there, let_more, let_gives}
use Rattle.toplevel.proofs.process_let.Goals as goal

pub let_after-requires : goal.let_after-requires
let_after-requires c = let b = c.requires.base_len_bound in let m = let_more c.requires.ready_i 0 c.infer.ensures (ok_is c.in_ok-bound.was) in record { base_len_bound = omega arith; ready_rest = let_rest c.requires.ready_i 0 c.infer.ensures (ok_is c.in_ok-bound.was) (long c.args.base.now.words.now c.infer.new.work c.args.work.now c.infer.auto.work); x_in_bounds = let_there c.requires.ready_i _ c.infer.ensures (ok_is c.in_ok-bound.was) c.requires.x_bound }

pub returns : goal.returns
returns c = let_gives c.requires.ready_i _ c.infer.ensures (ok_is c.in_ok-bound.was) c.let_after.ensures

pub returns-in_err-bound : goal.returns-in_err-bound
returns-in_err-bound c = rw (thrown _ c.from_residual.ensures.1) (let_lost c.requires.ready_i _ c.infer.ensures (err_is c.in_err-bound.was))
