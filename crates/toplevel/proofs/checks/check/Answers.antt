-- The inference, then the rest.
use native.Mathlib.Omega.{arith}
use Rattle.errors.proofs.Thrown.{thrown}
use Rattle.inferred.proofs.Seen.{ok_is, err_is}
use Rattle.pairs.proofs.Frames.{long}
use Rattle.toplevel.proofs.Ways.{let_rest, let_more}
use Rattle.toplevel.proofs.Lasts.{check_lost, check_gives}
use Rattle.toplevel.proofs.checks.check.Goals as goal

pub check_after-requires : goal.check_after-requires
check_after-requires c = let b = c.requires.base_len_bound in let m = let_more c.requires.ready_i 0 c.infer.ensures (ok_is c.in_ok-of.was) in record { base_len_bound = omega arith; ready_rest = let_rest c.requires.ready_i 0 c.infer.ensures (ok_is c.in_ok-of.was) (long c.args.base.now.words.now c.infer.new.work c.args.work.now c.infer.auto.work) }

pub returns : goal.returns
returns c = check_gives c.requires.ready_i c.infer.ensures (ok_is c.in_ok-of.was) c.check_after.ensures

pub returns-in_err-of : goal.returns-in_err-of
returns-in_err-of c = rw (thrown _ c.from_residual.ensures.1) (check_lost c.requires.ready_i c.infer.ensures (err_is c.in_err-of.was))
