-- The type is renamed, and then the record made.
use native.Mathlib.Omega.{arith}
use Rattle.ast.proofs.Join.{both_fit}
use Rattle.errors.proofs.Thrown.{thrown}
use Rattle.pairs.proofs.Frames.{long}
use Rattle.apply.proofs.Seen.{ok_is, err_is}
use Rattle.canoncore.proofs.TypeWays.{rec_refused, rec_done}
use Rattle.canoncore.proofs.types.in_rec.Goals as goal

pub returns : goal.returns
returns c = rw (c.push_rec.ensures.word, c.push_rec.ensures.top, c.push_rec.ensures.left) (rec_done c.requires.ready_letters c.rename.ensures _ _ (ok_is c.in_ok-m.was) (long c.args.base.now.words.now c.rename.new.work c.args.work.now c.rename.auto.work) (both_fit c.args.base.now.words.now c.args.work.now (omega arith) c.well_formed.1.0.0) c.push_rec.ensures.is)

pub returns-in_err-m : goal.returns-in_err-m
returns-in_err-m c = rw (thrown _ c.from_residual.ensures.1) (rec_refused c.requires.ready_letters c.rename.ensures _ _ (err_is c.in_err-m.was))
