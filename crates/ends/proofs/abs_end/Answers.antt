-- The variable's type, then the arrow and the term.
use native.Mathlib.Omega.{arith}
use Rattle.ast.proofs.Join.{both_fit}
use Rattle.errors.proofs.Thrown.{thrown}
use Rattle.pairs.proofs.Frames.{long}
use Rattle.apply.proofs.Seen.{ok_is, err_is}
use Rattle.ends.proofs.Functions.{abs_refused, abs_room, abs_arrow, abs_done}
use Rattle.ends.proofs.abs_end.Goals as goal

pub returns-in_err-u : goal.returns-in_err-u
returns-in_err-u c = rw (thrown _ c.from_residual.ensures.1) (abs_refused c.requires.ready_abs c.args.x c.apply.ensures (err_is c.in_err-u.was))

pub push_abs-term-requires-clause-top_in_bounds : goal.push_abs-term-requires-clause-top_in_bounds
push_abs-term-requires-clause-top_in_bounds c = let b = c.requires.base_len_bound in let q = abs_room c.requires.ready_abs c.args.x c.apply.ensures (ok_is c.in_ok-u.was) (long c.args.base.now.words.now c.apply.new.work c.args.work.now c.apply.auto.work) (both_fit c.args.base.now.words.now c.args.work.now (omega arith) c.well_formed.1.0.0) in let m = q.0.more in let n = q.1.0 in let y = (abs_arrow c.requires.ready_abs c.args.x c.apply.ensures (ok_is c.in_ok-u.was) (long c.args.base.now.words.now c.apply.new.work c.args.work.now c.apply.auto.work) (both_fit c.args.base.now.words.now c.args.work.now (omega arith) c.well_formed.1.0.0) c.add-ty.ensures.is).long in let z = c.add-ty.ensures.top in omega arith

pub returns : goal.returns
returns c = rw (c.push_abs-term.ensures.word, c.push_abs-term.ensures.top, c.push_abs-term.ensures.left, c.add-ty.ensures.word, c.add-ty.ensures.top, c.add-ty.ensures.left) (abs_done c.requires.ready_abs c.args.x c.apply.ensures (ok_is c.in_ok-u.was) (long c.args.base.now.words.now c.apply.new.work c.args.work.now c.apply.auto.work) (both_fit c.args.base.now.words.now c.args.work.now (omega arith) c.well_formed.1.0.0) c.add-ty.ensures.is (rw c.add-ty.ensures.top at c.push_abs-term.ensures.is))
