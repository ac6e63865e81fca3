-- The pairs composed, then the term.
use native.Mathlib.Omega.{arith}
use Rattle.errors.proofs.Thrown.{thrown}
use Rattle.apply.proofs.Seen.{ok_is, err_is}
use Rattle.ast.proofs.Join.{both_fit}
use Rattle.pairs.proofs.Frames.{long}
use Rattle.inferred.proofs.Lets.{let_both, let_last_lost, let_room, let_last_closed}
use Rattle.inferred.proofs.let_last.Goals as goal

pub compose_in-requires : goal.compose_in-requires
compose_in-requires c = record { base_len_bound = c.requires.base_len_bound; both = let_both c.requires.ready_let }

pub push_let-term-requires : goal.push_let-term-requires
push_let-term-requires c = let b = c.requires.base_len_bound in let q = let_room c.requires.ready_let c.args.x c.compose_in.ensures (ok_is c.in_ok-pairs.was) (long c.args.base.now.words.now c.compose_in.new.work c.args.work.now c.compose_in.auto.work) (both_fit c.args.base.now.words.now c.args.work.now (omega arith) c.well_formed.1.0.0) in let m = q.0 in record { base_len_bound = omega arith; top_in_bounds = q.1.0 }

pub returns : goal.returns
returns c = let z = c.push_let-term.ensures in rw (z.word, z.top, z.left) (let_last_closed c.requires.ready_let c.args.x c.compose_in.ensures (ok_is c.in_ok-pairs.was) (long c.args.base.now.words.now c.compose_in.new.work c.args.work.now c.compose_in.auto.work) (both_fit c.args.base.now.words.now c.args.work.now (omega arith) c.well_formed.1.0.0) z.is)

pub returns-in_err-pairs : goal.returns-in_err-pairs
returns-in_err-pairs c = rw (thrown _ c.from_residual.ensures.1) (let_last_lost c.requires.ready_let c.args.x c.compose_in.ensures (err_is c.in_err-pairs.was))
