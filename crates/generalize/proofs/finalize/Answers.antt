-- What is settled without an environment, then the names.
use native.Mathlib.Omega.{arith}
use Rattle.errors.proofs.Thrown.{thrown}
use Rattle.pairs.proofs.Frames.{long}
use Rattle.settle.proofs.Seen.{settled_is, unsettled_is}
use Rattle.generalize.proofs.Seen.{named_is, unnamed_is}
use Rattle.generalize.proofs.FromWays.{settle_more, from_asked, from_term}
use Rattle.generalize.proofs.FinalWays.{final_refused, names_stop, names_done}
use Rattle.generalize.proofs.finalize.Goals as goal

pub settle-requires : goal.settle-requires
settle-requires c = record { base_len_bound = c.requires.base_len_bound; ready_settle = c.requires.ready_generalize.settle }

pub name_from-requires : goal.name_from-requires
name_from-requires c = let x = c.requires.base_len_bound in let y = settle_more c.requires.ready_generalize c.settle.ensures (settled_is c.in_ok-r.was) in let z = y.1.1 in record { nd_le_n = y.0; n_in_bounds = y.1.0; base_len_bound = omega arith; ready_from = from_asked c.requires.ready_generalize c.settle.ensures (settled_is c.in_ok-r.was) (long c.args.base.now.words.now c.settle.new.work c.args.work.now c.settle.auto.work); node = from_term c.requires.ready_generalize c.settle.ensures (settled_is c.in_ok-r.was) }

pub returns : goal.returns
returns c = names_done c.requires.ready_generalize c.settle.ensures (settled_is c.in_ok-r.was) c.name_from.ensures c.name_from.auto.binders (named_is c.in_ok-q.was)

pub returns-in_err-q : goal.returns-in_err-q
returns-in_err-q c = rw (thrown _ c.from_residual-in_err-q.ensures.1) (names_stop c.requires.ready_generalize c.settle.ensures (settled_is c.in_ok-r.was) c.name_from.ensures c.name_from.auto.binders (unnamed_is c.in_err-q.was))

pub returns-in_err-r : goal.returns-in_err-r
returns-in_err-r c = rw (thrown _ c.from_residual.ensures.1) (final_refused c.requires.ready_generalize c.settle.ensures (unsettled_is c.in_err-r.was))
