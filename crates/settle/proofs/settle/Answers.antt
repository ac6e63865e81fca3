-- Each way out by its law.
use Rattle.errors.proofs.Thrown.{thrown}
use Rattle.pairs.proofs.Frames.{long}
use Rattle.apply.proofs.Seen.{ok_is, err_is}
use Rattle.reduce.proofs.Seen.{reduced_is, refused_is}
use Rattle.settle.proofs.Settling.{reduce_ready, reduce_lost, sort_out_ready, replace_ready, settle_lost, settle_done}
use Rattle.settle.proofs.settle.Goals as goal

pub reduce-requires : goal.reduce-requires
reduce-requires c = record { base_len_bound = c.requires.base_len_bound; ready_reduce = reduce_ready c.requires.ready_settle }

pub sort_out-deferred-requires : goal.sort_out-deferred-requires
sort_out-deferred-requires c = sort_out_ready c.requires.ready_settle c.reduce.ensures (long c.args.base.now.words.now c.reduce.new.work c.args.work.now c.reduce.auto.work) c.reduce.auto.binders (reduced_is c.in_ok-reduce.was)

pub replace_from-requires : goal.replace_from-requires
replace_from-requires c = let z = replace_ready c.requires.ready_settle c.reduce.ensures (long c.args.base.now.words.now c.reduce.new.work c.args.work.now c.reduce.auto.work) c.reduce.auto.binders (reduced_is c.in_ok-reduce.was) c.sort_out-deferred.ensures c.sort_out-deferred.auto.binders c.requires.base_len_bound in record { nd_le_n = z.0; n_in_bounds = z.1.0; base_len_bound = z.1.1.0; ready_replace = z.1.1.1 }

pub returns : goal.returns
returns c = settle_done c.requires.ready_settle c.reduce.ensures (long c.args.base.now.words.now c.reduce.new.work c.args.work.now c.reduce.auto.work) c.reduce.auto.binders (reduced_is c.in_ok-reduce.was) c.sort_out-deferred.ensures c.sort_out-deferred.auto.binders c.replace_from.ensures c.replace_from.auto.binders (ok_is c.in_ok-term.was)

pub returns-in_err-term : goal.returns-in_err-term
returns-in_err-term c = rw (thrown _ c.from_residual-in_err-term.ensures.1) (settle_lost c.requires.ready_settle c.reduce.ensures (long c.args.base.now.words.now c.reduce.new.work c.args.work.now c.reduce.auto.work) c.reduce.auto.binders (reduced_is c.in_ok-reduce.was) c.sort_out-deferred.ensures c.sort_out-deferred.auto.binders c.replace_from.ensures c.replace_from.auto.binders (err_is c.in_err-term.was))

pub returns-in_err-reduce : goal.returns-in_err-reduce
returns-in_err-reduce c = rw (thrown _ c.from_residual.ensures.1) (reduce_lost c.requires.ready_settle c.reduce.ensures (long c.args.base.now.words.now c.reduce.new.work c.args.work.now c.reduce.auto.work) c.reduce.auto.binders (refused_is c.in_err-reduce.was))
