-- Each way out by its law.
use Rattle.errors.proofs.Thrown.{thrown}
use Rattle.pairs.proofs.Frames.{long}
use Rattle.simplify.proofs.Seen.{ok_is, err_is}
use Rattle.settle.proofs.Parts.{simplify_ready, walk_ready, walk_done, walk_never}
use Rattle.settle.proofs.replace.Goals as goal

pub simplify_context-requires : goal.simplify_context-requires
simplify_context-requires c = record { base_len_bound = c.requires.base_len_bound; ready_simplify = simplify_ready c.requires.ready_replace }

pub subst_core-requires : goal.subst_core-requires
subst_core-requires c = let z = walk_ready c.requires.ready_replace c.simplify_context.ensures (long c.args.base.now.words.now c.simplify_context.new.work c.args.work.now c.simplify_context.auto.work) c.simplify_context.auto.binders (ok_is c.in_ok-simplify_context.was) c.requires.base_len_bound in record { base_len_bound = z.0; ready_term = z.1 }

pub returns : goal.returns
returns c = walk_done c.requires.ready_replace c.simplify_context.ensures (long c.args.base.now.words.now c.simplify_context.new.work c.args.work.now c.simplify_context.auto.work) c.simplify_context.auto.binders (ok_is c.in_ok-simplify_context.was) c.subst_core.ensures

pub returns-in_err-simplify_context : goal.returns-in_err-simplify_context
returns-in_err-simplify_context c = rw (thrown _ c.from_residual.ensures.1) (walk_never c.requires.ready_replace c.simplify_context.ensures (long c.args.base.now.words.now c.simplify_context.new.work c.args.work.now c.simplify_context.auto.work) c.simplify_context.auto.binders (err_is c.in_err-simplify_context.was))
