-- The loop's invariant: the rows that are left give what all of them give, from what those before them became.
use native.Mathlib.Omega.{arith}
use Rattle.errors.proofs.Thrown.{thrown}
use Rattle.pairs.proofs.Frames.{long}
use Rattle.reduce.proofs.Seen.{reduced_is, refused_is}
use Rattle.reduce.proofs.Loops.{reducing, reduced_all, reduced_ready, reduced_refused, reduced_on}
use Rattle.reduce.proofs.reduce.Goals as goal

pub loop-j-init : goal.loop-j-init
loop-j-init c = reducing c.requires.ready_reduce c.args.rules.classes.now

pub reduce_row-requires : goal.reduce_row-requires
reduce_row-requires c = let a = c.requires.base_len_bound in let b = c.loop-j.invariant.more in record { base_len_bound = omega arith; ready_reduce = reduced_ready c.requires.ready_reduce c.args.rules.classes.now c.loop-j.invariant c.loop-j-test.true }

pub returns-in_err-reduce_row : goal.returns-in_err-reduce_row
returns-in_err-reduce_row c = rw (thrown _ c.from_residual.ensures.1) (reduced_refused c.requires.ready_reduce c.args.rules.classes.now c.loop-j.invariant c.loop-j-test.true c.reduce_row.ensures (refused_is c.in_err-reduce_row.was))

pub loop-j-preserved : goal.loop-j-preserved
loop-j-preserved c = reduced_on c.requires.ready_reduce c.args.rules.classes.now c.loop-j.invariant c.loop-j-test.true c.reduce_row.ensures (reduced_is c.in_ok-reduce_row.was) (long c.args.base.now.words.now c.reduce_row.new.work c.loop-j.work c.reduce_row.auto.work) c.reduce_row.auto.binders

pub returns : goal.returns
returns c = reduced_all c.requires.ready_reduce c.args.rules.classes.now c.loop-j.invariant (let l = c.loop-j-test.false in omega arith)
