-- The loop's invariant: the first p primitives are added.
use native.Mathlib.Omega.{arith}
use Rattle.primitives.proofs.Added.{none_added, next_ready, next_added, all_added}
use Rattle.primitives.proofs.add_primitives.Goals as goal

pub loop-p-preserved : goal.loop-p-preserved
loop-p-preserved c = next_added c.requires.ready_prims c.loop-p.invariant c.loop-p-test.true c.add_one-t.ensures

pub returns : goal.returns
returns c = all_added c.requires.ready_prims c.loop-p.invariant (let l = c.loop-p-test.false in omega arith)

pub loop-p-init : goal.loop-p-init
loop-p-init c = none_added c.requires.ready_prims

pub add_one-t-requires : goal.add_one-t-requires
add_one-t-requires c = let a = c.requires.base_len_bound in let g = c.loop-p.invariant.grown in record { base_len_bound = omega arith; ready_one = next_ready c.requires.ready_prims c.loop-p.invariant c.loop-p-test.true }
