-- The loop has passed every name.
use native.Mathlib.Omega.{arith}
use borrow.Author.Count.{below_more}
use Rattle.cases.proofs.Apart.{all_new}
use Rattle.cases.proofs.rows.are_distinct.Goals as goal

pub loop-i-preserved : goal.loop-i-preserved
loop-i-preserved c = below_more _ _ c.loop-i.invariant (c.is_old.ensures c.if-is_old.false)

pub returns : goal.returns
returns c = λ e. all_new c.args.names.now (λ i. omega (arith, c.shared_slice_known-1.given i)) (λ k l. c.loop-i.invariant k (omega arith))
