-- The loop has passed every node.
use native.Mathlib.Omega.{arith}
use lib.ListN.{length-append}
use borrow.Author.Count.{below_more}
use Rattle.cases.proofs.Falling.{all_fall}
use Rattle.cases.proofs.ready.is_table.Goals as goal

pub loop-n-preserved : goal.loop-n-preserved
loop-n-preserved c = below_more _ _ c.loop-n.invariant (c.rises.ensures c.if-rises.false)

pub returns : goal.returns
returns c = λ e. all_fall _ _ (simp length-append (omega arith)) (omega arith) (λ k l. c.loop-n.invariant k (omega arith))
