-- The loop has passed every instance.
use native.Mathlib.Omega.{arith}
use borrow.Author.Count.{below_more}
use Rattle.cases.proofs.Tested.{all_headed}
use Rattle.cases.proofs.goals.have_heads.Goals as goal

pub loop-i-preserved : goal.loop-i-preserved
loop-i-preserved c = below_more _ _ c.loop-i.invariant (c.has_head.ensures c.if-not-has_head.false)

pub returns : goal.returns
returns c = λ e. all_headed c.requires.table (λ k l. c.loop-i.invariant k (omega arith))
