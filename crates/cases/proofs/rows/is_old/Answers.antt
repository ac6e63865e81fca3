-- The loop has passed every name before.
use native.Mathlib.Omega.{arith}
use borrow.Author.Count.{below_more}
use Rattle.cases.proofs.rows.is_old.Goals as goal

pub loop-j-preserved : goal.loop-j-preserved
loop-j-preserved c = below_more _ _ c.loop-j.invariant (c.is_same.ensures c.if-is_same.false)

pub returns : goal.returns
returns c = λ e. record { apart = λ k l. c.loop-j.invariant k (omega arith) }
