-- The loop has passed every row.
use native.Mathlib.Omega.{arith}
use borrow.Author.Count.{below_more}
use Rattle.cases.proofs.Rowed.{typed_row}
use Rattle.cases.proofs.binders.are_typed.Goals as goal

pub loop-j-preserved : goal.loop-j-preserved
loop-j-preserved c = below_more _ _ c.loop-j.invariant (typed_row _ _ _ _ _ _ _ c.row_at-r.ensures c.in-Pending.is (omega arith) (omega arith))

pub returns : goal.returns
returns c = λ e. record { row = λ j l. c.loop-j.invariant j (omega arith) }
