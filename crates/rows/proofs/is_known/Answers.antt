-- `rows::is_known` meets its contract. The loop's invariant: the rows before r have other bytes. Assumes nothing.
use mathlib.Core.Path.{sym, ◌∙◌}
use native.Mathlib.Omega.{arith}
use Rattle.rows.proofs.Listed.{none_with, one_with, none_more}
use Rattle.rows.proofs.is_known.Goals as goal

pub returns-then-same_row : goal.returns-then-same_row
returns-then-same_row c = sym (one_with _ _ 35 c.args.m c.loop-r.r (omega arith) (omega arith) (sym c.same_row.ensures ∙ c.if-same_row.true))

pub loop-r-preserved : goal.loop-r-preserved
loop-r-preserved c = none_more _ _ _ c.loop-r.invariant (sym c.same_row.ensures ∙ c.if-same_row.false)

pub returns : goal.returns
returns c = sym (none_with _ _ 35 c.args.m (λ j p q. c.loop-r.invariant j p (omega arith)))
