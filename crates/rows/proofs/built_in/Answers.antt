-- `rows::built_in` meets its contract. The loop's invariant: the rows before b have other bytes. Assumes nothing.
use mathlib.Core.Path.{sym, ◌∙◌}
use native.Mathlib.Omega.{arith}
use borrow.Author.Count.{below_none, below_more}
use Rattle.theorems.proofs.Tests.{eqb_true, eqb_false}
use Rattle.rows.proofs.built_in.Goals as goal

pub loop-b-init : goal.loop-b-init
loop-b-init c = below_none _

pub returns-then-same_row : goal.returns-then-same_row
returns-then-same_row c = record { is = (omega arith, sym (eqb_true _ _ (sym c.same_row.ensures ∙ c.if-same_row.true))) }

pub loop-b-preserved : goal.loop-b-preserved
loop-b-preserved c = below_more _ _ c.loop-b.invariant (λ e. eqb_false _ _ (sym c.same_row.ensures ∙ c.if-same_row.false) (sym e))

pub returns : goal.returns
returns c = record { is = λ b h e. c.loop-b.invariant b (omega arith) e }
