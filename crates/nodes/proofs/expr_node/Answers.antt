-- `nodes::expr_node` meets its contract: each tag has its law. Assumes nothing.
use native.Mathlib.Omega.{arith}
use Rattle.nodes.proofs.Numbers.{sized}
use Rattle.nodes.proofs.Tags.{expr_var, expr_int, expr_bool, expr_abs, expr_app, expr_let, expr_unknown, expr_cut}
use Rattle.nodes.proofs.expr_node.Goals as goal

pub returns-in-Some-eq0 : goal.returns-in-Some-eq0
returns-in-Some-eq0 c = expr_var _ _ _ _ _ c.in-Some-eq0.ensures c.in-Some-eq0.field-0-test c.name_for.ensures

pub returns-in-Some-eq1 : goal.returns-in-Some-eq1
returns-in-Some-eq1 c = expr_int _ _ _ _ _ c.in-Some-eq1.ensures c.in-Some-eq1.field-0-test c.int.ensures

pub returns-in-Some-eq2 : goal.returns-in-Some-eq2
returns-in-Some-eq2 c = expr_bool _ _ _ _ _ c.in-Some-eq2.ensures c.in-Some-eq2.field-0-test c.bool.ensures

pub returns-in-Some-eq3 : goal.returns-in-Some-eq3
returns-in-Some-eq3 c = expr_abs _ _ _ _ _ c.in-Some-eq3.ensures c.in-Some-eq3.field-0-test c.worded.ensures

pub returns-in-Some-eq4 : goal.returns-in-Some-eq4
returns-in-Some-eq4 c = expr_app _ _ _ _ _ c.in-Some-eq4.ensures c.in-Some-eq4.field-0-test (sized _ _ _ _ _ _ c.two.ensures)

pub returns-in-Some-eq5 : goal.returns-in-Some-eq5
returns-in-Some-eq5 c = expr_let _ _ _ _ _ c.in-Some-eq5.ensures c.in-Some-eq5.field-0-test c.binding.ensures

pub returns-in_default : goal.returns-in_default
returns-in_default c = expr_unknown _ _ _ _ c.in_default.ensures (omega arith)

pub returns-in_default-2 : goal.returns-in_default-2
returns-in_default-2 c = expr_cut _ _ _ (rw c.in_default.is at c.byte.ensures)
