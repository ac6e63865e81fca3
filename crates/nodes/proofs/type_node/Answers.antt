-- `nodes::type_node` meets its contract: each tag has its law. Assumes nothing.
use native.Mathlib.Omega.{arith}
use Rattle.nodes.proofs.Numbers.{sized}
use Rattle.nodes.proofs.Tags.{type_var, type_con, type_arrow, type_unknown, type_cut}
use Rattle.nodes.proofs.type_node.Goals as goal

pub returns-in-Some-eq0 : goal.returns-in-Some-eq0
returns-in-Some-eq0 c = type_var _ _ _ _ _ c.in-Some-eq0.ensures c.in-Some-eq0.field-0-test c.name_for.ensures

pub returns-in-Some-eq1 : goal.returns-in-Some-eq1
returns-in-Some-eq1 c = type_con _ _ _ _ _ c.in-Some-eq1.ensures c.in-Some-eq1.field-0-test c.constructor.ensures

pub returns-in-Some-eq2 : goal.returns-in-Some-eq2
returns-in-Some-eq2 c = type_arrow _ _ _ _ _ c.in-Some-eq2.ensures c.in-Some-eq2.field-0-test (sized _ _ _ _ _ _ c.two.ensures)

pub returns-in_default : goal.returns-in_default
returns-in_default c = type_unknown _ _ _ _ c.in_default.ensures (omega arith)

pub returns-in_default-2 : goal.returns-in_default-2
returns-in_default-2 c = type_cut _ _ _ (rw c.in_default.is at c.byte.ensures)
