-- `nodes::decls::decl_entry` meets its contract: each tag has its law. Assumes nothing.
use native.Mathlib.Omega.{arith}
use Rattle.nodes.proofs.Numbers.{sized}
use Rattle.nodes.proofs.Tags.{decl_class, decl_instance, decl_let, decl_check, decl_unknown, decl_cut}
use Rattle.nodes.proofs.decls.decl_entry.Goals as goal

pub returns-in-Some-eq0 : goal.returns-in-Some-eq0
returns-in-Some-eq0 c = decl_class _ _ _ _ _ c.in-Some-eq0.ensures c.in-Some-eq0.field-0-test c.class_entry.ensures

pub returns-in-Some-eq1 : goal.returns-in-Some-eq1
returns-in-Some-eq1 c = decl_instance _ _ _ _ _ c.in-Some-eq1.ensures c.in-Some-eq1.field-0-test c.instance_entry.ensures

pub returns-in-Some-eq2 : goal.returns-in-Some-eq2
returns-in-Some-eq2 c = decl_let _ _ _ _ _ c.in-Some-eq2.ensures c.in-Some-eq2.field-0-test c.worded.ensures

pub returns-in-Some-eq3 : goal.returns-in-Some-eq3
returns-in-Some-eq3 c = decl_check _ _ _ _ _ c.in-Some-eq3.ensures c.in-Some-eq3.field-0-test (sized _ _ _ _ _ _ c.one_of.ensures)

pub returns-in_default : goal.returns-in_default
returns-in_default c = decl_unknown _ _ _ _ c.in_default.ensures (omega arith)

pub returns-in_default-2 : goal.returns-in_default-2
returns-in_default-2 c = decl_cut _ _ _ (rw c.in_default.is at c.byte.ensures)
