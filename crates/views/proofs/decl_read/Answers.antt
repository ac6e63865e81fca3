-- `views::decl_read` meets its contract: each tag has its law. Assumes nothing.
use native.Mathlib.Omega.{arith}
use Rattle.views.proofs.DeclLaws.{decl_class, decl_instance, decl_let, decl_check, decl_unknown, decl_cut}
use Rattle.views.proofs.decl_read.Goals as goal

pub returns-in_err-byte : goal.returns-in_err-byte
returns-in_err-byte c = rw c.from_residual.ensures (decl_cut _ _ c.in_err-byte.ensures)

pub returns-in-0 : goal.returns-in-0
returns-in-0 c = decl_class _ _ _ c.in_ok-byte.ensures _ c.in-0.is c.class_read.ensures

pub returns-in-1 : goal.returns-in-1
returns-in-1 c = decl_instance _ _ _ c.in_ok-byte.ensures _ c.in-1.is c.instance_read.ensures

pub returns-in-2 : goal.returns-in-2
returns-in-2 c = decl_let _ _ _ c.in_ok-byte.ensures _ _ c.in-2.is c.number_at.ensures c.number_at-in-2.ensures

pub returns-in-3 : goal.returns-in-3
returns-in-3 c = decl_check _ _ _ c.in_ok-byte.ensures _ c.in-3.is c.number_at-in-3.ensures

pub returns-in_default : goal.returns-in_default
returns-in_default c = decl_unknown _ _ _ c.in_ok-byte.ensures (omega arith)
