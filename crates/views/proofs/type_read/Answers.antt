-- `views::type_read` meets its contract: each tag has its law. Assumes nothing.
use native.Mathlib.Omega.{arith}
use mathlib.Core.Path.{refl}
use Rattle.views.proofs.TypeLaws.{type_var, type_con, type_arrow, type_unknown, type_cut}
use Rattle.views.proofs.type_read.Goals as goal

pub returns-in_err-byte : goal.returns-in_err-byte
returns-in_err-byte c = rw c.from_residual.ensures (type_cut _ _ c.in_err-byte.ensures)

pub returns-in-0 : goal.returns-in-0
returns-in-0 c = type_var _ _ _ c.in_ok-byte.ensures _ c.in-0.is c.number_at.ensures

pub returns-in-1 : goal.returns-in-1
returns-in-1 c = type_con _ _ _ c.in_ok-byte.ensures _ _ _ c.in-1.is c.number_at-in-1.ensures refl c.count_at.ensures

pub returns-in-2 : goal.returns-in-2
returns-in-2 c = type_arrow _ _ _ c.in_ok-byte.ensures _ _ c.in-2.is c.number_at-in-2.ensures c.number_at-in-2-2.ensures

pub returns-in_default : goal.returns-in_default
returns-in_default c = type_unknown _ _ _ c.in_ok-byte.ensures (omega arith)
