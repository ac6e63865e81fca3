-- `views::expr_read` meets its contract: each tag has its law. Assumes nothing.
use native.Mathlib.Omega.{arith}
use Rattle.views.proofs.ExprLaws.{expr_var, expr_int, expr_bool, expr_abs, expr_app, expr_let, expr_unknown, expr_cut}
use Rattle.views.proofs.expr_read.Goals as goal

pub returns-in_err-byte : goal.returns-in_err-byte
returns-in_err-byte c = rw c.from_residual.ensures (expr_cut _ _ c.in_err-byte.ensures)

pub returns-in-0 : goal.returns-in-0
returns-in-0 c = expr_var _ _ _ c.in_ok-byte.ensures _ c.in-0.is c.number_at.ensures

pub returns-in-1 : goal.returns-in-1
returns-in-1 c = expr_int _ _ _ c.in_ok-byte.ensures _ c.in-1.is c.eight_at.ensures

pub returns-in-2 : goal.returns-in-2
returns-in-2 c = expr_bool _ _ _ c.in_ok-byte.ensures _ c.in-2.is c.flag_at.ensures

pub returns-in-3 : goal.returns-in-3
returns-in-3 c = expr_abs _ _ _ c.in_ok-byte.ensures _ _ c.in-3.is c.number_at-in-3.ensures c.number_at-in-3-2.ensures

pub returns-in-4 : goal.returns-in-4
returns-in-4 c = expr_app _ _ _ c.in_ok-byte.ensures _ _ c.in-4.is c.number_at-in-4.ensures c.number_at-in-4-2.ensures

pub returns-in-5 : goal.returns-in-5
returns-in-5 c = expr_let _ _ _ c.in_ok-byte.ensures _ _ _ c.in-5.is c.number_at-in-5.ensures c.number_at-in-5-2.ensures c.number_at-in-5-3.ensures

pub returns-in_default : goal.returns-in_default
returns-in_default c = expr_unknown _ _ _ c.in_ok-byte.ensures (omega arith)
