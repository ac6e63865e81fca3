-- `file::read` meets its contract. Assumes nothing.
use native.Mathlib.Omega.{arith}
use Rattle.errors.proofs.Thrown.{thrown}
use Rattle.file.proofs.Whole.{too_long, count_bad, names_bad, names_on}
use Rattle.file.proofs.read.Goals as goal

pub returns-then-src-gt65535 : goal.returns-then-src-gt65535
returns-then-src-gt65535 c = too_long _ _ _ (omega arith)

pub returns-in_err-count : goal.returns-in_err-count
returns-in_err-count c = rw (thrown _ c.from_residual.ensures.1) (count_bad _ _ _ (omega arith) _ c.in_err-count.ensures)

pub returns-in_err-end : goal.returns-in_err-end
returns-in_err-end c = rw (thrown _ c.from_residual-in_err-end.ensures.1) (names_bad _ _ _ _ _ (omega arith) _ c.in_ok-count.ensures _ c.in_err-end.ensures)

pub returns : goal.returns
returns c = names_on _ _ _ _ _ (omega arith) _ c.in_ok-count.ensures _ _ c.in_ok-end.ensures c.read_types.ensures
