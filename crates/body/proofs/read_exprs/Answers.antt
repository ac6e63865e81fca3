-- `body::read_exprs` meets its contract. Assumes nothing.
use Rattle.errors.proofs.Thrown.{thrown}
use Rattle.body.proofs.Sequel.{exprs_bad, exprs_on}
use Rattle.body.proofs.read_exprs.Goals as goal

pub returns-in_err-exprs : goal.returns-in_err-exprs
returns-in_err-exprs c = rw (thrown _ c.from_residual.ensures.1) (exprs_bad _ _ _ _ _ _ c.in_err-exprs.ensures)

pub returns : goal.returns
returns c = exprs_on _ _ _ _ _ _ c.requires.names_bound _ _ _ c.in_ok-exprs.ensures c.read_decls.ensures
