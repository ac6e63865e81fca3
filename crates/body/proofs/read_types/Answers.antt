-- `body::read_types` meets its contract. Assumes nothing.
use Rattle.errors.proofs.Thrown.{thrown}
use Rattle.body.proofs.Sequel.{types_bad, types_on}
use Rattle.body.proofs.read_types.Goals as goal

pub returns-in_err-types : goal.returns-in_err-types
returns-in_err-types c = rw (thrown _ c.from_residual.ensures.1) (types_bad _ _ _ _ _ _ c.in_err-types.ensures)

pub returns : goal.returns
returns c = types_on _ _ _ _ _ _ c.requires.names_bound _ _ _ c.in_ok-types.ensures c.read_exprs.ensures
