-- `nodes::two` meets its contract. Assumes nothing.
use Rattle.nodes.proofs.Numbers.{pair_on, pair_bad, refused}
use Rattle.nodes.proofs.two.Goals as goal

pub returns-in_err-second : goal.returns-in_err-second
returns-in_err-second c = refused _ _ _ _ _ _ c.from_residual.ensures.1 (pair_bad _ _ _ _ _ _ c.in_err-second.ensures)

pub returns : goal.returns
returns c = pair_on _ _ _ _ _ _ _ c.in_ok-second.ensures c.one_of-2.ensures
