-- `nodes::constructor` meets its contract. Assumes nothing.
use Rattle.nodes.proofs.Numbers.{pair_on, pair_bad, sized, refused}
use Rattle.nodes.proofs.Bodies.{con_pair}
use Rattle.nodes.proofs.constructor.Goals as goal

pub returns-in_err-arguments : goal.returns-in_err-arguments
returns-in_err-arguments c = refused _ _ _ _ _ _ c.from_residual.ensures.1 (con_pair _ _ _ _ (pair_bad _ _ _ _ _ _ (sized _ _ _ _ _ _ c.in_err-arguments.ensures)))

pub returns : goal.returns
returns c = con_pair _ _ _ _ (pair_on _ _ _ _ _ _ _ (sized _ _ _ _ _ _ c.in_ok-arguments.ensures) c.list.ensures)
