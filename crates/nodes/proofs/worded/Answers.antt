-- `nodes::worded` meets its contract. Assumes nothing.
use Rattle.nodes.proofs.Numbers.{pair_on, pair_bad, sized, refused}
use Rattle.nodes.proofs.worded.Goals as goal

pub returns-in_err-number : goal.returns-in_err-number
returns-in_err-number c = refused _ _ _ _ _ _ c.from_residual.ensures.1 (pair_bad _ _ _ _ _ _ c.in_err-number.ensures)

pub returns : goal.returns
returns c = pair_on _ _ _ _ _ _ _ c.in_ok-number.ensures (sized _ _ _ _ _ _ c.one_of.ensures)
