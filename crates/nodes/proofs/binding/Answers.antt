-- `nodes::binding` meets its contract. Assumes nothing.
use Rattle.nodes.proofs.Numbers.{sized, refused}
use Rattle.nodes.proofs.Bodies.{let_on, let_bad}
use Rattle.nodes.proofs.binding.Goals as goal

pub returns-in_err-parts : goal.returns-in_err-parts
returns-in_err-parts c = refused _ _ _ _ _ _ c.from_residual.ensures.1 (let_bad _ _ _ _ c.in_err-parts.ensures)

pub returns : goal.returns
returns c = let_on _ _ _ _ _ c.in_ok-parts.ensures (sized _ _ _ _ _ _ c.two.ensures)
