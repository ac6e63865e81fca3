-- `nodes::decls::instance_entry` meets its contract: its parts one after the other. Assumes nothing.
use Rattle.nodes.proofs.Numbers.{pair_on, pair_bad, pred_pair, sized, refused}
use Rattle.nodes.proofs.Bodies.{instance_parts}
use Rattle.nodes.proofs.decls.instance_entry.Goals as goal

pub returns-in_err-head : goal.returns-in_err-head
returns-in_err-head c = refused _ _ _ _ _ _ c.from_residual.ensures.1 (instance_parts _ _ _ _ (pair_bad _ _ _ _ _ _ c.in_err-head.ensures))

pub returns-in_err-methods : goal.returns-in_err-methods
returns-in_err-methods c = refused _ _ _ _ _ _ c.from_residual-in_err-methods.ensures.1 (instance_parts _ _ _ _ (pair_on _ _ _ _ _ _ _ c.in_ok-head.ensures (pair_bad _ _ _ _ _ _ (sized _ _ _ _ _ _ (pred_pair _ _ _ _ c.in_err-methods.ensures)))))

pub returns : goal.returns
returns c = instance_parts _ _ _ _ (pair_on _ _ _ _ _ _ _ c.in_ok-head.ensures (pair_on _ _ _ _ _ _ _ (sized _ _ _ _ _ _ (pred_pair _ _ _ _ c.in_ok-methods.ensures)) c.list-2.ensures))
