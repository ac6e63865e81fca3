-- First the type, then the predicates.
use Rattle.subst.proofs.SchemeWays.{closed_preds, not_closed}
use Rattle.subst.proofs.is_closed.Goals as goal

pub returns-then-all_bound : goal.returns-then-all_bound
returns-then-all_bound c = closed_preds _ c.requires.node_2 _ _ c.all_bound.ensures c.if-all_bound.true c.all_bound_list.ensures

pub returns : goal.returns
returns c = not_closed _ c.requires.node_2 _ _ c.all_bound.ensures c.if-all_bound.false
