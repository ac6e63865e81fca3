-- `views::expr_at` meets its contract. Assumes nothing.
use Rattle.views.proofs.ExprLaws.{expr_placed}
use Rattle.views.proofs.expr_at.Goals as goal

pub returns : goal.returns
returns c = expr_placed _ _ _ _ _ c.word.ensures c.expr_read.ensures
