-- `views::eight_at` meets its contract. Assumes nothing.
use Rattle.views.proofs.Onward.{value_is}
use Rattle.views.proofs.eight_at.Goals as goal

pub returns : goal.returns
returns c = value_is 8 _ _ _ _ c.eight.ensures c.unwrap_or.ensures
