-- `views::number_at` meets its contract. Assumes nothing.
use Rattle.views.proofs.Onward.{value_is}
use Rattle.views.proofs.number_at.Goals as goal

pub returns : goal.returns
returns c = value_is 2 _ _ _ _ c.number.ensures c.unwrap_or.ensures
