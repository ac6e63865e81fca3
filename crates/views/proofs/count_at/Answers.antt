-- `views::count_at` meets its contract. Assumes nothing.
use Rattle.views.proofs.Listings.{count_read}
use Rattle.views.proofs.count_at.Goals as goal

pub returns : goal.returns
returns c = count_read _ _ _ _ c.counted.ensures c.unwrap_or.ensures
