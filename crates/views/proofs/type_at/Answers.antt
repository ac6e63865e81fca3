-- `views::type_at` meets its contract. Assumes nothing.
use Rattle.views.proofs.TypeLaws.{type_placed}
use Rattle.views.proofs.type_at.Goals as goal

pub returns : goal.returns
returns c = type_placed _ _ _ _ _ c.word.ensures c.type_read.ensures
