-- `views::class_read` meets its contract. Assumes nothing.
use Rattle.views.proofs.DeclLaws.{class_is}
use Rattle.views.proofs.class_read.Goals as goal

pub returns : goal.returns
returns c = class_is _ _ _ _ _ _ _ c.number_at.ensures c.number_at-2.ensures c.list_at-supers.ensures c.list_at-signatures.ensures c.list_at-defaults.ensures
