-- `views::instance_read` meets its contract. Assumes nothing.
use Rattle.views.proofs.DeclLaws.{instance_is}
use Rattle.views.proofs.instance_read.Goals as goal

pub returns : goal.returns
returns c = instance_is _ _ _ _ _ _ c.list_at-context.ensures c.number_at.ensures c.number_at-2.ensures c.list_at-methods.ensures
