-- The order of two small words is that of their names.
use Rattle.order.proofs.Less.{names_before}
use Rattle.order.proofs.name_less.Goals as goal

pub returns : goal.returns
returns c = names_before _ _ _ _ c.requires.i_bound c.requires.j_bound c.before-2.ensures
