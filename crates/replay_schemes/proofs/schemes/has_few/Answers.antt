-- The arguments are a list of the table.
use Rattle.ast.proofs.Laws.{con_child}
use Rattle.replay_schemes.proofs.Ways.{few_con}
use Rattle.replay_schemes.proofs.schemes.has_few.Goals as goal

pub is_few-requires : goal.is_few-requires
is_few-requires c = (con_child c.requires c.shape_at-s.ensures c.in-Con.is).1

pub returns : goal.returns
returns c = λ e. few_con c.requires c.shape_at-s.ensures c.in-Con.is (c.is_few.ensures e)
