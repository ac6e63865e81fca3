-- The predicates, then the type.
use Rattle.canonical.proofs.Sorting.{last_qual}
use Rattle.canonical.proofs.sorted.last_before.Goals as goal

pub returns : goal.returns
returns c = last_qual _ c.requires.node c.last_list-m.ensures c.last_in.ensures
