-- The part's rows are rows of the whole.
use Rattle.generalize.proofs.FromWays.{part_asked, part_given}
use Rattle.generalize.proofs.conclude_from.Goals as goal

pub conclude-requires : goal.conclude-requires
conclude-requires c = record { base_len_bound = c.requires.base_len_bound; ready_names = part_asked c.requires.ready_from; node = c.requires.node }

pub returns : goal.returns
returns c = part_given _ _ c.requires.ready_from c.conclude.ensures
