-- The part's rows are rows of the whole.
use Rattle.generalize.proofs.FromWays.{part_asked}
use Rattle.generalize.proofs.FinalWays.{names_given}
use Rattle.generalize.proofs.name_from.Goals as goal

pub name_all-requires : goal.name_all-requires
name_all-requires c = record { base_len_bound = c.requires.base_len_bound; ready_names = part_asked c.requires.ready_from; node = c.requires.node }

pub returns : goal.returns
returns c = names_given _ c.requires.ready_from c.name_all.ensures
