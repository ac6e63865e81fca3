-- The part's rows are rows of the whole.
use Rattle.settle.proofs.Parts.{part_ready, part_done}
use Rattle.settle.proofs.replace_from.Goals as goal

pub replace-requires : goal.replace-requires
replace-requires c = record { base_len_bound = c.requires.base_len_bound; ready_replace = part_ready c.requires.nd_le_n c.requires.n_in_bounds c.requires.ready_replace }

pub returns : goal.returns
returns c = part_done _ c.requires.nd_le_n c.requires.n_in_bounds c.replace.auto.binders c.replace.ensures
