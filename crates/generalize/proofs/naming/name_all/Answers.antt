-- The array has room for 26 words.
use borrow.Author.Rules.{rules}
use Rattle.generalize.proofs.naming.name_all.Goals as goal

pub name_with-requires : goal.name_with-requires
name_with-requires c = record { base_len_bound = c.requires.base_len_bound; ready_names = c.requires.ready_names; node = c.requires.node; in_bounds = search rules }
