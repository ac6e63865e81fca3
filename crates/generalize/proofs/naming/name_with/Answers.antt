-- The words that get the letters, then the rest.
use lib.ListN.{length-take}
use native.Mathlib.Omega.{arith}
use Rattle.generalize.proofs.NameWays.{letters_asked, letters_chosen}
use Rattle.generalize.proofs.naming.name_with.Goals as goal

pub letters-k-requires : goal.letters-k-requires
letters-k-requires c = record { ready_rows = letters_asked c.requires.ready_names; in_bounds = c.requires.in_bounds }

pub slice_bounds-name_rest-end-2 : goal.slice_bounds-name_rest-end-2
slice_bounds-name_rest-end-2 c = simp length-take (omega arith)

pub name_rest-requires : goal.name_rest-requires
name_rest-requires c = record { base_len_bound = c.requires.base_len_bound; ready_names = c.requires.ready_names; node = c.requires.node; chosen = letters_chosen c.requires.ready_names c.letters-k.ensures }
