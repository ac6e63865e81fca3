-- What the programs test of binders in rows.
use Rattle.std.specs.Prelude.{List, ℕ, ◌+◌, ◌<◌}
use Rattle.names.specs.Names.{first_fresh, first_node}
use Rattle.supers.specs.declared.rows.Row.{Row}
use Rattle.supers.specs.declared.rows.Row.TheVariants.{Pending, Replaced}
use Rattle.supers.specs.Rows.{row_at}

-- A pending row whose dictionary has a word, and whose type is below the end of a table of top nodes.
abbrev pub Typed : ℕ → Row → Type 0
Typed top (Pending d c t) = (d < first_fresh) × (t < first_node + top)
Typed top (Replaced d e) = ⊥

-- The first n rows are such.
pub record TypedRows (top : ℕ) (bs : List ℕ) (n : ℕ) : Type 0 where
  pub row : (j : ℕ) → j < n → Typed top (row_at bs j)
