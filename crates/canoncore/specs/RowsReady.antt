-- What is asked of rows that become a list of binders.
use Rattle.std.specs.Prelude.{List, ℕ, ◌+◌, ◌*◌, ◌<◌, ◌≤◌, length}
use Rattle.names.specs.Names.{Names}
use Rattle.ast.specs.Table.{Table}
use Rattle.supers.specs.Rows.{row_at, Binders}
use Rattle.supers.specs.declared.rows.Row.{Row}
use Rattle.supers.specs.declared.rows.Row.TheVariants.{Pending, Replaced}

-- The number and the class of a pending row fit into one word: 2^44 numbers, 65536 classes.
abbrev pub SmallRow : Row → Type 0
SmallRow (Pending d c t) = (d < 17_592_186_044_416) × (c < 65536)
SmallRow (Replaced d x) = Unit {0}

-- The first n rows stand for binders, and at most 26 words ls become letters; above the table is room for 8 words a step.
pub record ReadyRows (ns w bs ls : List ℕ) (top left n : ℕ) : Type 0 where
  pub names : Names ns
  pub table : Table w top
  pub rows : Binders w bs top n
  pub small : (j : ℕ) → j < n → SmallRow (row_at bs j)
  pub few : length ls ≤ 26
  pub room : 4 * top + 8 * left ≤ length w
