-- Rows that were tested one by one stand for binders.
use mathlib.Core.Path.{◌≡◌, sym, subst}
use mathlib.Core.List.{List}
use Prim.Native.Nat.{ℕ, ◌+◌, ◌<◌}
use Rattle.names.specs.Names.{first_fresh, first_node}
use Rattle.ast.specs.Table.{Table}
use Rattle.supers.specs.declared.rows.Row.{Row}
use Rattle.supers.specs.declared.rows.Row.TheVariants.{Pending, Replaced}
use Rattle.supers.specs.Rows.{row_at, HasWord, TypeIn}
use Rattle.cases.specs.Typed.{Typed}

-- The dictionary has a word.
pub word_of : (top : ℕ) (r : Row) → Typed top r → HasWord r
word_of top (Pending d c t) h = h.0
word_of top (Replaced d e) h = absurd h

-- The type is a word of the table.
pub type_of_lem : {w : List ℕ} {top : ℕ} → Table w top → (r : Row) → Typed top r → TypeIn w top r
type_of_lem T (Pending d c t) h = record { table = T; below = h.1 }
type_of_lem T (Replaced d e) h = absurd h

-- One row that was looked at.
pub typed_row : (top : ℕ) (bs : List ℕ) (j d c t : ℕ) (r : Row) → r ≡ row_at bs j → r ≡ Pending d c t → d < first_fresh → t < first_node + top → Typed top (row_at bs j)
typed_row top bs j d c t r e f h k = subst (Typed top) e (subst (Typed top) (sym f) (h, k))
