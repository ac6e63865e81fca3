-- Rows of pending binders: what a row becomes by writing its three words, and rows that are all pending.
use Rattle.std.specs.Prelude.{◌≡◌, List, ℕ, suc, ◌+◌, ◌*◌, ◌<◌, ◌≤◌, length, get_or, set}
use Rattle.ast.specs.Table.{Node}
use Rattle.supers.specs.Rows.{row_at}
use Rattle.supers.specs.declared.rows.Row.{Row}
use Rattle.supers.specs.declared.rows.Row.TheVariants.{Pending, Replaced}

-- bs with these words as row i.
unfoldable pub put_row : List ℕ → ℕ → ℕ → ℕ → ℕ → List ℕ
put_row bs i d c x = set (set (set bs (3 * i) d) (3 * i + 1) c) (3 * i + 2) x

-- A pending row of inference: its dictionary's number, its class's name and its type's word are in their bounds.
abbrev pub PendingRow : List ℕ → ℕ → Row → Type 0
PendingRow w top (Pending d c t) = (d < 17_592_186_044_416) × ((c < 65_536) × Node w top t)
PendingRow w top (Replaced d x) = ⊥

-- The first n rows are all pending.
pub record PendingRows (w bs : List ℕ) (top n : ℕ) : Type 0 where
  pub fits : 3 * n ≤ length bs
  pub each : (i : ℕ) → i < n → PendingRow w top (row_at bs i)

-- The dictionary's number of a row.
abbrev pub number_of : Row → ℕ
number_of (Pending d c t) = d
number_of (Replaced d x) = d

-- No two of the first n rows have the same number.
pub record NumbersApart (bs : List ℕ) (n : ℕ) : Type 0 where
  pub apart : (i j : ℕ) → i < n → j < n → number_of (row_at bs i) ≡ number_of (row_at bs j) → i ≡ j

-- Rows k and k + 1 changed places; all other words stand.
pub record Swapped (bs bs' : List ℕ) (k : ℕ) : Type 0 where
  pub first : row_at bs' k ≡ row_at bs (suc k)
  pub second : row_at bs' (suc k) ≡ row_at bs k
  pub before : (i : ℕ) → i < 3 * k → get_or bs' i 0 ≡ get_or bs i 0
  pub behind : (i : ℕ) → 3 * k + 6 ≤ i → get_or bs' i 0 ≡ get_or bs i 0

-- Row i moved to number a, and those from a up to i one up; all other words stand.
pub record Rotated (bs bs' : List ℕ) (a i : ℕ) : Type 0 where
  pub moved : row_at bs' a ≡ row_at bs i
  pub up : (j : ℕ) → a ≤ j → j < i → row_at bs' (suc j) ≡ row_at bs j
  pub before : (j : ℕ) → j < 3 * a → get_or bs' j 0 ≡ get_or bs j 0
  pub behind : (j : ℕ) → 3 * i + 3 ≤ j → get_or bs' j 0 ≡ get_or bs j 0
