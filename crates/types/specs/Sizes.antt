-- Sizes of types, counted up to a limit.
use Rattle.std.specs.Prelude.{◌≡◌, List, ℕ, ◌<◌, ◌≤◌, Option, Some, None}

-- The answer on a size, which is the same over all names: the size where it keeps the limit.
abbrev pub SizedAs : (List ℕ → ℕ) → ℕ → Option ℕ → Type 0
SizedAs size limit (Some n) = ((ns : List ℕ) → size ns ≡ n) × (n ≤ limit)
SizedAs size limit None = (ns : List ℕ) → limit < size ns

-- As a record, so that the size and the limit are found from it.
pub record Measured (size : List ℕ → ℕ) (limit : ℕ) (r : Option ℕ) : Type 0 where
  pub is : SizedAs size limit r
