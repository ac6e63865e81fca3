-- Numbers of a file by their places, and lists of things that are named by number.
use Rattle.std.specs.Prelude.{◌≡◌, List, ℕ, ◌+◌, ◌*◌, ◌≤◌}
use Rattle.std.proofs.Math.Option.{some}
use Rattle.meaning.specs.Base.{count, nth}
use Rattle.meaning.specs.Reader.{Read, got, bad, from, numeral, counted}

-- The number that was read, 0 where none was.
abbrev pub or_zero : Read ℕ → ℕ
or_zero (got v next rest) = v
or_zero (bad r) = 0

-- The k bytes at a place as a number, the least one first; 0 where the end of the file cuts them.
unfoldable pub value_at : ℕ → List ℕ → ℕ → ℕ
value_at k bytes at = or_zero (numeral k at (from at bytes))

-- Two bytes.
abbrev pub number_at : List ℕ → ℕ → ℕ
number_at bytes at = value_at 2 bytes at

-- The count at a place, of at most 64 things; 0 where there is none such.
unfoldable pub count_at : List ℕ → ℕ → ℕ
count_at bytes at = or_zero (counted 64 at (from at bytes))

-- A list's count at a place: right for every count that the definition reads there.
pub record CountRead (bytes : List ℕ) (at r : ℕ) : Type 0 where
  pub few : r ≤ 64
  pub exact : r ≡ count_at bytes at
  pub is : (n next : ℕ) (rest : List ℕ) → counted 64 at (from at bytes) ≡ got n next rest → r ≡ n

-- The thing of that number.
pub record Named {A : Type 0} (xs : List A) (v : ℕ) (x : A) : Type 0 where
  pub there : nth xs v ≡ some x

-- The k things that are named by the numbers from the place p on.
pub record NamedAll {A : Type 0} (bytes : List ℕ) (xs : List A) (p k : ℕ) (us : List A) : Type 0 where
  pub many : count us ≡ k
  pub each : (j : ℕ) (u : A) → nth us j ≡ some u → Named xs (number_at bytes (p + 2 * j)) u

-- The k rows from the place p on: in each, the numbers of its two parts.
pub record NamedRows {A B C : Type 0} (bytes : List ℕ) (xs : List A) (ys : List B) (one : C → A) (two : C → B) (p k : ℕ) (us : List C) : Type 0 where
  pub many : count us ≡ k
  pub first : (j : ℕ) (u : C) → nth us j ≡ some u → Named xs (number_at bytes (p + 4 * j)) (one u)
  pub second : (j : ℕ) (u : C) → nth us j ≡ some u → Named ys (number_at bytes (p + 4 * j + 2)) (two u)
