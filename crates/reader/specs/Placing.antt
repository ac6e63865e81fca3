-- Items that stand one after the other, and an index of their places.
use Rattle.std.specs.Prelude.{◌≡◌, List, [], ◌∷◌, ℕ, zero, suc, ◌+◌, ◌<◌, get_or}
use Rattle.std.proofs.Math.Option.{some}
use Rattle.meaning.specs.Base.{count, nth}
use Rattle.meaning.specs.Reader.{got, Reader, from}

-- The first so many.
unfoldable pub upto : {A : Type 0} → ℕ → List A → List A
upto zero xs = []
upto (suc i) [] = []
upto (suc i) (x ∷ xs) = x ∷ upto i xs

-- Where item i is read: it begins at its word of the index, and the next one where it ends.
pub record Placed {A : Type 0} (bytes ix : List ℕ) (base : ℕ) (r : List A → Reader A) (xs : List A) (at end : ℕ) : Type 0 where
  pub begins : ℕ → ℕ
  pub first : begins 0 ≡ at
  pub last : begins (count xs) ≡ end
  pub word : (i : ℕ) → i < count xs → get_or ix (base + i) 0 ≡ begins i
  pub item : (i : ℕ) (x : A) → nth xs i ≡ some x → r (upto i xs) (begins i) (from (begins i) bytes) ≡ got x (begins (suc i)) (from (begins (suc i)) bytes)
