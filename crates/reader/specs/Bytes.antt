-- The bytes of a field, by the place where it begins.
use Rattle.std.specs.Prelude.{List, [], ◌∷◌, ℕ, zero, suc, ◌+◌, get_or}

-- The k bytes from a place on; past the end they read as zeros.
unfoldable pub text : List ℕ → ℕ → ℕ → List ℕ
text bytes at zero = []
text bytes at (suc k) = get_or bytes at 0 ∷ text bytes (at + 1) k
