-- Texts of a file, as they are lent.
use mathlib.Core.Path.{◌≡◌, refl, ap, ◌∙◌}
use mathlib.Core.List.{List, ◌∷◌}
use Prim.Native.Nat.{ℕ, zero, suc, ◌+◌, ◌-◌, ◌≤◌}
use native.Mathlib.Omega.{arith}
use lib.ListN.{length, get_or, take, drop}
use Rattle.std.proofs.Common.{drop-cons}
use Rattle.std.specs.List.{slice_range}
use Rattle.reader.specs.Bytes.{text}

-- A text has its length.
pub text_length : (bytes : List ℕ) (at len : ℕ) → length (text bytes at len) ≡ len
unfolding text
text_length bytes at zero = refl
text_length bytes at (suc k) = let e = text_length bytes (at + 1) k in omega arith

-- The bytes from a place on.
taken : (bytes : List ℕ) (at len : ℕ) → at + len ≤ length bytes → take len (drop at bytes) ≡ text bytes at len
unfolding text
taken bytes at zero h = refl
taken bytes at (suc k) h = rw (drop-cons bytes at 0 (omega arith)) (ap (λ (cs : List ℕ). get_or bytes at 0 ∷ cs) (ap (λ (n : ℕ). take k (drop n bytes)) (next at) ∙ taken bytes (at + 1) k (omega arith)))
  where
    next : (n : ℕ) → suc n ≡ n + 1
    next n = omega arith

-- What is lent of a file is the text there.
pub lent : (bytes : List ℕ) (at to len : ℕ) → at + len ≡ to → to ≤ length bytes → slice_range bytes at to ≡ text bytes at len
lent bytes at to len e h = let n : to - at ≡ len = omega arith in rw n (taken bytes at len (omega arith))
