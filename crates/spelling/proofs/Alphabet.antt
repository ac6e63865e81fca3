-- Which bytes are digits and letters of a name.
use mathlib.Core.Path.{◌≡◌, refl, sym, ap, ◌∙◌}
use mathlib.Core.Bool.{Bool, true, false, not, ◌||◌}
use Prim.Native.Nat.{ℕ, ◌<◌}
use native.Mathlib.Omega.{arith}
use Rattle.std.proofs.Common.{nat_eq, nat_le, ◌&&◌}
use Rattle.std.specs.Int.{is_in_range}
use Rattle.std.specs.Char.{is_ascii_digit, is_ascii_alphanumeric}
use Rattle.meaning.specs.Base.{ltb}
use Rattle.meaning.specs.Reserved.{between, digit, letter_of_name}
use Rattle.names.proofs.Tests.{lt_yes, lt_no, eq_code}
use borrow.Author.Tests.{le-leb, lt-leb}
use native.Mathlib.Decide.{dec_lt}
use Rattle.theorems.proofs.Tests.{ltb_false, eqb_true, or_cases}

-- A byte between two others, as a range has it.
between_in_range : (l h b : ℕ) → is_in_range l h b ≡ between l h b
unfolding between
between_in_range l h b = rw (at_most l b, at_most b h) (go (ltb b l) (ltb h b))
  where
    at_most : (m n : ℕ) → nat_le m n ≡ not (ltb n m)
    at_most m n = elim (dec_lt n m) [ yes h ↦ lt-leb m n h ∙ ap not (sym (lt_yes n m h)) | no h ↦ le-leb m n (omega arith) ∙ ap not (sym (lt_no n m (omega arith))) ]

    go : (x y : Bool) → (not x && not y) ≡ not (x || y)
    go true y = refl
    go false y = refl

-- A digit.
pub same_digit : (b : ℕ) → is_ascii_digit b ≡ digit b
unfolding digit
same_digit b = between_in_range 48 57 b

-- A letter of a name is a letter, a digit or the underscore.
letter_is : (b : ℕ) → letter_of_name b ≡ (is_ascii_alphanumeric b || nat_eq b 95)
unfolding letter_of_name digit
letter_is b = rw (eq_code b 95, between_in_range 48 57 b, between_in_range 65 90 b, between_in_range 97 122 b) refl

pub alphanumeric : (b : ℕ) (r : Bool) → r ≡ is_ascii_alphanumeric b → r ≡ true → r ≡ letter_of_name b
alphanumeric b r e h = rw (letter_is b, ← e, h) refl

pub other_letter : (b : ℕ) (r : Bool) → r ≡ is_ascii_alphanumeric b → r ≡ false → nat_eq b 95 ≡ letter_of_name b
other_letter b r e h = rw (letter_is b, ← e, h) refl

-- ## what a letter is
-- A byte that fits in one, and is not zero.
pub record Fits (b : ℕ) : Type 0 where
  pub some : 0 < b
  pub byte : b < 256

-- A byte between two others is one of that kind.
between_fits : (l h b : ℕ) → 0 < l → h < 256 → between l h b ≡ true → Fits b
unfolding between
between_fits l h b p q e = go (ltb b l) (ltb h b) refl refl e
  where
    go : (x y : Bool) → ltb b l ≡ x → ltb h b ≡ y → not (x || y) ≡ true → Fits b
    go true y i j e = let z : ◌≡◌ {A = ℕ} 0 1 = cc in absurd (omega arith)
    go false true i j e = let z : ◌≡◌ {A = ℕ} 0 1 = cc in absurd (omega arith)
    go false false i j e = let u = ltb_false b l i in let v = ltb_false h b j in record { some = omega arith; byte = omega arith }

-- Each letter of a name fits.
pub letter_fits : (b : ℕ) → letter_of_name b ≡ true → Fits b
unfolding letter_of_name digit
letter_fits b e = or_cases _ _ e (Fits b) (λ f. or_cases _ _ f (Fits b) (λ g. or_cases _ _ g (Fits b)
    (between_fits 48 57 b (omega arith) (omega arith)) (between_fits 65 90 b (omega arith) (omega arith)))
    (between_fits 97 122 b (omega arith) (omega arith)))
    λ f. let i = eqb_true b 95 f in record { some = omega arith; byte = omega arith }
