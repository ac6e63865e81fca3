-- Numbers of several words: their order is the order of the first words that differ.
use mathlib.Core.Path.{◌≡◌, sym, ap, ◌∙◌}
use Prim.Native.Nat.{ℕ, ◌+◌, ◌*◌, ◌^◌, ◌<◌}
use native.Mathlib.Nat.{mul-le-mul_right}
use native.Mathlib.Decide.{dec_lt, ℕ_discrete}
use native.Mathlib.Omega.{arith}
use Rattle.meaning.specs.Base.{ltb}
use Rattle.names.specs.Keys.{four}
use Rattle.names.proofs.Tests.{lt_yes, lt_no}

-- A higher first part is a higher number, whatever the second parts are.
pub first_less : (B h h' l l' : ℕ) → h < h' → l < B → h * B + l < h' * B + l'
first_less B h h' l l' p q = omega (arith, mul-le-mul_right B p)

-- Two parts stay below the product of their bounds.
pub both_below : (B C h l : ℕ) → h < C → l < B → h * B + l < C * B
both_below B C h l p q = omega (arith, mul-le-mul_right B p)

-- Four words are below 2 ^ 256.
pub four_below : (a b c d : ℕ) → a < 2 ^ 64 → b < 2 ^ 64 → c < 2 ^ 64 → d < 2 ^ 64 → four a b c d < 2 ^ 256
unfolding four
four_below a b c d p q r s = both_below (2 ^ 64) (2 ^ 192) _ d (both_below (2 ^ 64) (2 ^ 128) _ c (both_below (2 ^ 64) (2 ^ 64) a b p q) r) s

-- Four words with their places written out.
sum_of_places : (W a b c d : ℕ) → a * (W * (W * W)) + b * (W * W) + c * W + d ≡ ((a * W + b) * W + c) * W + d
sum_of_places W a b c d = omega arith

-- Four words with their places as numbers.
pub four_places : (a b c d : ℕ) → a * 2 ^ 192 + b * 2 ^ 128 + c * 2 ^ 64 + d ≡ four a b c d
unfolding four
four_places a b c d = sum_of_places (2 ^ 64) a b c d

-- One word more of numbers that differ by a shift: what fell out of the first parts goes into the second.
shift_more : (h h' l l' r s x : ℕ) → 256 * h' + r ≡ x + h → 256 * l' + s ≡ r * 2 ^ 64 + l → 256 * (h' * 2 ^ 64 + l') + s ≡ x * 2 ^ 64 + (h * 2 ^ 64 + l)
shift_more h h' l l' r s x p q = omega arith

-- A byte before four words.
top : (W x : ℕ) → x * W * W * W * W ≡ x * (W * (W * (W * W)))
top W x = omega arith

-- Four words shifted, each with what fell out of the one before.
pub shifted_four : (x a b c d a' b' c' d' r s t u : ℕ) → 256 * a' + r ≡ x * 2 ^ 64 + a → 256 * b' + s ≡ r * 2 ^ 64 + b
    → 256 * c' + t ≡ s * 2 ^ 64 + c → 256 * d' + u ≡ t * 2 ^ 64 + d → 256 * four a' b' c' d' + u ≡ x * 2 ^ 256 + four a b c d
unfolding four
shifted_four x a b c d a' b' c' d' r s t u p q v w = shift_more (_ + c) _ d d' t u _ (shift_more (_ + b) _ c c' s t _ (shift_more a a' b b' r s _ p q) v) w
    ∙ ap (λ (y : ℕ). y + (((a * 2 ^ 64 + b) * 2 ^ 64 + c) * 2 ^ 64 + d)) (top (2 ^ 64) x)

-- The order of two numbers by their first parts, where those differ.
pub first_differs : (B h h' l l' : ℕ) → (h ≡ h' → ⊥) → l < B → l' < B → ltb (h * B + l) (h' * B + l') ≡ ltb h h'
first_differs B h h' l l' n p q = go (dec_lt h h')
  where
    go : Dec (h < h') → ltb (h * B + l) (h' * B + l') ≡ ltb h h'
    go (yes i) = lt_yes _ _ (first_less B h h' l l' i p) ∙ sym (lt_yes h h' i)
    go (no i) = lt_no _ _ (let j : h' < h = omega arith in let k = first_less B h' h l' l j q in omega arith) ∙ sym (lt_no h h' (omega arith))

-- The order of two numbers by their second parts, where the first ones are equal.
pub first_agrees : (B h h' l l' : ℕ) → h ≡ h' → ltb (h * B + l) (h' * B + l') ≡ ltb l l'
first_agrees B h h' l l' e = rw e (go (dec_lt l l'))
  where
    go : Dec (l < l') → ltb (h' * B + l) (h' * B + l') ≡ ltb l l'
    go (yes i) = lt_yes _ _ (omega arith) ∙ sym (lt_yes l l' i)
    go (no i) = lt_no _ _ (omega arith) ∙ sym (lt_no l l' (omega arith))

-- Numbers whose first parts differ are unequal.
pub first_unequal : (B h h' l l' : ℕ) → (h ≡ h' → ⊥) → l < B → l' < B → h * B + l ≡ h' * B + l' → ⊥
first_unequal B h h' l l' n p q e = go (dec_lt h h')
  where
    go : Dec (h < h') → ⊥
    go (yes i) = omega (arith, first_less B h h' l l' i p)
    go (no i) = let j : h' < h = omega arith in omega (arith, first_less B h' h l' l j q)

-- Numbers whose second parts differ are unequal.
pub second_unequal : (B h l l' : ℕ) → (l ≡ l' → ⊥) → h * B + l ≡ h * B + l' → ⊥
second_unequal B h l l' n e = n (omega arith)

-- Equal numbers have equal parts.
pub same_parts : (B h h' l l' : ℕ) → l < B → l' < B → h * B + l ≡ h' * B + l' → (h ≡ h') × (l ≡ l')
same_parts B h h' l l' p q e = go (ℕ_discrete h h')
  where
    go : Dec (h ≡ h') → (h ≡ h') × (l ≡ l')
    go (yes i) = (i, rest (rw i at e))
      where
        rest : h' * B + l ≡ h' * B + l' → l ≡ l'
        rest f = omega arith
    go (no n) = absurd (first_unequal B h h' l l' n p q e)
