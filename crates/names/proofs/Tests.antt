-- Tests as facts.
use mathlib.Core.Path.{◌≡◌, refl, sym, ◌∙◌}
use mathlib.Core.Bool.{true, false}
use Prim.Native.Nat.{ℕ, ◌<◌, ◌≤◌}
use native.Mathlib.Decide.{dec_lt, ℕ_discrete}
use native.Mathlib.Omega.{arith}
use lib.Dec as code
use borrow.Author.Tests.{lt-ltb, le-ltb, eq-eqb, ne_eqb}
use Rattle.meaning.specs.Base.{is_yes, eqb, ltb}

-- A decision whose fact holds.
yes_of : {P : Type 0} (d : Dec P) → P → is_yes d ≡ true
yes_of (yes p) h = refl
yes_of (no n) h = absurd (n h)

-- A decision whose fact fails.
no_of : {P : Type 0} (d : Dec P) → ¬ P → is_yes d ≡ false
no_of (yes p) h = absurd (h p)
no_of (no n) h = refl

-- Equal numbers pass the test.
pub eq_yes : (m n : ℕ) → m ≡ n → eqb m n ≡ true
unfolding eqb
eq_yes m n e = yes_of (ℕ_discrete m n) e

-- Unequal numbers do not.
pub eq_no : (m n : ℕ) → (m ≡ n → ⊥) → eqb m n ≡ false
unfolding eqb
eq_no m n h = no_of (ℕ_discrete m n) h

-- A smaller number passes the test.
pub lt_yes : (m n : ℕ) → m < n → ltb m n ≡ true
unfolding ltb
lt_yes m n h = yes_of (dec_lt m n) h

-- A number that is not smaller does not.
pub lt_no : (m n : ℕ) → n ≤ m → ltb m n ≡ false
unfolding ltb
lt_no m n h = no_of (dec_lt m n) (λ p. omega arith)

-- The code's test of two numbers says the same.
pub lt_code : (m n : ℕ) → code.ltb m n ≡ ltb m n
lt_code m n = go (dec_lt m n)
  where
    go : Dec (m < n) → code.ltb m n ≡ ltb m n
    go (yes h) = lt-ltb m n h ∙ sym (lt_yes m n h)
    go (no h) = le-ltb m n (omega arith) ∙ sym (lt_no m n (omega arith))

-- And so does its test of equality.
pub eq_code : (m n : ℕ) → code.eqb m n ≡ eqb m n
eq_code m n = go (ℕ_discrete m n)
  where
    go : Dec (m ≡ n) → code.eqb m n ≡ eqb m n
    go (yes h) = eq-eqb m n h ∙ sym (eq_yes m n h)
    go (no h) = ne_eqb m n h ∙ sym (eq_no m n h)
