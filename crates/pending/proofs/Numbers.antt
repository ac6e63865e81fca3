-- The numbers of rows that move.
use mathlib.Core.Path.{◌≡◌, refl, ap, sym, ◌∙◌}
use mathlib.Core.List.{List}
use Prim.Native.Nat.{ℕ, suc, ◌-◌, ◌<◌, ◌≤◌}
use native.Mathlib.Omega.{arith}
use native.Mathlib.Decide.{ℕ_discrete, dec_lt}
use Rattle.supers.specs.Rows.{row_at}
use Rattle.reduce.proofs.Marks.{row_same}
use Rattle.pending.specs.Rows.{number_of, NumbersApart, Rotated}

-- Where the row of number j was before row i moved to number a.
data Was (a i : ℕ) : ℕ → ℕ → Type 0 where
  before : {j : ℕ} → j < a → Was a i j j
  moved : Was a i a i
  up : {j : ℕ} → a ≤ j → j < i → Was a i (suc j) j
  behind : {j : ℕ} → i < j → Was a i j j

-- No two came from one.
was_one : {a i j k o o' : ℕ} → a ≤ i → o ≡ o' → Was a i j o → Was a i k o' → j ≡ k
was_one h e (before p) (before q) = e
was_one h e (before p) moved = absurd (omega arith)
was_one h e (before p) (up q r) = absurd (omega arith)
was_one h e (before p) (behind q) = e
was_one h e moved (before q) = absurd (omega arith)
was_one h e moved moved = refl
was_one h e moved (up q r) = absurd (omega arith)
was_one h e moved (behind q) = absurd (omega arith)
was_one h e (up p x) (before q) = absurd (omega arith)
was_one h e (up p x) moved = absurd (omega arith)
was_one h e (up p x) (up q r) = ap suc e
was_one h e (up p x) (behind q) = absurd (omega arith)
was_one h e (behind p) (before q) = e
was_one h e (behind p) moved = absurd (omega arith)
was_one h e (behind p) (up q r) = absurd (omega arith)
was_one h e (behind p) (behind q) = e

-- Where a row was, with what it says.
record Came (bs bs₁ : List ℕ) (a i n j : ℕ) : Type 0 where
  pub old : ℕ
  pub was : Was a i j old
  pub below : old < n
  pub is : row_at bs₁ j ≡ row_at bs old

module _ {bs bs₁ : List ℕ} {a i n : ℕ} (R : Rotated bs bs₁ a i) (less : a ≤ i) (h : i < n) where
  came : (j : ℕ) → j < n → Dec (j < a) → Dec (j ≡ a) → Dec (i < j) → Came bs bs₁ a i n j
  came j p (yes x) y z = record { old = j; was = before x; below = p; is = row_same bs bs₁ j (λ k u v. R.before k (omega arith)) }
  came j p (no x) (yes y) z = rw y (record { old = i; was = moved; below = h; is = R.moved })
  came j p (no x) (no y) (yes z) = record { old = j; was = behind z; below = p; is = row_same bs bs₁ j (λ k u v. R.behind k (omega arith)) }
  came j p (no x) (no y) (no z) =
      let e : j ≡ suc (j - 1) = omega arith in
      let q : a ≤ j - 1 = omega arith in
      let r : j - 1 < i = omega arith in
      rw e (record { old = j - 1; was = up q r; below = omega arith; is = R.up (j - 1) q r })

  -- Numbers that were apart still are.
  pub rotated_numbers : NumbersApart bs n → NumbersApart bs₁ n
  rotated_numbers N = record { apart = λ j k p q e. go j k e (came j p (dec_lt j a) (ℕ_discrete j a) (dec_lt i j)) (came k q (dec_lt k a) (ℕ_discrete k a) (dec_lt i k)) }
    where
      one : {j k o o' : ℕ} → Was a i j o → Was a i k o' → o ≡ o' → j ≡ k
      one {j} {k} {o} {o'} x y e = was_one less e x y

      go : (j k : ℕ) → number_of (row_at bs₁ j) ≡ number_of (row_at bs₁ k) → Came bs bs₁ a i n j → Came bs bs₁ a i n k → j ≡ k
      go j k e c d = one c.was d.was (N.apart c.old d.old c.below d.below (sym (ap number_of c.is) ∙ e ∙ ap number_of d.is))
