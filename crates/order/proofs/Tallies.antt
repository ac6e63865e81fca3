-- How many numbers pass a test, and what the passes have taken.
use mathlib.Core.Path.{◌≡◌, refl, sym, ap, ◌∙◌}
use mathlib.Core.Bool.{Bool, true, false}
use mathlib.Core.List.{List}
use Prim.Native.Nat.{ℕ, zero, suc, ◌+◌, ◌<◌, ◌≤◌}
use native.Mathlib.Omega.{arith}
use native.Mathlib.Decide.{ℕ_discrete, dec_lt}
use Rattle.meaning.specs.Base.{if, ltb}
use Rattle.names.proofs.Tests.{lt_yes, lt_no}
use Rattle.order.specs.Sorting.{idle, due, chosen, tally}

-- Tests that agree are passed by as many.
pub tally_same : (P Q : ℕ → Bool) (n : ℕ) → ((x : ℕ) → x < n → P x ≡ Q x) → tally P n ≡ tally Q n
unfolding tally
tally_same P Q zero h = refl
tally_same P Q (suc n) h = rw (h n (omega arith), tally_same P Q n (λ x k. h x (omega arith)))

-- No more than there are.
pub tally_most : (P : ℕ → Bool) (n : ℕ) → tally P n ≤ n
unfolding tally
tally_most P zero = omega arith
tally_most P (suc n) = go (P n) (tally_most P n)
  where
    go : (b : Bool) → tally P n ≤ n → if b (suc (tally P n)) (tally P n) ≤ suc n
    go true h = omega arith
    go false h = omega arith

-- All, where all pass.
pub tally_all : (P : ℕ → Bool) (n : ℕ) → ((x : ℕ) → x < n → P x ≡ true) → tally P n ≡ n
unfolding tally
tally_all P zero h = refl
tally_all P (suc n) h = rw (h n (omega arith), tally_all P n (λ x k. h x (omega arith)))

-- None, where none passes.
pub tally_none : (P : ℕ → Bool) (n : ℕ) → ((x : ℕ) → x < n → P x ≡ false) → tally P n ≡ 0
unfolding tally
tally_none P zero h = refl
tally_none P (suc n) h = rw (h n (omega arith), tally_none P n (λ x k. h x (omega arith)))

-- One more, where one more passes.
pub tally_more : (P Q : ℕ → Bool) (n r : ℕ) → r < n → P r ≡ false → Q r ≡ true → ((x : ℕ) → (x ≡ r → ⊥) → P x ≡ Q x) → tally Q n ≡ suc (tally P n)
unfolding tally
tally_more P Q zero r h p q s = absurd (omega arith)
tally_more P Q (suc n) r h p q s = go (ℕ_discrete n r) (λ k. tally_more P Q n r k p q s)
  where
    go : Dec (n ≡ r) → (r < n → tally Q n ≡ suc (tally P n)) → if (Q n) (suc (tally Q n)) (tally Q n) ≡ suc (if (P n) (suc (tally P n)) (tally P n))
    go (yes e) ih = rw (e, p, q) (ap suc (sym (tally_same P Q r (λ x k. s x (omega arith)))))
    go (no e) ih = rw (← s n e, ih (omega arith)) (last (P n))
      where
        last : (b : Bool) → if b (suc (suc (tally P n))) (suc (tally P n)) ≡ suc (if b (suc (tally P n)) (tally P n))
        last true = refl
        last false = refl

-- ## What the passes have taken

-- At first nothing.
pub chosen_none : (ns : List ℕ) (x : ℕ) → chosen ns true 0 x ≡ false
unfolding chosen
chosen_none ns x = rw (lt_no x 0 (omega arith)) (go (idle ns x))
  where
    go : (b : Bool) → if b false false ≡ false
    go true = refl
    go false = refl

-- The second pass begins with what the first has taken.
pub chosen_then : (ns : List ℕ) (x : ℕ) → chosen ns true 1_059 x ≡ chosen ns false 0 x
unfolding chosen
chosen_then ns x = rw (lt_no x 0 (omega arith)) refl

-- At last all.
pub chosen_all : (ns : List ℕ) (x : ℕ) → x < 1_059 → chosen ns false 1_059 x ≡ true
unfolding chosen
chosen_all ns x h = rw (lt_yes x 1_059 h) (go (idle ns x))
  where
    go : (b : Bool) → if b true true ≡ true
    go true = refl
    go false = refl

-- Another number than r lies below r where it lies below the next one.
next_other : (x r : ℕ) → (x ≡ r → ⊥) → ltb x r ≡ ltb x (r + 1)
next_other x r n = go (dec_lt x r)
  where
    go : Dec (x < r) → ltb x r ≡ ltb x (r + 1)
    go (yes h) = lt_yes x r h ∙ sym (lt_yes x (r + 1) (omega arith))
    go (no h) = lt_no x r (omega arith) ∙ sym (lt_no x (r + 1) (omega arith))

-- So another row than the next one is taken or not as it was.
pub chosen_other : (ns : List ℕ) (low : Bool) (r x : ℕ) → (x ≡ r → ⊥) → chosen ns low r x ≡ chosen ns low (r + 1) x
unfolding chosen
chosen_other ns true r x n = rw (next_other x r n) refl
chosen_other ns false r x n = rw (next_other x r n) refl

-- The next row is not taken yet, if the pass takes it.
pub chosen_not_yet : (ns : List ℕ) (low : Bool) (r : ℕ) → due ns low r ≡ true → chosen ns low r r ≡ false
unfolding chosen due
chosen_not_yet ns true r d = rw (d, lt_no r r (omega arith)) refl
chosen_not_yet ns false r d = go (idle ns r) d
  where
    go : (b : Bool) → if b false true ≡ true → if b (ltb r 1_059) (ltb r r) ≡ false
    go true e = let z : ◌≡◌ {A = ℕ} 0 1 = cc in absurd (omega arith)
    go false e = lt_no r r (omega arith)

-- Then it is.
pub chosen_now : (ns : List ℕ) (low : Bool) (r : ℕ) → due ns low r ≡ true → chosen ns low (r + 1) r ≡ true
unfolding chosen due
chosen_now ns true r d = rw (d, lt_yes r (r + 1) (omega arith)) refl
chosen_now ns false r d = go (idle ns r) d
  where
    go : (b : Bool) → if b false true ≡ true → if b (ltb r 1_059) (ltb r (r + 1)) ≡ true
    go true e = let z : ◌≡◌ {A = ℕ} 0 1 = cc in absurd (omega arith)
    go false e = lt_yes r (r + 1) (omega arith)

-- If the pass does not take it, it stays as it is.
pub chosen_past : (ns : List ℕ) (low : Bool) (r x : ℕ) → r < 1_059 → due ns low r ≡ false → chosen ns low r x ≡ chosen ns low (r + 1) x
unfolding chosen due
chosen_past ns low r x h d = go (ℕ_discrete x r) low d
  where
    here : (b : Bool) → if b false true ≡ false → if b (ltb r 1_059) (ltb r r) ≡ if b (ltb r 1_059) (ltb r (r + 1))
    here true e = refl
    here false e = let z : ◌≡◌ {A = ℕ} 0 1 = cc in absurd (omega arith)

    go : Dec (x ≡ r) → (low : Bool) → due ns low r ≡ false → chosen ns low r x ≡ chosen ns low (r + 1) x
    go (no n) low d = chosen_other ns low r x n
    go (yes e) true d = rw (e, d) refl
    go (yes e) false d = rw e (here (idle ns r) d)
