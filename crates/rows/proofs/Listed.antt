-- The names of rows as a list, and the search among them.
use mathlib.Core.Path.{◌≡◌, refl, sym, ap, ◌∙◌}
use mathlib.Core.Bool.{Bool, true, false}
use mathlib.Core.List.{List, [], ◌∷◌, ◌++◌}
use mathlib.Core.Option.{some}
use Prim.Native.Nat.{ℕ, zero, suc, ◌+◌, ◌<◌, ◌≤◌}
use native.Mathlib.Decide.{ℕ_discrete}
use native.Mathlib.Omega.{arith}
use Rattle.meaning.specs.Base.{is_yes, if, eqb, any, count, nth}
use Rattle.meaning.specs.Ast.{Name, name, same_name}
use Rattle.names.specs.Names.{row}
use Rattle.names.proofs.Tests.{eq_yes, eq_no}
use Rattle.theorems.proofs.Tests.{is_yes_of, is_no_of, eqb_false, none_some, some_inj}
use Rattle.rows.specs.Rows.{names_from, among}

-- ## names of rows
-- The last of them.
pub names_snoc : (ns : List ℕ) (r k : ℕ) → names_from ns r (suc k) ≡ names_from ns r k ++ name (row ns (r + k)) ∷ []
unfolding names_from
names_snoc ns r zero = ap (λ (n : ℕ). name (row ns n) ∷ []) (go r)
  where
    go : (n : ℕ) → n ≡ n + 0
    go n = omega arith
names_snoc ns r (suc k) = ap (λ (xs : List Name). name (row ns r) ∷ xs) (names_snoc ns (r + 1) k ∙ ap (λ (n : ℕ). names_from ns (r + 1) k ++ name (row ns n) ∷ []) (go r k))
  where
    go : (r k : ℕ) → r + 1 + k ≡ r + suc k
    go r k = omega arith

pub names-count : (ns : List ℕ) (r k : ℕ) → count (names_from ns r k) ≡ k
unfolding names_from count
names-count ns r zero = refl
names-count ns r (suc k) = ap suc (names-count ns (r + 1) k)

-- Each of them.
pub record Nth (ns : List ℕ) (r k j : ℕ) (x : Name) : Type 0 where
  pub below : j < k
  pub is : name (row ns (r + j)) ≡ x

pub names-nth : (ns : List ℕ) (r k j : ℕ) (x : Name) → nth (names_from ns r k) j ≡ some x → Nth ns r k j x
unfolding names_from nth
names-nth ns r zero j x e = absurd (none_some x e)
names-nth ns r (suc k) zero x e = record { below = omega arith; is = ap (λ (n : ℕ). name (row ns n)) (go r) ∙ some_inj _ x e }
  where
    go : (r : ℕ) → r + 0 ≡ r
    go r = omega arith
names-nth ns r (suc k) (suc j) x e = let i = names-nth ns (r + 1) k j x e in
    record { below = omega (arith, i.below); is = ap (λ (n : ℕ). name (row ns n)) (go r j) ∙ i.is }
  where
    go : (r j : ℕ) → r + suc j ≡ r + 1 + j
    go r j = omega arith

-- Rows that stand have the same names.
pub names_stand : (ns ns' : List ℕ) (r k : ℕ) → ((j : ℕ) → r ≤ j → j < r + k → row ns' j ≡ row ns j) → names_from ns' r k ≡ names_from ns r k
unfolding names_from
names_stand ns ns' r zero h = refl
names_stand ns ns' r (suc k) h = rw (h r (omega arith) (omega arith), names_stand ns ns' (r + 1) k (λ j p q. h j (omega arith) (omega arith))) refl

-- ## one of them
-- Names are equal where their numbers are.
same_eqb : (m n : ℕ) → is_yes (same_name (name m) (name n)) ≡ eqb m n
same_eqb m n = go (ℕ_discrete m n)
  where
    inner : name m ≡ name n → m ≡ n
    inner e = cc

    go : Dec (m ≡ n) → is_yes (same_name (name m) (name n)) ≡ eqb m n
    go (yes e) = is_yes_of (same_name (name m) (name n)) (ap name e) ∙ sym (eq_yes m n e)
    go (no h) = is_no_of (same_name (name m) (name n)) (λ e. h (inner e)) ∙ sym (eq_no m n h)

-- Whether it is the first one, or one of the others.
among_first : (m n : ℕ) (ys : List Name) → among (name m) (name n ∷ ys) ≡ if (eqb m n) true (among (name m) ys)
unfolding among any
among_first m n ys = ap (λ (b : Bool). if b true (any (λ y. is_yes (same_name (name m) y)) ys)) (same_eqb m n)

-- One row more has other bytes.
pub none_more : (bytes : ℕ) (ns : List ℕ) (r : ℕ) → ((j : ℕ) → 35 ≤ j → j < r → eqb bytes (row ns j) ≡ false) → eqb bytes (row ns r) ≡ false
    → (j : ℕ) → 35 ≤ j → j < r + 1 → eqb bytes (row ns j) ≡ false
none_more bytes ns r h e j p q = go (ℕ_discrete j r)
  where
    go : Dec (j ≡ r) → eqb bytes (row ns j) ≡ false
    go (yes i) = rw i e
    go (no n) = h j p (omega arith)

-- None of the rows has these bytes.
pub none_with : (bytes : ℕ) (ns : List ℕ) (r m : ℕ) → ((j : ℕ) → r ≤ j → j < r + m → eqb bytes (row ns j) ≡ false) → among (name bytes) (names_from ns r m) ≡ false
unfolding among any names_from
none_with bytes ns r zero h = refl
none_with bytes ns r (suc m) h = among_first bytes (row ns r) (names_from ns (r + 1) m)
    ∙ rw (h r (omega arith) (omega arith)) (none_with bytes ns (r + 1) m (λ j p q. h j (omega arith) (omega arith)))

-- One of them has.
pub one_with : (bytes : ℕ) (ns : List ℕ) (r m j : ℕ) → r ≤ j → j < r + m → eqb bytes (row ns j) ≡ true → among (name bytes) (names_from ns r m) ≡ true
unfolding names_from
one_with bytes ns r zero j h k e = absurd (omega arith)
one_with bytes ns r (suc m) j h k e = among_first bytes (row ns r) (names_from ns (r + 1) m) ∙ go (ℕ_discrete r j) (λ n. one_with bytes ns (r + 1) m j (omega arith) (omega arith) e)
  where
    go : Dec (r ≡ j) → ((r ≡ j → ⊥) → among (name bytes) (names_from ns (r + 1) m) ≡ true) → if (eqb bytes (row ns r)) true (among (name bytes) (names_from ns (r + 1) m)) ≡ true
    go (yes q) ih = rw (ap (λ (i : ℕ). eqb bytes (row ns i)) q ∙ e) refl
    go (no n) ih = rw (ih n) (either (eqb bytes (row ns r)))
      where
        either : (b : Bool) → if b true true ≡ true
        either true = refl
        either false = refl

-- A name that is not among them is in none of the rows.
pub none_same : (bytes : ℕ) (ns : List ℕ) (r k j : ℕ) → among (name bytes) (names_from ns r k) ≡ false → j < k → row ns (r + j) ≡ bytes → ⊥
unfolding names_from
none_same bytes ns r zero j e h f = omega arith
none_same bytes ns r (suc k) j e h f = go (eqb bytes (row ns r)) refl (sym (among_first bytes (row ns r) (names_from ns (r + 1) k)) ∙ e) j h f (λ a i l g. none_same bytes ns (r + 1) k i a l g)
  where
    go : (b : Bool) → eqb bytes (row ns r) ≡ b → if b true (among (name bytes) (names_from ns (r + 1) k)) ≡ false → (j : ℕ) → j < suc k → row ns (r + j) ≡ bytes
        → (among (name bytes) (names_from ns (r + 1) k) ≡ false → (i : ℕ) → i < k → row ns (r + 1 + i) ≡ bytes → ⊥) → ⊥
    go true i e j h f ih = let z : ◌≡◌ {A = ℕ} 0 1 = cc in omega arith
    go false i e zero h f ih = eqb_false bytes (row ns r) i (sym f ∙ ap (row ns) (same r))
      where
        same : (r : ℕ) → r + 0 ≡ r
        same r = omega arith
    go false i e (suc j) h f ih = ih e j (omega arith) (ap (row ns) (same r j) ∙ f)
      where
        same : (r j : ℕ) → r + 1 + j ≡ r + suc j
        same r j = omega arith
