-- The words of the method table after signatures: the first of a name stays, and other rows are what they were.
use mathlib.Core.Path.{◌≡◌, refl, sym, ap, ◌∙◌}
use mathlib.Core.List.{List}
use Prim.Native.Nat.{ℕ, zero, suc, ◌+◌, ◌*◌, ◌-◌, ◌<◌, ◌≤◌}
use native.Mathlib.Decide.{ℕ_discrete}
use native.Mathlib.Omega.{arith}
use lib.ListN.{length, get_or, set, length-set}
use lib.Seq.{get_or-set_same, get_or-set_other}
use borrow.Author.Tests.{lt-ltb, le-ltb}
use Rattle.meaning.specs.Base.{if, eqb}
use Rattle.names.proofs.Tests.{eq_yes, eq_no}
use Rattle.pairs.specs.Pairs.{find_at}
use Rattle.classes.specs.Method.{of_class, method_at, with_method, with_methods}
use Rattle.classes.specs.declared.Method.{Method}
use Rattle.std.specs.Prelude.{Option, Some, None}

-- ## One row

-- Tables with the same words in a row have the same there.
method_same : (mt mt' : List ℕ) (m : ℕ) → length mt' ≡ length mt → get_or mt' (2 * m) 0 ≡ get_or mt (2 * m) 0 → get_or mt' (2 * m + 1) 0 ≡ get_or mt (2 * m + 1) 0 → method_at mt' m ≡ method_at mt m
unfolding method_at
method_same mt mt' m l e f = rw (l, e, f)

-- There is no row.
pub method_out : (mt : List ℕ) (m : ℕ) → length mt ≤ 2 * m + 1 → method_at mt m ≡ None
unfolding method_at
method_out mt m h = rw (le-ltb (2 * m + 1) (length mt) h)

-- The row is the class's.
pub method_own : (mt : List ℕ) (m c : ℕ) → 2 * m + 1 < length mt → get_or mt (2 * m) 0 ≡ c + 1 → method_at mt m ≡ Some (of_class c (get_or mt (2 * m + 1) 0))
unfolding method_at
method_own mt m c h e = let z : c + 1 - 1 ≡ c = omega arith in rw (lt-ltb (2 * m + 1) (length mt) h, e, lt-ltb 0 (c + 1) (omega arith), z)

-- ## One signature

-- It is the class's already.
with_own : (mt : List ℕ) (m c t : ℕ) → get_or mt (2 * m) 0 ≡ c + 1 → with_method mt m c t ≡ mt
unfolding with_method
with_own mt m c t e = rw (eq_yes (get_or mt (2 * m) 0) (c + 1) e)

-- It was not.
with_new : (mt : List ℕ) (m c t : ℕ) → (get_or mt (2 * m) 0 ≡ c + 1 → ⊥) → with_method mt m c t ≡ set (set mt (2 * m) (c + 1)) (2 * m + 1) t
unfolding with_method
with_new mt m c t h = rw (eq_no (get_or mt (2 * m) 0) (c + 1) h)

-- Both ways out of `add_method`.
pub one_own : (mt : List ℕ) (m c t : ℕ) → get_or mt (2 * m) 0 ≡ c + 1 → mt ≡ with_method mt m c t
one_own mt m c t e = sym (with_own mt m c t e)

pub one_new : (mt : List ℕ) (m c t : ℕ) → (get_or mt (2 * m) 0 ≡ c + 1 → ⊥) → set (set mt (2 * m) (c + 1)) (2 * m + 1) t ≡ with_method mt m c t
one_new mt m c t h = sym (with_new mt m c t h)

-- No word is added.
pub with_long : (mt : List ℕ) (m c t : ℕ) → length (with_method mt m c t) ≡ length mt
with_long mt m c t = go (ℕ_discrete (get_or mt (2 * m) 0) (c + 1))
  where
    go : Dec (get_or mt (2 * m) 0 ≡ c + 1) → length (with_method mt m c t) ≡ length mt
    go (yes e) = rw (with_own mt m c t e)
    go (no h) = rw (with_new mt m c t h) (simp length-set)

-- A word of another row.
with_other : (mt : List ℕ) (m c t j : ℕ) → (j ≡ 2 * m → ⊥) → (j ≡ 2 * m + 1 → ⊥) → get_or (with_method mt m c t) j 0 ≡ get_or mt j 0
with_other mt m c t j a b = go (ℕ_discrete (get_or mt (2 * m) 0) (c + 1))
  where
    go : Dec (get_or mt (2 * m) 0 ≡ c + 1) → get_or (with_method mt m c t) j 0 ≡ get_or mt j 0
    go (yes e) = rw (with_own mt m c t e)
    go (no h) = rw (with_new mt m c t h) (get_or-set_other (set mt (2 * m) (c + 1)) (2 * m + 1) j t 0 (λ e. b (omega arith)) ∙ get_or-set_other mt (2 * m) j (c + 1) 0 (λ e. a (omega arith)))

module _ (mt : List ℕ) (m c t : ℕ) (row : 2 * m + 1 < length mt) (h : get_or mt (2 * m) 0 ≡ c + 1 → ⊥) where
  -- The row is the class's now.
  new_key : get_or (with_method mt m c t) (2 * m) 0 ≡ c + 1
  new_key = rw (with_new mt m c t h) (get_or-set_other (set mt (2 * m) (c + 1)) (2 * m + 1) (2 * m) t 0 (λ e. omega arith) ∙ get_or-set_same mt (2 * m) (c + 1) 0 (omega arith))

  -- With the type of the signature.
  new_type : get_or (with_method mt m c t) (2 * m + 1) 0 ≡ t
  new_type = rw (with_new mt m c t h) (get_or-set_same (set mt (2 * m) (c + 1)) (2 * m + 1) t 0 (simp length-set row))

  new_method : method_at (with_method mt m c t) m ≡ Some (of_class c t)
  new_method = let l = with_long mt m c t in method_own (with_method mt m c t) m c (omega arith) new_key ∙ ap (λ (x : ℕ). Some (of_class c x)) new_type

-- ## All of them

-- No word is added.
pub all_long : (mt : List ℕ) (c : ℕ) (sl : List ℕ) (at k : ℕ) → length (with_methods mt c sl at k) ≡ length mt
unfolding with_methods
all_long mt c sl at zero = refl
all_long mt c sl at (suc k) = all_long (with_method mt (get_or sl at 0) c (get_or sl (at + 1) 0)) c sl (at + 2) k ∙ with_long mt (get_or sl at 0) c (get_or sl (at + 1) 0)

-- A method that is the class's stays what it is.
all_own : (mt : List ℕ) (c : ℕ) (sl : List ℕ) (at k m : ℕ) → get_or mt (2 * m) 0 ≡ c + 1 → method_at (with_methods mt c sl at k) m ≡ method_at mt m
unfolding with_methods
all_own mt c sl at zero m e = refl
all_own mt c sl at (suc k) m e = go (ℕ_discrete (get_or sl at 0) m) (λ mt₁ f. all_own mt₁ c sl (at + 2) k m f)
  where
    go : Dec (get_or sl at 0 ≡ m) → ((mt₁ : List ℕ) → get_or mt₁ (2 * m) 0 ≡ c + 1 → method_at (with_methods mt₁ c sl (at + 2) k) m ≡ method_at mt₁ m)
        → method_at (with_methods (with_method mt (get_or sl at 0) c (get_or sl (at + 1) 0)) c sl (at + 2) k) m ≡ method_at mt m
    go (yes q) ih = rw (q, with_own mt m c (get_or sl (at + 1) 0) e) (ih mt e)
    go (no q) ih =
        let x = with_other mt (get_or sl at 0) c (get_or sl (at + 1) 0) (2 * m) (λ z. q (omega arith)) (λ z. omega arith) in
        let y = with_other mt (get_or sl at 0) c (get_or sl (at + 1) 0) (2 * m + 1) (λ z. omega arith) (λ z. q (omega arith)) in
        ih _ (x ∙ e) ∙ method_same mt _ m (with_long mt (get_or sl at 0) c (get_or sl (at + 1) 0)) x y

-- What was found, or what was there.
abbrev pub or_old : Option ℕ → ℕ → Option Method → Option Method
or_old (Some t) c r = Some (of_class c t)
or_old None c r = r

-- Any other is the first signature's, or what it was.
pub all_found : (mt : List ℕ) (c : ℕ) (sl : List ℕ) (at k m : ℕ) → 2 * m + 1 < length mt → (get_or mt (2 * m) 0 ≡ c + 1 → ⊥) → method_at (with_methods mt c sl at k) m ≡ or_old (find_at sl at k m) c (method_at mt m)
unfolding with_methods find_at
all_found mt c sl at zero m r h = refl
all_found mt c sl at (suc k) m r h = go (ℕ_discrete (get_or sl at 0) m) (λ mt₁ f g. all_found mt₁ c sl (at + 2) k m f g)
  where
    go : Dec (get_or sl at 0 ≡ m) → ((mt₁ : List ℕ) → 2 * m + 1 < length mt₁ → (get_or mt₁ (2 * m) 0 ≡ c + 1 → ⊥) → method_at (with_methods mt₁ c sl (at + 2) k) m ≡ or_old (find_at sl (at + 2) k m) c (method_at mt₁ m))
        → method_at (with_methods (with_method mt (get_or sl at 0) c (get_or sl (at + 1) 0)) c sl (at + 2) k) m ≡ or_old (if (eqb (get_or sl at 0) m) (Some (get_or sl (at + 1) 0)) (find_at sl (at + 2) k m)) c (method_at mt m)
    go (yes q) ih =
        rw (eq_yes (get_or sl at 0) m q, q)
        (all_own (with_method mt m c (get_or sl (at + 1) 0)) c sl (at + 2) k m (new_key mt m c (get_or sl (at + 1) 0) r h) ∙ new_method mt m c (get_or sl (at + 1) 0) r h)
    go (no q) ih =
        let l = with_long mt (get_or sl at 0) c (get_or sl (at + 1) 0) in
        let x = with_other mt (get_or sl at 0) c (get_or sl (at + 1) 0) (2 * m) (λ z. q (omega arith)) (λ z. omega arith) in
        let y = with_other mt (get_or sl at 0) c (get_or sl (at + 1) 0) (2 * m + 1) (λ z. omega arith) (λ z. q (omega arith)) in
        rw (eq_no (get_or sl at 0) m q) (ih _ (omega arith) (λ z. h (sym x ∙ z)) ∙ ap (or_old (find_at sl (at + 2) k m) c) (method_same mt _ m l x y))

-- What is found is one of the pairs.
pub find_one : (P : ℕ → ℕ → Type 0) (sl : List ℕ) (at k m t : ℕ) → ((i : ℕ) → i < k → P (get_or sl (at + 2 * i) 0) (get_or sl (at + 2 * i + 1) 0)) → find_at sl at k m ≡ Some t → P m t
unfolding find_at
find_one P sl at zero m t h e = let z : ◌≡◌ {A = ℕ} 0 1 = cc in absurd (omega arith)
find_one P sl at (suc k) m t h e = go (ℕ_discrete (get_or sl at 0) m) (find_one P sl (at + 2) k m t (λ i l. let x : at + 2 + 2 * i ≡ at + 2 * suc i = omega arith in rw x (h (suc i) (omega arith))))
  where
    go : Dec (get_or sl at 0 ≡ m) → (find_at sl (at + 2) k m ≡ Some t → P m t) → P m t
    go (yes q) ih =
        let x : at + 2 * 0 ≡ at = omega arith in
        let f : Some (get_or sl (at + 1) 0) ≡ Some t = rw (eq_yes (get_or sl at 0) m q) at e in
        let g : get_or sl (at + 1) 0 ≡ t = cc in
        rw (← q, ← g) (rw x at (h 0 (omega arith)))
    go (no q) ih = ih (rw (eq_no (get_or sl at 0) m q) at e)

-- ## The loop

-- What is left of n signatures gives what all of them give.
pub record Going (mt₀ mt : List ℕ) (c : ℕ) (sl : List ℕ) (j n : ℕ) : Type 0 where
  pub long : length mt ≡ length mt₀
  pub rest : with_methods mt c sl (2 * j) (n - j) ≡ with_methods mt₀ c sl 0 n

-- Before the loop.
pub going_none : (mt : List ℕ) (c : ℕ) (sl : List ℕ) (n : ℕ) → Going mt mt c sl 0 n
going_none mt c sl n = let z : n - 0 ≡ n = omega arith in record { long = refl; rest = rw z refl }

-- One more signature.
pub going_on : {mt₀ mt mt₁ : List ℕ} {c : ℕ} {sl : List ℕ} {j n : ℕ} → Going mt₀ mt c sl j n → j < n → mt₁ ≡ with_method mt (get_or sl (2 * j) 0) c (get_or sl (2 * j + 1) 0) → Going mt₀ mt₁ c sl (j + 1) n
unfolding with_methods
going_on {mt₀} {mt} {mt₁} {c} {sl} {j} {n} G h e =
    let x : 2 * (j + 1) ≡ 2 * j + 2 = omega arith in
    let y : n - j ≡ suc (n - (j + 1)) = omega arith in
    let r : with_methods mt c sl (2 * j) (suc (n - (j + 1))) ≡ with_methods mt₀ c sl 0 n = rw y at G.rest in
    record { long = rw e (with_long mt (get_or sl (2 * j) 0) c (get_or sl (2 * j + 1) 0) ∙ G.long); rest = rw (e, x) r }

-- There are no more.
pub going_end : {mt₀ mt : List ℕ} {c : ℕ} {sl : List ℕ} {j n : ℕ} → Going mt₀ mt c sl j n → n ≤ j → mt ≡ with_methods mt₀ c sl 0 n
unfolding with_methods
going_end {mt₀} {mt} {c} {sl} {j} {n} G h = let z : n - j ≡ 0 = omega arith in rw z at G.rest
