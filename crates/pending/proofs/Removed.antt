-- What `simplify_context` removed is part of what the rows replace afterwards: with it the substitution is theirs.
use mathlib.Core.Path.{◌≡◌, refl, ap, sym, ◌∙◌}
use mathlib.Core.List.{List, [], ◌∷◌, ◌++◌}
use mathlib.Core.Option.{Option, none, some}
use Prim.Native.Nat.{ℕ, zero, suc, ◌+◌, ◌<◌, ◌≤◌}
use native.Mathlib.Omega.{arith}
use Rattle.meaning.specs.Ast.{DictName, dvar, same_dict, Core, cdict}
use Rattle.meaning.specs.Map.{Map, dicts, get, insert}
use Rattle.meaning.specs.Cores.{or_core}
use Rattle.meaning.specs.Generalize.{fill_removed}
use Rattle.theorems.proofs.Maps.{get_cons_same, get_cons_other, get_insert_same, get_insert_other}
use Rattle.ast.specs.Table.{Kept}
use Rattle.cores.specs.Terms.{core}
use Rattle.cores.proofs.TermLaws.{kept_core}
use Rattle.supers.specs.Rows.{row_at}
use Rattle.supers.specs.declared.rows.Row.{Row}
use Rattle.supers.specs.declared.rows.Row.TheVariants.{Pending, Replaced}
use Rattle.simplify.specs.Simplified.{removed_row, removed_from, removed_in, RowLeft}
use Rattle.terms.specs.Rows.{with_replaced, replaced_from, TermIn}
use Rattle.pending.specs.Rows.{number_of, NumbersApart}
use Rattle.pending.proofs.Fills.{or_else}

-- ## Under words that keep the table

kept_replaced_row : {w w' : List ℕ} {top : ℕ} (ns : List ℕ) (r : Row) (os : Map DictName Core) → Kept w w' top → TermIn w top r → with_replaced ns w' r os ≡ with_replaced ns w r os
kept_replaced_row ns (Pending d c t) os K N = refl
kept_replaced_row ns (Replaced d x) os K N = rw (kept_core ns K N)

-- The rows replace the same.
pub kept_replaced : {w w' : List ℕ} {top : ℕ} (ns bs : List ℕ) → Kept w w' top → (j k : ℕ) → ((i : ℕ) → j ≤ i → i < j + k → TermIn w top (row_at bs i)) → replaced_from ns w' bs j k ≡ replaced_from ns w bs j k
unfolding replaced_from
kept_replaced ns bs K j zero h = refl
kept_replaced {w} {w'} ns bs K j (suc k) h = ap (with_replaced ns w' (row_at bs j)) (kept_replaced ns bs K (suc j) k (λ i p q. h i (omega arith) (omega arith))) ∙ kept_replaced_row ns (row_at bs j) (replaced_from ns w bs (suc j) k) K (h j (omega arith) (omega arith))

-- ## A map with removed names

-- No name stands twice.
abbrev Single : Map DictName Core → Type 0
Single [] = Unit {0}
Single (r ∷ rs) = (get dicts r.0 rs ≡ none) × Single rs

get_none : (d : DictName) → get {A = Core} dicts d [] ≡ none
unfolding get
get_none d = refl

-- What it has for a name.
filled_removed : (d : DictName) (rs m : Map DictName Core) → Single rs → get dicts d (fill_removed rs m) ≡ or_else (get dicts d rs) (get dicts d m)
unfolding fill_removed
filled_removed d [] m S = rw (get_none d) refl
filled_removed d (r ∷ rs) m S = filled_removed d rs (insert dicts r m) S.1 ∙ go (same_dict d r.0)
  where
    go : Dec (d ≡ r.0) → or_else (get dicts d rs) (get dicts d (insert dicts r m)) ≡ or_else (get dicts d (r ∷ rs)) (get dicts d m)
    go (yes k) = rw (k, S.0, get_insert_same dicts r.0 r.1 m, get_cons_same dicts r.0 r.1 rs) refl
    go (no n) = rw (get_insert_other dicts d r m n, get_cons_other dicts d r.0 r.1 rs n) refl

-- ## Rows before and after

inner : (d e : ℕ) → dvar d ≡ dvar e → d ≡ e
inner d e q = cc

-- One row: xs are the names that later rows lost, ys and zs what they replaced and replace.
one_removed : (ns w : List ℕ) (e : DictName) (r r₁ : Row) (xs ys zs : Map DictName Core) → RowLeft r r₁ → get dicts (dvar (number_of r)) xs ≡ none → get dicts e zs ≡ or_else (get dicts e xs) (get dicts e ys)
    → get dicts e (with_replaced ns w r₁ zs) ≡ or_else (get dicts e (removed_row ns w r r₁ ++ xs)) (get dicts e (with_replaced ns w r ys))
one_removed ns w e (Pending d c t) (Pending d₁ c₁ t₁) xs ys zs l a ih = ih
one_removed ns w e (Pending d c t) (Replaced d₁ x₁) xs ys zs l a ih = go (same_dict e (dvar d₁))
  where
    go : Dec (e ≡ dvar d₁) → get dicts e ((dvar d₁, core ns w x₁) ∷ zs) ≡ or_else (get dicts e ((dvar d₁, core ns w x₁) ∷ xs)) (get dicts e ys)
    go (yes k) = rw (k, get_cons_same dicts (dvar d₁) (core ns w x₁) zs, get_cons_same dicts (dvar d₁) (core ns w x₁) xs) refl
    go (no n) = rw (get_cons_other dicts e (dvar d₁) (core ns w x₁) zs n, get_cons_other dicts e (dvar d₁) (core ns w x₁) xs n) ih
one_removed ns w e (Replaced d x) (Pending d₁ c₁ t₁) xs ys zs l a ih = absurd l
one_removed ns w e (Replaced d x) (Replaced d₁ x₁) xs ys zs l a ih = rw (l.0, l.1) (go (same_dict e (dvar d)))
  where
    go : Dec (e ≡ dvar d) → get dicts e ((dvar d, core ns w x) ∷ zs) ≡ or_else (get dicts e xs) (get dicts e ((dvar d, core ns w x) ∷ ys))
    go (yes k) = rw (k, a, get_cons_same dicts (dvar d) (core ns w x) zs, get_cons_same dicts (dvar d) (core ns w x) ys) refl
    go (no n) = rw (get_cons_other dicts e (dvar d) (core ns w x) zs n, get_cons_other dicts e (dvar d) (core ns w x) ys n) ih

-- A name of another number is not removed.
other_removed : (ns w : List ℕ) (d : ℕ) (r r₁ : Row) (xs : Map DictName Core) → RowLeft r r₁ → (number_of r ≡ d → ⊥) → get dicts (dvar d) xs ≡ none → get dicts (dvar d) (removed_row ns w r r₁ ++ xs) ≡ none
other_removed ns w d (Pending e c t) (Pending e₁ c₁ t₁) xs l n h = h
other_removed ns w d (Pending e c t) (Replaced e₁ x₁) xs l n h = get_cons_other dicts (dvar d) (dvar e₁) (core ns w x₁) xs (λ q. n (sym l ∙ sym (inner d e₁ q))) ∙ h
other_removed ns w d (Replaced e x) (Pending e₁ c₁ t₁) xs l n h = h
other_removed ns w d (Replaced e x) (Replaced e₁ x₁) xs l n h = h

-- What a row adds is single.
one_single : (ns w : List ℕ) (r r₁ : Row) (xs : Map DictName Core) → RowLeft r r₁ → get dicts (dvar (number_of r)) xs ≡ none → Single xs → Single (removed_row ns w r r₁ ++ xs)
one_single ns w (Pending d c t) (Pending d₁ c₁ t₁) xs l a s = s
one_single ns w (Pending d c t) (Replaced d₁ x₁) xs l a s = (rw l a, s)
one_single ns w (Replaced d x) (Pending d₁ c₁ t₁) xs l a s = s
one_single ns w (Replaced d x) (Replaced d₁ x₁) xs l a s = s

module _ (ns w bs bs₁ : List ℕ) where
  none_removed : (d j k : ℕ) → ((i : ℕ) → j ≤ i → i < j + k → RowLeft (row_at bs i) (row_at bs₁ i)) → ((i : ℕ) → j ≤ i → i < j + k → number_of (row_at bs i) ≡ d → ⊥) → get dicts (dvar d) (removed_from ns w bs bs₁ j k) ≡ none
  unfolding removed_from
  none_removed d j zero l n = get_none (dvar d)
  none_removed d j (suc k) l n =
      other_removed ns w d (row_at bs j) (row_at bs₁ j) (removed_from ns w bs bs₁ (suc j) k) (l j (omega arith) (omega arith)) (n j (omega arith) (omega arith))
      (none_removed d (suc j) k (λ i p q. l i (omega arith) (omega arith)) (λ i p q. n i (omega arith) (omega arith)))

  -- Rows j and later ones.
  both_removed : (e : DictName) (j k : ℕ) → ((i : ℕ) → j ≤ i → i < j + k → RowLeft (row_at bs i) (row_at bs₁ i)) → ((i m : ℕ) → j ≤ i → i < m → m < j + k → number_of (row_at bs m) ≡ number_of (row_at bs i) → ⊥)
      → (get dicts e (replaced_from ns w bs₁ j k) ≡ or_else (get dicts e (removed_from ns w bs bs₁ j k)) (get dicts e (replaced_from ns w bs j k))) × Single (removed_from ns w bs bs₁ j k)
  unfolding removed_from replaced_from
  both_removed e j zero l n = (rw (get_none e) refl, tt)
  both_removed e j (suc k) l n =
      let ih = both_removed e (suc j) k (λ i p q. l i (omega arith) (omega arith)) (λ i m p q s. n i m (omega arith) q (omega arith)) in
      let a = none_removed (number_of (row_at bs j)) (suc j) k (λ i p q. l i (omega arith) (omega arith)) (λ i p q. n j i (omega arith) (omega arith) (omega arith)) in (
        one_removed ns w e (row_at bs j) (row_at bs₁ j) (removed_from ns w bs bs₁ (suc j) k) (replaced_from ns w bs (suc j) k) (replaced_from ns w bs₁ (suc j) k) (l j (omega arith) (omega arith)) a ih.0,
        one_single ns w (row_at bs j) (row_at bs₁ j) (removed_from ns w bs bs₁ (suc j) k) (l j (omega arith) (omega arith)) a ih.1,
      )

-- A map that replaces names as the rows did does so with what was removed as the rows do.
pub removed_replaces : {bs : List ℕ} {n : ℕ} (ns w bs₁ : List ℕ) (m : Map DictName Core) → NumbersApart bs n → ((j : ℕ) → j < n → RowLeft (row_at bs j) (row_at bs₁ j))
    → ((d : DictName) → or_core (cdict d) (get dicts d m) ≡ or_core (cdict d) (get dicts d (replaced_from ns w bs 0 n)))
    → (d : DictName) → or_core (cdict d) (get dicts d (fill_removed (removed_in ns w bs bs₁ n) m)) ≡ or_core (cdict d) (get dicts d (replaced_from ns w bs₁ 0 n))
removed_replaces {bs} {n} ns w bs₁ m N l h d =
    let b = both_removed ns w bs bs₁ d 0 n (λ i p q. l i (omega arith)) (λ i k p q s e. let z = N.apart k i (omega arith) (omega arith) e in omega arith) in
    rw (filled_removed d (removed_in ns w bs bs₁ n) m b.1, b.0) (go (get dicts d (removed_in ns w bs bs₁ n)))
  where
    go : (o : Option Core) → or_core (cdict d) (or_else o (get dicts d m)) ≡ or_core (cdict d) (or_else o (get dicts d (replaced_from ns w bs 0 n)))
    go none = h d
    go (some e) = refl
