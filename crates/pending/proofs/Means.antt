-- What the code's rows mean: after `reduce` and `alias_rows` they replace the names of a core as the definition's substitution does.
use mathlib.Core.Path.{◌≡◌, refl, ap, sym, subst, ◌∙◌}
use mathlib.Core.Bool.{true, false}
use mathlib.Core.List.{List, ◌∷◌}
use mathlib.Core.Option.{Option, none, some}
use Prim.Native.Nat.{ℕ, zero, suc, ◌+◌, ◌<◌, ◌≤◌}
use native.Mathlib.Omega.{arith}
use native.Mathlib.Decide.{ℕ_discrete}
use Rattle.meaning.specs.Base.{if, is_yes}
use Rattle.meaning.specs.Ast.{DictName, dvar, same_dict, Pred, pred, same_pred, Core, cdict, Binder}
use Rattle.meaning.specs.Map.{Map, dicts, get}
use Rattle.meaning.specs.Reduce.{is_head_normal}
use Rattle.meaning.specs.Cores.{or_core}
use Rattle.theorems.proofs.Maps.{get_cons_same, get_cons_other}
use Rattle.names.specs.Names.{name_of}
use Rattle.ast.specs.Table.{tree}
use Rattle.cores.specs.Terms.{core}
use Rattle.supers.specs.Rows.{row_at, with_row, binders_from}
use Rattle.supers.specs.declared.rows.Row.{Row}
use Rattle.supers.specs.declared.rows.Row.TheVariants.{Pending, Replaced}
use Rattle.reduce.specs.Reduces.{add_discharged, discharged_in}
use Rattle.terms.specs.Rows.{with_replaced, replaced_from}
use Rattle.pending.proofs.Firsts.{no_is}
use Rattle.pending.proofs.Residuals.{StaysAs}
use Rattle.pending.proofs.Fills.{Distinct, or_else, discharged_as, discharged_last}

-- ## Rows that replace names, beside the binders that they were

-- What a name becomes, by its predicate.
abbrev pub value_at : (DictName → Pred → Core) → DictName → Option Pred → Core
value_at val d none = cdict d
value_at val d (some p) = val d p

-- The row has its number, and its name becomes what val says.
abbrev pub Valued : (DictName → Pred → Core) → List ℕ → List ℕ → List ℕ → Row → Row → Type 0
Valued val ns w w₁ (Pending d c t) (Pending d' c' t') = (d' ≡ d) × (cdict (dvar d) ≡ val (dvar d) (pred (name_of ns c) (tree ns w t)))
Valued val ns w w₁ (Pending d c t) (Replaced d' x) = (d' ≡ d) × (core ns w₁ x ≡ val (dvar d) (pred (name_of ns c) (tree ns w t)))
Valued val ns w w₁ (Replaced d x) r = ⊥

-- A name that no binder has is not replaced.
absent_row : (val : DictName → Pred → Core) (ns w w₁ : List ℕ) (e : DictName) (r r'' : Row) (xs : List Binder) (ys : Map DictName Core) → Valued val ns w w₁ r r'' → (get dicts e xs ≡ none → get dicts e ys ≡ none)
    → get dicts e (with_row ns w r xs) ≡ none → get dicts e (with_replaced ns w₁ r'' ys) ≡ none
absent_row val ns w w₁ e (Pending d c t) (Pending d' c' t') xs ys v ih h = go (same_dict e (dvar d))
  where
    go : Dec (e ≡ dvar d) → get dicts e ys ≡ none
    go (yes k) = absurd (let u : get dicts e ((dvar d, pred (name_of ns c) (tree ns w t)) ∷ xs) ≡ some (pred (name_of ns c) (tree ns w t)) = rw k (get_cons_same dicts (dvar d) (pred (name_of ns c) (tree ns w t)) xs) in let z : ◌≡◌ {A = ℕ} 0 1 = cc in omega arith)
    go (no n) = ih (sym (get_cons_other dicts e (dvar d) (pred (name_of ns c) (tree ns w t)) xs n) ∙ h)
absent_row val ns w w₁ e (Pending d c t) (Replaced d' x) xs ys v ih h = go (same_dict e (dvar d))
  where
    go : Dec (e ≡ dvar d) → get dicts e ((dvar d', core ns w₁ x) ∷ ys) ≡ none
    go (yes k) = absurd (let u : get dicts e ((dvar d, pred (name_of ns c) (tree ns w t)) ∷ xs) ≡ some (pred (name_of ns c) (tree ns w t)) = rw k (get_cons_same dicts (dvar d) (pred (name_of ns c) (tree ns w t)) xs) in let z : ◌≡◌ {A = ℕ} 0 1 = cc in omega arith)
    go (no n) = rw v.0 (get_cons_other dicts e (dvar d) (core ns w₁ x) ys n ∙ ih (sym (get_cons_other dicts e (dvar d) (pred (name_of ns c) (tree ns w t)) xs n) ∙ h))
absent_row val ns w w₁ e (Replaced d x) r xs ys v ih h = absurd v

absent : (val : DictName → Pred → Core) (ns w w₁ bs bs'' : List ℕ) (e : DictName) (j k : ℕ) → ((i : ℕ) → j ≤ i → i < j + k → Valued val ns w w₁ (row_at bs i) (row_at bs'' i)) → get dicts e (binders_from ns w bs j k) ≡ none → get dicts e (replaced_from ns w₁ bs'' j k) ≡ none
unfolding binders_from replaced_from get
absent val ns w w₁ bs bs'' e j zero v h = refl
absent val ns w w₁ bs bs'' e j (suc k) v h =
    absent_row val ns w w₁ e (row_at bs j) (row_at bs'' j) (binders_from ns w bs (suc j) k) (replaced_from ns w₁ bs'' (suc j) k) (v j (omega arith) (omega arith))
    (absent val ns w w₁ bs bs'' e (suc j) k (λ i p q. v i (omega arith) (omega arith))) h

-- One row.
value_row : (val : DictName → Pred → Core) (ns w w₁ : List ℕ) (e : DictName) (r r'' : Row) (xs : List Binder) (ys : Map DictName Core) → Valued val ns w w₁ r r'' → Distinct (with_row ns w r xs)
    → ((a : DictName) → get dicts a xs ≡ none → get dicts a ys ≡ none) → (Distinct xs → or_core (cdict e) (get dicts e ys) ≡ value_at val e (get dicts e xs))
    → or_core (cdict e) (get dicts e (with_replaced ns w₁ r'' ys)) ≡ value_at val e (get dicts e (with_row ns w r xs))
unfolding or_core
value_row val ns w w₁ e (Pending d c t) (Pending d' c' t') xs ys v D a ih = go (same_dict e (dvar d))
  where
    go : Dec (e ≡ dvar d) → or_core (cdict e) (get dicts e ys) ≡ value_at val e (get dicts e ((dvar d, pred (name_of ns c) (tree ns w t)) ∷ xs))
    go (yes k) = rw (k, get_cons_same dicts (dvar d) (pred (name_of ns c) (tree ns w t)) xs, a (dvar d) D.0) v.1
    go (no n) = rw (get_cons_other dicts e (dvar d) (pred (name_of ns c) (tree ns w t)) xs n) (ih D.1)
value_row val ns w w₁ e (Pending d c t) (Replaced d' x) xs ys v D a ih = rw v.0 (go (same_dict e (dvar d)))
  where
    go : Dec (e ≡ dvar d) → or_core (cdict e) (get dicts e ((dvar d, core ns w₁ x) ∷ ys)) ≡ value_at val e (get dicts e ((dvar d, pred (name_of ns c) (tree ns w t)) ∷ xs))
    go (yes k) = rw (k, get_cons_same dicts (dvar d) (pred (name_of ns c) (tree ns w t)) xs, get_cons_same dicts (dvar d) (core ns w₁ x) ys) v.1
    go (no n) = rw (get_cons_other dicts e (dvar d) (pred (name_of ns c) (tree ns w t)) xs n, get_cons_other dicts e (dvar d) (core ns w₁ x) ys n) (ih D.1)
value_row val ns w w₁ e (Replaced d x) r xs ys v D a ih = absurd v

-- All rows.
pub values : (val : DictName → Pred → Core) (ns w w₁ bs bs'' : List ℕ) (e : DictName) (j k : ℕ) → ((i : ℕ) → j ≤ i → i < j + k → Valued val ns w w₁ (row_at bs i) (row_at bs'' i)) → Distinct (binders_from ns w bs j k)
    → or_core (cdict e) (get dicts e (replaced_from ns w₁ bs'' j k)) ≡ value_at val e (get dicts e (binders_from ns w bs j k))
unfolding binders_from replaced_from get or_core
values val ns w w₁ bs bs'' e j zero v D = refl
values val ns w w₁ bs bs'' e j (suc k) v D =
    value_row val ns w w₁ e (row_at bs j) (row_at bs'' j) (binders_from ns w bs (suc j) k) (replaced_from ns w₁ bs'' (suc j) k) (v j (omega arith) (omega arith)) D
    (λ a. absent val ns w w₁ bs bs'' a (suc j) k (λ i p q. v i (omega arith) (omega arith)))
    (values val ns w w₁ bs bs'' e (suc j) k (λ i p q. v i (omega arith) (omega arith)))

-- ## What `reduce` discharged

-- A predicate at a type variable was not discharged.
pub undischarged : (ns w w' bs bs' : List ℕ) (d : DictName) (p : Pred) (n : ℕ) → is_head_normal p.ty ≡ true → ((i : ℕ) → i < n → StaysAs ns w (row_at bs i) (row_at bs' i)) → discharged_as (discharged_in ns w w' bs bs' n) d p none ≡ none
unfolding discharged_in discharged_as
undischarged ns w w' bs bs' d p zero h s = refl
undischarged ns w w' bs bs' d p (suc n) h s = go (row_at bs n) (row_at bs' n) (s n (omega arith)) (undischarged ns w w' bs bs' d p n h (λ i l. s i (omega arith)))
  where
    other : (c t : ℕ) → is_head_normal (tree ns w t) ≡ false → (p ≡ pred (name_of ns c) (tree ns w t) → ⊥)
    other c t k e = let u : is_head_normal p.ty ≡ false = ap (λ (q : Pred). is_head_normal q.ty) e ∙ k in let z : ◌≡◌ {A = ℕ} 0 1 = cc in omega arith

    go : (r r' : Row) → StaysAs ns w r r' → discharged_as (discharged_in ns w w' bs bs' n) d p none ≡ none → discharged_as (add_discharged ns w w' r r' (discharged_in ns w w' bs bs' n)) d p none ≡ none
    go (Pending e c t) (Pending e' c' t') k ih = ih
    go (Pending e c t) (Replaced e' x) k ih =
        discharged_last (discharged_in ns w w' bs bs' n) (pred (name_of ns c) (tree ns w t), core ns w' x) d p none ∙ rw (no_is (same_pred p (pred (name_of ns c) (tree ns w t))) (other c t k)) ih
    go (Replaced e y) (Pending e' c' t') k ih = ih
    go (Replaced e y) (Replaced e' x) k ih = ih

-- What is found for a predicate is one term: `Finds` says which dictionary is found for which predicate.
module _ (Finds : Pred → Core → Type 0) (steady : (p : Pred) (e e' : Core) → Finds p e → Finds p e' → e ≡ e') where
  -- That of a row that was discharged.
  abbrev pub FindsRow : List ℕ → List ℕ → List ℕ → Row → Row → Type 0
  FindsRow ns w w' (Pending d c t) (Pending d' c' t') = Unit {0}
  FindsRow ns w w' (Pending d c t) (Replaced d' e) = Finds (pred (name_of ns c) (tree ns w t)) (core ns w' e)
  FindsRow ns w w' (Replaced d x) (Pending d' c' t') = Unit {0}
  FindsRow ns w w' (Replaced d x) (Replaced d' e) = Unit {0}

  -- A row's dictionary is what was discharged for its predicate.
  pub discharged_row : {d₁ c t d₂ x : ℕ} (ns w w' bs bs' : List ℕ) (d : DictName) (i n : ℕ) → i < n → row_at bs i ≡ Pending d₁ c t → row_at bs' i ≡ Replaced d₂ x → ((j : ℕ) → j < n → FindsRow ns w w' (row_at bs j) (row_at bs' j))
      → discharged_as (discharged_in ns w w' bs bs' n) d (pred (name_of ns c) (tree ns w t)) none ≡ some (core ns w' x)
  unfolding discharged_in
  discharged_row ns w w' bs bs' d i zero h a b f = absurd (omega arith)
  discharged_row {d₁} {c} {t} {d₂} {x} ns w w' bs bs' d i (suc n) h a b f =
      go (row_at bs n) (row_at bs' n) (f n (omega arith)) (ℕ_discrete i n) refl refl (λ l. discharged_row ns w w' bs bs' d i n l a b (λ j g. f j (omega arith)))
    where
      found : Finds (pred (name_of ns c) (tree ns w t)) (core ns w' x)
      found = rw (a, b) at (f i h)

      go : (r r' : Row) → FindsRow ns w w' r r' → Dec (i ≡ n) → row_at bs n ≡ r → row_at bs' n ≡ r'
          → (i < n → discharged_as (discharged_in ns w w' bs bs' n) d (pred (name_of ns c) (tree ns w t)) none ≡ some (core ns w' x))
          → discharged_as (add_discharged ns w w' r r' (discharged_in ns w w' bs bs' n)) d (pred (name_of ns c) (tree ns w t)) none ≡ some (core ns w' x)
      go (Pending e k u) (Pending e' k' u') g (yes q) m m' ih = absurd (let y : row_at bs' n ≡ Replaced d₂ x = rw (sym q) b in let z : ◌≡◌ {A = ℕ} 0 1 = cc in omega arith)
      go (Pending e k u) (Pending e' k' u') g (no q) m m' ih = ih (omega arith)
      go (Pending e k u) (Replaced e' y) g q m m' ih =
          discharged_last (discharged_in ns w w' bs bs' n) (pred (name_of ns k) (tree ns w u), core ns w' y) d (pred (name_of ns c) (tree ns w t)) none ∙ same (same_pred (pred (name_of ns c) (tree ns w t)) (pred (name_of ns k) (tree ns w u))) q
        where
          same : (s : Dec (pred (name_of ns c) (tree ns w t) ≡ pred (name_of ns k) (tree ns w u))) → Dec (i ≡ n)
              → or_else (if (is_yes s) (some (core ns w' y)) none) (discharged_as (discharged_in ns w w' bs bs' n) d (pred (name_of ns c) (tree ns w t)) none) ≡ some (core ns w' x)
          same (yes s) v = ap some (steady (pred (name_of ns k) (tree ns w u)) (core ns w' y) (core ns w' x) g (subst (λ z. Finds z (core ns w' x)) s found))
          same (no s) (yes v) = absurd (let y₁ : Pending d₁ c t ≡ Pending e k u = sym (rw (sym v) a) ∙ m in let y₂ : c ≡ k = cc in let y₃ : t ≡ u = cc in s (rw (y₂, y₃) refl))
          same (no s) (no v) = ih (omega arith)
      go (Replaced e y) (Pending e' k' u') g (yes q) m m' ih = absurd (let y₁ : row_at bs n ≡ Pending d₁ c t = rw (sym q) a in let z : ◌≡◌ {A = ℕ} 0 1 = cc in omega arith)
      go (Replaced e y) (Pending e' k' u') g (no q) m m' ih = ih (omega arith)
      go (Replaced e y) (Replaced e' y') g (yes q) m m' ih = absurd (let y₁ : row_at bs n ≡ Pending d₁ c t = rw (sym q) a in let z : ◌≡◌ {A = ℕ} 0 1 = cc in omega arith)
      go (Replaced e y) (Replaced e' y') g (no q) m m' ih = ih (omega arith)
