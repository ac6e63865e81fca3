-- Maps stay in the order of their keys, and a map in order is known by what is found in it.
use mathlib.Core.Path.{◌≡◌, refl, sym, ◌∙◌, ap}
use mathlib.Core.Bool.{Bool, true, false, not}
use mathlib.Core.List.{[], ◌∷◌}
use mathlib.Core.Option.{none, some}
use mathlib.Core.Logic.{◌≢◌}
use Rattle.meaning.specs.Base.{is_yes, if, keep}
use Rattle.meaning.specs.Map.{Keys, Map, is, get, insert, remove, or_insert}
use Rattle.theorems.proofs.Maps.{get_cons_same, get_cons_other}
use Rattle.theorems.proofs.Tests.{none_some, some_inj}

-- A strict order of all keys: without it an insertion need not keep the pairs in order.
pub record Ordered {K : Type 0} (k : Keys K) : Type 0 where
  pub trans : (x y z : K) → k.before x y ≡ true → k.before y z ≡ true → k.before x z ≡ true
  pub irrefl : (x : K) → k.before x x ≡ true → ⊥
  pub total : (x y : K) → x ≢ y → k.before x y ≡ false → k.before y x ≡ true

-- The key lies before every key of the map.
abbrev pub Below : {K A : Type 0} → Keys K → K → Map K A → Type 0
Below k x [] = Unit {0}
Below k x (p ∷ s) = (k.before x p.0 ≡ true) × Below k x s

-- Each key lies before all later ones.
abbrev pub Sorted : {K A : Type 0} → Keys K → Map K A → Type 0
Sorted k [] = Unit {0}
Sorted k (p ∷ s) = Below k p.0 s × Sorted k s

module _ {K A : Type 0} (k : Keys K) where
  below_keep : (f : K × A → Bool) (x : K) (s : Map K A) → Below k x s → Below k x (keep f s)
  unfolding keep
  below_keep f x [] b = tt
  below_keep f x (p ∷ s) b = go (f p) (below_keep f x s b.1)
    where
      go : (c : Bool) → Below k x (keep f s) → Below k x (if c (p ∷ keep f s) (keep f s))
      go true ih = (b.0, ih)
      go false ih = ih

  -- What is left of a map in order is in order, whatever the test and whatever `before` is.
  pub sorted_keep : (f : K × A → Bool) (s : Map K A) → Sorted k s → Sorted k (keep f s)
  unfolding keep
  sorted_keep f [] w = tt
  sorted_keep f (p ∷ s) w = go (f p) (sorted_keep f s w.1)
    where
      go : (c : Bool) → Sorted k (keep f s) → Sorted k (if c (p ∷ keep f s) (keep f s))
      go true ih = (below_keep f p.0 s w.0, ih)
      go false ih = ih

  -- A removal from a map in order leaves it in order; `filtered` is such removals, one after another.
  pub sorted_remove : (x : K) (s : Map K A) → Sorted k s → Sorted k (remove k x s)
  unfolding remove
  sorted_remove x s w = sorted_keep (λ p. not (is k x p.0)) s w

module _ {K A : Type 0} (k : Keys K) (o : Ordered k) where
  below_trans : (x y : K) (s : Map K A) → k.before x y ≡ true → Below k y s → Below k x s
  below_trans x y [] h b = tt
  below_trans x y (p ∷ s) h b = (o.trans x y p.0 h b.0, below_trans x y s h b.1)

  below_insert : (x : K) (p : K × A) (s : Map K A) → k.before x p.0 ≡ true → Below k x s → Below k x (insert k p s)
  unfolding insert
  below_insert x p [] h b = (h, tt)
  below_insert x p (q ∷ s) h b = go (k.same p.0 q.0) (k.before p.0 q.0) (below_insert x p s h b.1)
    where
      go : (c : Dec (p.0 ≡ q.0)) (d : Bool) → Below k x (insert k p s) → Below k x (if (is_yes c) (p ∷ s) (if d (p ∷ (q ∷ s)) (q ∷ insert k p s)))
      go (yes e) d ih = (h, b.1)
      go (no e) true ih = (h, b)
      go (no e) false ih = (b.0, ih)

  -- An insertion into a map in order leaves it in order: maps are built by insertions.
  pub sorted_insert : (p : K × A) (s : Map K A) → Sorted k s → Sorted k (insert k p s)
  unfolding insert
  sorted_insert p [] w = (tt, tt)
  sorted_insert p (q ∷ s) w = go (k.same p.0 q.0) (k.before p.0 q.0) refl (sorted_insert p s w.1)
    where
      go : (c : Dec (p.0 ≡ q.0)) (d : Bool) → k.before p.0 q.0 ≡ d → Sorted k (insert k p s) → Sorted k (if (is_yes c) (p ∷ s) (if d (p ∷ (q ∷ s)) (q ∷ insert k p s)))
      go (yes e) d i ih = (rw e w.0, w.1)
      go (no e) true i ih = ((i, below_trans p.0 q.0 s i w.0), w)
      go (no e) false i ih = (below_insert q.0 p s (o.total p.0 q.0 e i) w.0, ih)

  -- Pairs put over a map in order leave it in order, whatever their own order is.
  pub sorted_or_insert : (s other : Map K A) → Sorted k other → Sorted k (or_insert k s other)
  sorted_or_insert [] other w = w
  sorted_or_insert (p ∷ s) other w = sorted_insert p (or_insert k s other) (sorted_or_insert s other w)

  -- A key before all keys of a map is not found in it: a search may stop there.
  pub below_none : (x : K) (s : Map K A) → Below k x s → get k x s ≡ none
  unfolding get
  below_none x [] b = refl
  below_none x (p ∷ s) b = go (k.same x p.0) (below_none x s b.1)
    where
      go : (c : Dec (x ≡ p.0)) → get k x s ≡ none → if (is_yes c) (some p.1) (get k x s) ≡ none
      go (yes e) ih = absurd (o.irrefl x (rw (← e) at b.0))
      go (no e) ih = ih

  get_less : (p q : K × A) (s t : Map K A) → Sorted k (q ∷ t) → k.before p.0 q.0 ≡ true → get k p.0 (p ∷ s) ≡ get k p.0 (q ∷ t) → ⊥
  get_less p q s t z l h =
      none_some p.1 (sym (below_none p.0 (q ∷ t) (l, below_trans p.0 q.0 t l z.0)) ∙ sym h ∙ get_cons_same k p.0 p.1 s)

  -- Two maps in order in which the same is found are the same list of pairs.
  pub same_finds : (s t : Map K A) → Sorted k s → Sorted k t → ((x : K) → get k x s ≡ get k x t) → s ≡ t
  unfolding get
  same_finds [] [] w z h = refl
  same_finds [] (q ∷ t) w z h = absurd (none_some q.1 (h q.0 ∙ get_cons_same k q.0 q.1 t))
  same_finds (p ∷ s) [] w z h = absurd (none_some p.1 (sym (h p.0) ∙ get_cons_same k p.0 p.1 s))
  same_finds (p ∷ s) (q ∷ t) w z h = go (k.same p.0 q.0) (k.before p.0 q.0) refl (same_finds s t w.1 z.1)
    where
      rest : p.0 ≡ q.0 → (x : K) → Dec (x ≡ p.0) → get k x s ≡ get k x t
      rest e x (yes i) = rw i (below_none p.0 s w.0 ∙ rw e (sym (below_none q.0 t z.0)))
      rest e x (no i) = sym (get_cons_other k x p.0 p.1 s i) ∙ h x ∙ get_cons_other k x q.0 q.1 t (λ j. i (j ∙ sym e))

      value : p.0 ≡ q.0 → p.1 ≡ q.1
      value e =
          let i : get k p.0 (q ∷ t) ≡ some q.1 = ap (λ x. get k x (q ∷ t)) e ∙ get_cons_same k q.0 q.1 t in
          some_inj p.1 q.1 (sym (get_cons_same k p.0 p.1 s) ∙ h p.0 ∙ i)

      go : Dec (p.0 ≡ q.0) → (b : Bool) → k.before p.0 q.0 ≡ b → (((x : K) → get k x s ≡ get k x t) → s ≡ t) → p ∷ s ≡ q ∷ t
      go (yes e) b i ih = λ j. (e j, value e j) ∷ ih (λ x. rest e x (k.same x p.0)) j
      go (no e) true i ih = absurd (get_less p q s t z i (h p.0))
      go (no e) false i ih = absurd (get_less q p t s w (o.total p.0 q.0 e i) (sym (h q.0)))
