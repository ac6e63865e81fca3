-- The walk over superclasses and the search over givens: an entry that is found stands in the list and is taken; where
-- none is found, the test takes no entry of the list.
use mathlib.Core.Path.{◌≡◌, refl, sym, subst}
use mathlib.Core.Bool.{Bool, true, false}
use mathlib.Core.List.{List, [], ◌∷◌, Memᴰ}
use mathlib.Core.Option.{Option, none, some}
use Prim.Native.Nat.{ℕ, suc, zero}
use Rattle.meaning.specs.Ast.{Name, super, Pred, pred, Core, dict_proj}
use Rattle.meaning.specs.Errors.{Refusal, out_of_steps, too_deep}
use Rattle.meaning.specs.Budget.{Steps, depth}
use Rattle.meaning.specs.Classes.{ClassEnv, ClassInfo, Given, class_of, supers_of, or_next, by_supers, by_super_in, from_givens}
use Rattle.meaning.specs.Derives.{Entry, itself, above}
use Rattle.theorems.proofs.Says.{Says, Limit, and_then, step_says, if_says, weaken}

-- What a walk from e at p tells: the entry that the test took, or that it takes none.
abbrev pub Walked : ClassEnv → (Core → Pred → Bool) → Core → Pred → Option Core → Type 0
Walked ce hit e p none = (f : Core) (q : Pred) → Entry ce e p f q → hit f q ≡ false
Walked ce hit e p (some f) = (q : Pred) × Entry ce e p f q × (hit f q ≡ true)

-- The same of the lists of some of the superclasses.
abbrev WalkedAbove : ClassEnv → (Core → Pred → Bool) → Core → Pred → List Name → Option Core → Type 0
WalkedAbove ce hit e p ss none = (s : Name) → Memᴰ s ss → Walked ce hit (dict_proj e (super p.class s)) (pred s p.ty) none
WalkedAbove ce hit e p ss (some f) = (s : Name) × Memᴰ s ss × Walked ce hit (dict_proj e (super p.class s)) (pred s p.ty) (some f)

-- What the search over givens tells.
abbrev pub Searched : ClassEnv → List Given → (Core → Pred → Bool) → Option Core → Type 0
Searched ce gs hit none = (g : Given) → Memᴰ g gs → Walked ce hit g.0 g.1 none
Searched ce gs hit (some f) = (g : Given) × Memᴰ g gs × Walked ce hit g.0 g.1 (some f)

module _ (ce : ClassEnv) (hit : Core → Pred → Bool) where
  -- A superclass that had nothing, before the others.
  above_later : (e : Core) (p : Pred) (s : Name) (ss : List Name) → Walked ce hit (dict_proj e (super p.class s)) (pred s p.ty) none
      → (r : Option Core) → WalkedAbove ce hit e p ss r → WalkedAbove ce hit e p (s ∷ ss) r
  above_later e p s ss w none h = λ v m. go v m
    where
      go : (v : Name) → Memᴰ v (s ∷ ss) → Walked ce hit (dict_proj e (super p.class v)) (pred v p.ty) none
      go v (Memᴰ.head i) = subst (λ (u : Name). Walked ce hit (dict_proj e (super p.class u)) (pred u p.ty) none) (sym i) w
      go v (Memᴰ.tail m) = h v m
  above_later e p s ss w (some f) h = (h.0, Memᴰ.tail h.1, h.2)

  -- One superclass's list, then the others.
  above_next : (e : Core) (p : Pred) (s : Name) (ss : List Name) (r : Option Core) → Walked ce hit (dict_proj e (super p.class s)) (pred s p.ty) r
      → (R : Refusal → Type 0) (others : Steps (Option Core)) → ((n : ℕ) → Says (WalkedAbove ce hit e p ss) R (others n))
      → (n : ℕ) → Says (WalkedAbove ce hit e p (s ∷ ss)) R (or_next r others n)
  unfolding or_next
  above_next e p s ss none w R others h n = weaken _ _ _ _ (others n) (h n) (above_later e p s ss w) (λ r z. z)
  above_next e p s ss (some f) w R others h n = (s, Memᴰ.head refl, w)

  -- An entry is the first one, or stands in a superclass's list.
  entry_below : (e : Core) (p : Pred) (f : Core) (q : Pred) → hit e p ≡ false → WalkedAbove ce hit e p (supers_of (class_of ce p.class)) none
      → Entry ce e p f q → hit f q ≡ false
  unfolding supers_of
  entry_below e p f q t h itself = t
  entry_below e p f q t h (above {s = s} k m x) = h s (subst (λ (o : Option ClassInfo). Memᴰ s (supers_of o)) (sym k) m) f q x

  -- A superclass is one of a class that was declared.
  declared : (o : Option ClassInfo) (s : Name) → Memᴰ s (supers_of o) → (ci : ClassInfo) × (o ≡ some ci) × Memᴰ s ci.supers
  unfolding supers_of
  declared none s m = elim m [ ]
  declared (some ci) s m = (ci, refl, m)

  -- From the superclasses' lists to the list of the entry itself, which the test did not take.
  with_itself : (e : Core) (p : Pred) → hit e p ≡ false → (r : Option Core) → WalkedAbove ce hit e p (supers_of (class_of ce p.class)) r → Walked ce hit e p r
  with_itself e p t none h = λ f q x. entry_below e p f q t h x
  with_itself e p t (some f) h =
      let d = declared (class_of ce p.class) h.0 h.1 in
      (h.2.0, above d.1 d.2 h.2.1, h.2.2)

  -- The same of givens, where the first one had nothing.
  givens_later : (g : Given) (gs : List Given) → Walked ce hit g.0 g.1 none → (r : Option Core) → Searched ce gs hit r → Searched ce (g ∷ gs) hit r
  givens_later g gs w none h = λ v m. go v m
    where
      go : (v : Given) → Memᴰ v (g ∷ gs) → Walked ce hit v.0 v.1 none
      go v (Memᴰ.head i) = subst (λ (u : Given). Walked ce hit u.0 u.1 none) (sym i) w
      go v (Memᴰ.tail m) = h v m
  givens_later g gs w (some f) h = (h.0, Memᴰ.tail h.1, h.2)

  givens_next : (g : Given) (gs : List Given) (r : Option Core) → Walked ce hit g.0 g.1 r
      → (R : Refusal → Type 0) (others : Steps (Option Core)) → ((n : ℕ) → Says (Searched ce gs hit) R (others n))
      → (n : ℕ) → Says (Searched ce (g ∷ gs) hit) R (or_next r others n)
  unfolding or_next
  givens_next g gs none w R others h n = weaken _ _ _ _ (others n) (h n) (givens_later g gs w) (λ r z. z)
  givens_next g gs (some f) w R others h n = (g, Memᴰ.head refl, w)

module _ (R : Refusal → Type 0) (six : R out_of_steps) (seven : R too_deep) (ce : ClassEnv) (hit : Core → Pred → Bool) where
  supers_say : (walk : Core → Pred → Steps (Option Core)) → ((e : Core) (p : Pred) (n : ℕ) → Says (Walked ce hit e p) R (walk e p n))
      → (e : Core) (p : Pred) (ss : List Name) (n : ℕ) → Says (WalkedAbove ce hit e p ss) R (by_supers walk e p ss n)
  unfolding by_supers
  supers_say walk h e p [] n = λ s m. elim m [ ]
  supers_say walk h e p (s ∷ ss) n =
      and_then _ _ _ (walk (dict_proj e (super p.class s)) (pred s p.ty) n) _ (h (dict_proj e (super p.class s)) (pred s p.ty) n) λ r w m.
      above_next ce hit e p s ss r w R (by_supers walk e p ss) (λ k. supers_say walk h e p ss k) m

  -- The walk, for whatever holds of 6 and 7: it ends with no other refusal.
  pub walk_ends : (k : ℕ) (e : Core) (p : Pred) (n : ℕ) → Says (Walked ce hit e p) R (by_super_in k ce hit e p n)
  unfolding by_super_in
  walk_ends zero e p n = seven
  walk_ends (suc k) e p n = step_says _ _ _ six (λ m. if_says _ _ (hit e p) _ _ m (λ t. (p, itself, t)) (λ t. go m t (λ e₁ p₁ i. walk_ends k e₁ p₁ i))) n
    where
      go : (m : ℕ) → hit e p ≡ false → ((e₁ : Core) (p₁ : Pred) (i : ℕ) → Says (Walked ce hit e₁ p₁) R (by_super_in k ce hit e₁ p₁ i))
          → Says (Walked ce hit e p) R (by_supers (λ e₁ p₁. by_super_in k ce hit e₁ p₁) e p (supers_of (class_of ce p.class)) m)
      go m t h = weaken _ _ _ _ (by_supers (λ e₁ p₁. by_super_in k ce hit e₁ p₁) e p (supers_of (class_of ce p.class)) m)
          (supers_say (λ e₁ p₁. by_super_in k ce hit e₁ p₁) h e p (supers_of (class_of ce p.class)) m) (with_itself ce hit e p t) (λ r z. z)

  -- The same of the search.
  pub search_ends : (gs : List Given) (n : ℕ) → Says (Searched ce gs hit) R (from_givens ce gs hit n)
  unfolding from_givens
  search_ends [] n = λ g m. elim m [ ]
  search_ends (g ∷ gs) n =
      and_then _ _ _ (by_super_in depth ce hit g.0 g.1 n) _ (walk_ends depth g.0 g.1 n) λ r w m.
      givens_next ce hit g gs r w R (from_givens ce gs hit) (λ k. search_ends gs k) m

-- A walk finds the entry that the test takes, if any, unless it stops at a limit.
pub walk_says : (k : ℕ) (ce : ClassEnv) (hit : Core → Pred → Bool) (e : Core) (p : Pred) (n : ℕ) → Says (Walked ce hit e p) Limit (by_super_in k ce hit e p n)
walk_says k ce hit e p n = walk_ends Limit (λ z. z) (λ z. z) ce hit k e p n

-- So does the search over all givens.
pub givens_say : (ce : ClassEnv) (gs : List Given) (hit : Core → Pred → Bool) (n : ℕ) → Says (Searched ce gs hit) Limit (from_givens ce gs hit n)
givens_say ce gs hit n = search_ends Limit (λ z. z) (λ z. z) ce hit gs n
