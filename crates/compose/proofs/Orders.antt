-- Two maps in order become one map in order, whichever of them the pairs are put into. So the code, which adds the first
-- region's pairs to the second's, does what the meaning says the other way round.
use mathlib.Core.Path.{◌≡◌, refl, ap, sym, ◌∙◌}
use mathlib.Core.List.{[], ◌∷◌}
use mathlib.Core.Option.{Option, none, some}
use Rattle.meaning.specs.Base.{is_yes, if}
use Rattle.meaning.specs.Ast.{TyVar, same_tyvar, Ty}
use Rattle.meaning.specs.Map.{tyvars, get, or_insert}
use Rattle.meaning.specs.Subst.{Subst}
use Rattle.theorems.proofs.ByteOrder.{tyvars_ordered}
use Rattle.theorems.proofs.Maps.{get-insert}
use Rattle.theorems.proofs.Looks.{or_second, get-or_insert}
use Rattle.theorems.proofs.Ordered.{Sorted, sorted_insert, sorted_or_insert, below_none, same_finds}
use Rattle.compose.specs.Compose.{new_at, insert_new, merge_new}

-- A pair added to a map in order leaves it in order.
sorted_new : (p : TyVar × Ty) (s : Subst) → Sorted tyvars s → Sorted tyvars (insert_new p s)
unfolding insert_new new_at
sorted_new p s w = go (get tyvars p.0 s)
  where
    go : (o : Option Ty) → Sorted tyvars (new_at o p s)
    go none = sorted_insert tyvars tyvars_ordered p s w
    go (some u) = w

-- So do several.
pub sorted_merge : (self out : Subst) → Sorted tyvars out → Sorted tyvars (merge_new self out)
sorted_merge [] out w = w
sorted_merge (p ∷ self) out w = sorted_new p (merge_new self out) (sorted_merge self out w)

-- Nothing second.
or_none : (o : Option Ty) → o ≡ or_second o none
or_none none = refl
or_none (some u) = refl

-- Where there is a second choice matters not.
or_assoc : (a b c : Option Ty) → or_second (or_second a b) c ≡ or_second a (or_second b c)
or_assoc none b c = refl
or_assoc (some u) b c = refl

-- What is found where one pair was added: what was found before, or else the pair.
get-new : (x : TyVar) (p : TyVar × Ty) (s : Subst) → get tyvars x (insert_new p s) ≡ or_second (get tyvars x s) (get tyvars x (p ∷ []))
unfolding insert_new new_at get
get-new x p s = go (get tyvars p.0 s) refl (same_tyvar x p.0) refl
  where
    go : (o : Option Ty) → get tyvars p.0 s ≡ o → (c : Dec (x ≡ p.0)) → same_tyvar x p.0 ≡ c
        → get tyvars x (new_at o p s) ≡ or_second (get tyvars x s) (if (is_yes c) (some p.1) none)
    go none e (yes h) i = get-insert tyvars x p s ∙ rw (i, h, e)
    go none e (no h) i = get-insert tyvars x p s ∙ rw i (or_none (get tyvars x s))
    go (some u) e (yes h) i = rw (h, e)
    go (some u) e (no h) i = or_none (get tyvars x s)

-- A first pair whose key comes not again may as well be last.
get_first : (x : TyVar) (p : TyVar × Ty) (s : Subst) → get tyvars p.0 s ≡ none → or_second (get tyvars x s) (get tyvars x (p ∷ [])) ≡ get tyvars x (p ∷ s)
unfolding get
get_first x p s e = go (same_tyvar x p.0) refl
  where
    go : (c : Dec (x ≡ p.0)) → same_tyvar x p.0 ≡ c
        → or_second (get tyvars x s) (if (is_yes c) (some p.1) none) ≡ if (is_yes c) (some p.1) (get tyvars x s)
    go (yes h) i = rw (h, e)
    go (no h) i = sym (or_none (get tyvars x s))

-- What is found where all pairs of a map in order were added.
get-merge : (x : TyVar) (self out : Subst) → Sorted tyvars self → get tyvars x (merge_new self out) ≡ or_second (get tyvars x out) (get tyvars x self)
unfolding get
get-merge x [] out w = or_none (get tyvars x out)
get-merge x (p ∷ self) out w =
    get-new x p (merge_new self out)
    ∙ ap (λ (o : Option Ty). or_second o (get tyvars x (p ∷ []))) (get-merge x self out w.1)
    ∙ or_assoc (get tyvars x out) (get tyvars x self) (get tyvars x (p ∷ []))
    ∙ ap (or_second (get tyvars x out)) (get_first x p self (below_none tyvars tyvars_ordered p.0 self w.0))

-- The code's order of work and the meaning's give the same map.
pub merge_is : (self out : Subst) → Sorted tyvars self → Sorted tyvars out → merge_new self out ≡ or_insert tyvars out self
merge_is self out v w = same_finds tyvars tyvars_ordered (merge_new self out) (or_insert tyvars out self)
    (sorted_merge self out w) (sorted_or_insert tyvars tyvars_ordered out self v)
    (λ x. get-merge x self out v ∙ sym (get-or_insert tyvars x out self))
