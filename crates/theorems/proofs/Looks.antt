-- What is found in a map made of two, and what a composed substitution says of a variable.
use mathlib.Core.Path.{◌≡◌, refl, ap, ◌∙◌}
use mathlib.Core.List.{[], ◌∷◌, map}
use mathlib.Core.Option.{Option, none, some}
use mathlib.Core.Logic.{◌≢◌}
use Rattle.meaning.specs.Ast.{TyVar, same_tyvar, Ty, var}
use Rattle.meaning.specs.Map.{Keys, Map, tyvars, get, or_insert}
use Rattle.meaning.specs.Subst.{Subst, or_var, look, singleton}
use Rattle.meaning.specs.Plain.{Fill, sub, filled}
use Rattle.theorems.proofs.Maps.{get-insert}

-- The first where there is one, else the second.
abbrev pub or_second : {A : Type 0} → Option A → Option A → Option A
or_second none b = b
or_second (some a) b = some a

-- `or_insert` finds what the first map has, and only where it has nothing what the second has.
pub get-or_insert : {K A : Type 0} (k : Keys K) (x : K) (s t : Map K A) → get k x (or_insert k s t) ≡ or_second (get k x s) (get k x t)
unfolding get
get-or_insert k x [] t = refl
get-or_insert k x (p ∷ s) t = get-insert k x p (or_insert k s t) ∙ go (k.same x p.0) refl (get-or_insert k x s t)
  where
    go : (c : Dec (x ≡ p.0)) → k.same x p.0 ≡ c → get k x (or_insert k s t) ≡ or_second (get k x s) (get k x t)
        → get k x (p ∷ or_insert k s t) ≡ or_second (get k x (p ∷ s)) (get k x t)
    go (yes e) i ih = rw i refl
    go (no h) i ih = rw i ih

-- The same where the first map is known to have the key.
pub get-or_insert_first : {K A : Type 0} (k : Keys K) (x : K) (s t : Map K A) (a : A) → get k x s ≡ some a → get k x (or_insert k s t) ≡ some a
get-or_insert_first k x s t a e = get-or_insert k x s t ∙ ap (λ (o : Option _). or_second o (get k x t)) e

-- And where it is known not to have it.
pub get-or_insert_second : {K A : Type 0} (k : Keys K) (x : K) (s t : Map K A) → get k x s ≡ none → get k x (or_insert k s t) ≡ get k x t
get-or_insert_second k x s t e = get-or_insert k x s t ∙ ap (λ (o : Option _). or_second o (get k x t)) e

-- A variable of `other` has there the type of `other` with θ done to it, and every other variable what θ says of it.
filled_found : (θ : Fill) (other : Subst) (x : TyVar) (o : Option Ty) → or_var x o ≡ θ x
    → or_var x (or_second (get tyvars x (map (λ p. (p.0, sub θ p.1)) other)) o) ≡ sub θ (look other x)
unfolding get or_var sub
filled_found θ [] x o e = e
filled_found θ (p ∷ other) x o e = go (same_tyvar x p.0) refl (filled_found θ other x o e)
  where
    go : (c : Dec (x ≡ p.0)) → same_tyvar x p.0 ≡ c
        → or_var x (or_second (get tyvars x (map (λ p. (p.0, sub θ p.1)) other)) o) ≡ sub θ (look other x)
        → or_var x (or_second (get tyvars x (map (λ p. (p.0, sub θ p.1)) (p ∷ other))) o) ≡ sub θ (look (p ∷ other) x)
    go (yes a) i ih = rw i refl
    go (no h) i ih = rw i ih

-- A composition says of a variable what `self` makes of what `other` says: first `other`, then `self`.
pub look_composed : (self other : Subst) (x : TyVar) → look (or_insert tyvars (map (λ p. (p.0, filled self p.1)) other) self) x ≡ filled self (look other x)
look_composed self other x =
    ap (or_var x) (get-or_insert tyvars x (map (λ p. (p.0, filled self p.1)) other) self)
    ∙ filled_found (look self) other x (get tyvars x self) refl

-- The empty substitution leaves every variable.
pub look_empty : (x : TyVar) → look [] x ≡ var x
unfolding get or_var
look_empty x = refl

-- A single pair speaks of its own variable.
pub look_same : (v : TyVar) (t : Ty) → look (singleton v t) v ≡ t
unfolding get or_var
look_same v t = go (same_tyvar v v) refl
  where
    go : (c : Dec (v ≡ v)) → same_tyvar v v ≡ c → look (singleton v t) v ≡ t
    go (yes e) i = rw i refl
    go (no h) i = absurd (h refl)

-- And of no other.
pub look_other : (v : TyVar) (t : Ty) (x : TyVar) → x ≢ v → look (singleton v t) x ≡ var x
unfolding get or_var
look_other v t x n = go (same_tyvar x v) refl
  where
    go : (c : Dec (x ≡ v)) → same_tyvar x v ≡ c → look (singleton v t) x ≡ var x
    go (yes e) i = absurd (n e)
    go (no h) i = rw i refl
