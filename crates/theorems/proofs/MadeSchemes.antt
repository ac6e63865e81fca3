-- Schemes whose free variables were made: a substitution, a renaming and an instance bring no other variable in.
use mathlib.Core.Path.{◌≡◌, refl, ap, sym, ◌∙◌, subst}
use mathlib.Core.Bool.{Bool, true, false, not, ◌&&◌, true≢false}
use mathlib.Core.List.{List, [], ◌∷◌}
use mathlib.Core.Option.{Option, none, some}
use Prim.Native.Nat.{ℕ}
use Rattle.meaning.specs.Base.{is_yes, if, null}
use Rattle.meaning.specs.Ast.{Name, same_name, TyVar, same_tyvar, tyvar_before, Ty, var, Qual, Scheme, forall, Core}
use Rattle.meaning.specs.Map.{Map, names, tyvars, get, insert, remove, elem}
use Rattle.meaning.specs.Subst.{Subst, or_var, look, apply_qual, filtered, ftv_scheme, apply_scheme, occurs}
use Rattle.meaning.specs.Cores.{sort_by, canonical_renamer, as_subst, images, apply_subst_to_core, canonical_scheme_and_core}
use Rattle.meaning.specs.Generalize.{Env}
use Rattle.meaning.specs.Infer.{mono, apply_schemes}
use Rattle.theorems.proofs.Says.{Says, Any, after_says, and_then, if_says, past}
use Rattle.theorems.proofs.Tests.{is_yes_true, and_left, and_right}
use Rattle.theorems.proofs.Maps.{get_insert_same, get_insert_other}
use Rattle.theorems.proofs.FreeVars.{elem-sort_by, null-elem, occurs_qual, elem-ftv_scheme}
use Rattle.theorems.proofs.Stays.{get_remove_same, get_remove_other, Closed, AllClosed}
use Rattle.theorems.proofs.Generalized.{qual_occurs, qual_says}
use Rattle.theorems.proofs.Made.{IsMade, MadeTy, MadeQual, MadeSubst, MadeScheme, MadeAt, MadeEnv}

-- A variable of a scheme's type is made unless the scheme binds it.
pub unbound_made : (c : Scheme) → MadeScheme c → (x : TyVar) → occurs_qual x c.qual ≡ true → elem tyvars x c.vars ≡ false → IsMade x
unbound_made c h x o e = h x (elem-ftv_scheme x c ∙ rw (o, e) refl)

-- And that is all there is to it.
pub scheme_made : (vs : List TyVar) (q : Qual) → ((x : TyVar) → occurs_qual x q ≡ true → elem tyvars x vs ≡ false → IsMade x) → MadeScheme (forall vs q)
scheme_made vs q h x e = go (elem tyvars x vs) refl
  where
    both : (occurs_qual x q && not (elem tyvars x vs)) ≡ true
    both = sym (elem-ftv_scheme x (forall vs q)) ∙ e

    go : (b : Bool) → elem tyvars x vs ≡ b → IsMade x
    go true i = absurd (true≢false (sym (and_right (occurs_qual x q) (not (elem tyvars x vs)) both) ∙ ap not i))
    go false i = h x (and_left (occurs_qual x q) (not (elem tyvars x vs)) both) i

-- A closed scheme has none.
pub closed_made : (c : Scheme) → Closed c → MadeScheme c
closed_made c h x e = absurd (true≢false (sym e ∙ null-elem x (ftv_scheme c) h))

-- So the environment of a checker between declarations is one of such schemes.
pub env_made : (env : Env) → AllClosed env → MadeEnv env
env_made env h x = go (get names x env) refl
  where
    go : (o : Option Scheme) → get names x env ≡ o → MadeAt o
    go none e = tt
    go (some c) e = closed_made c (h x c e)

-- A parameter's scheme.
pub mono_made : (t : Ty) → MadeTy t → MadeScheme (mono t)
mono_made t h = scheme_made [] _ λ x o i. h x o

-- ## substitutions done to schemes
filtered_looks : (x : TyVar) (vs : List TyVar) (s : Subst) → get tyvars x (filtered vs s) ≡ if (elem tyvars x vs) none (get tyvars x s)
unfolding filtered elem
filtered_looks x [] s = refl
filtered_looks x (v ∷ vs) s = filtered_looks x vs (remove tyvars v s) ∙ go (same_tyvar x v) (elem tyvars x vs)
  where
    go : (d : Dec (x ≡ v)) (b : Bool) → if b none (get tyvars x (remove tyvars v s)) ≡ if (if (is_yes d) true b) none (get tyvars x s)
    go (yes e) true = refl
    go (yes e) false = rw e (get_remove_same tyvars v s)
    go (no h) true = refl
    go (no h) false = get_remove_other tyvars v x s h

-- What it binds it still binds, and for the others come types over made variables.
pub apply_scheme_made : (s : Subst) (c : Scheme) (n : ℕ) → MadeSubst s → Says (λ d. MadeScheme c → MadeScheme d) Any (apply_scheme s c n)
unfolding apply_scheme or_var occurs
apply_scheme_made s c n h =
    if_says _ _ (null (ftv_scheme c)) _ _ n (λ e k. k) λ e.
    after_says _ _ _ _ (apply_qual (filtered c.vars s) c.qual n) _ (qual_says (filtered c.vars s) c.qual n) (λ r z. tt) λ q i m k.
    scheme_made c.vars q λ y o f. qual_occurs (look (filtered c.vars s)) y (IsMade y) c.qual (λ x j g. go k x y j f g (elem tyvars x c.vars) refl) (rw i at o)
  where
    go : MadeScheme c → (x y : TyVar) → occurs_qual x c.qual ≡ true → elem tyvars y c.vars ≡ false → occurs y (look (filtered c.vars s) x) ≡ true
        → (b : Bool) → elem tyvars x c.vars ≡ b → IsMade y
    go k x y j f g true l =
        let o : occurs y (var x) ≡ true = rw (filtered_looks x c.vars s, l) at g in
        absurd (true≢false (sym l ∙ ap (λ (z : TyVar). elem tyvars z c.vars) (sym (is_yes_true (same_tyvar y x) o)) ∙ f))
    go k x y j f g false l =
        let o : occurs y (look s x) ≡ true = rw (filtered_looks x c.vars s, l) at g in
        h x (unbound_made c k x j l) y o

-- The same of each name's scheme.
pub apply_schemes_made : (s : Subst) (env : Env) (n : ℕ) → MadeSubst s → Says (λ env₁. (x : Name) → MadeAt (get names x env) → MadeAt (get names x env₁)) Any (apply_schemes s env n)
unfolding apply_schemes get
apply_schemes_made s [] n h = λ x i. i
apply_schemes_made s (p ∷ env) n h =
    and_then _ _ _ (apply_scheme s p.1 n) _ (apply_scheme_made s p.1 n h) λ c i m.
    and_then _ _ _ (apply_schemes s env m) _ (apply_schemes_made s env m h) λ env₁ j l x. go x c env₁ i (j x) (same_name x p.0)
  where
    go : (x : Name) (c : Scheme) (env₁ : Env) → (MadeScheme p.1 → MadeScheme c) → (MadeAt (get names x env) → MadeAt (get names x env₁)) → (d : Dec (x ≡ p.0))
        → MadeAt (if (is_yes d) (some p.1) (get names x env)) → MadeAt (if (is_yes d) (some c) (get names x env₁))
    go x c env₁ i j (yes e) = i
    go x c env₁ i j (no e) = j

-- A scheme put in.
pub insert_made : (x : Name) (c : Scheme) (env : Env) → MadeScheme c → MadeEnv env → MadeEnv (insert names (x, c) env)
insert_made x c env h k y = go (same_name y x)
  where
    go : Dec (y ≡ x) → MadeAt (get names y (insert names (x, c) env))
    go (yes e) = rw (e, get_insert_same names x c env) h
    go (no i) = rw (get_insert_other names y (x, c) env i) (k y)

-- A name taken out.
pub remove_made : (x : Name) (env : Env) → MadeEnv env → MadeEnv (remove names x env)
remove_made x env k y = go (same_name y x)
  where
    go : Dec (y ≡ x) → MadeAt (get names y (remove names x env))
    go (yes e) = rw (e, get_remove_same names x env) tt
    go (no i) = rw (get_remove_other names x y env i) (k y)

-- ## renaming
-- A renamed variable becomes one of the new names; every other one stays.
renamed_or_self : (x y : TyVar) (r : Map TyVar TyVar) → occurs y (look (as_subst r) x) ≡ true → elem tyvars y (images r) ≡ false → y ≡ x
unfolding get or_var occurs elem
renamed_or_self x y [] o f = is_yes_true (same_tyvar y x) o
renamed_or_self x y (p ∷ r) o f = go (same_tyvar x p.0) refl (same_tyvar y p.1) refl (renamed_or_self x y r)
  where
    go : (c : Dec (x ≡ p.0)) → same_tyvar x p.0 ≡ c → (d : Dec (y ≡ p.1)) → same_tyvar y p.1 ≡ d
        → (occurs y (look (as_subst r) x) ≡ true → elem tyvars y (images r) ≡ false → y ≡ x) → y ≡ x
    go c i (yes e) j ih = absurd (true≢false (rw j at f))
    go (yes a) i (no h) j ih = absurd (h (is_yes_true (same_tyvar y p.1) (rw i at o)))
    go (no a) i (no h) j ih = ih (rw i at o) (rw j at f)

-- The free variables of a canonical scheme are variables of the type, whatever list is renamed.
pub canonical_made : (vs : List TyVar) (q : Qual) (e : Core) (n : ℕ) → MadeQual q → Says (λ r. MadeScheme r.0) Any (canonical_scheme_and_core vs q e n)
unfolding canonical_scheme_and_core
canonical_made vs q e n h =
    after_says _ _ _ _ (apply_qual (as_subst (canonical_renamer vs)) q n) _ (qual_says (as_subst (canonical_renamer vs)) q n) (λ r z. tt) λ q₁ i m.
    past _ (apply_subst_to_core (as_subst (canonical_renamer vs)) e m) _ λ e₁ l.
    scheme_made (sort_by tyvar_before (images (canonical_renamer vs))) q₁ λ y o f.
    qual_occurs (look (as_subst (canonical_renamer vs))) y (IsMade y) q
    (λ x j g. subst IsMade (sym (renamed_or_self x y (canonical_renamer vs) g (sym (elem-sort_by tyvar_before y (images (canonical_renamer vs))) ∙ f))) (h x j)) (rw i at o)
