-- A generalized scheme has no free variable where the environment has none: it binds all that its renaming brings.
use mathlib.Core.Path.{◌≡◌, refl, ap, ap₂, sym, ◌∙◌}
use mathlib.Core.Bool.{Bool, true, false, not, ◌||◌, ◌&&◌, false≢true}
use mathlib.Core.List.{List, [], ◌∷◌, ◌++◌}
use mathlib.Core.Option.{Option, none, some}
use mathlib.Core.Logic.{◌≢◌}
use Prim.Native.Nat.{ℕ, suc}
use Rattle.meaning.specs.Base.{is_yes, if, null, ltb}
use Rattle.meaning.specs.Ast.{Name, TyVar, same_tyvar, tyvar_before, letter, Ty, Tys, var, con, arrow, nil, ◌◂◌, Pred, Qual, qual, Scheme, forall, Core}
use Rattle.meaning.specs.Budget.{depth}
use Rattle.meaning.specs.Map.{Map, names, tyvars, get, insert, elem}
use Rattle.meaning.specs.Subst.{Subst, or_var, look, apply_type, apply_preds, apply_qual, ftv_qual, ftv_scheme, without, occurs, occurs_in}
use Rattle.meaning.specs.Plain.{Fill, sub, subs, sub_preds}
use Rattle.meaning.specs.Cores.{internal_before, sort_by, renamer_from, canonical_renamer, as_subst, images, apply_subst_to_core, canonical_scheme_and_core}
use Rattle.meaning.specs.Classes.{ClassEnv}
use Rattle.meaning.specs.Generalize.{Pending, Env, env_ftv, preds_of, generalize_binding}
use Rattle.theorems.proofs.Says.{Says, Limit, Any, after_says, and_then, past}
use Rattle.theorems.proofs.Tests.{is_yes_true, is_yes_of, or_cases, none_some, some_inj, or_left, or_right}
use Rattle.theorems.proofs.Maps.{get_cons_same, get_cons_other, get_insert_same, get_insert_other}
use Rattle.theorems.proofs.Applied.{apply_says, preds_say}
use Rattle.theorems.proofs.Ordered.{Sorted, below_none}
use Rattle.theorems.proofs.ByteOrder.{names_ordered}
use Rattle.theorems.proofs.FreeVars.{elem_cons, elem-without, elem-sort_by, null_of, elem-ftv_qual, occurs_preds, occurs_qual, elem-ftv_scheme}
use Rattle.theorems.proofs.Stays.{Closed, AllClosed}

-- A scheme that binds every variable of its type is closed.
pub closed_if : (vs : List TyVar) (q : Qual) → ((x : TyVar) → occurs_qual x q ≡ true → elem tyvars x vs ≡ true) → Closed (forall vs q)
closed_if vs q h = null_of (ftv_scheme (forall vs q)) λ x. elem-ftv_scheme x (forall vs q) ∙ go x (occurs_qual x q) refl
  where
    go : (x : TyVar) (c : Bool) → occurs_qual x q ≡ c → (c && not (elem tyvars x vs)) ≡ false
    go x true i = rw (h x i) refl
    go x false i = refl

mutual
  unfolding sub occurs

  -- A variable of a filled type comes from what fills one of the type's variables.
  pub sub_occurs : (θ : Fill) (y : TyVar) (P : Type 0) (t : Ty) → ((x : TyVar) → occurs x t ≡ true → occurs y (θ x) ≡ true → P) → occurs y (sub θ t) ≡ true → P
  sub_occurs θ y P (var x) k e = k x (is_yes_of (same_tyvar x x) refl) e
  sub_occurs θ y P (con c ts) k e = subs_occurs θ y P ts k e
  sub_occurs θ y P (arrow a b) k e =
      or_cases (occurs y (sub θ a)) (occurs y (sub θ b)) e P
      (λ f. sub_occurs θ y P a (λ x i j. k x (or_left (occurs x a) (occurs x b) i) j) f)
      (λ f. sub_occurs θ y P b (λ x i j. k x (or_right (occurs x a) (occurs x b) i) j) f)

  subs_occurs : (θ : Fill) (y : TyVar) (P : Type 0) (ts : Tys) → ((x : TyVar) → occurs_in x ts ≡ true → occurs y (θ x) ≡ true → P) → occurs_in y (subs θ ts) ≡ true → P
  subs_occurs θ y P nil k e = absurd (false≢true e)
  subs_occurs θ y P (t ◂ ts) k e =
      or_cases (occurs y (sub θ t)) (occurs_in y (subs θ ts)) e P
      (λ f. sub_occurs θ y P t (λ x i j. k x (or_left (occurs x t) (occurs_in x ts) i) j) f)
      (λ f. subs_occurs θ y P ts (λ x i j. k x (or_right (occurs x t) (occurs_in x ts) i) j) f)

preds_occur : (θ : Fill) (y : TyVar) (P : Type 0) (ps : List Pred) → ((x : TyVar) → occurs_preds x ps ≡ true → occurs y (θ x) ≡ true → P)
    → occurs_preds y (sub_preds θ ps) ≡ true → P
preds_occur θ y P [] k e = absurd (false≢true e)
preds_occur θ y P (p ∷ ps) k e =
    or_cases (occurs y (sub θ p.ty)) (occurs_preds y (sub_preds θ ps)) e P
    (λ f. sub_occurs θ y P p.ty (λ x i j. k x (or_left (occurs x p.ty) (occurs_preds x ps) i) j) f)
    (λ f. preds_occur θ y P ps (λ x i j. k x (or_right (occurs x p.ty) (occurs_preds x ps) i) j) f)

-- The same of a qualified type.
pub qual_occurs : (θ : Fill) (y : TyVar) (P : Type 0) (q : Qual) → ((x : TyVar) → occurs_qual x q ≡ true → occurs y (θ x) ≡ true → P)
    → occurs_qual y (qual (sub_preds θ q.preds) (sub θ q.ty)) ≡ true → P
qual_occurs θ y P q k e =
    or_cases (occurs_preds y (sub_preds θ q.preds)) (occurs y (sub θ q.ty)) e P
    (λ f. preds_occur θ y P q.preds (λ x i j. k x (or_left (occurs_preds x q.preds) (occurs x q.ty) i) j) f)
    (λ f. sub_occurs θ y P q.ty (λ x i j. k x (or_right (occurs_preds x q.preds) (occurs x q.ty) i) j) f)

-- A substitution done to a qualified type fills its predicates and its type.
pub qual_says : (s : Subst) (q : Qual) (n : ℕ) → Says (λ q₁. q₁ ≡ qual (sub_preds (look s) q.preds) (sub (look s) q.ty)) Limit (apply_qual s q n)
unfolding apply_qual
qual_says s q n =
    and_then _ _ _ (apply_preds s q.preds n) _ (preds_say s q.preds n) λ ps e m.
    and_then _ _ _ (apply_type s q.ty m) _ (apply_says depth s q.ty m) λ u f k. ap₂ (λ (a : List Pred) (b : Ty). qual a b) e f

-- ## renaming
-- Every variable of the list gets a new name.
renames : (x : TyVar) (k : ℕ) (vs : List TyVar) → elem tyvars x vs ≡ true → get tyvars x (renamer_from k vs) ≡ none → ⊥
unfolding renamer_from elem
renames x k [] e h = false≢true e
renames x k (v ∷ vs) e h = go (same_tyvar x v) refl (λ f g. renames x (suc k) vs f g)
  where
    new : TyVar
    new = if (ltb k 26) (letter k) v

    go : (d : Dec (x ≡ v)) → same_tyvar x v ≡ d → (elem tyvars x vs ≡ true → get tyvars x (renamer_from (suc k) vs) ≡ none → ⊥) → ⊥
    go (yes i) j ih =
        let m : get tyvars x (insert tyvars (v, new) (renamer_from (suc k) vs)) ≡ some new = rw i (get_insert_same tyvars v new (renamer_from (suc k) vs)) in
        none_some new (sym h ∙ m)
    go (no i) j ih =
        let f : elem tyvars x vs ≡ true = rw j at e in
        ih f (sym (get_insert_other tyvars x (v, new) (renamer_from (suc k) vs) i) ∙ h)

-- What is found in a renaming is one of its new names.
image_of : (x y : TyVar) (r : Map TyVar TyVar) → get tyvars x r ≡ some y → elem tyvars y (images r) ≡ true
unfolding get
image_of x y [] e = absurd (none_some y e)
image_of x y (p ∷ r) e = elem_cons y p.1 (images r) ∙ go (same_tyvar x p.0) refl (λ f. image_of x y r f)
  where
    go : (d : Dec (x ≡ p.0)) → same_tyvar x p.0 ≡ d → (get tyvars x r ≡ some y → elem tyvars y (images r) ≡ true)
        → (is_yes (same_tyvar y p.1) || elem tyvars y (images r)) ≡ true
    go (yes i) j ih =
        let f : some p.1 ≡ some y = rw j at e in
        or_left (is_yes (same_tyvar y p.1)) (elem tyvars y (images r)) (is_yes_of (same_tyvar y p.1) (sym (some_inj p.1 y f)))
    go (no i) j ih =
        let f : get tyvars x r ≡ some y = rw j at e in
        or_right (is_yes (same_tyvar y p.1)) (elem tyvars y (images r)) (ih f)

-- As a substitution it says of a variable its new name.
look_renamed : (x y : TyVar) (r : Map TyVar TyVar) → get tyvars x r ≡ some y → look (as_subst r) x ≡ var y
unfolding get or_var
look_renamed x y [] e = absurd (none_some y e)
look_renamed x y (p ∷ r) e = go (same_tyvar x p.0) refl (λ f. look_renamed x y r f)
  where
    go : (d : Dec (x ≡ p.0)) → same_tyvar x p.0 ≡ d → (get tyvars x r ≡ some y → look (as_subst r) x ≡ var y) → look (as_subst (p ∷ r)) x ≡ var y
    go (yes i) j ih =
        let f : some p.1 ≡ some y = rw j at e in
        rw j (ap var (some_inj p.1 y f))
    go (no i) j ih =
        let f : get tyvars x r ≡ some y = rw j at e in
        rw j (ih f)

-- So what it brings in place of a variable of the list is a new name.
renamed_image : (x y : TyVar) (vs : List TyVar) → elem tyvars x vs ≡ true → occurs y (look (as_subst (canonical_renamer vs)) x) ≡ true
    → elem tyvars y (images (canonical_renamer vs)) ≡ true
unfolding canonical_renamer occurs
renamed_image x y vs e o = go (get tyvars x (canonical_renamer vs)) refl
  where
    go : (z : Option TyVar) → get tyvars x (canonical_renamer vs) ≡ z → elem tyvars y (images (canonical_renamer vs)) ≡ true
    go none i = absurd (renames x 0 (sort_by internal_before vs) (elem-sort_by internal_before x vs ∙ e) i)
    go (some z) i =
        let f : occurs y (var z) ≡ true = rw (look_renamed x z (canonical_renamer vs) i) at o in
        let g : y ≡ z = is_yes_true (same_tyvar y z) f in
        rw g (image_of x z (canonical_renamer vs) i)

-- A canonical scheme over all variables of a type is closed.
pub canonical_closed : (vs : List TyVar) (q : Qual) (e : Core) (n : ℕ) → ((x : TyVar) → occurs_qual x q ≡ true → elem tyvars x vs ≡ true)
    → Says (λ r. Closed r.0) Any (canonical_scheme_and_core vs q e n)
unfolding canonical_scheme_and_core
canonical_closed vs q e n h =
    after_says _ _ _ _ (apply_qual (as_subst (canonical_renamer vs)) q n) _ (qual_says (as_subst (canonical_renamer vs)) q n) (λ r z. tt) λ q₁ i m.
    past _ (apply_subst_to_core (as_subst (canonical_renamer vs)) e m) _ λ e₁ l.
    closed_if (sort_by tyvar_before (images (canonical_renamer vs))) q₁ λ y o.
    elem-sort_by tyvar_before y (images (canonical_renamer vs))
    ∙ qual_occurs (look (as_subst (canonical_renamer vs))) y _ q (λ x j f. renamed_image x y vs (h x j) f) (rw i at o)

-- ## the environment
-- Where all schemes are closed the environment has no free variable.
pub no_free : (env : Env) → Sorted names env → AllClosed env → env_ftv env ≡ []
unfolding env_ftv null
no_free [] w k = refl
no_free (p ∷ env) w k =
    ap₂ (λ (a b : List TyVar). a ++ b) (empty_of (ftv_scheme p.1) (k p.0 p.1 (get_cons_same names p.0 p.1 env)))
    (no_free env w.1 (λ x c e. k x c (get_cons_other names x p.0 p.1 env (differs x c e) ∙ e)))
  where
    empty_of : (vs : List TyVar) → null vs ≡ true → vs ≡ []
    empty_of [] e = refl
    empty_of (v ∷ vs) e = absurd (false≢true e)

    differs : (x : Name) (c : Scheme) → get names x env ≡ some c → x ≢ p.0
    differs x c e i = none_some c (sym (below_none names names_ordered p.0 env w.0) ∙ rw (← i) e)

-- So generalization gives a closed scheme there.
pub generalize_closed : (ce : ClassEnv) (env : Env) → env_ftv env ≡ [] → (u : Ty) (ps : Pending) (e : Core) (n : ℕ)
    → Says (λ g. Closed g.0) Any (generalize_binding ce env u ps e n)
unfolding generalize_binding elem
generalize_closed ce env f u ps e n =
    past _ _ _ λ r m.
    past _ _ _ λ k m₁.
    past _ _ _ λ _ m₂.
    and_then _ _ _ _ _ (canonical_closed (without (ftv_qual (qual (preds_of k.0) u)) (env_ftv env)) (qual (preds_of k.0) u) k.1 m₂ (bound (qual (preds_of k.0) u))) λ g c l. c
  where
    bound : (q : Qual) (x : TyVar) → occurs_qual x q ≡ true → elem tyvars x (without (ftv_qual q) (env_ftv env)) ≡ true
    bound q x o = elem-without x (ftv_qual q) (env_ftv env) ∙ rw (elem-ftv_qual x q ∙ o, f) refl
