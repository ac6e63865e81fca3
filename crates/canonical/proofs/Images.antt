-- The variables of a renamed type that the environment has not are the new names.
use mathlib.Core.Path.{◌≡◌, refl, ap, sym, ◌∙◌, subst}
use mathlib.Core.Bool.{Bool, true, false, ◌||◌, false≢true}
use mathlib.Core.List.{List, [], ◌∷◌}
use mathlib.Core.Option.{Option, none, some}
use Prim.Native.Nat.{ℕ}
use Rattle.meaning.specs.Base.{is_yes}
use Rattle.meaning.specs.Ast.{Name, same_name, TyVar, same_tyvar, tyvar_before, letter, Ty, Tys, var, con, arrow, nil, ◌◂◌, Pred, Qual, qual}
use Rattle.meaning.specs.Map.{Map, names, tyvars, get, elem}
use Rattle.meaning.specs.Subst.{look, ftv_qual, ftv_scheme, occurs, occurs_in}
use Rattle.meaning.specs.Plain.{Fill, sub, subs, sub_preds}
use Rattle.meaning.specs.Cores.{internal_before, sort_by, canonical_renamer, as_subst, images}
use Rattle.meaning.specs.Generalize.{Env, env_ftv}
use Rattle.theorems.proofs.Tests.{is_yes_true, is_yes_of, or_cases, or_left, or_right, none_some, some_inj}
use Rattle.theorems.proofs.Maps.{get_cons_same, get_cons_other}
use Rattle.theorems.proofs.Ordered.{Sorted, below_none}
use Rattle.theorems.proofs.ByteOrder.{names_ordered, tyvars_ordered}
use Rattle.theorems.proofs.FreeVars.{elem_cons, elem_head, elem-append, elem-sort_by, occurs_preds, occurs_qual}
use Rattle.theorems.proofs.Generalized.{qual_occurs}
use Rattle.theorems.proofs.Made.{IsMade, MadeQual, MadeAt, MadeEnv}
use Rattle.theorems.proofs.MadeGeneralized.{MadeVars, ftv_made, without_made}
use Rattle.theorems.proofs.MadeOrder.{Once, Rising, sort_rising, made_irrefl, once_ftv_qual, once_without}
use Rattle.canonical.specs.Named.{bound}
use Rattle.canonical.proofs.Leasts.{is_that, that_is}
use Rattle.canonical.proofs.Chosen.{or_name, look_as}
use Rattle.canonical.proofs.Bytes.{elem_all, bytes_same, sort_bytes}
use Rattle.canonical.proofs.Lettering.{bound_yes}
use Rattle.canonical.proofs.Sorting.{bound_parts}
use Rattle.canonical.proofs.NewNames.{letter_named, Named, by_letter, by_itself, renamer_sorted, renamer_names, renamer_once, renames_all}

-- ## images
-- A new name is that of some variable.
record From (r : Map TyVar TyVar) (y : TyVar) : Type 0 where
  old : TyVar
  found : get tyvars old r ≡ some y

-- Each new name comes from one.
image_from : (r : Map TyVar TyVar) (y : TyVar) → Sorted tyvars r → elem tyvars y (images r) ≡ true → From r y
unfolding elem
image_from [] y s e = absurd (false≢true e)
image_from (p ∷ r) y s e = go (same_tyvar y p.1) refl (image_from r y s.1)
  where
    go : (d : Dec (y ≡ p.1)) → same_tyvar y p.1 ≡ d → (elem tyvars y (images r) ≡ true → From r y) → From (p ∷ r) y
    go (yes i) j ih = record { old = p.0; found = get_cons_same tyvars p.0 p.1 r ∙ ap some (sym i) }
    go (no n) j ih =
        let F = ih (rw j at e) in
        record { old = F.old; found = get_cons_other tyvars F.old p.0 p.1 r (λ i. none_some y (sym (below_none tyvars tyvars_ordered p.0 r s.0) ∙ ap (λ (z : TyVar). get tyvars z r) (sym i) ∙ F.found)) ∙ F.found }

-- What is found is a new name.
image_of : (r : Map TyVar TyVar) (x y : TyVar) → get tyvars x r ≡ some y → elem tyvars y (images r) ≡ true
unfolding get
image_of [] x y e = absurd (none_some y e)
image_of (p ∷ r) x y e = elem_cons y p.1 (images r) ∙ go (same_tyvar x p.0) refl (image_of r x y)
  where
    go : (d : Dec (x ≡ p.0)) → same_tyvar x p.0 ≡ d → (get tyvars x r ≡ some y → elem tyvars y (images r) ≡ true) → (is_yes (same_tyvar y p.1) || elem tyvars y (images r)) ≡ true
    go (yes i) j ih =
        let f : some p.1 ≡ some y = rw j at e in
        or_left (is_yes (same_tyvar y p.1)) (elem tyvars y (images r)) (is_yes_of (same_tyvar y p.1) (sym (some_inj p.1 y f)))
    go (no i) j ih =
        let f : get tyvars x r ≡ some y = rw j at e in
        or_right (is_yes (same_tyvar y p.1)) (elem tyvars y (images r)) (ih f)

-- New names that belong to one variable each stand there once.
images_once : (r : Map TyVar TyVar) → Sorted tyvars r → ((x x' y : TyVar) → get tyvars x r ≡ some y → get tyvars x' r ≡ some y → x ≡ x') → Once (images r)
images_once [] s h = tt
images_once (p ∷ r) s h = (go (elem tyvars p.1 (images r)) refl, images_once r s.1 (λ x x' y e f. h x x' y (in_all x y e ∙ e) (in_all x' y f ∙ f)))
  where
    in_all : (x y : TyVar) → get tyvars x r ≡ some y → get tyvars x (p ∷ r) ≡ get tyvars x r
    in_all x y e = get_cons_other tyvars x p.0 p.1 r (λ i. none_some y (sym (below_none tyvars tyvars_ordered p.0 r s.0) ∙ ap (λ (z : TyVar). get tyvars z r) (sym i) ∙ e))

    go : (b : Bool) → elem tyvars p.1 (images r) ≡ b → elem tyvars p.1 (images r) ≡ false
    go true e =
        let F = image_from r p.1 s.1 e in
        let i : p.0 ≡ F.old = h p.0 F.old p.1 (get_cons_same tyvars p.0 p.1 r) (in_all F.old p.1 F.found ∙ F.found) in
        absurd (none_some p.1 (sym (below_none tyvars tyvars_ordered p.0 r s.0) ∙ ap (λ (z : TyVar). get tyvars z r) i ∙ F.found))
    go false e = e

-- ## types
mutual
  unfolding sub occurs

  -- A variable of what fills a variable of a type is one of the filled type.
  sub_in : (θ : Fill) (x y : TyVar) (t : Ty) → occurs x t ≡ true → occurs y (θ x) ≡ true → occurs y (sub θ t) ≡ true
  sub_in θ x y (var z) e f = subst (λ (u : TyVar). occurs y (θ u) ≡ true) (is_yes_true (same_tyvar x z) e) f
  sub_in θ x y (con c ts) e f = subs_in θ x y ts e f
  sub_in θ x y (arrow a b) e f = or_cases (occurs x a) (occurs x b) e _
      (λ i. or_left (occurs y (sub θ a)) (occurs y (sub θ b)) (sub_in θ x y a i f)) (λ i. or_right (occurs y (sub θ a)) (occurs y (sub θ b)) (sub_in θ x y b i f))

  -- The same of a list of types.
  subs_in : (θ : Fill) (x y : TyVar) (ts : Tys) → occurs_in x ts ≡ true → occurs y (θ x) ≡ true → occurs_in y (subs θ ts) ≡ true
  subs_in θ x y nil e f = absurd (false≢true e)
  subs_in θ x y (t ◂ ts) e f = or_cases (occurs x t) (occurs_in x ts) e _
      (λ i. or_left (occurs y (sub θ t)) (occurs_in y (subs θ ts)) (sub_in θ x y t i f)) (λ i. or_right (occurs y (sub θ t)) (occurs_in y (subs θ ts)) (subs_in θ x y ts i f))

-- The same of predicates.
preds_in_lem : (θ : Fill) (x y : TyVar) (ps : List Pred) → occurs_preds x ps ≡ true → occurs y (θ x) ≡ true → occurs_preds y (sub_preds θ ps) ≡ true
preds_in_lem θ x y [] e f = absurd (false≢true e)
preds_in_lem θ x y (p ∷ ps) e f = or_cases (occurs x p.ty) (occurs_preds x ps) e _
    (λ i. or_left (occurs y (sub θ p.ty)) (occurs_preds y (sub_preds θ ps)) (sub_in θ x y p.ty i f)) (λ i. or_right (occurs y (sub θ p.ty)) (occurs_preds y (sub_preds θ ps)) (preds_in_lem θ x y ps i f))

-- A qualified type, filled.
abbrev pub filled : Fill → Qual → Qual
filled θ q = qual (sub_preds θ q.preds) (sub θ q.ty)

-- The same of a qualified type.
qual_in : (θ : Fill) (x y : TyVar) (q : Qual) → occurs_qual x q ≡ true → occurs y (θ x) ≡ true → occurs_qual y (filled θ q) ≡ true
qual_in θ x y q e f = or_cases (occurs_preds x q.preds) (occurs x q.ty) e _
    (λ i. or_left (occurs_preds y (sub_preds θ q.preds)) (occurs y (sub θ q.ty)) (preds_in_lem θ x y q.preds i f))
    (λ i. or_right (occurs_preds y (sub_preds θ q.preds)) (occurs y (sub θ q.ty)) (sub_in θ x y q.ty i f))

-- ## the environment
-- The free variables of an environment of made schemes were made.
pub env_vars_made : (env : Env) → Sorted names env → MadeEnv env → MadeVars (env_ftv env)
unfolding env_ftv elem
env_vars_made [] w h x e = absurd (false≢true e)
env_vars_made (p ∷ env) w h x e = or_cases (elem tyvars x (ftv_scheme p.1)) (elem tyvars x (env_ftv env)) (sym (elem-append x (ftv_scheme p.1) (env_ftv env)) ∙ e) _
    (λ i. subst MadeAt (get_cons_same names p.0 p.1 env) (h p.0) x i) (λ i. env_vars_made env w.1 (λ y. rest y (same_name y p.0)) x i)
  where
    rest : (y : Name) → Dec (y ≡ p.0) → MadeAt (get names y env)
    rest y (yes i) = subst MadeAt (sym (ap (λ (z : Name). get names z env) i ∙ below_none names names_ordered p.0 env w.0)) tt
    rest y (no i) = subst MadeAt (get_cons_other names y p.0 p.1 env i) (h y)

-- ## the law
-- Two tests that follow from each other.
both_ways : (a b : Bool) → (a ≡ true → b ≡ true) → (b ≡ true → a ≡ true) → a ≡ b
both_ways true b f g = sym (f refl)
both_ways false true f g = g refl
both_ways false false f g = refl

-- In a rising list no variable stands twice.
rising_once : (vs : List TyVar) → MadeVars vs → Rising vs → Once vs
rising_once [] m r = tt
rising_once (v ∷ vs) m r = (go (elem tyvars v vs) refl, rising_once vs (λ x e. m x (elem_all x v vs e)) r.1)
  where
    go : (b : Bool) → elem tyvars v vs ≡ b → elem tyvars v vs ≡ false
    go true e = absurd (made_irrefl v (m v (elem_head v vs)) (r.0 v e))
    go false e = e

module _ (q : Qual) (env : Env) (made : MadeQual q) (free : MadeVars (env_ftv env)) where
  bound_made : MadeVars (bound q env)
  bound_made = without_made (ftv_qual q) (env_ftv env) (ftv_made q made)

  -- Bound variables stand there once;
  bound_once : Once (bound q env)
  bound_once = once_without (ftv_qual q) (env_ftv env) (once_ftv_qual q)

  -- so do they in their internal order,
  order_made : MadeVars (sort_by internal_before (bound q env))
  order_made x e = bound_made x (sym (elem-sort_by internal_before x (bound q env)) ∙ e)

  -- in which none stands twice either.
  order_once : Once (sort_by internal_before (bound q env))
  order_once = rising_once (sort_by internal_before (bound q env)) order_made (sort_rising (bound q env) bound_made bound_once)

  -- A variable of the renamed type that the environment has not is a new name.
  is_image : (y : TyVar) → elem tyvars y (bound (filled (look (as_subst (canonical_renamer (bound q env)))) q) env) ≡ true → elem tyvars y (images (canonical_renamer (bound q env))) ≡ true
  unfolding canonical_renamer
  is_image y e =
      let p = bound_parts y (filled (look (as_subst (canonical_renamer (bound q env)))) q) env e in
      qual_occurs (look (as_subst (canonical_renamer (bound q env)))) y _ q (λ x o g. go x p.1 o (get tyvars x (canonical_renamer (bound q env))) refl (is_that y _ (subst (λ (t : Ty). occurs y t ≡ true) (look_as x (canonical_renamer (bound q env))) g))) p.0
    where
      go : (x : TyVar) → elem tyvars y (env_ftv env) ≡ false → occurs_qual x q ≡ true → (z : Option TyVar) → get tyvars x (canonical_renamer (bound q env)) ≡ z
          → y ≡ or_name x (get tyvars x (canonical_renamer (bound q env))) → elem tyvars y (images (canonical_renamer (bound q env))) ≡ true
      go x n o (some z) i j = image_of (canonical_renamer (bound q env)) x y (i ∙ ap some (sym (j ∙ ap (or_name x) i)))
      go x n o none i j =
          let k : y ≡ x = j ∙ ap (or_name x) i in
          absurd (renames_all x 0 (sort_by internal_before (bound q env))
          (elem-sort_by internal_before x (bound q env) ∙ bound_yes x q env o (subst (λ (v : TyVar). elem tyvars v (env_ftv env) ≡ false) k n)) i)

  -- A new name is a variable of the renamed type that the environment has not.
  image_is : (y : TyVar) → elem tyvars y (images (canonical_renamer (bound q env))) ≡ true → elem tyvars y (bound (filled (look (as_subst (canonical_renamer (bound q env)))) q) env) ≡ true
  unfolding canonical_renamer
  image_is y e =
      let F = image_from (canonical_renamer (bound q env)) y (renamer_sorted 0 (sort_by internal_before (bound q env))) e in
      go F.old F.found (renamer_names 0 (sort_by internal_before (bound q env)) F.old y F.found)
    where
      finish : (x : TyVar) → get tyvars x (canonical_renamer (bound q env)) ≡ some y → elem tyvars x (sort_by internal_before (bound q env)) ≡ true → elem tyvars y (env_ftv env) ≡ false
          → elem tyvars y (bound (filled (look (as_subst (canonical_renamer (bound q env)))) q) env) ≡ true
      finish x f d n =
          let p = bound_parts x q env (sym (elem-sort_by internal_before x (bound q env)) ∙ d) in
          let l : look (as_subst (canonical_renamer (bound q env))) x ≡ var y = look_as x (canonical_renamer (bound q env)) ∙ ap (λ (o : Option TyVar). var (or_name x o)) f in
          bound_yes y (filled (look (as_subst (canonical_renamer (bound q env)))) q) env
          (qual_in (look (as_subst (canonical_renamer (bound q env)))) x y q p.0 (subst (λ (t : Ty). occurs y t ≡ true) (sym l) (that_is y))) n

      not_free : (b : Bool) → elem tyvars y (env_ftv env) ≡ b → (j : ℕ) → y ≡ letter j → elem tyvars y (env_ftv env) ≡ false
      not_free true i j c = absurd (letter_named j (subst IsMade c (free y i)))
      not_free false i j c = i

      go : (x : TyVar) → get tyvars x (canonical_renamer (bound q env)) ≡ some y → Named 0 (sort_by internal_before (bound q env)) x y
          → elem tyvars y (bound (filled (look (as_subst (canonical_renamer (bound q env)))) q) env) ≡ true
      go x f (by_letter j a b c d) = finish x f d (not_free (elem tyvars y (env_ftv env)) refl j c)
      go x f (by_itself c d) = finish x f d (subst (λ (v : TyVar). elem tyvars v (env_ftv env) ≡ false) (sym c) (bound_parts x q env (sym (elem-sort_by internal_before x (bound q env)) ∙ d)).1)

  -- So the list of variables of the renamed type is the one that the canonical scheme binds.
  pub new-names : sort_by tyvar_before (bound (filled (look (as_subst (canonical_renamer (bound q env)))) q) env) ≡ sort_by tyvar_before (images (canonical_renamer (bound q env)))
  unfolding canonical_renamer
  new-names =
      let q₁ = filled (look (as_subst (canonical_renamer (bound q env)))) q in
      bytes_same _ _ (sort_bytes (bound q₁ env) (once_without (ftv_qual q₁) (env_ftv env) (once_ftv_qual q₁)))
      (sort_bytes (images (canonical_renamer (bound q env))) (images_once (canonical_renamer (bound q env)) (renamer_sorted 0 (sort_by internal_before (bound q env)))
      (λ x x' y e f. renamer_once 0 (sort_by internal_before (bound q env)) x x' y order_made order_once e f)))
      (λ y. elem-sort_by tyvar_before y (bound q₁ env) ∙ both_ways (elem tyvars y (bound q₁ env)) (elem tyvars y (images (canonical_renamer (bound q env)))) (is_image y) (image_is y)
      ∙ sym (elem-sort_by tyvar_before y (images (canonical_renamer (bound q env)))))
