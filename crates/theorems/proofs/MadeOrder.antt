-- On made variables the internal order is a strict total order, so the sorted list of such variables is determined.
use mathlib.Core.Path.{◌≡◌, refl, ap, ap₂, sym, ◌∙◌, subst}
use mathlib.Core.Bool.{Bool, true, false, not, true≢false, false≢true}
use mathlib.Core.List.{List, [], ◌∷◌}
use mathlib.Core.Logic.{◌≢◌}
use native.Mathlib.Omega.{arith}
use Rattle.meaning.specs.Base.{is_yes, if, keep}
use Rattle.meaning.specs.Ast.{TyVar, named, fresh, same_tyvar, Ty, Tys, var, con, arrow, nil, ◌◂◌, Pred, Qual}
use Rattle.meaning.specs.Map.{tyvars, elem}
use Rattle.meaning.specs.Subst.{add, ftv_type, ftv_types, ftv_preds, ftv_qual, without}
use Rattle.meaning.specs.Cores.{internal_before, put, sort_by, renamer_from, canonical_renamer}
use Rattle.theorems.proofs.Tests.{is_no_of, ltb_true, ltb_false, ltb_of}
use Rattle.theorems.proofs.FreeVars.{elem_head, elem-without, elem-sort_by}
use Rattle.theorems.proofs.Made.{IsMade}
use Rattle.theorems.proofs.MadeGeneralized.{MadeVars, OnMade}

-- ## the order
-- Made variables go by their numbers: one before another before a third,
pub made_trans : (x y z : TyVar) → IsMade x → IsMade y → IsMade z → internal_before x y ≡ true → internal_before y z ≡ true → internal_before x z ≡ true
unfolding internal_before
made_trans (named x) y z i j k e f = absurd i
made_trans (fresh x) (named y) z i j k e f = absurd j
made_trans (fresh x) (fresh y) (named z) i j k e f = absurd k
made_trans (fresh x) (fresh y) (fresh z) i j k e f =
    let a = ltb_true x y e in
    let b = ltb_true y z f in
    ltb_of x z (omega arith)

-- none before itself,
pub made_irrefl : (x : TyVar) → IsMade x → internal_before x x ≡ true → ⊥
unfolding internal_before
made_irrefl (named x) i e = i
made_irrefl (fresh x) i e = let a = ltb_true x x e in omega arith

-- and of two one before the other.
pub made_total : (x y : TyVar) → IsMade x → IsMade y → x ≢ y → internal_before x y ≡ false → internal_before y x ≡ true
unfolding internal_before
made_total (named x) y i j h e = absurd i
made_total (fresh x) (named y) i j h e = absurd j
made_total (fresh x) (fresh y) i j h e =
    let a = ltb_false x y e in
    let b : x ≢ y = λ p. h (ap fresh p) in
    ltb_of y x (omega arith)

-- ## another order
each_rest : (P : TyVar → Type 0) (v : TyVar) (vs : List TyVar) → ((x : TyVar) → elem tyvars x (v ∷ vs) ≡ true → P x) → (x : TyVar) → elem tyvars x vs ≡ true → P x
unfolding elem
each_rest P v vs h x e = h x (go (is_yes (same_tyvar x v)))
  where
    go : (b : Bool) → if b true (elem tyvars x vs) ≡ true
    go true = refl
    go false = e

rest_made : (v : TyVar) (vs : List TyVar) → MadeVars (v ∷ vs) → MadeVars vs
rest_made v vs h = each_rest IsMade v vs h

module _ (before : TyVar → TyVar → Bool) (agrees : (x y : TyVar) → IsMade x → IsMade y → before x y ≡ internal_before x y) where
  put_same : (v : TyVar) (vs : List TyVar) → IsMade v → MadeVars vs → put before v vs ≡ put internal_before v vs
  unfolding put
  put_same v [] i h = refl
  put_same v (w ∷ vs) i h = rw (agrees w v (h w (elem_head w vs)) i, put_same v vs i (rest_made w vs h)) refl

  sort_same : (vs : List TyVar) → MadeVars vs → sort_by before vs ≡ sort_by internal_before vs
  unfolding sort_by
  sort_same [] h = refl
  sort_same (v ∷ vs) h =
      ap (put before v) (sort_same vs (rest_made v vs h))
      ∙ put_same v (sort_by internal_before vs) (h v (elem_head v vs)) (λ x e. rest_made v vs h x (sym (elem-sort_by internal_before x vs) ∙ e))

  -- So an order that compares made variables by their numbers does, whatever it says of others (`session_renames_made`).
  pub order_on_made : OnMade (λ vs. renamer_from 0 (sort_by before vs))
  unfolding canonical_renamer
  order_on_made vs h = ap (renamer_from 0) (sort_same vs h)

-- ## the sorted list
-- Each variable stands before all later ones.
abbrev pub Rising : List TyVar → Type 0
Rising [] = Unit {0}
Rising (v ∷ vs) = ((x : TyVar) → elem tyvars x vs ≡ true → internal_before v x ≡ true) × Rising vs

elem-later : (x v : TyVar) (vs : List TyVar) → x ≢ v → elem tyvars x (v ∷ vs) ≡ elem tyvars x vs
unfolding elem
elem-later x v vs h = rw (is_no_of (same_tyvar x v) h) refl

once_only : (v : TyVar) (vs : List TyVar) → IsMade v → Rising (v ∷ vs) → elem tyvars v vs ≡ false
once_only v vs i r = go (elem tyvars v vs) refl
  where
    go : (b : Bool) → elem tyvars v vs ≡ b → elem tyvars v vs ≡ false
    go true e = absurd (made_irrefl v i (r.0 v e))
    go false e = e

-- Two rising lists of the same made variables are one list.
pub rising_same : (us vs : List TyVar) → MadeVars us → Rising us → Rising vs → ((x : TyVar) → elem tyvars x us ≡ elem tyvars x vs) → us ≡ vs
unfolding elem
rising_same [] [] h r s k = refl
rising_same [] (v ∷ vs) h r s k = absurd (false≢true (k v ∙ elem_head v vs))
rising_same (u ∷ us) [] h r s k = absurd (true≢false (sym (elem_head u us) ∙ k u))
rising_same (u ∷ us) (v ∷ vs) h r s k =
    ap₂ (λ (x : TyVar) (xs : List TyVar). x ∷ xs) first (rising_same us vs (rest_made u us h) r.1 s.1 λ x. go x (same_tyvar x u))
  where
    u_made : IsMade u
    u_made = h u (elem_head u us)

    v_made : IsMade v
    v_made = h v (k v ∙ elem_head v vs)

    meet : Dec (u ≡ v) → u ≡ v
    meet (yes e) = e
    meet (no i) =
        let a = s.0 u (sym (elem-later u v vs i) ∙ sym (k u) ∙ elem_head u us) in
        let b = r.0 v (sym (elem-later v u us (λ e. i (sym e))) ∙ k v ∙ elem_head v vs) in
        absurd (made_irrefl u u_made (made_trans u v u u_made v_made u_made b a))

    first : u ≡ v
    first = meet (same_tyvar u v)

    go : (x : TyVar) → Dec (x ≡ u) → elem tyvars x us ≡ elem tyvars x vs
    go x (yes e) =
        let a = once_only u us u_made r in
        let b = once_only v vs v_made s in
        let f = first in cc
    go x (no i) = sym (elem-later x u us i) ∙ k x ∙ elem-later x v vs (λ e. i (e ∙ sym first))

-- No variable stands twice.
abbrev pub Once : List TyVar → Type 0
Once [] = Unit {0}
Once (v ∷ vs) = (elem tyvars v vs ≡ false) × Once vs

each_cons : (P : TyVar → Type 0) (v : TyVar) (vs : List TyVar) → P v → ((x : TyVar) → elem tyvars x vs ≡ true → P x) → (x : TyVar) → elem tyvars x (v ∷ vs) ≡ true → P x
each_cons P v vs p h x e = go (same_tyvar x v)
  where
    go : Dec (x ≡ v) → P x
    go (yes i) = subst P (sym i) p
    go (no i) = h x (sym (elem-later x v vs i) ∙ e)

put_each : (P : TyVar → Type 0) (v : TyVar) (vs : List TyVar) → P v → ((x : TyVar) → elem tyvars x vs ≡ true → P x)
    → (x : TyVar) → elem tyvars x (put internal_before v vs) ≡ true → P x
unfolding put
put_each P v [] p h = each_cons P v [] p h
put_each P v (w ∷ vs) p h = go (internal_before w v) (put_each P v vs p (each_rest P w vs h))
  where
    go : (b : Bool) → ((x : TyVar) → elem tyvars x (put internal_before v vs) ≡ true → P x)
        → (x : TyVar) → elem tyvars x (if b (w ∷ put internal_before v vs) (v ∷ (w ∷ vs))) ≡ true → P x
    go true ih = each_cons P w (put internal_before v vs) (h w (elem_head w vs)) ih
    go false ih = each_cons P v (w ∷ vs) p h

put_rising : (v : TyVar) (vs : List TyVar) → IsMade v → MadeVars vs → elem tyvars v vs ≡ false → Rising vs → Rising (put internal_before v vs)
unfolding put elem
put_rising v [] i h a r = ((λ x e. absurd (false≢true e)), tt)
put_rising v (w ∷ vs) i h a r = go (internal_before w v) refl (put_rising v vs i (rest_made w vs h) (sym (elem-later v w vs apart) ∙ a) r.1)
  where
    apart : v ≢ w
    apart e = true≢false (sym (elem_head v vs) ∙ ap (λ (x : TyVar). elem tyvars v (x ∷ vs)) e ∙ a)

    w_made : IsMade w
    w_made = h w (elem_head w vs)

    go : (b : Bool) → internal_before w v ≡ b → Rising (put internal_before v vs) → Rising (if b (w ∷ put internal_before v vs) (v ∷ (w ∷ vs)))
    go true e ih = (put_each (λ x. internal_before w x ≡ true) v vs e r.0, ih)
    go false e ih =
        let f = made_total w v w_made i (λ p. apart (sym p)) e in
        (each_cons (λ x. internal_before v x ≡ true) w vs f (λ x o. made_trans v w x i w_made (rest_made w vs h x o) f (r.0 x o)), r)

-- Sorting makes a rising list of variables that stand there once: so it is determined (`rising_same`).
pub sort_rising : (vs : List TyVar) → MadeVars vs → Once vs → Rising (sort_by internal_before vs)
unfolding sort_by
sort_rising [] h o = tt
sort_rising (v ∷ vs) h o =
    put_rising v (sort_by internal_before vs) (h v (elem_head v vs)) (λ x e. rest_made v vs h x (sym (elem-sort_by internal_before x vs) ∙ e))
    (elem-sort_by internal_before v vs ∙ o.0) (sort_rising vs (rest_made v vs h) o.1)

-- ## the lists that are renamed
once_add : (x : TyVar) (vs : List TyVar) → Once vs → Once (add x vs)
unfolding add
once_add x vs o = go (elem tyvars x vs) refl
  where
    go : (b : Bool) → elem tyvars x vs ≡ b → Once (if b vs (x ∷ vs))
    go true e = o
    go false e = (e, o)

mutual
  unfolding ftv_type

  once_type : (t : Ty) (out : List TyVar) → Once out → Once (ftv_type t out)
  once_type (var x) out o = once_add x out o
  once_type (con c ts) out o = once_types ts out o
  once_type (arrow a b) out o = once_type b (ftv_type a out) (once_type a out o)

  once_types : (ts : Tys) (out : List TyVar) → Once out → Once (ftv_types ts out)
  once_types nil out o = o
  once_types (a ◂ ts) out o = once_types ts (ftv_type a out) (once_type a out o)

once_preds : (ps : List Pred) (out : List TyVar) → Once out → Once (ftv_preds ps out)
unfolding ftv_preds
once_preds [] out o = o
once_preds (p ∷ ps) out o = once_preds ps (ftv_type p.ty out) (once_type p.ty out o)

-- The variables of a qualified type stand there once.
pub once_ftv_qual : (q : Qual) → Once (ftv_qual q)
unfolding ftv_qual
once_ftv_qual q = once_preds q.preds (ftv_type q.ty []) (once_type q.ty [] tt)

-- And so do those of them that the environment has not.
pub once_without : (vs ws : List TyVar) → Once vs → Once (without vs ws)
unfolding without keep
once_without [] ws o = tt
once_without (v ∷ vs) ws o = go (not (elem tyvars v ws)) (once_without vs ws o.1)
  where
    go : (b : Bool) → Once (without vs ws) → Once (if b (v ∷ without vs ws) (without vs ws))
    go true ih = (elem-without v vs ws ∙ rw o.0 refl, ih)
    go false ih = ih
