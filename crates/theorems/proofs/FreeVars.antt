-- Free variables as tests: what is in a list of variables that the definitions make.
use mathlib.Core.Path.{◌≡◌, refl, ap, sym, ◌∙◌}
use mathlib.Core.Bool.{Bool, true, false, not, ◌||◌, ◌&&◌, true≢false, false≢true}
use mathlib.Core.List.{List, [], ◌∷◌, ◌++◌}
use Rattle.meaning.specs.Base.{is_yes, if, null, keep}
use Rattle.meaning.specs.Ast.{TyVar, same_tyvar, Ty, Tys, var, con, arrow, nil, ◌◂◌, Pred, Qual, Scheme}
use Rattle.meaning.specs.Map.{tyvars, elem}
use Rattle.meaning.specs.Subst.{add, ftv_type, ftv_types, ftv_preds, ftv_qual, without, ftv_scheme, occurs, occurs_in}
use Rattle.meaning.specs.Cores.{put, sort_by}
use Rattle.theorems.proofs.Tests.{is_yes_of}

-- ## tests
or_swap : (a b c : Bool) → (b || (a || c)) ≡ ((a || b) || c)
or_swap true true c = refl
or_swap true false c = refl
or_swap false b c = refl

or_none : (a : Bool) → (a || false) ≡ a
or_none true = refl
or_none false = refl

if_or : (a b : Bool) → if a true b ≡ (a || b)
if_or true b = refl
if_or false b = refl

-- ## lists
-- A variable at the head is there.
pub elem_head : (x : TyVar) (vs : List TyVar) → elem tyvars x (x ∷ vs) ≡ true
unfolding elem
elem_head x vs = rw (is_yes_of (same_tyvar x x) refl) refl

-- The head, or one of the others.
pub elem_cons : (x v : TyVar) (vs : List TyVar) → elem tyvars x (v ∷ vs) ≡ (is_yes (same_tyvar x v) || elem tyvars x vs)
unfolding elem
elem_cons x v vs = if_or (is_yes (same_tyvar x v)) (elem tyvars x vs)

-- One of the first list or one of the second.
pub elem-append : (x : TyVar) (vs ws : List TyVar) → elem tyvars x (vs ++ ws) ≡ (elem tyvars x vs || elem tyvars x ws)
unfolding elem
elem-append x [] ws = refl
elem-append x (v ∷ vs) ws = go (is_yes (same_tyvar x v)) (elem-append x vs ws)
  where
    go : (c : Bool) → elem tyvars x (vs ++ ws) ≡ (elem tyvars x vs || elem tyvars x ws)
        → if c true (elem tyvars x (vs ++ ws)) ≡ (if c true (elem tyvars x vs) || elem tyvars x ws)
    go true ih = refl
    go false ih = ih

-- A variable added once is there as if it had been put before the list.
pub elem-add : (x v : TyVar) (vs : List TyVar) → elem tyvars x (add v vs) ≡ (is_yes (same_tyvar x v) || elem tyvars x vs)
unfolding add
elem-add x v vs = go (elem tyvars v vs) refl (same_tyvar x v) refl
  where
    go : (c : Bool) → elem tyvars v vs ≡ c → (d : Dec (x ≡ v)) → same_tyvar x v ≡ d
        → elem tyvars x (if c vs (v ∷ vs)) ≡ (is_yes (same_tyvar x v) || elem tyvars x vs)
    go true i (yes e) j = rw j (rw e i)
    go true i (no h) j = rw j refl
    go false i d j = elem_cons x v vs

-- What passes a test is kept, and nothing else.
pub elem-keep : (f : TyVar → Bool) (x : TyVar) (vs : List TyVar) → elem tyvars x (keep f vs) ≡ (elem tyvars x vs && f x)
unfolding elem keep
elem-keep f x [] = refl
elem-keep f x (v ∷ vs) = go (f v) refl (same_tyvar x v) refl (elem-keep f x vs)
  where
    and_none : (a : Bool) → (a && false) ≡ false
    and_none true = refl
    and_none false = refl

    go : (c : Bool) → f v ≡ c → (d : Dec (x ≡ v)) → same_tyvar x v ≡ d → elem tyvars x (keep f vs) ≡ (elem tyvars x vs && f x)
        → elem tyvars x (if c (v ∷ keep f vs) (keep f vs)) ≡ (if (is_yes (same_tyvar x v)) true (elem tyvars x vs) && f x)
    go true i (yes e) j ih = rw j (rw e (sym i))
    go true i (no h) j ih = rw j ih
    go false i (yes e) j ih =
        let k : f x ≡ false = rw e i in
        ih ∙ rw j (rw k (and_none (elem tyvars x vs)))
    go false i (no h) j ih = rw j ih

-- The variables of the first list that the second has not.
pub elem-without : (x : TyVar) (vs ws : List TyVar) → elem tyvars x (without vs ws) ≡ (elem tyvars x vs && not (elem tyvars x ws))
unfolding without
elem-without x vs ws = elem-keep (λ v. not (elem tyvars v ws)) x vs

elem_put : (before : TyVar → TyVar → Bool) (x v : TyVar) (vs : List TyVar) → elem tyvars x (put before v vs) ≡ (is_yes (same_tyvar x v) || elem tyvars x vs)
unfolding put elem
elem_put before x v [] = elem_cons x v []
elem_put before x v (w ∷ vs) = go (before w v) (elem_put before x v vs)
  where
    go : (c : Bool) → elem tyvars x (put before v vs) ≡ (is_yes (same_tyvar x v) || elem tyvars x vs)
        → elem tyvars x (if c (w ∷ put before v vs) (v ∷ (w ∷ vs))) ≡ (is_yes (same_tyvar x v) || elem tyvars x (w ∷ vs))
    go true ih =
        elem_cons x w (put before v vs) ∙ ap (λ (b : Bool). is_yes (same_tyvar x w) || b) ih
        ∙ or_turn (is_yes (same_tyvar x w)) (is_yes (same_tyvar x v)) (elem tyvars x vs) ∙ ap (λ (b : Bool). is_yes (same_tyvar x v) || b) (sym (elem_cons x w vs))
      where
        or_turn : (a b c : Bool) → (a || (b || c)) ≡ (b || (a || c))
        or_turn true true c = refl
        or_turn true false c = refl
        or_turn false true c = refl
        or_turn false false c = refl
    go false ih = elem_cons x v (w ∷ vs)

-- Sorting keeps every variable and brings none, whatever the order is.
pub elem-sort_by : (before : TyVar → TyVar → Bool) (x : TyVar) (vs : List TyVar) → elem tyvars x (sort_by before vs) ≡ elem tyvars x vs
unfolding sort_by
elem-sort_by before x [] = refl
elem-sort_by before x (v ∷ vs) =
    elem_put before x v (sort_by before vs) ∙ ap (λ (b : Bool). is_yes (same_tyvar x v) || b) (elem-sort_by before x vs) ∙ sym (elem_cons x v vs)

-- An empty list holds no variable.
pub null-elem : (x : TyVar) (vs : List TyVar) → null vs ≡ true → elem tyvars x vs ≡ false
unfolding null elem
null-elem x [] e = refl
null-elem x (v ∷ vs) e = absurd (false≢true e)

-- A list that holds no variable is empty.
pub null_of : (vs : List TyVar) → ((x : TyVar) → elem tyvars x vs ≡ false) → null vs ≡ true
unfolding null
null_of [] h = refl
null_of (v ∷ vs) h = absurd (true≢false (sym (elem_head v vs) ∙ h v))

-- ## types
mutual
  unfolding ftv_type occurs

  -- The variables of a type are those that occur in it.
  pub elem_ftv_type : (x : TyVar) (t : Ty) (out : List TyVar) → elem tyvars x (ftv_type t out) ≡ (occurs x t || elem tyvars x out)
  elem_ftv_type x (var y) out = elem-add x y out
  elem_ftv_type x (con c ts) out = elem_ftv_types x ts out
  elem_ftv_type x (arrow a b) out =
      elem_ftv_type x b (ftv_type a out) ∙ ap (λ (c : Bool). occurs x b || c) (elem_ftv_type x a out) ∙ or_swap (occurs x a) (occurs x b) (elem tyvars x out)

  -- And of a list of types.
  pub elem_ftv_types : (x : TyVar) (ts : Tys) (out : List TyVar) → elem tyvars x (ftv_types ts out) ≡ (occurs_in x ts || elem tyvars x out)
  elem_ftv_types x nil out = refl
  elem_ftv_types x (a ◂ ts) out =
      elem_ftv_types x ts (ftv_type a out) ∙ ap (λ (c : Bool). occurs_in x ts || c) (elem_ftv_type x a out) ∙ or_swap (occurs x a) (occurs_in x ts) (elem tyvars x out)

-- The variable occurs in one of the predicates.
abbrev pub occurs_preds : TyVar → List Pred → Bool
occurs_preds x [] = false
occurs_preds x (p ∷ ps) = occurs x p.ty || occurs_preds x ps

-- The variable occurs in a qualified type.
abbrev pub occurs_qual : TyVar → Qual → Bool
occurs_qual x q = occurs_preds x q.preds || occurs x q.ty

-- The variables of predicates.
pub elem-ftv_preds : (x : TyVar) (ps : List Pred) (out : List TyVar) → elem tyvars x (ftv_preds ps out) ≡ (occurs_preds x ps || elem tyvars x out)
unfolding ftv_preds
elem-ftv_preds x [] out = refl
elem-ftv_preds x (p ∷ ps) out =
    elem-ftv_preds x ps (ftv_type p.ty out) ∙ ap (λ (c : Bool). occurs_preds x ps || c) (elem_ftv_type x p.ty out)
    ∙ or_swap (occurs x p.ty) (occurs_preds x ps) (elem tyvars x out)

-- The variables of a qualified type.
pub elem-ftv_qual : (x : TyVar) (q : Qual) → elem tyvars x (ftv_qual q) ≡ occurs_qual x q
unfolding ftv_qual elem
elem-ftv_qual x q =
    elem-ftv_preds x q.preds (ftv_type q.ty [])
    ∙ ap (λ (c : Bool). occurs_preds x q.preds || c) (elem_ftv_type x q.ty [] ∙ or_none (occurs x q.ty))

-- The free variables of a scheme: those of its type that it does not bind.
pub elem-ftv_scheme : (x : TyVar) (c : Scheme) → elem tyvars x (ftv_scheme c) ≡ (occurs_qual x c.qual && not (elem tyvars x c.vars))
unfolding ftv_scheme
elem-ftv_scheme x c =
    elem-without x (ftv_qual c.qual) c.vars ∙ ap (λ (b : Bool). b && not (elem tyvars x c.vars)) (elem-ftv_qual x c.qual)
