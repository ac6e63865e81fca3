-- Laws of free variables as lists: how many there are, and that passing over some is leaving them out afterwards.
use mathlib.Core.Path.{◌≡◌, refl, ap, sym, ◌∙◌}
use mathlib.Core.Bool.{Bool, true, false, not, true≢false}
use mathlib.Core.List.{List, [], ◌∷◌}
use Prim.Native.Nat.{◌≤◌}
use native.Mathlib.Omega.{arith}
use Rattle.meaning.specs.Base.{is_yes, if, keep, count}
use Rattle.meaning.specs.Ast.{TyVar, same_tyvar, Ty, Tys, var, con, arrow, nil, ◌◂◌}
use Rattle.meaning.specs.Map.{tyvars, elem}
use Rattle.meaning.specs.Subst.{add, ftv_type, ftv_types, without}
use Rattle.free.specs.Free.{add_but, free_type, free_types}

-- ## How many

-- One more or none.
count_add : (vs : List TyVar) (x : TyVar) (out : List TyVar) → count out ≤ count (add_but vs x out)
unfolding add_but add count
count_add vs x out = go (elem tyvars x vs) (elem tyvars x out)
  where
    go : (a b : Bool) → count out ≤ count (if a out (if b out (x ∷ out)))
    go true b = omega arith
    go false true = omega arith
    go false false = omega arith

mutual
  unfolding free_type

  -- Those that were there are there.
  pub count_type : (vs : List TyVar) (t : Ty) (out : List TyVar) → count out ≤ count (free_type vs t out)
  count_type vs (var x) out = count_add vs x out
  count_type vs (con c ts) out = count_types vs ts out
  count_type vs (arrow a b) out = let p = count_type vs a out in let q = count_type vs b (free_type vs a out) in omega arith

  -- The same of a list.
  pub count_types : (vs : List TyVar) (ts : Tys) (out : List TyVar) → count out ≤ count (free_types vs ts out)
  count_types vs nil out = omega arith
  count_types vs (a ◂ ts) out = let p = count_type vs a out in let q = count_types vs ts (free_type vs a out) in omega arith

-- ## Passing over none

mutual
  unfolding free_type ftv_type add_but elem

  -- Those of a type.
  pub none_type : (t : Ty) (out : List TyVar) → free_type [] t out ≡ ftv_type t out
  none_type (var x) out = refl
  none_type (con c ts) out = none_types ts out
  none_type (arrow a b) out = ap (free_type [] b) (none_type a out) ∙ none_type b (ftv_type a out)

  -- Those of a list.
  pub none_types : (ts : Tys) (out : List TyVar) → free_types [] ts out ≡ ftv_types ts out
  none_types nil out = refl
  none_types (a ◂ ts) out = ap (free_types [] ts) (none_type a out) ∙ none_types ts (ftv_type a out)

-- Leaving out none.
pub without_none : (xs : List TyVar) → without xs [] ≡ xs
unfolding without keep elem
without_none [] = refl
without_none (x ∷ xs) = ap (λ (ys : List TyVar). x ∷ ys) (without_none xs)

-- Of nothing nothing is left.
nothing_left : (vs : List TyVar) → without [] vs ≡ []
unfolding without keep
nothing_left vs = refl

-- ## Passing over some

-- A variable that is not left out is there as before.
still_there : (x : TyVar) (xs vs : List TyVar) → elem tyvars x vs ≡ false → elem tyvars x (without xs vs) ≡ elem tyvars x xs
unfolding elem without keep
still_there x [] vs e = refl
still_there x (y ∷ xs) vs e = go (elem tyvars y vs) refl (same_tyvar x y) refl (still_there x xs vs e)
  where
    go : (b : Bool) → elem tyvars y vs ≡ b → (d : Dec (x ≡ y)) → same_tyvar x y ≡ d → elem tyvars x (without xs vs) ≡ elem tyvars x xs
        → elem tyvars x (if (not b) (y ∷ keep (λ v. not (elem tyvars v vs)) xs) (keep (λ v. not (elem tyvars v vs)) xs)) ≡ if (is_yes d) true (elem tyvars x xs)
    go true f (yes p) j ih = absurd (true≢false (sym f ∙ ap (λ (v : TyVar). elem tyvars v vs) (sym p) ∙ e))
    go true f (no n) j ih = ih
    go false f (yes p) j ih = rw j refl
    go false f (no n) j ih = rw j ih

-- A first variable is left out.
left_out : (x : TyVar) (out vs : List TyVar) → elem tyvars x vs ≡ true → without (x ∷ out) vs ≡ without out vs
unfolding without keep
left_out x out vs e = rw e

-- Or it is kept.
kept_first : (x : TyVar) (out vs : List TyVar) → elem tyvars x vs ≡ false → without (x ∷ out) vs ≡ x ∷ without out vs
unfolding without keep
kept_first x out vs e = rw e

-- One variable more.
without-add : (x : TyVar) (out vs : List TyVar) → without (add x out) vs ≡ add_but vs x (without out vs)
unfolding add_but add
without-add x out vs = go (elem tyvars x vs) refl (elem tyvars x out) refl
  where
    go : (a : Bool) → elem tyvars x vs ≡ a → (b : Bool) → elem tyvars x out ≡ b
        → without (if b out (x ∷ out)) vs ≡ if a (without out vs) (if (elem tyvars x (without out vs)) (without out vs) (x ∷ without out vs))
    go true e true f = refl
    go true e false f = left_out x out vs e
    go false e true f = rw (still_there x out vs e, f) refl
    go false e false f = rw (still_there x out vs e, f) (kept_first x out vs e)

mutual
  unfolding free_type ftv_type

  -- Those of a type.
  pub without_type : (t : Ty) (out vs : List TyVar) → without (ftv_type t out) vs ≡ free_type vs t (without out vs)
  without_type (var x) out vs = without-add x out vs
  without_type (con c ts) out vs = without_types ts out vs
  without_type (arrow a b) out vs = without_type b (ftv_type a out) vs ∙ ap (free_type vs b) (without_type a out vs)

  -- Those of a list.
  pub without_types : (ts : Tys) (out vs : List TyVar) → without (ftv_types ts out) vs ≡ free_types vs ts (without out vs)
  without_types nil out vs = refl
  without_types (a ◂ ts) out vs = without_types ts (ftv_type a out) vs ∙ ap (free_types vs ts) (without_type a out vs)

-- Those of a list and a type.
pub without_both : (ts : Tys) (t : Ty) (vs : List TyVar) → without (ftv_types ts (ftv_type t [])) vs ≡ free_types vs ts (free_type vs t [])
without_both ts t vs = without_types ts (ftv_type t []) vs ∙ ap (free_types vs ts) (without_type t [] vs ∙ ap (free_type vs t) (nothing_left vs))
