-- A qualified type has no more variables than places where a variable stands.
use mathlib.Core.Path.{◌≡◌, refl, ap}
use mathlib.Core.Bool.{Bool, true, false, not}
use mathlib.Core.List.{List, [], ◌∷◌}
use Prim.Native.Nat.{suc, ◌+◌, ◌≤◌}
use native.Mathlib.Omega.{arith}
use Rattle.meaning.specs.Base.{if, keep, count, total}
use Rattle.meaning.specs.Ast.{TyVar, Ty, Tys, var, con, arrow, nil, ◌◂◌, Pred, Qual}
use Rattle.meaning.specs.Map.{tyvars, elem}
use Rattle.meaning.specs.Subst.{add, ftv_type, ftv_types, ftv_preds, ftv_qual, without}
use Rattle.meaning.specs.Generalize.{Env, env_ftv}
use Rattle.rename.specs.Renaming.{leaves, leaves_list}
use Rattle.canonical.specs.Named.{bound}
use Rattle.canonical.specs.Rows.{leaves_preds}

-- One variable more at most.
add_few : (x : TyVar) (out : List TyVar) → count (add x out) ≤ 1 + count out
unfolding add count
add_few x out = go (elem tyvars x out)
  where
    go : (b : Bool) → count (if b out (x ∷ out)) ≤ 1 + count out
    go true = omega arith
    go false = omega arith

mutual
  unfolding ftv_type leaves

  -- Those of a type, before those already found.
  type_few : (t : Ty) (out : List TyVar) → count (ftv_type t out) ≤ leaves t + count out
  type_few (var x) out = add_few x out
  type_few (con c ts) out = types_few ts out
  type_few (arrow a b) out = let h = type_few b (ftv_type a out) in let k = type_few a out in omega arith

  -- The same of a list of types.
  types_few : (ts : Tys) (out : List TyVar) → count (ftv_types ts out) ≤ leaves_list ts + count out
  types_few nil out = omega arith
  types_few (a ◂ ts) out = let h = types_few ts (ftv_type a out) in let k = type_few a out in omega arith

-- The same of predicates.
preds_few : (ps : List Pred) (out : List TyVar) → count (ftv_preds ps out) ≤ leaves_preds ps + count out
unfolding ftv_preds total
preds_few [] out = omega arith
preds_few (p ∷ ps) out = let h = preds_few ps (ftv_type p.ty out) in let k = type_few p.ty out in omega arith

-- All of its variables.
pub qual_few : (q : Qual) → count (ftv_qual q) ≤ leaves_preds q.preds + leaves q.ty
unfolding ftv_qual count
qual_few q = let h = preds_few q.preds (ftv_type q.ty []) in let k = type_few q.ty [] in omega arith

-- Those that pass a test are no more.
keep_few : (f : TyVar → Bool) (vs : List TyVar) → count (keep f vs) ≤ count vs
unfolding keep count
keep_few f [] = omega arith
keep_few f (v ∷ vs) = go (f v) (keep_few f vs)
  where
    go : (b : Bool) → count (keep f vs) ≤ count vs → count (if b (v ∷ keep f vs) (keep f vs)) ≤ suc (count vs)
    go true h = omega arith
    go false h = omega arith

-- Those that a scheme of it binds: so much room is enough for `sorted_vars`.
pub bound_few : (q : Qual) (env : Env) → count (bound q env) ≤ leaves_preds q.preds + leaves q.ty
unfolding without
bound_few q env = let h = keep_few (λ v. not (elem tyvars v (env_ftv env))) (ftv_qual q) in let k = qual_few q in omega arith

-- All pass the test whether they are missing in an empty list.
keep_all : (vs : List TyVar) → keep (λ v. not (elem tyvars v [])) vs ≡ vs
unfolding keep elem
keep_all [] = refl
keep_all (v ∷ vs) = ap (λ (us : List TyVar). v ∷ us) (keep_all vs)

-- Where there is no environment all are bound.
pub bound_all : (q : Qual) → bound q [] ≡ ftv_qual q
unfolding without env_ftv
bound_all q = keep_all (ftv_qual q)
