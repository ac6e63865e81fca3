-- What substitutions mean: total maps from variables to types, without steps and without depth.
use Rattle.std.specs.Prelude.{List, map}
use Rattle.meaning.specs.Ast.{TyVar, Ty, Tys, var, con, arrow, nil, ◌◂◌, Pred, pred}
use Rattle.meaning.specs.Subst.{Subst, look}

-- A type for each variable.
abbrev pub Fill : Type 0
Fill = TyVar → Ty

-- A type with each variable replaced.
unfoldable mutual
  pub sub : Fill → Ty → Ty
  sub θ (var x) = θ x
  sub θ (con c ts) = con c (subs θ ts)
  sub θ (arrow a b) = arrow (sub θ a) (sub θ b)

  pub subs : Fill → Tys → Tys
  subs θ nil = nil
  subs θ (t ◂ ts) = sub θ t ◂ subs θ ts

-- What a substitution does to a type.
abbrev pub filled : Subst → Ty → Ty
filled s t = sub (look s) t

-- A predicate with each variable of its type replaced.
abbrev pub sub_pred : Fill → Pred → Pred
sub_pred θ p = pred p.class (sub θ p.ty)

-- A list of predicates, likewise.
abbrev pub sub_preds : Fill → List Pred → List Pred
sub_preds θ ps = map (sub_pred θ) ps
