-- 002, subst.rs: unification and matching.
use Rattle.std.specs.Prelude.{◌&&◌, ℕ, suc, zero}
use Rattle.meaning.specs.Base.{is_yes, if, eqb}
use Rattle.meaning.specs.Ast.{Name, same_name, TyVar, same_tyvar, Ty, Tys, var, con, arrow, nil, ◌◂◌, count_tys, Pred}
use Rattle.meaning.specs.Errors.{too_deep, unification_failure, occurs_check, con_mismatch, arity_mismatch}
use Rattle.meaning.specs.Budget.{Steps, ◌>>=◌, pure, refuse, step, depth}
use Rattle.meaning.specs.Subst.{Subst, empty, singleton, apply_type, compose, merge, occurs}

-- `bind` of a variable to a type that is another one.
unfoldable pub bind_other : TyVar → Ty → Steps Subst
bind_other v t = if (occurs v t) (refuse (occurs_check v t)) (pure (singleton v t))

-- `bind`: a variable against itself needs nothing.
unfoldable pub bind : TyVar → Ty → Steps Subst
bind v (var u) = if (is_yes (same_tyvar v u)) (pure empty) (bind_other v (var u))
bind v (con c ts) = bind_other v (con c ts)
bind v (arrow a b) = bind_other v (arrow a b)

-- `unify_zip`: left to right, each pair after applying what is found so far, the first pair too.
unfoldable pub unify_zip : (Ty → Ty → Steps Subst) → Tys → Tys → Subst → Steps Subst
unify_zip u nil nil s = pure s
unify_zip u nil (y ◂ ys) s = pure s
unify_zip u (x ◂ xs) nil s = pure s
unify_zip u (x ◂ xs) (y ◂ ys) s = do
  a ← apply_type s x
  b ← apply_type s y
  s₁ ← u a b
  s₂ ← compose s₁ s
  unify_zip u xs ys s₂

-- Two constructors: the names, then the numbers of arguments, then the arguments.
unfoldable pub unify_con : (Ty → Ty → Steps Subst) → Name → Tys → Name → Tys → Steps Subst
unify_con u c xs e ys =
    if (is_yes (same_name c e))
    (if (eqb (count_tys xs) (count_tys ys)) (unify_zip u xs ys empty) (refuse (arity_mismatch c (count_tys xs) (count_tys ys))))
    (refuse (con_mismatch c e))

-- Two arrows: the left pair unapplied, the right pair after applying what the left one gave.
unfoldable pub unify_arrow : (Ty → Ty → Steps Subst) → Ty → Ty → Ty → Ty → Steps Subst
unify_arrow u p₁ r₁ p₂ r₂ = do
  s₁ ← u p₁ p₂
  a ← apply_type s₁ r₁
  b ← apply_type s₁ r₂
  s₂ ← u a b
  compose s₂ s₁

-- `unify` at a pair; `u` goes one deeper. A variable on the left binds first.
unfoldable pub unify_node : (Ty → Ty → Steps Subst) → Ty → Ty → Steps Subst
unify_node u (var v) b = bind v b
unify_node u (con c xs) (var v) = bind v (con c xs)
unify_node u (con c xs) (con e ys) = unify_con u c xs e ys
unify_node u (con c xs) (arrow a b) = refuse (unification_failure (con c xs) (arrow a b))
unify_node u (arrow a b) (var v) = bind v (arrow a b)
unify_node u (arrow a b) (con c xs) = refuse (unification_failure (arrow a b) (con c xs))
unify_node u (arrow p₁ r₁) (arrow p₂ r₂) = unify_arrow u p₁ r₁ p₂ r₂

-- `unify` with so much depth left: one step a pair.
unfoldable pub unify_in : ℕ → Ty → Ty → Steps Subst
unify_in zero a b = refuse too_deep
unify_in (suc k) a b = step (unify_node (λ x y. unify_in k x y) a b)

-- `unify`.
abbrev pub unify : Ty → Ty → Steps Subst
unify a b = unify_in depth a b

-- The arguments of a pattern, left to right, merged one after the other.
unfoldable pub match_zip : (Ty → Ty → Steps Subst) → Tys → Tys → Subst → Steps Subst
match_zip m nil nil s = pure s
match_zip m nil (y ◂ ys) s = pure s
match_zip m (x ◂ xs) nil s = pure s
match_zip m (x ◂ xs) (y ◂ ys) s = do
  s₁ ← m x y
  s₂ ← merge s s₁
  match_zip m xs ys s₂

-- `match_ty` at a pair; `m` goes one deeper. A variable takes any type, itself too.
unfoldable pub match_node : (Ty → Ty → Steps Subst) → Ty → Ty → Steps Subst
match_node m (var v) b = pure (singleton v b)
match_node m (con c xs) (var v) = refuse (unification_failure (con c xs) (var v))
match_node m (con c xs) (con e ys) =
    if (is_yes (same_name c e) && eqb (count_tys xs) (count_tys ys)) (match_zip m xs ys empty) (refuse (unification_failure (con c xs) (con e ys)))
match_node m (con c xs) (arrow a b) = refuse (unification_failure (con c xs) (arrow a b))
match_node m (arrow a b) (var v) = refuse (unification_failure (arrow a b) (var v))
match_node m (arrow a b) (con c xs) = refuse (unification_failure (arrow a b) (con c xs))
match_node m (arrow p₁ r₁) (arrow p₂ r₂) = do
  s₁ ← m p₁ p₂
  s₂ ← m r₁ r₂
  merge s₁ s₂

-- `match_ty` with so much depth left: one step a pair.
unfoldable pub match_in : ℕ → Ty → Ty → Steps Subst
match_in zero p t = refuse too_deep
match_in (suc k) p t = step (match_node (λ x y. match_in k x y) p t)

-- `match_ty`.
abbrev pub match_ty : Ty → Ty → Steps Subst
match_ty p t = match_in depth p t

-- `match_pred`.
unfoldable pub match_pred : Pred → Pred → Steps Subst
match_pred p q = if (is_yes (same_name p.class q.class)) (match_ty p.ty q.ty) (refuse (unification_failure (con p.class nil) (con q.class nil)))
