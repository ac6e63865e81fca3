-- With which refusals matching may end: 6, 7 and 12.
use Prim.Native.Nat.{ℕ, suc, zero}
use mathlib.Core.Bool.{◌&&◌}
use mathlib.Core.List.{[], ◌∷◌}
use mathlib.Core.Option.{Option, none, some}
use Rattle.meaning.specs.Base.{is_yes, eqb}
use Rattle.meaning.specs.Ast.{same_name, Ty, Tys, var, con, arrow, nil, ◌◂◌, same_ty, count_tys}
use Rattle.meaning.specs.Errors.{Refusal, out_of_steps, too_deep, unification_failure}
use Rattle.meaning.specs.Budget.{Steps}
use Rattle.meaning.specs.Map.{tyvars, get}
use Rattle.meaning.specs.Subst.{Subst, empty, agree_at, agree, merge}
use Rattle.meaning.specs.Unify.{match_zip, match_node, match_in}
use Rattle.theorems.proofs.Says.{and_then, step_says, if_says}
use Rattle.theorems.proofs.UnifyRefuses.{Only}

module _ (R : Refusal → Type 0) (six : R out_of_steps) (seven : R too_deep) (twelve : (a b : Ty) → R (unification_failure a b)) where
  agree_at_refuses : (t : Ty) (o : Option Ty) (n : ℕ) → Only R (agree_at t o n)
  unfolding agree_at
  agree_at_refuses t none n = tt
  agree_at_refuses t (some u) n = if_says _ _ (is_yes (same_ty t u)) _ _ n (λ e. tt) (λ e. twelve t u)

  agree_refuses : (self other : Subst) (n : ℕ) → Only R (agree self other n)
  unfolding agree
  agree_refuses [] other n = tt
  agree_refuses (p ∷ self) other n = and_then _ _ _ (agree_at p.1 (get tyvars p.0 other) n) _ (agree_at_refuses p.1 (get tyvars p.0 other) n) λ _ _ m. agree_refuses self other m

  -- A merge refuses only where a variable has two types.
  pub merge_refuses : (self other : Subst) (n : ℕ) → Only R (merge self other n)
  unfolding merge
  merge_refuses self other n = and_then _ _ _ (agree self other n) _ (agree_refuses self other n) λ _ _ m. tt

  module _ (m : Ty → Ty → Steps Subst) (h : (p t : Ty) (n : ℕ) → Only R (m p t n)) where
    match_zip_refuses : (xs ys : Tys) (s : Subst) (n : ℕ) → Only R (match_zip m xs ys s n)
    unfolding match_zip
    match_zip_refuses nil nil s n = tt
    match_zip_refuses nil (y ◂ ys) s n = tt
    match_zip_refuses (x ◂ xs) nil s n = tt
    match_zip_refuses (x ◂ xs) (y ◂ ys) s n =
        and_then _ _ _ (m x y n) _ (h x y n) λ s₁ _ n₁.
        and_then _ _ _ (merge s s₁ n₁) _ (merge_refuses s s₁ n₁) λ s₂ _ n₂. match_zip_refuses xs ys s₂ n₂

    match_node_refuses : (p t : Ty) (n : ℕ) → Only R (match_node m p t n)
    unfolding match_node
    match_node_refuses (var v) t n = tt
    match_node_refuses (con c xs) (var v) n = twelve (con c xs) (var v)
    match_node_refuses (con c xs) (con e ys) n = if_says _ _ (is_yes (same_name c e) && eqb (count_tys xs) (count_tys ys)) _ _ n (λ i. match_zip_refuses xs ys empty n) (λ i. twelve (con c xs) (con e ys))
    match_node_refuses (con c xs) (arrow a b) n = twelve (con c xs) (arrow a b)
    match_node_refuses (arrow a b) (var v) n = twelve (arrow a b) (var v)
    match_node_refuses (arrow a b) (con c xs) n = twelve (arrow a b) (con c xs)
    match_node_refuses (arrow p₁ r₁) (arrow p₂ r₂) n =
        and_then _ _ _ (m p₁ p₂ n) _ (h p₁ p₂ n) λ s₁ _ n₁.
        and_then _ _ _ (m r₁ r₂ n₁) _ (h r₁ r₂ n₁) λ s₂ _ n₂. merge_refuses s₁ s₂ n₂

  -- Whatever holds of 6, 7 and 12 holds of every refusal of matching.
  pub match_refuses : (d : ℕ) (p t : Ty) (n : ℕ) → Only R (match_in d p t n)
  unfolding match_in
  match_refuses zero p t n = seven
  match_refuses (suc d) p t n =
      step_says _ _ (match_node (λ x y. match_in d x y) p t) six (λ k. match_node_refuses (λ x y. match_in d x y) (λ x y i. match_refuses d x y i) p t k) n
