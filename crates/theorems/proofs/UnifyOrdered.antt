-- What composing, merging, unifying and matching give is in byte order.
use mathlib.Core.Bool.{Bool, true, false, ◌&&◌}
use Prim.Native.Nat.{ℕ, suc, zero}
use Rattle.meaning.specs.Base.{is_yes, if, eqb}
use Rattle.meaning.specs.Ast.{Name, same_name, TyVar, same_tyvar, Ty, Tys, var, con, arrow, nil, ◌◂◌, count_tys}
use Rattle.meaning.specs.Errors.{occurs_check, con_mismatch, arity_mismatch, unification_failure}
use Rattle.meaning.specs.Budget.{Steps, pure, refuse}
use Rattle.meaning.specs.Map.{tyvars}
use Rattle.meaning.specs.Subst.{Subst, empty, singleton, apply_type, apply_values, compose, agree, merge, occurs}
use Rattle.meaning.specs.Unify.{bind_other, bind, unify_zip, unify_con, unify_arrow, unify_node, unify_in, match_zip, match_node, match_in}
use Rattle.theorems.proofs.Says.{Says, Any, and_then, step_says, if_says, anything}
use Rattle.theorems.proofs.Ordered.{Sorted, sorted_or_insert}
use Rattle.theorems.proofs.ByteOrder.{tyvars_ordered}

-- The pairs of `other` come over `self`, so `other` may have any order.
pub compose_ordered : (self other : Subst) → Sorted tyvars self → (n : ℕ) → Says (Sorted tyvars) Any (compose self other n)
unfolding compose
compose_ordered self other w n =
    and_then _ Any (Sorted tyvars) (apply_values self other n) _ (anything (apply_values self other n)) λ out p m.
    sorted_or_insert tyvars tyvars_ordered out self w

-- The pairs of `self` come over `other`, so `self` may have any order.
pub merge_ordered : (self other : Subst) → Sorted tyvars other → (n : ℕ) → Says (Sorted tyvars) Any (merge self other n)
unfolding merge
merge_ordered self other w n =
    and_then _ Any (Sorted tyvars) (agree self other n) _ (anything (agree self other n)) λ u p m.
    sorted_or_insert tyvars tyvars_ordered self other w

bind_other_ordered : (v : TyVar) (t : Ty) (n : ℕ) → Says (Sorted tyvars) Any (bind_other v t n)
unfolding bind_other
bind_other_ordered v t n = if_says (Sorted tyvars) Any (occurs v t) (refuse (occurs_check v t)) (pure (singleton v t)) n (λ e. tt) (λ e. (tt, tt))

bind_ordered : (v : TyVar) (t : Ty) (n : ℕ) → Says (Sorted tyvars) Any (bind v t n)
unfolding bind
bind_ordered v (var u) n = if_says (Sorted tyvars) Any (is_yes (same_tyvar v u)) (pure empty) (bind_other v (var u)) n (λ e. tt) (λ e. bind_other_ordered v (var u) n)
bind_ordered v (con c ts) n = bind_other_ordered v (con c ts) n
bind_ordered v (arrow a b) n = bind_other_ordered v (arrow a b) n

module _ (u : Ty → Ty → Steps Subst) (h : (a b : Ty) (n : ℕ) → Says (Sorted tyvars) Any (u a b n)) where
  zip_ordered : (xs ys : Tys) (s : Subst) → Sorted tyvars s → (n : ℕ) → Says (Sorted tyvars) Any (unify_zip u xs ys s n)
  unfolding unify_zip
  zip_ordered nil nil s w n = w
  zip_ordered nil (y ◂ ys) s w n = w
  zip_ordered (x ◂ xs) nil s w n = w
  zip_ordered (x ◂ xs) (y ◂ ys) s w n =
      and_then _ Any (Sorted tyvars) (apply_type s x n) _ (anything (apply_type s x n)) λ a p n₁.
      and_then _ Any (Sorted tyvars) (apply_type s y n₁) _ (anything (apply_type s y n₁)) λ b q n₂.
      and_then (Sorted tyvars) Any (Sorted tyvars) (u a b n₂) _ (h a b n₂) λ s₁ w₁ n₃.
      and_then (Sorted tyvars) Any (Sorted tyvars) (compose s₁ s n₃) _ (compose_ordered s₁ s w₁ n₃) λ s₂ w₂ n₄.
      zip_ordered xs ys s₂ w₂ n₄

  con_ordered : (c : Name) (xs : Tys) (e : Name) (ys : Tys) (n : ℕ) → Says (Sorted tyvars) Any (unify_con u c xs e ys n)
  unfolding unify_con
  con_ordered c xs e ys n = go (is_yes (same_name c e)) (eqb (count_tys xs) (count_tys ys))
    where
      go : (i j : Bool) → Says (Sorted tyvars) Any (if i (if j (unify_zip u xs ys empty) (refuse (arity_mismatch c (count_tys xs) (count_tys ys)))) (refuse (con_mismatch c e)) n)
      go true true = zip_ordered xs ys empty tt n
      go true false = tt
      go false j = tt

  arrow_ordered : (p₁ r₁ p₂ r₂ : Ty) (n : ℕ) → Says (Sorted tyvars) Any (unify_arrow u p₁ r₁ p₂ r₂ n)
  unfolding unify_arrow
  arrow_ordered p₁ r₁ p₂ r₂ n =
      and_then (Sorted tyvars) Any (Sorted tyvars) (u p₁ p₂ n) _ (h p₁ p₂ n) λ s₁ w₁ n₁.
      and_then _ Any (Sorted tyvars) (apply_type s₁ r₁ n₁) _ (anything (apply_type s₁ r₁ n₁)) λ a p n₂.
      and_then _ Any (Sorted tyvars) (apply_type s₁ r₂ n₂) _ (anything (apply_type s₁ r₂ n₂)) λ b q n₃.
      and_then (Sorted tyvars) Any (Sorted tyvars) (u a b n₃) _ (h a b n₃) λ s₂ w₂ n₄.
      compose_ordered s₂ s₁ w₂ n₄

  unify_node_ordered : (a b : Ty) (n : ℕ) → Says (Sorted tyvars) Any (unify_node u a b n)
  unfolding unify_node
  unify_node_ordered (var v) b n = bind_ordered v b n
  unify_node_ordered (con c xs) (var v) n = bind_ordered v (con c xs) n
  unify_node_ordered (con c xs) (con e ys) n = con_ordered c xs e ys n
  unify_node_ordered (con c xs) (arrow a b) n = tt
  unify_node_ordered (arrow a b) (var v) n = bind_ordered v (arrow a b) n
  unify_node_ordered (arrow a b) (con c xs) n = tt
  unify_node_ordered (arrow p₁ r₁) (arrow p₂ r₂) n = arrow_ordered p₁ r₁ p₂ r₂ n

  match_zip_ordered : (xs ys : Tys) (s : Subst) → Sorted tyvars s → (n : ℕ) → Says (Sorted tyvars) Any (match_zip u xs ys s n)
  unfolding match_zip
  match_zip_ordered nil nil s w n = w
  match_zip_ordered nil (y ◂ ys) s w n = w
  match_zip_ordered (x ◂ xs) nil s w n = w
  match_zip_ordered (x ◂ xs) (y ◂ ys) s w n =
      and_then (Sorted tyvars) Any (Sorted tyvars) (u x y n) _ (h x y n) λ s₁ w₁ n₁.
      and_then (Sorted tyvars) Any (Sorted tyvars) (merge s s₁ n₁) _ (merge_ordered s s₁ w₁ n₁) λ s₂ w₂ n₂.
      match_zip_ordered xs ys s₂ w₂ n₂

  match_node_ordered : (p t : Ty) (n : ℕ) → Says (Sorted tyvars) Any (match_node u p t n)
  unfolding match_node
  match_node_ordered (var v) b n = (tt, tt)
  match_node_ordered (con c xs) (var v) n = tt
  match_node_ordered (con c xs) (con e ys) n =
      if_says (Sorted tyvars) Any (is_yes (same_name c e) && eqb (count_tys xs) (count_tys ys)) (match_zip u xs ys empty) (refuse (unification_failure (con c xs) (con e ys))) n
      (λ i. match_zip_ordered xs ys empty tt n) (λ i. tt)
  match_node_ordered (con c xs) (arrow a b) n = tt
  match_node_ordered (arrow a b) (var v) n = tt
  match_node_ordered (arrow a b) (con c xs) n = tt
  match_node_ordered (arrow p₁ r₁) (arrow p₂ r₂) n =
      and_then (Sorted tyvars) Any (Sorted tyvars) (u p₁ p₂ n) _ (h p₁ p₂ n) λ s₁ w₁ n₁.
      and_then (Sorted tyvars) Any (Sorted tyvars) (u r₁ r₂ n₁) _ (h r₁ r₂ n₁) λ s₂ w₂ n₂.
      merge_ordered s₁ s₂ w₂ n₂

-- So a unifier is known by what is found in it (`same_finds`).
pub unify_ordered : (d : ℕ) (a b : Ty) (n : ℕ) → Says (Sorted tyvars) Any (unify_in d a b n)
unfolding unify_in
unify_ordered zero a b n = tt
unify_ordered (suc d) a b n =
    step_says (Sorted tyvars) Any (unify_node (λ x y. unify_in d x y) a b) tt
    (λ m. unify_node_ordered (λ x y. unify_in d x y) (λ x y k. unify_ordered d x y k) a b m) n

-- So a match is known by what is found in it (`same_finds`).
pub match_ordered : (d : ℕ) (p t : Ty) (n : ℕ) → Says (Sorted tyvars) Any (match_in d p t n)
unfolding match_in
match_ordered zero p t n = tt
match_ordered (suc d) p t n =
    step_says (Sorted tyvars) Any (match_node (λ x y. match_in d x y) p t) tt
    (λ m. match_node_ordered (λ x y. match_in d x y) (λ x y k. match_ordered d x y k) p t m) n
