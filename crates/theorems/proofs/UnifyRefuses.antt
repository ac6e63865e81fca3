-- With which refusals unification may end. Whatever holds of 6 and 7 holds of every refusal of an application, so the
-- laws of application serve every caller's own list.
use mathlib.Core.List.{List, [], ◌∷◌}
use Prim.Native.Nat.{ℕ, suc, zero}
use Rattle.meaning.specs.Base.{is_yes, eqb}
use Rattle.meaning.specs.Ast.{Name, same_name, TyVar, same_tyvar, Ty, Tys, var, con, arrow, nil, ◌◂◌, count_tys, Pred}
use Rattle.meaning.specs.Errors.{Refusal, format, limit, reserved, redeclared, room, out_of_steps, too_deep, output, unbound_variable, unification_failure, occurs_check, con_mismatch, arity_mismatch, no_instance, ambiguous, duplicate_instance, unknown_class, unknown_method, missing_superclass, missing_method}
use Rattle.meaning.specs.Budget.{Out, Steps, after, depth}
use Rattle.meaning.specs.Subst.{Subst, empty, each, apply_node, apply_in, apply_type, apply_pred, apply_preds, apply_values, compose, occurs}
use Rattle.meaning.specs.Unify.{bind_other, bind, unify_zip, unify_con, unify_arrow, unify_node, unify_in}
use Rattle.theorems.proofs.Says.{Says, and_then, step_says, if_says}

-- Only refusals of which R holds.
abbrev pub Only : {A : Type 0} → (Refusal → Type 0) → Out A → Type 0
Only R o = Says (λ a. Unit {0}) R o

-- One computation after another refuses as they do.
only_then : {A B : Type 0} (R : Refusal → Type 0) (o : Out A) (f : A → Steps B) → Only R o → ((a : A) (n : ℕ) → Only R (f a n)) → Only R (after o f)
only_then R o f h k = and_then _ R _ o f h (λ a x n. k a n)

module _ (R : Refusal → Type 0) (six : R out_of_steps) (seven : R too_deep) where
  each_refuses : (f : Ty → Steps Ty) → ((t : Ty) (n : ℕ) → Only R (f t n)) → (ts : Tys) (n : ℕ) → Only R (each f ts n)
  unfolding each
  each_refuses f h nil n = tt
  each_refuses f h (t ◂ ts) n =
      only_then _ (f t n) _ (h t n) λ u m.
      only_then _ (each f ts m) _ (each_refuses f h ts m) λ us k. tt

  apply_node_refuses : (f : Ty → Steps Ty) → ((t : Ty) (n : ℕ) → Only R (f t n)) → (s : Subst) (t : Ty) (n : ℕ) → Only R (apply_node f s t n)
  unfolding apply_node
  apply_node_refuses f h s (var x) n = tt
  apply_node_refuses f h s (con c ts) n = only_then _ (each f ts n) _ (each_refuses f h ts n) λ us m. tt
  apply_node_refuses f h s (arrow a b) n =
      only_then _ (f a n) _ (h a n) λ u m.
      only_then _ (f b m) _ (h b m) λ v k. tt

  -- Application refuses only with 6 and 7.
  pub apply_refuses : (d : ℕ) (s : Subst) (t : Ty) (n : ℕ) → Only R (apply_in d s t n)
  unfolding apply_in
  apply_refuses zero s t n = seven
  apply_refuses (suc d) s t n =
      step_says _ _ (apply_node (λ u. apply_in d s u) s t) six (λ m. apply_node_refuses (λ u. apply_in d s u) (λ u k. apply_refuses d s u k) s t m) n

  -- The same of a predicate.
  pub pred_refuses : (s : Subst) (p : Pred) (n : ℕ) → Only R (apply_pred s p n)
  unfolding apply_pred
  pred_refuses s p n = only_then _ (apply_type s p.ty n) _ (apply_refuses depth s p.ty n) λ u m. tt

  -- And of a list of them.
  pub preds_refuse : (s : Subst) (ps : List Pred) (n : ℕ) → Only R (apply_preds s ps n)
  unfolding apply_preds
  preds_refuse s [] n = tt
  preds_refuse s (p ∷ ps) n =
      only_then _ (apply_pred s p n) _ (pred_refuses s p n) λ q m.
      only_then _ (apply_preds s ps m) _ (preds_refuse s ps m) λ qs k. tt

  values_refuse : (self other : Subst) (n : ℕ) → Only R (apply_values self other n)
  unfolding apply_values
  values_refuse self [] n = tt
  values_refuse self (p ∷ other) n =
      only_then _ (apply_type self p.1 n) _ (apply_refuses depth self p.1 n) λ u m.
      only_then _ (apply_values self other m) _ (values_refuse self other m) λ us k. tt

  -- And so does composition.
  pub compose_refuses : (self other : Subst) (n : ℕ) → Only R (compose self other n)
  unfolding compose
  compose_refuses self other n = only_then _ (apply_values self other n) _ (values_refuse self other n) λ u m. tt

-- The refusals of unification: 6, 7 and 12 to 15.
abbrev pub OfUnify : Refusal → Type 0
OfUnify (format k) = ⊥
OfUnify (limit k) = ⊥
OfUnify (reserved k) = ⊥
OfUnify redeclared = ⊥
OfUnify room = ⊥
OfUnify out_of_steps = Unit {0}
OfUnify too_deep = Unit {0}
OfUnify output = ⊥
OfUnify (unbound_variable x) = ⊥
OfUnify (unification_failure a b) = Unit {0}
OfUnify (occurs_check v t) = Unit {0}
OfUnify (con_mismatch c e) = Unit {0}
OfUnify (arity_mismatch c m n) = Unit {0}
OfUnify (no_instance p) = ⊥
OfUnify (ambiguous p) = ⊥
OfUnify (duplicate_instance p) = ⊥
OfUnify (unknown_class c) = ⊥
OfUnify (unknown_method m) = ⊥
OfUnify (missing_superclass c s) = ⊥
OfUnify (missing_method c a m) = ⊥

bind_other_refuses : (v : TyVar) (t : Ty) (n : ℕ) → Only OfUnify (bind_other v t n)
unfolding bind_other
bind_other_refuses v t n = if_says _ _ (occurs v t) _ _ n (λ e. tt) (λ e. tt)

bind_refuses : (v : TyVar) (t : Ty) (n : ℕ) → Only OfUnify (bind v t n)
unfolding bind
bind_refuses v (var x) n = if_says _ _ (is_yes (same_tyvar v x)) _ _ n (λ e. tt) (λ e. bind_other_refuses v (var x) n)
bind_refuses v (con c ts) n = bind_other_refuses v (con c ts) n
bind_refuses v (arrow a b) n = bind_other_refuses v (arrow a b) n

module _ (u : Ty → Ty → Steps Subst) (h : (a b : Ty) (n : ℕ) → Only OfUnify (u a b n)) where
  zip_refuses : (xs ys : Tys) (s : Subst) (n : ℕ) → Only OfUnify (unify_zip u xs ys s n)
  unfolding unify_zip
  zip_refuses nil nil s n = tt
  zip_refuses nil (y ◂ ys) s n = tt
  zip_refuses (x ◂ xs) nil s n = tt
  zip_refuses (x ◂ xs) (y ◂ ys) s n =
      only_then _ (apply_type s x n) _ (apply_refuses OfUnify tt tt depth s x n) λ a n₁.
      only_then _ (apply_type s y n₁) _ (apply_refuses OfUnify tt tt depth s y n₁) λ b n₂.
      only_then _ (u a b n₂) _ (h a b n₂) λ s₁ n₃.
      only_then _ (compose s₁ s n₃) _ (compose_refuses OfUnify tt tt s₁ s n₃) λ s₂ n₄. zip_refuses xs ys s₂ n₄

  con_refuses : (c : Name) (xs : Tys) (e : Name) (ys : Tys) (n : ℕ) → Only OfUnify (unify_con u c xs e ys n)
  unfolding unify_con
  con_refuses c xs e ys n = if_says _ _ (is_yes (same_name c e)) _ _ n
      (λ i. if_says _ _ (eqb (count_tys xs) (count_tys ys)) _ _ n (λ j. zip_refuses xs ys empty n) (λ j. tt))
      (λ i. tt)

  arrow_refuses : (p₁ r₁ p₂ r₂ : Ty) (n : ℕ) → Only OfUnify (unify_arrow u p₁ r₁ p₂ r₂ n)
  unfolding unify_arrow
  arrow_refuses p₁ r₁ p₂ r₂ n =
      only_then _ (u p₁ p₂ n) _ (h p₁ p₂ n) λ s₁ n₁.
      only_then _ (apply_type s₁ r₁ n₁) _ (apply_refuses OfUnify tt tt depth s₁ r₁ n₁) λ a n₂.
      only_then _ (apply_type s₁ r₂ n₂) _ (apply_refuses OfUnify tt tt depth s₁ r₂ n₂) λ b n₃.
      only_then _ (u a b n₃) _ (h a b n₃) λ s₂ n₄. compose_refuses OfUnify tt tt s₂ s₁ n₄

  node_refuses : (a b : Ty) (n : ℕ) → Only OfUnify (unify_node u a b n)
  unfolding unify_node
  node_refuses (var v) b n = bind_refuses v b n
  node_refuses (con c xs) (var v) n = bind_refuses v (con c xs) n
  node_refuses (con c xs) (con e ys) n = con_refuses c xs e ys n
  node_refuses (con c xs) (arrow a b) n = tt
  node_refuses (arrow a b) (var v) n = bind_refuses v (arrow a b) n
  node_refuses (arrow a b) (con c xs) n = tt
  node_refuses (arrow p₁ r₁) (arrow p₂ r₂) n = arrow_refuses p₁ r₁ p₂ r₂ n

-- Unification ends with no other refusal, so its callers need not think of the rest.
pub unify_refuses : (d : ℕ) (a b : Ty) (n : ℕ) → Says (λ s. Unit {0}) OfUnify (unify_in d a b n)
unfolding unify_in
unify_refuses zero a b n = tt
unify_refuses (suc d) a b n =
    step_says _ _ (unify_node (λ x y. unify_in d x y) a b) tt (λ m. node_refuses (λ x y. unify_in d x y) (λ x y k. unify_refuses d x y k) a b m) n
