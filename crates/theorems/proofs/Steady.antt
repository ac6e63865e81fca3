-- More steps change no answer, nor any refusal but the one for want of steps: they are left over.
use mathlib.Core.Path.{◌≡◌, refl, subst}
use mathlib.Core.Bool.{Bool, true, false, ◌&&◌}
use mathlib.Core.List.{[], ◌∷◌}
use mathlib.Core.Option.{Option, none, some}
use mathlib.Core.Logic.{◌≢◌}
use Prim.Native.Nat.{ℕ, suc, zero, ◌+◌}
use native.Mathlib.Nat.{suc-add}
use Rattle.meaning.specs.Base.{is_yes, if, eqb}
use Rattle.meaning.specs.Ast.{Name, same_name, TyVar, same_tyvar, Ty, Tys, var, con, arrow, nil, ◌◂◌, same_ty, count_tys}
use Rattle.meaning.specs.Errors.{Refusal, out_of_steps}
use Rattle.meaning.specs.Budget.{Out, done, refused, Steps, after, ◌>>=◌, pure, refuse, step, depth}
use Rattle.meaning.specs.Map.{tyvars, get}
use Rattle.meaning.specs.Subst.{Subst, empty, look, each, apply_node, apply_in, apply_type, apply_values, compose, agree_at, agree, merge, occurs}
use Rattle.meaning.specs.Unify.{bind_other, bind, unify_zip, unify_con, unify_arrow, unify_node, unify_in, match_zip, match_node, match_in}
use Rattle.theorems.proofs.Says.{Definite}

-- A refusal that more steps do not lift.
abbrev pub NotSteps : Refusal → Type 0
NotSteps r = r ≢ out_of_steps

-- The second outcome is the first with so many more steps left.
abbrev pub More : {A : Type 0} → ℕ → Out A → Out A → Type 0
More k (done a n) o' = o' ≡ done a (n + k)
More k (refused r n) o' = NotSteps r → o' ≡ refused r (n + k)

-- More steps are left over.
abbrev pub Steady : {A : Type 0} → Steps A → Type 0
Steady m = (n k : ℕ) → More k (m n) (m (n + k))

-- The refusals of the Rust are among those that stay.
pub definite_stays : (r : Refusal) → Definite r → NotSteps r
definite_stays r d = λ e. subst Definite e d

-- ## the ways to put a computation together
-- An answer spends nothing.
pub pure_steady : {A : Type 0} (a : A) → Steady (pure a)
pure_steady a n k = refl

-- A refusal spends nothing, and none but `step` is for want of steps.
pub refuse_steady : {A : Type 0} (r : Refusal) → Steady (refuse {A = A} r)
refuse_steady r n k = λ h. refl

after_more : {A B : Type 0} (k : ℕ) (o o' : Out A) (f : A → Steps B) → More k o o' → ((a : A) → Steady (f a)) → More k (after o f) (after o' f)
unfolding after
after_more k (done a n) o' f h s = rw h (s a n k)
after_more k (refused r n) o' f h s = λ d. rw (h d)

-- One computation after another.
pub then_steady : {A B : Type 0} (m : Steps A) (f : A → Steps B) → Steady m → ((a : A) → Steady (f a)) → Steady (◌>>=◌ m f)
then_steady m f h s n k = after_more k (m n) (m (n + k)) f (h n k) s

-- A test that looks at no step.
pub if_steady : {A : Type 0} (c : Bool) (m m' : Steps A) → Steady m → Steady m' → Steady (if c m m')
if_steady true m m' h h' = h
if_steady false m m' h h' = h'

-- A step that may be missing.
pub step_steady : {A : Type 0} (m : Steps A) → Steady m → Steady (step m)
unfolding step
step_steady m h zero k = λ d. absurd (d refl)
step_steady m h (suc n) k = rw suc-add (h n k)

-- ## substitutions
each_steady : (f : Ty → Steps Ty) → ((t : Ty) → Steady (f t)) → (ts : Tys) → Steady (each f ts)
unfolding each
each_steady f h nil = pure_steady nil
each_steady f h (t ◂ ts) = then_steady (f t) _ (h t) λ u. then_steady (each f ts) _ (each_steady f h ts) λ us. pure_steady (u ◂ us)

apply_node_steady : (f : Ty → Steps Ty) (s : Subst) → ((t : Ty) → Steady (f t)) → (t : Ty) → Steady (apply_node f s t)
unfolding apply_node
apply_node_steady f s h (var x) = pure_steady (look s x)
apply_node_steady f s h (con c ts) = then_steady (each f ts) _ (each_steady f h ts) λ us. pure_steady (con c us)
apply_node_steady f s h (arrow a b) = then_steady (f a) _ (h a) λ u. then_steady (f b) _ (h b) λ v. pure_steady (arrow u v)

-- Applying a substitution to a type.
pub apply_steady : (d : ℕ) (s : Subst) (t : Ty) → Steady (apply_in d s t)
unfolding apply_in
apply_steady zero s t = refuse_steady _
apply_steady (suc d) s t = step_steady _ (apply_node_steady (λ u. apply_in d s u) s (λ u. apply_steady d s u) t)

values_steady : (self other : Subst) → Steady (apply_values self other)
unfolding apply_values
values_steady self [] = pure_steady []
values_steady self (p ∷ other) =
    then_steady (apply_type self p.1) _ (apply_steady depth self p.1) λ u.
    then_steady (apply_values self other) _ (values_steady self other) λ rest. pure_steady _

-- Composing two substitutions.
pub compose_steady : (self other : Subst) → Steady (compose self other)
unfolding compose
compose_steady self other = then_steady (apply_values self other) _ (values_steady self other) λ out. pure_steady _

agree_at_steady : (v : Ty) (w : Option Ty) → Steady (agree_at v w)
unfolding agree_at
agree_at_steady v none = pure_steady tt
agree_at_steady v (some w) = if_steady (is_yes (same_ty v w)) _ _ (pure_steady tt) (refuse_steady _)

agree_steady : (self other : Subst) → Steady (agree self other)
unfolding agree
agree_steady [] other = pure_steady tt
agree_steady (p ∷ self) other = then_steady (agree_at p.1 (get tyvars p.0 other)) _ (agree_at_steady _ _) λ u. agree_steady self other

-- Merging two substitutions.
pub merge_steady : (self other : Subst) → Steady (merge self other)
unfolding merge
merge_steady self other = then_steady (agree self other) _ (agree_steady self other) λ u. pure_steady _

-- ## unification and matching
bind_other_steady : (v : TyVar) (t : Ty) → Steady (bind_other v t)
unfolding bind_other
bind_other_steady v t = if_steady (occurs v t) _ _ (refuse_steady _) (pure_steady _)

bind_steady : (v : TyVar) (t : Ty) → Steady (bind v t)
unfolding bind
bind_steady v (var u) = if_steady (is_yes (same_tyvar v u)) _ _ (pure_steady empty) (bind_other_steady v (var u))
bind_steady v (con c ts) = bind_other_steady v (con c ts)
bind_steady v (arrow a b) = bind_other_steady v (arrow a b)

module _ (u : Ty → Ty → Steps Subst) (h : (a b : Ty) → Steady (u a b)) where
  zip_steady : (xs ys : Tys) (s : Subst) → Steady (unify_zip u xs ys s)
  unfolding unify_zip
  zip_steady nil nil s = pure_steady s
  zip_steady nil (y ◂ ys) s = pure_steady s
  zip_steady (x ◂ xs) nil s = pure_steady s
  zip_steady (x ◂ xs) (y ◂ ys) s =
      then_steady (apply_type s x) _ (apply_steady depth s x) λ a.
      then_steady (apply_type s y) _ (apply_steady depth s y) λ b.
      then_steady (u a b) _ (h a b) λ s₁.
      then_steady (compose s₁ s) _ (compose_steady s₁ s) λ s₂. zip_steady xs ys s₂

  con_steady : (c : Name) (xs : Tys) (e : Name) (ys : Tys) → Steady (unify_con u c xs e ys)
  unfolding unify_con
  con_steady c xs e ys =
      if_steady (is_yes (same_name c e)) _ _
      (if_steady (eqb (count_tys xs) (count_tys ys)) _ _ (zip_steady xs ys empty) (refuse_steady _)) (refuse_steady _)

  arrow_steady : (p₁ r₁ p₂ r₂ : Ty) → Steady (unify_arrow u p₁ r₁ p₂ r₂)
  unfolding unify_arrow
  arrow_steady p₁ r₁ p₂ r₂ =
      then_steady (u p₁ p₂) _ (h p₁ p₂) λ s₁.
      then_steady (apply_type s₁ r₁) _ (apply_steady depth s₁ r₁) λ a.
      then_steady (apply_type s₁ r₂) _ (apply_steady depth s₁ r₂) λ b.
      then_steady (u a b) _ (h a b) λ s₂. compose_steady s₂ s₁

  unify_node_steady : (a b : Ty) → Steady (unify_node u a b)
  unfolding unify_node
  unify_node_steady (var v) b = bind_steady v b
  unify_node_steady (con c xs) (var v) = bind_steady v (con c xs)
  unify_node_steady (con c xs) (con e ys) = con_steady c xs e ys
  unify_node_steady (con c xs) (arrow a b) = refuse_steady _
  unify_node_steady (arrow a b) (var v) = bind_steady v (arrow a b)
  unify_node_steady (arrow a b) (con c xs) = refuse_steady _
  unify_node_steady (arrow p₁ r₁) (arrow p₂ r₂) = arrow_steady p₁ r₁ p₂ r₂

  match_zip_steady : (xs ys : Tys) (s : Subst) → Steady (match_zip u xs ys s)
  unfolding match_zip
  match_zip_steady nil nil s = pure_steady s
  match_zip_steady nil (y ◂ ys) s = pure_steady s
  match_zip_steady (x ◂ xs) nil s = pure_steady s
  match_zip_steady (x ◂ xs) (y ◂ ys) s =
      then_steady (u x y) _ (h x y) λ s₁.
      then_steady (merge s s₁) _ (merge_steady s s₁) λ s₂. match_zip_steady xs ys s₂

  match_node_steady : (p t : Ty) → Steady (match_node u p t)
  unfolding match_node
  match_node_steady (var v) b = pure_steady _
  match_node_steady (con c xs) (var v) = refuse_steady _
  match_node_steady (con c xs) (con e ys) = if_steady (is_yes (same_name c e) && eqb (count_tys xs) (count_tys ys)) _ _ (match_zip_steady xs ys empty) (refuse_steady _)
  match_node_steady (con c xs) (arrow a b) = refuse_steady _
  match_node_steady (arrow a b) (var v) = refuse_steady _
  match_node_steady (arrow a b) (con c xs) = refuse_steady _
  match_node_steady (arrow p₁ r₁) (arrow p₂ r₂) = then_steady (u p₁ p₂) _ (h p₁ p₂) λ s₁. then_steady (u r₁ r₂) _ (h r₁ r₂) λ s₂. merge_steady s₁ s₂

-- Unification's answer is no matter of the budget.
pub unify_steady : (d : ℕ) (a b : Ty) → Steady (unify_in d a b)
unfolding unify_in
unify_steady zero a b = refuse_steady _
unify_steady (suc d) a b = step_steady _ (unify_node_steady (λ x y. unify_in d x y) (λ x y. unify_steady d x y) a b)

-- Matching's answer is no matter of the budget.
pub match_steady : (d : ℕ) (p t : Ty) → Steady (match_in d p t)
unfolding match_in
match_steady zero p t = refuse_steady _
match_steady (suc d) p t = step_steady _ (match_node_steady (λ x y. match_in d x y) (λ x y. match_steady d x y) p t)
