-- Application and composition with a budget give what the plain ones give, or refuse at a limit.
use mathlib.Core.Path.{◌≡◌, refl, ap, ap₂, ◌∙◌}
use mathlib.Core.List.{List, [], ◌∷◌, map}
use Prim.Native.Nat.{ℕ, suc, zero}
use Rattle.meaning.specs.Ast.{TyVar, Ty, Tys, var, con, arrow, nil, ◌◂◌, Pred, pred}
use Rattle.meaning.specs.Budget.{Steps, depth}
use Rattle.meaning.specs.Map.{tyvars, or_insert}
use Rattle.meaning.specs.Subst.{Subst, look, each, apply_node, apply_in, apply_type, apply_pred, apply_preds, apply_values, compose}
use Rattle.meaning.specs.Plain.{Fill, sub, subs, filled, sub_pred, sub_preds}
use Rattle.theorems.proofs.Says.{Says, Limit, and_then, step_says, weaken}
use Rattle.theorems.proofs.Looks.{look_composed}

each_says : (θ : Fill) (f : Ty → Steps Ty) → ((t : Ty) (n : ℕ) → Says (λ u. u ≡ sub θ t) Limit (f t n))
    → (ts : Tys) (n : ℕ) → Says (λ us. us ≡ subs θ ts) Limit (each f ts n)
unfolding each sub
each_says θ f h nil n = refl
each_says θ f h (t ◂ ts) n =
    and_then _ _ _ (f t n) _ (h t n) λ u p m.
    and_then _ _ _ (each f ts m) _ (each_says θ f h ts m) λ us q k. ap₂ ◌◂◌ p q

node_says : (s : Subst) (f : Ty → Steps Ty) → ((t : Ty) (n : ℕ) → Says (λ u. u ≡ filled s t) Limit (f t n))
    → (t : Ty) (n : ℕ) → Says (λ u. u ≡ filled s t) Limit (apply_node f s t n)
unfolding apply_node sub
node_says s f h (var x) n = refl
node_says s f h (con c ts) n = and_then _ _ _ (each f ts n) _ (each_says (look s) f h ts n) λ us p m. ap (con c) p
node_says s f h (arrow a b) n =
    and_then _ _ _ (f a n) _ (h a n) λ u p m.
    and_then _ _ _ (f b m) _ (h b m) λ v q k. ap₂ arrow p q

-- The walk over a type changes it as the substitution says, or stops at a limit: no walk has a reason of its own to fail.
pub apply_says : (d : ℕ) (s : Subst) (t : Ty) (n : ℕ) → Says (λ u. u ≡ filled s t) Limit (apply_in d s t n)
unfolding apply_in
apply_says zero s t n = λ z. z
apply_says (suc d) s t n = step_says _ _ (apply_node (λ u. apply_in d s u) s t) (λ z. z) (λ m. node_says s (λ u. apply_in d s u) (λ u k. apply_says d s u k) t m) n

-- The same of a predicate, whose class stays.
pub pred_says : (s : Subst) (p : Pred) (n : ℕ) → Says (λ q. q ≡ sub_pred (look s) p) Limit (apply_pred s p n)
unfolding apply_pred
pred_says s p n =
    and_then _ _ _ (apply_type s p.ty n) _ (apply_says depth s p.ty n) λ u e m. ap (pred p.class) e

-- And of each predicate of a list.
pub preds_say : (s : Subst) (ps : List Pred) (n : ℕ) → Says (λ qs. qs ≡ sub_preds (look s) ps) Limit (apply_preds s ps n)
unfolding apply_preds
preds_say s [] n = refl
preds_say s (p ∷ ps) n =
    and_then _ _ _ (apply_pred s p n) _ (pred_says s p n) λ q e m.
    and_then _ _ _ (apply_preds s ps m) _ (preds_say s ps m) λ qs f k. ap₂ (λ (a : Pred) (b : List Pred). a ∷ b) e f

-- Each type of a substitution, its variable kept.
pub values_say : (self other : Subst) (n : ℕ) → Says (λ u. u ≡ map (λ p. (p.0, filled self p.1)) other) Limit (apply_values self other n)
unfolding apply_values
values_say self [] n = refl
values_say self (p ∷ other) n =
    and_then _ _ _ (apply_type self p.1 n) _ (apply_says depth self p.1 n) λ t e m.
    and_then _ _ _ (apply_values self other m) _ (values_say self other m) λ u g k. ap₂ (λ (a : Ty) (b : Subst). (p.0, a) ∷ b) e g

-- A composition is the pairs of `other`, changed by `self`, and those of `self` that `other` has not.
pub compose_says : (self other : Subst) (n : ℕ) → Says (λ u. u ≡ or_insert tyvars (map (λ p. (p.0, filled self p.1)) other) self) Limit (compose self other n)
unfolding compose
compose_says self other n =
    and_then _ _ _ (apply_values self other n) _ (values_say self other n) λ u g k. ap (λ (b : Subst). or_insert tyvars b self) g

-- So as a total map it is `other` and then `self`: all that unification's proofs use of it.
pub compose_looks : (self other : Subst) (n : ℕ) → Says (λ u. (x : TyVar) → look u x ≡ filled self (look other x)) Limit (compose self other n)
compose_looks self other n =
    weaken _ _ _ _ (compose self other n) (compose_says self other n) (λ u e x. ap (λ (t : Subst). look t x) e ∙ look_composed self other x) (λ r z. z)
