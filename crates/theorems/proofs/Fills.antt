-- Laws of substitutions as total maps.
use mathlib.Core.Path.{◌≡◌, refl, ap, ap₂, sym, ◌∙◌, fun_ext}
use mathlib.Core.Bool.{true, false≢true}
use Prim.Native.Nat.{suc, ◌≤◌}
use native.Mathlib.Omega.{arith}
use Rattle.meaning.specs.Ast.{TyVar, same_tyvar, Ty, Tys, var, con, arrow, nil, ◌◂◌, count_tys, size, sizes}
use Rattle.meaning.specs.Subst.{occurs, occurs_in}
use Rattle.meaning.specs.Plain.{Fill, sub, subs}
use Rattle.theorems.proofs.Types.{heads, tails, con_args, arrow_left, arrow_right}
use Rattle.theorems.proofs.Tests.{is_yes_true, is_yes_of, or_cases, or_left, or_right}

mutual
  unfolding sub

  -- First σ, then ρ.
  pub sub-sub : (ρ σ : Fill) (t : Ty) → sub ρ (sub σ t) ≡ sub (λ x. sub ρ (σ x)) t
  sub-sub ρ σ (var x) = refl
  sub-sub ρ σ (con c ts) = ap (con c) (subs_subs ρ σ ts)
  sub-sub ρ σ (arrow a b) = ap₂ arrow (sub-sub ρ σ a) (sub-sub ρ σ b)

  pub subs_subs : (ρ σ : Fill) (ts : Tys) → subs ρ (subs σ ts) ≡ subs (λ x. sub ρ (σ x)) ts
  subs_subs ρ σ nil = refl
  subs_subs ρ σ (t ◂ ts) = ap₂ ◌◂◌ (sub-sub ρ σ t) (subs_subs ρ σ ts)

mutual
  unfolding sub

  pub sub_var : (t : Ty) → sub var t ≡ t
  sub_var (var x) = refl
  sub_var (con c ts) = ap (con c) (subs_var ts)
  sub_var (arrow a b) = ap₂ arrow (sub_var a) (sub_var b)

  pub subs_var : (ts : Tys) → subs var ts ≡ ts
  subs_var nil = refl
  subs_var (t ◂ ts) = ap₂ ◌◂◌ (sub_var t) (subs_var ts)

mutual
  unfolding sub occurs

  -- Two maps that agree on the variables of a type do the same to it.
  pub sub-agree : (θ τ : Fill) (t : Ty) → ((x : TyVar) → occurs x t ≡ true → θ x ≡ τ x) → sub θ t ≡ sub τ t
  sub-agree θ τ (var x) h = h x (is_yes_of (same_tyvar x x) refl)
  sub-agree θ τ (con c ts) h = ap (con c) (subs_agree θ τ ts h)
  sub-agree θ τ (arrow a b) h = ap₂ arrow (sub-agree θ τ a (λ x e. h x (or_left (occurs x a) (occurs x b) e))) (sub-agree θ τ b (λ x e. h x (or_right (occurs x a) (occurs x b) e)))

  pub subs_agree : (θ τ : Fill) (ts : Tys) → ((x : TyVar) → occurs_in x ts ≡ true → θ x ≡ τ x) → subs θ ts ≡ subs τ ts
  subs_agree θ τ nil h = refl
  subs_agree θ τ (t ◂ ts) h = ap₂ ◌◂◌ (sub-agree θ τ t (λ x e. h x (or_left (occurs x t) (occurs_in x ts) e))) (subs_agree θ τ ts (λ x e. h x (or_right (occurs x t) (occurs_in x ts) e)))

mutual
  unfolding sub occurs

  -- And two maps that do the same to a type agree on its variables.
  pub sub_same : (θ τ : Fill) (t : Ty) → sub θ t ≡ sub τ t → (x : TyVar) → occurs x t ≡ true → θ x ≡ τ x
  sub_same θ τ (var y) e x o = let p : x ≡ y = is_yes_true (same_tyvar x y) o in rw p e
  sub_same θ τ (con c ts) e x o = subs_same θ τ ts (con_args _ _ _ _ e) x o
  sub_same θ τ (arrow a b) e x o = or_cases (occurs x a) (occurs x b) o (θ x ≡ τ x) (λ f. sub_same θ τ a (arrow_left _ _ _ _ e) x f) (λ f. sub_same θ τ b (arrow_right _ _ _ _ e) x f)

  pub subs_same : (θ τ : Fill) (ts : Tys) → subs θ ts ≡ subs τ ts → (x : TyVar) → occurs_in x ts ≡ true → θ x ≡ τ x
  subs_same θ τ nil e x o = absurd (false≢true o)
  subs_same θ τ (t ◂ ts) e x o = or_cases (occurs x t) (occurs_in x ts) o (θ x ≡ τ x) (λ f. sub_same θ τ t (heads _ _ _ _ e) x f) (λ f. subs_same θ τ ts (tails _ _ _ _ e) x f)

mutual
  unfolding sub occurs size

  -- What replaces a variable is no larger than the type it comes to stand in.
  pub occurs_size : (v : TyVar) (θ : Fill) (t : Ty) → occurs v t ≡ true → size (θ v) ≤ size (sub θ t)
  occurs_size v θ (var x) e = let p : v ≡ x = is_yes_true (same_tyvar v x) e in rw p (omega arith)
  occurs_size v θ (con c ts) e = let k = occurs_sizes v θ ts e in omega arith
  occurs_size v θ (arrow a b) e = or_cases (occurs v a) (occurs v b) e _ (λ f. let k = occurs_size v θ a f in omega arith) (λ f. let k = occurs_size v θ b f in omega arith)

  pub occurs_sizes : (v : TyVar) (θ : Fill) (ts : Tys) → occurs_in v ts ≡ true → size (θ v) ≤ sizes (subs θ ts)
  occurs_sizes v θ nil e = absurd (false≢true e)
  occurs_sizes v θ (t ◂ ts) e = or_cases (occurs v t) (occurs_in v ts) e _ (λ f. let k = occurs_size v θ t f in omega arith) (λ f. let k = occurs_sizes v θ ts f in omega arith)

-- A map that changes no variable of a type leaves it.
pub sub_away : (σ : Fill) (t : Ty) → ((x : TyVar) → occurs x t ≡ true → σ x ≡ var x) → sub σ t ≡ t
sub_away σ t h = sub-agree σ var t h ∙ sub_var t

pub count_subs : (θ : Fill) (ts : Tys) → count_tys (subs θ ts) ≡ count_tys ts
unfolding count_tys sub
count_subs θ nil = refl
count_subs θ (t ◂ ts) = ap suc (count_subs θ ts)

-- What ρ does to a type, where ρ is σ and then via.
pub through : (ρ via σ : Fill) → ((x : TyVar) → ρ x ≡ sub via (σ x)) → (t : Ty) → sub ρ t ≡ sub via (sub σ t)
through ρ via σ h t = ap (λ (f : Fill). sub f t) (fun_ext h) ∙ sym (sub-sub via σ t)
