-- Inference gives the environment back: the names it bound are gone, and closed schemes are as they were.
use mathlib.Core.Path.{◌≡◌}
use mathlib.Core.List.{List, [], ◌∷◌}
use mathlib.Core.Option.{Option, none, some}
use Prim.Native.Nat.{ℕ, suc, zero}
use Rattle.meaning.specs.Ast.{Name, TyVar, Pred, Scheme, Expr, evar, eint, ebool, eabs, eapp, elet}
use Rattle.meaning.specs.Budget.{Steps, after}
use Rattle.meaning.specs.Map.{names, get, insert}
use Rattle.meaning.specs.Subst.{Subst, apply_pred}
use Rattle.meaning.specs.Classes.{ClassEnv}
use Rattle.meaning.specs.Generalize.{Env}
use Rattle.meaning.specs.Infer.{State, Run, ◌>>=◌, lift, ask_env, with_env, fresh_tyvar, fresh_dictvar, env_insert, env_restore, apply_schemes, apply_env, fresh_all, instantiate_preds, instantiate, Inferred, infer_var, infer_abs, infer_app, infer_let, infer_node, infer_in}
use Rattle.theorems.proofs.Says.{Says, Any, and_then, step_says, weaken, past}
use Rattle.theorems.proofs.Ordered.{Sorted}
use Rattle.theorems.proofs.Stays.{Stays, Keeps, keeps_refl, keeps_trans, schemes_keep, restored, keeps_restored, AllClosed, keeps_same}

-- The environment afterwards, against the one before.
abbrev pub Kept : {A : Type 0} → Env → A × State → Type 0
Kept env r = Keeps env r.1.env

-- A computation that keeps every environment.
abbrev pub Standing : {A : Type 0} → Run A → Type 0
Standing m = (st : State) (n : ℕ) → Says (Kept st.env) Any (m st n)

-- ## the ways to put a computation together
-- An answer, of whatever type, that leaves the state.
pub unchanged : (st : State) (n : ℕ) → Keeps st.env st.env
unchanged st n = keeps_refl st.env

-- What changes no state.
pub lift_stands : {A : Type 0} (m : Steps A) → Standing (lift m)
lift_stands m st n = past _ (m n) _ λ a k. keeps_refl st.env

-- One computation after another.
pub then_stands : {A B : Type 0} (m : Run A) (f : A → Run B) → Standing m → ((a : A) → Standing (f a)) → Standing (◌>>=◌ m f)
then_stands m f h k st n =
    and_then (Kept st.env) Any (Kept st.env) (m st n) _ (h st n) λ r e l.
    weaken (Kept r.1.env) Any (Kept st.env) Any (f r.0 r.1 l) (k r.0 r.1 l) (λ q i. keeps_trans e i) (λ r z. z)

-- The rest after what changes no state.
pub lifted_stands : {A B : Type 0} (m : Steps A) (f : A → Run B) → ((a : A) → Standing (f a)) → Standing (◌>>=◌ (lift m) f)
lifted_stands m f k = then_stands (lift m) f (lift_stands m) k

restores : (x : Name) (o : Option Scheme) (env : Env) (st : State) (n : ℕ) → Keeps env (restored x o st.env) → Says (Kept env) Any (env_restore x o st n)
unfolding env_restore with_env
restores x none env st n h = h
restores x (some c) env st n h = h

-- A name bound while a computation runs, and what stood there put back.
pub scoped_stands : {A B : Type 0} (x : Name) (c : Scheme) (m : Run A) (f : A → Run B) → Standing m → ((a : A) → Standing (f a))
    → Standing (◌>>=◌ (env_insert x c) λ prev. ◌>>=◌ m λ a. ◌>>=◌ (env_restore x prev) λ _. f a)
unfolding env_insert with_env after
scoped_stands x c m f h k st n =
    and_then (Kept (insert names (x, c) st.env)) Any (Kept st.env) (m inner n) _ (h inner n) λ r e l.
    and_then (Kept st.env) Any (Kept st.env) (env_restore x (get names x st.env) r.1 l) _
    (restores x (get names x st.env) st.env r.1 l (keeps_restored x c st.env r.1.env e)) λ q i j.
    weaken (Kept q.1.env) Any (Kept st.env) Any (f r.0 q.1 j) (k r.0 q.1 j) (λ p z. keeps_trans i z) (λ r z. z)
  where
    inner : State
    inner = with_env (insert names (x, c) st.env) st

-- ## the parts of inference
ask_stands : Standing ask_env
ask_stands st n = keeps_refl st.env

tyvar_stands : Standing fresh_tyvar
unfolding fresh_tyvar
tyvar_stands st n = keeps_refl st.env

dictvar_stands : Standing fresh_dictvar
unfolding fresh_dictvar
dictvar_stands st n = keeps_refl st.env

-- A substitution done to the environment.
pub apply_env_stands : (s : Subst) → Standing (apply_env s)
unfolding apply_env with_env
apply_env_stands s st n = and_then _ _ _ (apply_schemes s st.env n) _ (schemes_keep s st.env n) λ env h m. h

fresh_all_stands : (vs : List TyVar) → Standing (fresh_all vs)
unfolding fresh_all
fresh_all_stands [] = unchanged
fresh_all_stands (v ∷ vs) =
    then_stands fresh_tyvar _ tyvar_stands λ x.
    then_stands (fresh_all vs) _ (fresh_all_stands vs) λ s. unchanged

preds_stand : (s : Subst) (ps : List Pred) → Standing (instantiate_preds s ps)
unfolding instantiate_preds
preds_stand s [] = unchanged
preds_stand s (p ∷ ps) =
    then_stands fresh_dictvar _ dictvar_stands λ d.
    lifted_stands (apply_pred s p) _ λ q.
    then_stands (instantiate_preds s ps) _ (preds_stand s ps) λ qs. unchanged

-- A scheme at new variables.
pub instantiate_stands : (c : Scheme) → Standing (instantiate c)
unfolding instantiate
instantiate_stands c =
    then_stands (fresh_all c.vars) _ (fresh_all_stands c.vars) λ s.
    lifted_stands _ _ λ u.
    then_stands (instantiate_preds s c.qual.preds) _ (preds_stand s c.qual.preds) λ ps. unchanged

var_stands : (ce : ClassEnv) (x : Name) → Standing (infer_var ce x)
unfolding infer_var
var_stands ce x =
    then_stands ask_env _ ask_stands λ env.
    lifted_stands _ _ λ c.
    then_stands (instantiate c) _ (instantiate_stands c) λ r.
    lifted_stands _ _ λ e. unchanged

abs_stands : (infer : Expr → Run Inferred) → ((e : Expr) → Standing (infer e)) → (x : Name) (e : Expr) → Standing (infer_abs infer x e)
unfolding infer_abs
abs_stands infer h x e =
    then_stands fresh_tyvar _ tyvar_stands λ a.
    scoped_stands x _ (infer e) _ (h e) λ r.
    lifted_stands _ _ λ u. unchanged

app_stands : (infer : Expr → Run Inferred) → ((e : Expr) → Standing (infer e)) → (f x : Expr) → Standing (infer_app infer f x)
unfolding infer_app
app_stands infer h f x =
    then_stands fresh_tyvar _ tyvar_stands λ a.
    then_stands (infer f) _ (h f) λ r.
    then_stands (apply_env r.0) _ (apply_env_stands r.0) λ _.
    then_stands (infer x) _ (h x) λ q.
    lifted_stands _ _ λ f-ty.
    lifted_stands _ _ λ s₃.
    lifted_stands _ _ λ s₂₁.
    lifted_stands _ _ λ s.
    lifted_stands _ _ λ u.
    lifted_stands _ _ λ ps.
    lifted_stands _ _ λ qs. unchanged

let_stands : (ce : ClassEnv) (infer : Expr → Run Inferred) → ((e : Expr) → Standing (infer e)) → (v : Name) (e₁ e₂ : Expr) → Standing (infer_let ce infer v e₁ e₂)
unfolding infer_let
let_stands ce infer h v e₁ e₂ =
    then_stands (infer e₁) _ (h e₁) λ r.
    then_stands (apply_env r.0) _ (apply_env_stands r.0) λ _.
    lifted_stands _ _ λ ps.
    then_stands ask_env _ ask_stands λ env.
    lifted_stands _ _ λ g.
    scoped_stands v g.0 (infer e₂) _ (h e₂) λ q.
    lifted_stands _ _ λ qs.
    lifted_stands _ _ λ s. unchanged

node_stands : (ce : ClassEnv) (infer : Expr → Run Inferred) → ((e : Expr) → Standing (infer e)) → (e : Expr) → Standing (infer_node ce infer e)
unfolding infer_node
node_stands ce infer h (evar x) = var_stands ce x
node_stands ce infer h (eint i) = unchanged
node_stands ce infer h (ebool b) = unchanged
node_stands ce infer h (eabs x e) = abs_stands infer h x e
node_stands ce infer h (eapp f x) = app_stands infer h f x
node_stands ce infer h (elet v e₁ e₂) = let_stands ce infer h v e₁ e₂

-- Inference keeps every environment, at every depth.
pub infer_keeps : (d : ℕ) (ce : ClassEnv) (e : Expr) → Standing (infer_in d ce e)
unfolding infer_in
infer_keeps zero ce e st n = tt
infer_keeps (suc d) ce e st n = step_says _ _ (infer_node ce (λ u. infer_in d ce u) e st) tt (λ m. node_stands ce (λ u. infer_in d ce u) (λ u. infer_keeps d ce u) e st m) n

-- The same names are there afterwards, and closed schemes are still the same.
pub infer_stays : (d : ℕ) (ce : ClassEnv) (e : Expr) (st : State) (n : ℕ) → Says (λ r. Stays st.env r.1.env) Any (infer_in d ce e st n)
infer_stays d ce e st n = weaken _ _ _ _ (infer_in d ce e st n) (infer_keeps d ce e st n) (λ r h. h.stays) (λ r z. z)

-- And in order.
pub infer_sorted : (d : ℕ) (ce : ClassEnv) (e : Expr) (st : State) (n : ℕ) → Sorted names st.env → Says (λ r. Sorted names r.1.env) Any (infer_in d ce e st n)
infer_sorted d ce e st n w = weaken _ _ _ _ (infer_in d ce e st n) (infer_keeps d ce e st n) (λ r h. h.sorted w) (λ r z. z)

-- An environment of closed schemes is given back as it was.
pub infer_stands : (d : ℕ) (ce : ClassEnv) (e : Expr) (st : State) (n : ℕ) → Sorted names st.env → AllClosed st.env
    → Says (λ r. r.1.env ≡ st.env) Any (infer_in d ce e st n)
infer_stands d ce e st n w k = weaken _ _ _ _ (infer_in d ce e st n) (infer_keeps d ce e st n) (λ r h. keeps_same st.env r.1.env h w k) (λ r z. z)
