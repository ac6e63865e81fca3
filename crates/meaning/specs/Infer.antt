-- 000, infer.rs: what inference changes, and infer_expr. Classes and instances stand still while it runs.
use Rattle.std.specs.Prelude.{List, [], ◌∷◌, ◌++◌, ℕ, suc, zero}
use Rattle.std.proofs.Math.Option.{Option, none, some}
use Rattle.meaning.specs.Base.{is_yes, first}
use Rattle.meaning.specs.Ast.{Name, same_name, TyVar, fresh, DictName, dvar, method, Ty, var, arrow, int, bool, Pred, qual, Scheme, forall, Expr, evar, eint, ebool, eabs, eapp, elet, Core, Cores, cvar, cdict, cint, cbool, cabs, capp, clet, dict_app, dict_proj, cnil, ◌◃◌, Binder}
use Rattle.meaning.specs.Errors.{too_deep, unbound_variable, unknown_method}
use Rattle.meaning.specs.Budget.{done, refused, Steps, after, step, or_refuse, depth}
use Rattle.meaning.specs.Map.{names, tyvars, get, insert, remove}
use Rattle.meaning.specs.Subst.{Subst, empty, apply_type, apply_pred, apply_preds_pending, apply_scheme, compose}
use Rattle.meaning.specs.Unify.{unify}
use Rattle.meaning.specs.Classes.{ClassEnv, ClassInfo, lookup_method}
use Rattle.meaning.specs.Generalize.{Pending, Env, generalize_binding}

-- What inference changes: the environment and both counters.
pub record State : Type 0 where
  pub env : Env
  pub tv_counter : ℕ
  pub dv_counter : ℕ

-- A computation that changes the state.
abbrev pub Run : Type 0 → Type 0
Run A = State → Steps (A × State)

-- Two of them one after the other; the second starts in the state that the first left.
abbrev pub ◌>>=◌ : {A B : Type 0} → Run A → (A → Run B) → Run B
◌>>=◌ m f = λ st n. after (m st n) (λ r. f r.0 r.1)

-- An answer that leaves the state.
abbrev pub pure : {A : Type 0} → A → Run A
pure a = λ st n. done (a, st) n

-- What changes no state.
abbrev pub lift : {A : Type 0} → Steps A → Run A
lift m = λ st n. after (m n) (λ a. done (a, st))

-- The environment as it is now.
abbrev pub ask_env : Run Env
ask_env = λ st n. done (st.env, st) n

-- The state with another environment.
unfoldable pub with_env : Env → State → State
with_env env st = record { env = env; tv_counter = st.tv_counter; dv_counter = st.dv_counter }

-- `fresh_tyvar`.
unfoldable pub fresh_tyvar : Run TyVar
fresh_tyvar st n = done (fresh st.tv_counter, record { env = st.env; tv_counter = suc st.tv_counter; dv_counter = st.dv_counter }) n

-- `fresh_dictvar`.
unfoldable pub fresh_dictvar : Run DictName
fresh_dictvar st n = done (dvar st.dv_counter, record { env = st.env; tv_counter = st.tv_counter; dv_counter = suc st.dv_counter }) n

-- `env.insert`, with what stood there before.
unfoldable pub env_insert : Name → Scheme → Run (Option Scheme)
env_insert x c st n = done (get names x st.env, with_env (insert names (x, c) st.env) st) n

-- What stood there before is put back: while it was hidden nothing was applied to it.
unfoldable pub env_restore : Name → Option Scheme → Run (Unit {0})
env_restore x none st n = done (tt, with_env (remove names x st.env) st) n
env_restore x (some c) st n = done (tt, with_env (insert names (x, c) st.env) st) n

-- `apply_scheme` on each scheme, in byte order of the names.
unfoldable pub apply_schemes : Subst → Env → Steps Env
apply_schemes s [] = λ n. done [] n
apply_schemes s (p ∷ env) = λ n. after (apply_scheme s p.1 n) (λ c m. after (apply_schemes s env m) (λ rest. done ((p.0, c) ∷ rest)))

-- `apply_env`.
unfoldable pub apply_env : Subst → Run (Unit {0})
apply_env s st n = after (apply_schemes s st.env n) (λ env. done (tt, with_env env st))

-- A fresh variable for each variable of a scheme.
unfoldable pub fresh_all : List TyVar → Run Subst
fresh_all [] = pure []
fresh_all (v ∷ vs) = do
  x ← fresh_tyvar
  s ← fresh_all vs
  pure (insert tyvars (v, var x) s)

-- A fresh dictionary name for each predicate of a scheme.
unfoldable pub instantiate_preds : Subst → List Pred → Run Pending
instantiate_preds s [] = pure []
instantiate_preds s (p ∷ ps) = do
  d ← fresh_dictvar
  q ← lift (apply_pred s p)
  qs ← instantiate_preds s ps
  pure ((d, q) ∷ qs)

-- `instantiate`: the type, then the predicates.
unfoldable pub instantiate : Scheme → Run (Ty × Pending)
instantiate c = do
  s ← fresh_all c.vars
  u ← lift (apply_type s c.qual.ty)
  ps ← instantiate_preds s c.qual.preds
  pure (u, ps)

-- `Inferred`.
abbrev pub Inferred : Type 0
Inferred = Subst × Ty × Pending × Core

-- The names of pending dictionaries as arguments.
unfoldable pub args_of : Pending → Cores
args_of [] = cnil
args_of (b ∷ bs) = cdict b.0 ◃ args_of bs

-- A name that is no method.
unfoldable pub plain_core : Name → Pending → Core
plain_core x [] = cvar x
plain_core x (b ∷ bs) = dict_app (cvar x) (args_of (b ∷ bs))

-- A method is projected from the first pending dictionary of its class; without one (a parameter that hides it) 20.
unfoldable pub var_core : Name → Pending → Option (ClassInfo × Ty) → Steps Core
var_core x ps none = λ n. done (plain_core x ps) n
var_core x ps (some r) = λ n. after (or_refuse (unknown_method x) (first (λ (b : Binder). is_yes (same_name b.1.class r.0.name)) ps) n) (λ b. done (dict_proj (cdict b.0) (method x)))

-- `infer_var`.
unfoldable pub infer_var : ClassEnv → Name → Run Inferred
infer_var ce x = do
  env ← ask_env
  c ← lift (or_refuse (unbound_variable x) (get names x env))
  (u, pending) ← instantiate c
  e ← lift (var_core x pending (lookup_method ce x))
  pure (empty, u, pending, e)

-- A type without variables and predicates of its own.
abbrev pub mono : Ty → Scheme
mono u = forall [] (qual [] u)

-- `infer_abs`.
unfoldable pub infer_abs : (Expr → Run Inferred) → Name → Expr → Run Inferred
infer_abs infer x body = do
  a ← fresh_tyvar
  prev ← env_insert x (mono (var a))
  (s, body-ty, preds, body-core) ← infer body
  _ ← env_restore x prev
  u ← lift (apply_type s (var a))
  pure (s, arrow u body-ty, preds, cabs x body-core)

-- `infer_app`.
unfoldable pub infer_app : (Expr → Run Inferred) → Expr → Expr → Run Inferred
infer_app infer f x = do
  a ← fresh_tyvar
  (s₁, f-ty, p₁, f-core) ← infer f
  _ ← apply_env s₁
  (s₂, x-ty, p₂, x-core) ← infer x
  f-ty₂ ← lift (apply_type s₂ f-ty)
  s₃ ← lift (unify f-ty₂ (arrow x-ty (var a)))
  s₂₁ ← lift (compose s₂ s₁)
  s ← lift (compose s₃ s₂₁)
  u ← lift (apply_type s₃ (var a))
  ps ← lift (apply_preds_pending s p₁)
  qs ← lift (apply_preds_pending s p₂)
  pure (s, u, ps ++ qs, capp f-core x-core)

-- `infer_let`.
unfoldable pub infer_let : ClassEnv → (Expr → Run Inferred) → Name → Expr → Expr → Run Inferred
infer_let ce infer v e₁ e₂ = do
  (s₁, t₁, p₁, c₁) ← infer e₁
  _ ← apply_env s₁
  ps ← lift (apply_preds_pending s₁ p₁)
  env ← ask_env
  (scheme, c₁-final, deferred) ← lift (generalize_binding ce env t₁ ps c₁)
  prev ← env_insert v scheme
  (s₂, t₂, p₂, c₂) ← infer e₂
  _ ← env_restore v prev
  qs ← lift (apply_preds_pending s₂ deferred)
  s ← lift (compose s₂ s₁)
  pure (s, t₂, qs ++ p₂, clet v c₁-final c₂)

-- `infer_expr` at a node; `infer` goes one deeper.
unfoldable pub infer_node : ClassEnv → (Expr → Run Inferred) → Expr → Run Inferred
infer_node ce infer (evar x) = infer_var ce x
infer_node ce infer (eint i) = pure (empty, int, [], cint i)
infer_node ce infer (ebool b) = pure (empty, bool, [], cbool b)
infer_node ce infer (eabs x e) = infer_abs infer x e
infer_node ce infer (eapp f x) = infer_app infer f x
infer_node ce infer (elet v e₁ e₂) = infer_let ce infer v e₁ e₂

-- `infer_expr` with so much depth left: one step an expression.
unfoldable pub infer_in : ℕ → ClassEnv → Expr → Run Inferred
infer_in zero ce e = λ st n. refused too_deep n
infer_in (suc k) ce e = λ st. step (infer_node ce (λ u. infer_in k ce u) e st)

-- `infer_expr`.
abbrev pub infer_expr : ClassEnv → Expr → Run Inferred
infer_expr ce e = infer_in depth ce e
