-- 000's `infer_abs`, `infer_app` and `infer_let`, cut where a part has been inferred: what is left to do then.
use Rattle.std.specs.Prelude.{◌++◌}
use Rattle.std.proofs.Math.Option.{Option}
use Rattle.meaning.specs.Ast.{Name, TyVar, Ty, var, arrow, Scheme, Expr, Core, cabs, capp, clet}
use Rattle.meaning.specs.Budget.{done, Steps, after}
use Rattle.meaning.specs.Subst.{Subst, apply_type, apply_preds_pending, compose}
use Rattle.ends.specs.Ends.{joined}
use Rattle.meaning.specs.Classes.{ClassEnv}
use Rattle.meaning.specs.Generalize.{Pending, generalize_binding}
use Rattle.meaning.specs.Infer.{Run, ◌>>=◌, lift, ask_env, env_insert, env_restore, apply_env, mono, Inferred}

-- ## Without the environment

-- An abstraction after its body: the parameter's type, and the answer.
unfoldable pub abs_close : Name → TyVar → Inferred → Steps Inferred
abs_close x a r n = after (apply_type r.0 (var a) n) (λ u. done (r.0, arrow u r.1, r.2, cabs x r.3))

-- The end of an application: the result's type, and both lists of predicates.
unfoldable pub app_last : Inferred → Inferred → Subst × Ty → Steps Inferred
app_last f x j n =
    after (apply_preds_pending j.0 f.2 n) λ ps m.
    after (apply_preds_pending j.0 x.2 m) λ qs.
    done (j.0, j.1, ps ++ qs, capp f.3 x.3)

-- The same over one list of predicates, those of both parts.
unfoldable pub app_rows : Subst → Ty → Pending → Core → Core → Steps Inferred
app_rows s t ps f e n = after (apply_preds_pending s ps n) (λ qs. done (s, t, qs, capp f e))

-- An application after both parts: f's answer and the argument's.
unfoldable pub app_close : TyVar → Inferred → Inferred → Steps Inferred
app_close a f x n = after (joined f.0 f.1 x.0 x.1 a n) (app_last f x)

-- The end of a let: its substitutions composed; the predicates are those of both parts.
unfoldable pub let_last : Name → Subst → Subst → Ty → Pending → Core → Core → Steps Inferred
let_last v s₂ s₁ t ps c e n = after (compose s₂ s₁ n) (λ s. done (s, t, ps, clet v c e))

-- A let after its body: s₁ and c₁ are those of what it binds.
unfoldable pub let_close : Name → Subst → Core → Pending → Inferred → Steps Inferred
let_close v s₁ c₁ deferred r n =
    after (apply_preds_pending r.0 deferred n) λ qs m.
    after (compose r.0 s₁ m) λ s.
    done (s, r.1, qs ++ r.2, clet v c₁ r.3)

-- ## With it

-- An abstraction over the variable a.
unfoldable pub abs_body : (Expr → Run Inferred) → Name → TyVar → Expr → Run Inferred
abs_body infer x a body = do
  prev ← env_insert x (mono (var a))
  r ← infer body
  _ ← env_restore x prev
  lift (abs_close x a r)

-- The same after the parameter's scheme was inserted: prev is what stood there.
unfoldable pub abs_rest : (Expr → Run Inferred) → Name → TyVar → Option Scheme → Expr → Run Inferred
abs_rest infer x a prev body = do
  r ← infer body
  _ ← env_restore x prev
  lift (abs_close x a r)

-- An application after the function.
unfoldable pub app_arg : (Expr → Run Inferred) → TyVar → Inferred → Expr → Run Inferred
app_arg infer a f x = do
  _ ← apply_env f.0
  r ← infer x
  lift (app_close a f r)

-- A let after its binding was generalized.
unfoldable pub let_body : (Expr → Run Inferred) → Name → Subst → Scheme × Core × Pending → Expr → Run Inferred
let_body infer v s₁ g e₂ = do
  prev ← env_insert v g.0
  r ← infer e₂
  _ ← env_restore v prev
  lift (let_close v s₁ g.1 g.2 r)

-- The same after the scheme was inserted: prev is what stood there.
unfoldable pub let_rest : (Expr → Run Inferred) → Name → Subst → Core → Pending → Option Scheme → Expr → Run Inferred
let_rest infer v s₁ c₁ deferred prev e₂ = do
  r ← infer e₂
  _ ← env_restore v prev
  lift (let_close v s₁ c₁ deferred r)

-- What it binds, generalized.
unfoldable pub let_general : ClassEnv → Inferred → Run (Scheme × Core × Pending)
let_general ce r = do
  _ ← apply_env r.0
  ps ← lift (apply_preds_pending r.0 r.2)
  env ← ask_env
  lift (generalize_binding ce env r.1 ps r.3)

-- A let after what it binds was inferred.
unfoldable pub let_mid : ClassEnv → (Expr → Run Inferred) → Name → Inferred → Expr → Run Inferred
let_mid ce infer v r e₂ = do
  g ← let_general ce r
  let_body infer v r.0 g e₂
