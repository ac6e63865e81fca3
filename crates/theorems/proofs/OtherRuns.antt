-- Inference, declarations and sessions with another renaming of canonical names: the definitions of Infer, Declare and
-- Session, with `generalize_by` and `finalize_by`.
use mathlib.Core.Bool.{true, false}
use mathlib.Core.List.{List, [], ◌∷◌, ◌++◌}
use Prim.Native.Nat.{ℕ, suc, zero, ◌+◌}
use Rattle.meaning.specs.Base.{is_yes, if, any, first}
use Rattle.meaning.specs.Ast.{Name, same_name, method, Field, Ty, int, bool, Qual, Scheme, Expr, evar, eint, ebool, eabs, eapp, elet, Core, cint, cbool, clet, size, InstanceDecl, Decl, class_decl, instance_decl, let_decl, check_decl}
use Rattle.meaning.specs.Errors.{too_deep, unknown_class, unknown_method, missing_method, limit, room}
use Rattle.meaning.specs.Budget.{refused, step, or_refuse, spend, depth}
use Rattle.meaning.specs.Subst.{Subst, empty, singleton, apply_type, apply_preds_pending, compose}
use Rattle.meaning.specs.Unify.{unify}
use Rattle.meaning.specs.Classes.{ClassEnv, ClassInfo, Given, class_of, add_instance}
use Rattle.meaning.specs.Reduce.{reduce}
use Rattle.meaning.specs.Cores.{subst_core}
use Rattle.meaning.specs.Generalize.{preds_of}
use Rattle.meaning.specs.Infer.{Run, ◌>>=◌, pure, lift, ask_env, env_insert, env_restore, apply_env, Inferred, infer_var, infer_abs, infer_app}
use Rattle.meaning.specs.Declare.{pred_nodes, field_nodes, context_givens, all_discharged, fill_first, selves, super_cores, none_deferred}
use Rattle.meaning.specs.Session.{Checker, scheme_of, typed, accepted, Answer, refuses, answer, declare_class, over_limit, no_room}
use Rattle.theorems.proofs.OtherNames.{Renamer, generalize_by, finalize_by}

module _ (ren : Renamer) where
  -- `infer_let`.
  unfoldable pub infer_let_by : ClassEnv → (Expr → Run Inferred) → Name → Expr → Expr → Run Inferred
  infer_let_by ce infer v e₁ e₂ = do
    (s₁, t₁, p₁, c₁) ← infer e₁
    _ ← apply_env s₁
    ps ← lift (apply_preds_pending s₁ p₁)
    env ← ask_env
    (scheme, c₁-final, deferred) ← lift (generalize_by ren ce env t₁ ps c₁)
    prev ← env_insert v scheme
    (s₂, t₂, p₂, c₂) ← infer e₂
    _ ← env_restore v prev
    qs ← lift (apply_preds_pending s₂ deferred)
    s ← lift (compose s₂ s₁)
    pure (s, t₂, qs ++ p₂, clet v c₁-final c₂)

  -- `infer_node`.
  unfoldable pub infer_node_by : ClassEnv → (Expr → Run Inferred) → Expr → Run Inferred
  infer_node_by ce infer (evar x) = infer_var ce x
  infer_node_by ce infer (eint i) = pure (empty, int, [], cint i)
  infer_node_by ce infer (ebool b) = pure (empty, bool, [], cbool b)
  infer_node_by ce infer (eabs x e) = infer_abs infer x e
  infer_node_by ce infer (eapp f x) = infer_app infer f x
  infer_node_by ce infer (elet v e₁ e₂) = infer_let_by ce infer v e₁ e₂

  -- `infer_in`.
  unfoldable pub infer_by : ℕ → ClassEnv → Expr → Run Inferred
  infer_by zero ce e = λ st n. refused too_deep n
  infer_by (suc k) ce e = λ st. step (infer_node_by ce (λ u. infer_by k ce u) e st)

  -- `method_core`.
  unfoldable pub method_by : ClassEnv → ClassInfo → Subst → List Given → Name → Expr → Run Core
  method_by ce ci head-subst givens m body = do
    sig ← lift (or_refuse (unknown_method m) (first (λ (g : Name × Ty). is_yes (same_name g.0 m)) ci.sigs))
    expected-ty ← lift (apply_type head-subst sig.1)
    (s, body-ty, preds, body-core) ← infer_by depth ce body
    a ← lift (apply_type s body-ty)
    b ← lift (apply_type s expected-ty)
    s-u ← lift (unify a b)
    s-final ← lift (compose s-u s)
    body-preds ← lift (apply_preds_pending s-final preds)
    (discharged, residual) ← lift (reduce ce givens (preds_of body-preds))
    _ ← lift (all_discharged residual)
    lift (subst_core body-core (fill_first discharged body-preds []))

  -- `method_cores`.
  unfoldable pub methods_by : ClassEnv → ClassInfo → Subst → List Given → List (Name × Expr) → Run (List (Field × Core))
  methods_by ce ci head-subst givens [] = pure []
  methods_by ce ci head-subst givens (m ∷ ms) = do
    e ← method_by ce ci head-subst givens m.0 m.1
    es ← methods_by ce ci head-subst givens ms
    pure ((method m.0, e) ∷ es)

  -- `default_core`.
  unfoldable pub default_by : ClassEnv → ClassInfo → Ty → Name → Run Core
  default_by ce ci head_ty m = do
    f ← lift (or_refuse (missing_method ci.name head_ty m) (first (λ (f : Name × Expr). is_yes (same_name f.0 m)) ci.defaults))
    (_, _, preds, e) ← infer_by depth ce f.1
    lift (subst_core e (selves ci.name preds []))

  -- `default_cores`.
  unfoldable pub defaults_by : ClassEnv → ClassInfo → Ty → List (Name × Expr) → List (Name × Ty) → Run (List (Field × Core))
  defaults_by ce ci head_ty ms [] = pure []
  defaults_by ce ci head_ty ms (g ∷ gs) = if (any (λ (m : Name × Expr). is_yes (same_name m.0 g.0)) ms)
      (defaults_by ce ci head_ty ms gs)
      (do
        e ← default_by ce ci head_ty g.0
        es ← defaults_by ce ci head_ty ms gs
        pure ((method g.0, e) ∷ es))

  -- `process_instance_decl`.
  unfoldable pub instance_by : ClassEnv → InstanceDecl → Run ClassEnv
  instance_by ce k = do
    _ ← lift (spend (pred_nodes k.context + size k.head.ty))
    ci ← lift (or_refuse (unknown_class k.head.class) (class_of ce k.head.class))
    own ← methods_by ce ci (singleton ci.tyvar k.head.ty) (context_givens k.head k.context) k.methods
    defaults ← defaults_by ce ci k.head.ty k.methods ci.sigs
    supers ← lift (super_cores ce ci k.head.ty (context_givens k.head k.context) ci.supers)
    _ ← lift (spend (field_nodes (own ++ defaults ++ supers)))
    lift (add_instance ce (record { context = k.context; head = k.head; methods = own ++ defaults ++ supers }))

  -- `process_let_decl`.
  unfoldable pub let_by : ClassEnv → Name → Expr → Run Scheme
  let_by ce x body = do
    (s, t₀, p₀, e) ← infer_by depth ce body
    ps ← lift (apply_preds_pending s p₀)
    u ← lift (apply_type s t₀)
    env ← ask_env
    (scheme, _, deferred) ← lift (generalize_by ren ce env u ps e)
    _ ← lift (none_deferred deferred)
    _ ← env_insert x scheme
    pure scheme

  -- `check_expr`.
  unfoldable pub check_by : ClassEnv → Expr → Run (Qual × Core)
  check_by ce body = do
    (s, t₀, p₀, e) ← infer_by depth ce body
    u ← lift (apply_type s t₀)
    ps ← lift (apply_preds_pending s p₀)
    lift (finalize_by ren ce u ps e)

  -- `run_decl`; a class renames nothing.
  unfoldable pub run_by : ℕ → Checker → Decl → Answer
  run_by budget ck (class_decl k) = declare_class budget ck k (class_of ck.class_env k.name)
  run_by budget ck (instance_decl k) = answer budget ck (λ _. accepted) (λ ce. ce) (instance_by ck.class_env k ck.state budget)
  run_by budget ck (let_decl x e) = answer budget ck scheme_of (λ _. ck.class_env) (let_by ck.class_env x e ck.state budget)
  run_by budget ck (check_decl e) = answer budget ck (λ r. typed r.0 r.1) (λ _. ck.class_env) (check_by ck.class_env e ck.state budget)

  -- `declare`.
  unfoldable pub declare_by : (budget work binders : ℕ) → Decl → Checker → Answer
  declare_by budget work binders k ck = elim (over_limit budget) [
    | true ↦ refuses ck (limit 0) 0
    | false ↦
        elim (no_room budget work binders ck) [ true ↦ refuses ck room 0 | false ↦ run_by budget ck k ]
  ]

  -- `session`.
  unfoldable pub session_by : (budget work binders : ℕ) → List Decl → Checker → List Answer
  session_by budget work binders [] ck = []
  session_by budget work binders (k ∷ ks) ck = let a = declare_by budget work binders k ck in a ∷ session_by budget work binders ks a.checker
