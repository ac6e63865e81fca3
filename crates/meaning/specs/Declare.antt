-- 000, infer.rs: the declarations, and a checked expression.
use Rattle.std.specs.Prelude.{List, [], ◌∷◌, ◌++◌, ℕ, suc, ◌+◌, ◌*◌}
use Rattle.std.proofs.Math.Option.{Option, none, some}
use Rattle.meaning.specs.Base.{is_yes, if, any, first, total, count}
use Rattle.meaning.specs.Ast.{Name, same_name, tyvar_before, DictName, ctx, self, Field, method, super, Ty, var, size, Pred, pred, same_pred, Qual, qual, Scheme, forall, Expr, Core, Cores, cvar, cdict, cint, cbool, cabs, capp, clet, dict_abs, dict_app, dict_proj, dict_rec, cnil, ◌◃◌, Binder, ClassDecl, InstanceDecl}
use Rattle.meaning.specs.Errors.{no_instance, unknown_class, unknown_method, missing_method}
use Rattle.meaning.specs.Budget.{done, refused, or_refuse, spend, Steps, after}
use Rattle.meaning.specs.Map.{Map, names, dicts, insert}
use Rattle.meaning.specs.Subst.{Subst, singleton, apply_type, apply_preds_pending, compose, ftv_qual}
use Rattle.meaning.specs.Unify.{unify}
use Rattle.meaning.specs.Classes.{ClassEnv, ClassInfo, Given, class_of, resolve, add_class, add_instance}
use Rattle.meaning.specs.Reduce.{Discharged, reduce, roots}
use Rattle.meaning.specs.Cores.{subst_core, sort_by}
use Rattle.meaning.specs.Generalize.{Pending, Env, preds_of, generalize_binding, finalize_expr}
use Rattle.meaning.specs.Infer.{Run, ◌>>=◌, pure, lift, ask_env, with_env, env_insert, infer_expr}

-- The type-tree nodes of signatures.
unfoldable pub sig_nodes : List (Name × Ty) → ℕ
sig_nodes gs = total (λ (g : Name × Ty). size g.1) gs

-- The type-tree nodes of predicates.
unfoldable pub pred_nodes : List Pred → ℕ
pred_nodes ps = total (λ (p : Pred). size p.ty) ps

-- A method's scheme: its type under its class, for all of its variables in byte order.
unfoldable pub sig_scheme : ClassDecl → Ty → Scheme
sig_scheme k u = forall (sort_by tyvar_before (ftv_qual (qual (pred k.name (var k.tyvar) ∷ []) u))) (qual (pred k.name (var k.tyvar) ∷ []) u)

-- The schemes of a class's methods go into the environment; the last of equal names stays.
unfoldable pub insert_sigs : ClassDecl → List (Name × Ty) → Env → Env
insert_sigs k [] env = env
insert_sigs k (g ∷ gs) env = insert_sigs k gs (insert names (g.0, sig_scheme k g.1) env)

-- `process_class_decl`. It first spends twice its signatures' nodes and one for each. (The Rust looks for missing
-- superclasses twice, here and in `add_class`.)
unfoldable pub process_class_decl : ClassEnv → ClassDecl → Run ClassEnv
process_class_decl ce k = do
  _ ← lift (spend (2 * sig_nodes k.sigs + count k.sigs))
  ce₁ ← lift (add_class ce k)
  λ st n. done (ce₁, with_env (insert_sigs k k.sigs st.env) st) n

-- The kept nodes of a core term: its nodes, a record counting one, and those of its binders' and records' types.
unfoldable mutual
  pub core_nodes : Core → ℕ
  core_nodes (cvar x) = 1
  core_nodes (cdict d) = 1
  core_nodes (cint i) = 1
  core_nodes (cbool b) = 1
  core_nodes (cabs x e) = suc (core_nodes e)
  core_nodes (capp f e) = suc (core_nodes f + core_nodes e)
  core_nodes (clet x e f) = suc (core_nodes e + core_nodes f)
  core_nodes (dict_abs bs e) = suc (pred_nodes (preds_of bs) + core_nodes e)
  core_nodes (dict_app f es) = suc (core_nodes f + cores_nodes es)
  core_nodes (dict_proj e m) = suc (core_nodes e)
  core_nodes (dict_rec c a i) = suc (size a)

  pub cores_nodes : Cores → ℕ
  cores_nodes cnil = 0
  cores_nodes (e ◃ es) = core_nodes e + cores_nodes es

-- The kept nodes of a record's fields.
unfoldable pub field_nodes : List (Field × Core) → ℕ
field_nodes fs = total (λ (f : Field × Core). core_nodes f.1) fs

-- The context of an instance under the names `d_ctx_CLASS_I`, from number i on.
unfoldable pub context_binders : Name → ℕ → List Pred → List Binder
context_binders c i [] = []
context_binders c i (p ∷ ps) = (ctx c i, p) ∷ context_binders c (suc i) ps

-- What an instance may use: its context.
abbrev pub context_givens : Pred → List Pred → List Given
context_givens head context = roots (context_binders head.class 0 context)

-- Nothing is left over: 16 names the first that is.
unfoldable pub all_discharged : List Pred → Steps (Unit {0})
all_discharged [] = λ n. done tt n
all_discharged (p ∷ ps) = λ n. refused (no_instance p) n

-- A pending name, if there is one, gets a dictionary.
unfoldable pub fill_at : Option Binder → Core → Map DictName Core → Map DictName Core
fill_at none e m = m
fill_at (some b) e m = insert dicts (b.0, e) m

-- `sub_map` of a method: only the first of equal predicates is replaced.
unfoldable pub fill_first : List Discharged → Pending → Map DictName Core → Map DictName Core
fill_first [] ps m = m
fill_first (o ∷ os) ps m = fill_first os ps (fill_at (first (λ (b : Binder). is_yes (same_pred b.1 o.0)) ps) o.1 m)

-- One method of an instance against the first signature of its name.
unfoldable pub method_core : ClassEnv → ClassInfo → Subst → List Given → Name → Expr → Run Core
method_core ce ci head-subst givens m body = do
  sig ← lift (or_refuse (unknown_method m) (first (λ (g : Name × Ty). is_yes (same_name g.0 m)) ci.sigs))
  expected-ty ← lift (apply_type head-subst sig.1)
  (s, body-ty, preds, body-core) ← infer_expr ce body
  a ← lift (apply_type s body-ty)
  b ← lift (apply_type s expected-ty)
  s-u ← lift (unify a b)
  s-final ← lift (compose s-u s)
  body-preds ← lift (apply_preds_pending s-final preds)
  (discharged, residual) ← lift (reduce ce givens (preds_of body-preds))
  _ ← lift (all_discharged residual)
  lift (subst_core body-core (fill_first discharged body-preds []))

-- The methods of an instance, in its order.
unfoldable pub method_cores : ClassEnv → ClassInfo → Subst → List Given → List (Name × Expr) → Run (List (Field × Core))
method_cores ce ci head-subst givens [] = pure []
method_cores ce ci head-subst givens (m ∷ ms) = do
  e ← method_core ce ci head-subst givens m.0 m.1
  es ← method_cores ce ci head-subst givens ms
  pure ((method m.0, e) ∷ es)

-- `sub_map` of a default: only predicates of the class itself become `self`.
unfoldable pub selves : Name → Pending → Map DictName Core → Map DictName Core
selves c [] m = m
selves c (b ∷ bs) m = selves c bs (if (is_yes (same_name b.1.class c)) (insert dicts (b.0, cdict self) m) m)

-- A signature that the instance leaves out: its default, inferred anew and not checked against the signature.
unfoldable pub default_core : ClassEnv → ClassInfo → Ty → Name → Run Core
default_core ce ci head_ty m = do
  f ← lift (or_refuse (missing_method ci.name head_ty m) (first (λ (f : Name × Expr). is_yes (same_name f.0 m)) ci.defaults))
  (_, _, preds, e) ← infer_expr ce f.1
  lift (subst_core e (selves ci.name preds []))

-- The defaults that an instance takes, in the order of the signatures.
unfoldable pub default_cores : ClassEnv → ClassInfo → Ty → List (Name × Expr) → List (Name × Ty) → Run (List (Field × Core))
default_cores ce ci head_ty ms [] = pure []
default_cores ce ci head_ty ms (g ∷ gs) = if (any (λ (m : Name × Expr). is_yes (same_name m.0 g.0)) ms)
    (default_cores ce ci head_ty ms gs)
    (do
      e ← default_core ce ci head_ty g.0
      es ← default_cores ce ci head_ty ms gs
      pure ((method g.0, e) ∷ es))

-- A dictionary for each superclass at the head's type, from the context.
unfoldable pub super_cores : ClassEnv → ClassInfo → Ty → List Given → List Name → Steps (List (Field × Core))
super_cores ce ci a givens [] = λ n. done [] n
super_cores ce ci a givens (s ∷ ss) = λ n. after (resolve ce givens (pred s a) n) (λ e m. after (super_cores ce ci a givens ss m) (λ es. done ((super ci.name s, e) ∷ es)))

-- `process_instance_decl`. It first spends its type-tree nodes and, before the overlap test, one for each kept node of
-- its fields. The instance itself is not there yet while its methods are checked.
unfoldable pub process_instance_decl : ClassEnv → InstanceDecl → Run ClassEnv
process_instance_decl ce k = do
  _ ← lift (spend (pred_nodes k.context + size k.head.ty))
  ci ← lift (or_refuse (unknown_class k.head.class) (class_of ce k.head.class))
  own ← method_cores ce ci (singleton ci.tyvar k.head.ty) (context_givens k.head k.context) k.methods
  defaults ← default_cores ce ci k.head.ty k.methods ci.sigs
  supers ← lift (super_cores ce ci k.head.ty (context_givens k.head k.context) ci.supers)
  _ ← lift (spend (field_nodes (own ++ defaults ++ supers)))
  lift (add_instance ce (record { context = k.context; head = k.head; methods = own ++ defaults ++ supers }))

-- Nothing is deferred: 16 names the first that is.
unfoldable pub none_deferred : Pending → Steps (Unit {0})
none_deferred bs = all_discharged (preds_of bs)

-- `process_let_decl`: predicates, then the type. Its core is substituted and renamed, though it is dropped.
unfoldable pub process_let_decl : ClassEnv → Name → Expr → Run Scheme
process_let_decl ce x body = do
  (s, t₀, p₀, e) ← infer_expr ce body
  ps ← lift (apply_preds_pending s p₀)
  u ← lift (apply_type s t₀)
  env ← ask_env
  (scheme, _, deferred) ← lift (generalize_binding ce env u ps e)
  _ ← lift (none_deferred deferred)
  _ ← env_insert x scheme
  pure scheme

-- `check_expr`: the type, then the predicates; no outer Ambiguous test.
unfoldable pub check_expr : ClassEnv → Expr → Run (Qual × Core)
check_expr ce body = do
  (s, t₀, p₀, e) ← infer_expr ce body
  u ← lift (apply_type s t₀)
  ps ← lift (apply_preds_pending s p₀)
  lift (finalize_expr ce u ps e)
