-- 000's `process_let_decl` and `check_expr`, cut where a part is done: what is left to do then. Each part takes what was inferred
-- (substitution, type, pending predicates, term) as it is by then.
use Rattle.meaning.specs.Ast.{Name, Scheme, Qual, Core}
use Rattle.meaning.specs.Subst.{apply_type, apply_preds_pending}
use Rattle.meaning.specs.Classes.{ClassEnv}
use Rattle.meaning.specs.Generalize.{Pending, generalize_binding, finalize_expr}
use Rattle.meaning.specs.Infer.{Run, ◌>>=◌, pure, lift, ask_env, env_insert, Inferred}
use Rattle.meaning.specs.Declare.{none_deferred}

-- ## A let

-- The scheme goes into the environment.
unfoldable pub let_put : Name → Scheme → Run Scheme
let_put x c = do
  _ ← env_insert x c
  pure c

-- The same if nothing is deferred.
unfoldable pub let_end : Name → Scheme → Pending → Run Scheme
let_end x c ds = do
  _ ← lift (none_deferred ds)
  let_put x c

-- Type, predicates and term are generalized.
unfoldable pub let_general : ClassEnv → Name → Inferred → Run Scheme
let_general ce x r = do
  env ← ask_env
  g ← lift (generalize_binding ce env r.1 r.2 r.3)
  let_end x g.0 g.2

-- The substitution is applied to the type.
unfoldable pub let_typed : ClassEnv → Name → Inferred → Run Scheme
let_typed ce x r = do
  u ← lift (apply_type r.0 r.1)
  let_general ce x (r.0, u, r.2, r.3)

-- And before that to the predicates.
unfoldable pub let_after : ClassEnv → Name → Inferred → Run Scheme
let_after ce x r = do
  ps ← lift (apply_preds_pending r.0 r.2)
  let_typed ce x (r.0, r.1, ps, r.3)

-- ## An expression

-- Type, predicates and term get their last form.
unfoldable pub check_end : ClassEnv → Inferred → Run (Qual × Core)
check_end ce r = lift (finalize_expr ce r.1 r.2 r.3)

-- The substitution is applied to the predicates.
unfoldable pub check_rows : ClassEnv → Inferred → Run (Qual × Core)
check_rows ce r = do
  ps ← lift (apply_preds_pending r.0 r.2)
  check_end ce (r.0, r.1, ps, r.3)

-- And before that to the type.
unfoldable pub check_after : ClassEnv → Inferred → Run (Qual × Core)
check_after ce r = do
  u ← lift (apply_type r.0 r.1)
  check_rows ce (r.0, u, r.2, r.3)
