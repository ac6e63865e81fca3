-- 000's `infer_let` between its two inferences, once `apply_env` is done.
use Rattle.meaning.specs.Ast.{Scheme, Core}
use Rattle.meaning.specs.Subst.{apply_preds_pending}
use Rattle.meaning.specs.Classes.{ClassEnv}
use Rattle.meaning.specs.Generalize.{Pending, generalize_binding}
use Rattle.meaning.specs.Infer.{Run, ◌>>=◌, lift, ask_env, Inferred}

-- The substitution is applied to what is pending, and then the binding is generalized.
unfoldable pub general_rest : ClassEnv → Inferred → Run (Scheme × Core × Pending)
general_rest ce r = do
  ps ← lift (apply_preds_pending r.0 r.2)
  env ← ask_env
  lift (generalize_binding ce env r.1 ps r.3)
