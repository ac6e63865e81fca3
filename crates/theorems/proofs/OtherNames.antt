-- The checker with another renaming of canonical names. Where this changes no answer, whatever the other one does to a
-- list with a named variable, no such list is ever renamed.
use mathlib.Core.Bool.{not}
use mathlib.Core.List.{List, []}
use Rattle.meaning.specs.Base.{keep, first}
use Rattle.meaning.specs.Ast.{TyVar, tyvar_before, Ty, Qual, qual, Scheme, forall, Core}
use Rattle.meaning.specs.Budget.{Steps, ◌>>=◌, pure}
use Rattle.meaning.specs.Map.{Map}
use Rattle.meaning.specs.Subst.{apply_qual, ftv_type, ftv_qual, without}
use Rattle.meaning.specs.Classes.{ClassEnv}
use Rattle.meaning.specs.Reduce.{reduce}
use Rattle.meaning.specs.Cores.{sort_by, as_subst, images, apply_subst_to_core}
use Rattle.meaning.specs.Generalize.{Pending, Env, env_ftv, preds_of, binders_of, simplified, is_own, is_ambiguous, unless_ambiguous}

-- In place of `canonical_renamer`.
abbrev pub Renamer : Type 0
Renamer = List TyVar → Map TyVar TyVar

-- `canonical_scheme_and_core` with it.
unfoldable pub scheme_by : Renamer → List TyVar → Qual → Core → Steps (Scheme × Core)
scheme_by ren vs q e = do
  q₁ ← apply_qual (as_subst (ren vs)) q
  e₁ ← apply_subst_to_core (as_subst (ren vs)) e
  pure (forall (sort_by tyvar_before (images (ren vs))) q₁, e₁)

-- `canonicalize_pair` with it.
unfoldable pub pair_by : Renamer → Qual → Core → Steps (Qual × Core)
pair_by ren q e = do
  q₁ ← apply_qual (as_subst (ren (ftv_qual q))) q
  e₁ ← apply_subst_to_core (as_subst (ren (ftv_qual q))) e
  pure (q₁, e₁)

-- `generalize_binding` with it.
unfoldable pub generalize_by : Renamer → ClassEnv → Env → Ty → Pending → Core → Steps (Scheme × Core × Pending)
generalize_by ren ce env ty pending e = do
  (discharged, residual) ← reduce ce [] (preds_of pending)
  let own = is_own (ftv_type ty []) (env_ftv env)
  let found = binders_of residual pending
  (kept, e₁) ← simplified ce pending e (keep own found) discharged
  let q = qual (preds_of kept) ty
  _ ← unless_ambiguous (first (is_ambiguous (ftv_type ty []) (env_ftv env)) (preds_of kept))
  (scheme, e₂) ← scheme_by ren (without (ftv_qual q) (env_ftv env)) q e₁
  pure (scheme, e₂, keep (λ b. not (own b)) found)

-- `finalize_expr` with it.
unfoldable pub finalize_by : Renamer → ClassEnv → Ty → Pending → Core → Steps (Qual × Core)
finalize_by ren ce ty pending e = do
  (discharged, residual) ← reduce ce [] (preds_of pending)
  (kept, e₁) ← simplified ce pending e (binders_of residual pending) discharged
  pair_by ren (qual (preds_of kept) ty) e₁
