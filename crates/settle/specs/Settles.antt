-- What `generalize_binding` and `finalize_expr` do before the canonical names: pending predicates are reduced, those that
-- stay are simplified, and their dictionaries replace names in the term.
use Rattle.std.specs.Prelude.{Bool, not, List, []}
use Rattle.meaning.specs.Base.{keep, first}
use Rattle.meaning.specs.Ast.{Ty, Qual, qual, Scheme, Core, Binder}
use Rattle.meaning.specs.Budget.{Steps, ◌>>=◌, pure}
use Rattle.meaning.specs.Subst.{ftv_type, ftv_qual, without}
use Rattle.meaning.specs.Classes.{ClassEnv}
use Rattle.meaning.specs.Reduce.{reduce, simplify_context}
use Rattle.meaning.specs.Cores.{subst_core, canonical_scheme_and_core, canonicalize_pair}
use Rattle.meaning.specs.Generalize.{Pending, Env, env_ftv, preds_of, fill_discharged, binders_of, fill_aliases, fill_removed, abstracted, is_ambiguous, unless_ambiguous}

-- The kept binders, the term with names replaced, and what is deferred; `own` says which binders are not deferred.
unfoldable pub settled : ClassEnv → (Binder → Bool) → Pending → Core → Steps (List Binder × Core × Pending)
settled ce own pending e = do
  (discharged, residual) ← reduce ce [] (preds_of pending)
  let found = binders_of residual pending
  (kept, removed) ← simplify_context ce (keep own found)
  e₁ ← subst_core e (fill_removed removed (fill_aliases (keep own found) pending (fill_discharged discharged pending [])))
  pure (kept, e₁, keep (λ b. not (own b)) found)

-- What `generalize_binding` does then: the test for ambiguous predicates, and canonical names.
unfoldable pub generalized : Env → Ty → List Binder × Core × Pending → Steps (Scheme × Core × Pending)
generalized env ty r = do
  let q = qual (preds_of r.0) ty
  _ ← unless_ambiguous (first (is_ambiguous (ftv_type ty []) (env_ftv env)) (preds_of r.0))
  (scheme, e₂) ← canonical_scheme_and_core (without (ftv_qual q) (env_ftv env)) q (abstracted r.0 r.1)
  pure (scheme, e₂, r.2)

-- What `finalize_expr` does then.
unfoldable pub finalized : Ty → List Binder × Core × Pending → Steps (Qual × Core)
finalized ty r = canonicalize_pair (qual (preds_of r.0) ty) (abstracted r.0 r.1)
