-- 000, infer.rs: generalize_binding and finalize_expr.
use Rattle.std.specs.Prelude.{Bool, not, ◌&&◌, ◌||◌, List, [], ◌∷◌, ◌++◌, map}
use Rattle.std.proofs.Math.Option.{Option, none, some}
use Rattle.meaning.specs.Base.{is_yes, if, any, keep, first}
use Rattle.meaning.specs.Ast.{Name, TyVar, DictName, same_dict, Ty, Pred, same_pred, Qual, qual, Scheme, Core, cdict, dict_abs, Binder}
use Rattle.meaning.specs.Errors.{ambiguous}
use Rattle.meaning.specs.Budget.{Steps, ◌>>=◌, pure, refuse}
use Rattle.meaning.specs.Map.{Map, dicts, tyvars, insert, elem}
use Rattle.meaning.specs.Subst.{ftv_type, ftv_qual, ftv_scheme, without}
use Rattle.meaning.specs.Classes.{ClassEnv}
use Rattle.meaning.specs.Reduce.{Discharged, Removed, reduce, simplify_context}
use Rattle.meaning.specs.Cores.{subst_core, canonical_scheme_and_core, canonicalize_pair}

-- Predicates that wait for a dictionary, each with the name that stands for it.
abbrev pub Pending : Type 0
Pending = List Binder

-- `Env`: schemes in the byte order of the names.
abbrev pub Env : Type 0
Env = Map Name Scheme

-- `env_ftv`.
unfoldable pub env_ftv : Env → List TyVar
env_ftv [] = []
env_ftv (p ∷ env) = ftv_scheme p.1 ++ env_ftv env

-- The predicates of some binders.
abbrev pub preds_of : Pending → List Pred
preds_of bs = map (λ (b : Binder). b.1) bs

-- Every pending name of that predicate gets this dictionary.
unfoldable pub fill_equal : Discharged → Pending → Map DictName Core → Map DictName Core
fill_equal o [] m = m
fill_equal o (b ∷ bs) m = fill_equal o bs (if (is_yes (same_pred b.1 o.0)) (insert dicts (b.0, o.1) m) m)

-- For each predicate that reduce discharged.
unfoldable pub fill_discharged : List Discharged → Pending → Map DictName Core → Map DictName Core
fill_discharged [] ps m = m
fill_discharged (o ∷ os) ps m = fill_discharged os ps (fill_equal o ps m)

-- The first pending binder of a residual predicate.
unfoldable pub with_first : Option Binder → Pred → Pending → Pending
with_first none p rest = rest
with_first (some b) p rest = (b.0, p) ∷ rest

-- A binder for each residual predicate.
unfoldable pub binders_of : List Pred → Pending → Pending
binders_of [] ps = []
binders_of (p ∷ residual) ps = with_first (first (λ (b : Binder). is_yes (same_pred b.1 p)) ps) p (binders_of residual ps)

-- Every other pending name of a binder's predicate becomes the binder's name.
unfoldable pub fill_alias : Binder → Pending → Map DictName Core → Map DictName Core
fill_alias b [] m = m
fill_alias b (c ∷ cs) m = fill_alias b cs (if (is_yes (same_pred c.1 b.1) && not (is_yes (same_dict c.0 b.0))) (insert dicts (c.0, cdict b.0) m) m)

-- For each binder.
unfoldable pub fill_aliases : List Binder → Pending → Map DictName Core → Map DictName Core
fill_aliases [] ps m = m
fill_aliases (b ∷ bs) ps m = fill_aliases bs ps (fill_alias b ps m)

-- What simplify_context removed.
unfoldable pub fill_removed : List Removed → Map DictName Core → Map DictName Core
fill_removed [] m = m
fill_removed (r ∷ rs) m = fill_removed rs (insert dicts r m)

-- A term over its binders, if there are any.
unfoldable pub abstracted : List Binder → Core → Core
abstracted [] e = e
abstracted (b ∷ bs) e = dict_abs (b ∷ bs) e

-- What generalize_binding and finalize_expr have in common: `sub_map`, the kept binders, and the term over them.
unfoldable pub simplified : ClassEnv → Pending → Core → List Binder → List Discharged → Steps (List Binder × Core)
simplified ce pending e binders discharged = do
  (kept, removed) ← simplify_context ce binders
  e₁ ← subst_core e (fill_removed removed (fill_aliases binders pending (fill_discharged discharged pending [])))
  pure (kept, abstracted kept e₁)

-- A residual predicate stays with the binding if it shares a variable with the type or has one that the environment
-- has not; else it is deferred.
unfoldable pub is_own : List TyVar → List TyVar → Binder → Bool
is_own ty-ftv env b = any (λ v. elem tyvars v ty-ftv) (ftv_type b.1.ty []) || any (λ v. not (elem tyvars v env)) (ftv_type b.1.ty [])

-- The predicate has a variable that neither the type nor the environment has.
unfoldable pub is_ambiguous : List TyVar → List TyVar → Pred → Bool
is_ambiguous ty-ftv env p = any (λ v. not (elem tyvars v ty-ftv) && not (elem tyvars v env)) (ftv_type p.ty [])

-- 17 names the first kept predicate that holds an ambiguous variable.
unfoldable pub unless_ambiguous : Option Pred → Steps (Unit {0})
unless_ambiguous none = pure tt
unless_ambiguous (some p) = refuse (ambiguous p)

-- `generalize_binding`: the scheme, the term, and what is deferred.
unfoldable pub generalize_binding : ClassEnv → Env → Ty → Pending → Core → Steps (Scheme × Core × Pending)
generalize_binding ce env ty pending e = do
  (discharged, residual) ← reduce ce [] (preds_of pending)
  let own = is_own (ftv_type ty []) (env_ftv env)
  let found = binders_of residual pending
  (kept, e₁) ← simplified ce pending e (keep own found) discharged
  let q = qual (preds_of kept) ty
  _ ← unless_ambiguous (first (is_ambiguous (ftv_type ty []) (env_ftv env)) (preds_of kept))
  (scheme, e₂) ← canonical_scheme_and_core (without (ftv_qual q) (env_ftv env)) q e₁
  pure (scheme, e₂, keep (λ b. not (own b)) found)

-- `finalize_expr`: nothing is deferred, and there is no Ambiguous test.
unfoldable pub finalize_expr : ClassEnv → Ty → Pending → Core → Steps (Qual × Core)
finalize_expr ce ty pending e = do
  (discharged, residual) ← reduce ce [] (preds_of pending)
  (kept, e₁) ← simplified ce pending e (binders_of residual pending) discharged
  canonicalize_pair (qual (preds_of kept) ty) e₁
