-- 001, classes.rs: reduce and simplify_context.
use Rattle.std.specs.Prelude.{Bool, true, false, ◌&&◌, List, [], ◌∷◌, ◌++◌, map}
use Rattle.std.proofs.Math.Option.{Option, none, some}
use Rattle.meaning.specs.Base.{is_yes, if, any}
use Rattle.meaning.specs.Ast.{DictName, Ty, var, con, arrow, Pred, same_pred, Core, cvar, cdict, cint, cbool, cabs, capp, clet, dict_abs, dict_app, dict_proj, dict_rec, Binder}
use Rattle.meaning.specs.Budget.{Steps, ◌>>=◌, pure}
use Rattle.meaning.specs.Classes.{ClassEnv, Given, resolve, resolve_from_givens, from_givens}

-- A predicate, and the dictionary that was found for it.
abbrev pub Discharged : Type 0
Discharged = Pred × Core

-- A binder's name, and the dictionary that replaces it.
abbrev pub Removed : Type 0
Removed = DictName × Core

-- `is_head_normal`: the type is a variable.
unfoldable pub is_head_normal : Ty → Bool
is_head_normal (var x) = true
is_head_normal (con c ts) = false
is_head_normal (arrow a b) = false

-- The predicate is in the list (`contains`).
unfoldable pub contains : List Pred → Pred → Bool
contains ps p = any (λ q. is_yes (same_pred q p)) ps

-- What has been discharged, and what is left, after one more predicate: each residual once.
unfoldable pub discharge : Pred → Option Core → List Discharged × List Pred → List Discharged × List Pred
discharge p (some e) o = (o.0 ++ ((p, e) ∷ []), o.1)
discharge p none o = (o.0, if (contains o.1 p) o.1 (o.1 ++ (p ∷ [])))

-- A variable-typed predicate is looked for in the givens alone and may stay; any other must resolve.
unfoldable pub reduce_one : ClassEnv → List Given → Pred → Steps (Option Core)
reduce_one ce gs p = if (is_head_normal p.ty) (resolve_from_givens ce gs p) (do
  e ← resolve ce gs p
  pure (some e))

-- `reduce`'s loop, with what it has so far.
unfoldable pub reduce_from : ClassEnv → List Given → List Pred → List Discharged × List Pred → Steps (List Discharged × List Pred)
reduce_from ce gs [] o = pure o
reduce_from ce gs (p ∷ ps) o = do
  r ← reduce_one ce gs p
  reduce_from ce gs ps (discharge p r o)

-- `reduce`.
abbrev pub reduce : ClassEnv → List Given → List Pred → Steps (List Discharged × List Pred)
reduce ce gs ps = reduce_from ce gs ps ([], [])

-- `proj != root`: a root is a dictionary's name, and every other entry of its list a projection.
unfoldable pub not_root : Core → Bool
not_root (cvar x) = true
not_root (cdict d) = false
not_root (cint i) = true
not_root (cbool b) = true
not_root (cabs x e) = true
not_root (capp f e) = true
not_root (clet x e f) = true
not_root (dict_abs bs e) = true
not_root (dict_app f es) = true
not_root (dict_proj e m) = true
not_root (dict_rec c a i) = true

-- Binders as dictionaries at hand.
abbrev pub roots : List Binder → List Given
roots bs = map (λ (b : Binder). (cdict b.0, b.1)) bs

-- `find_super_proof`: the first projection of a binder that is the goal.
abbrev pub find_super_proof : ClassEnv → List Binder → Pred → Steps (Option Core)
find_super_proof ce context goal = from_givens ce (roots context) (λ e q. is_yes (same_pred q goal) && not_root e)

-- What is kept and what is removed after one more binder.
unfoldable pub sorted_out : Binder → Option Core → List Binder × List Removed → List Binder × List Removed
sorted_out b (some e) o = (o.0, o.1 ++ ((b.0, e) ∷ []))
sorted_out b none o = (o.0 ++ (b ∷ []), o.1)

-- `simplify_context`'s loop: a binder that the kept ones or the later ones prove is removed, and its replacement is
-- not replaced again: it may name a later binder that is removed in its turn.
unfoldable pub simplify_from : ClassEnv → List Binder → List Binder × List Removed → Steps (List Binder × List Removed)
simplify_from ce [] o = pure o
simplify_from ce (b ∷ bs) o = do
  r ← find_super_proof ce (o.0 ++ bs) b.1
  simplify_from ce bs (sorted_out b r o)

-- `simplify_context`.
abbrev pub simplify_context : ClassEnv → List Binder → Steps (List Binder × List Removed)
simplify_context ce bs = simplify_from ce bs ([], [])
