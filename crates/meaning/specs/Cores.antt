-- 000, infer.rs: walks over core terms, and canonical names.
use Rattle.std.specs.Prelude.{Bool, List, [], ◌∷◌, map, ℕ, suc, zero}
use Rattle.std.proofs.Math.Option.{Option, none, some}
use Rattle.meaning.specs.Base.{if, ltb}
use Rattle.meaning.specs.Ast.{TyVar, named, fresh, tyvar_before, letter, DictName, var, Qual, Scheme, forall, Core, Cores, cvar, cdict, cint, cbool, cabs, capp, clet, dict_abs, dict_app, dict_proj, dict_rec, cnil, ◌◃◌, Binder}
use Rattle.meaning.specs.Errors.{too_deep}
use Rattle.meaning.specs.Budget.{Steps, ◌>>=◌, pure, refuse, step, depth}
use Rattle.meaning.specs.Map.{Map, dicts, tyvars, get, insert, remove}
use Rattle.meaning.specs.Subst.{Subst, apply_type, apply_preds_pending, apply_qual, ftv_qual}

-- Each term of a list, left to right.
unfoldable pub each_core : (Core → Steps Core) → Cores → Steps Cores
each_core f cnil = pure cnil
each_core f (a ◃ es) = do
  u ← f a
  us ← each_core f es
  pure (u ◃ us)

-- The term, unless something replaces it.
unfoldable pub or_core : Core → Option Core → Core
or_core e none = e
or_core e (some f) = f

-- A map without the names of some binders.
unfoldable pub hidden : List Binder → Map DictName Core → Map DictName Core
hidden [] sub = sub
hidden (b ∷ bs) sub = hidden bs (remove dicts b.0 sub)

-- `subst_core` at a node; `f` goes one deeper. A record's methods are not entered.
unfoldable pub subst_node : (Map DictName Core → Core → Steps Core) → Map DictName Core → Core → Steps Core
subst_node f sub (cvar x) = pure (cvar x)
subst_node f sub (cdict d) = pure (or_core (cdict d) (get dicts d sub))
subst_node f sub (cint i) = pure (cint i)
subst_node f sub (cbool b) = pure (cbool b)
subst_node f sub (cabs x e) = do
  u ← f sub e
  pure (cabs x u)
subst_node f sub (capp g e) = do
  u ← f sub g
  v ← f sub e
  pure (capp u v)
subst_node f sub (clet x e₁ e₂) = do
  u ← f sub e₁
  v ← f sub e₂
  pure (clet x u v)
subst_node f sub (dict_abs bs e) = do
  u ← f (hidden bs sub) e
  pure (dict_abs bs u)
subst_node f sub (dict_app g es) = do
  u ← f sub g
  us ← each_core (f sub) es
  pure (dict_app u us)
subst_node f sub (dict_proj e m) = do
  u ← f sub e
  pure (dict_proj u m)
subst_node f sub (dict_rec c a i) = pure (dict_rec c a i)

-- `subst_core` with so much depth left: one step a core node.
unfoldable pub subst_in : ℕ → Map DictName Core → Core → Steps Core
subst_in zero sub e = refuse too_deep
subst_in (suc k) sub e = step (subst_node (λ s₁ e₁. subst_in k s₁ e₁) sub e)

-- `subst_core`: names are replaced once, what replaces them is not walked.
abbrev pub subst_core : Core → Map DictName Core → Steps Core
subst_core e sub = subst_in depth sub e

-- `apply_subst_to_core` at a node; `f` goes one deeper.
unfoldable pub apply_core_node : (Core → Steps Core) → Subst → Core → Steps Core
apply_core_node f s (cvar x) = pure (cvar x)
apply_core_node f s (cdict d) = pure (cdict d)
apply_core_node f s (cint i) = pure (cint i)
apply_core_node f s (cbool b) = pure (cbool b)
apply_core_node f s (cabs x e) = do
  u ← f e
  pure (cabs x u)
apply_core_node f s (capp g e) = do
  u ← f g
  v ← f e
  pure (capp u v)
apply_core_node f s (clet x e₁ e₂) = do
  u ← f e₁
  v ← f e₂
  pure (clet x u v)
apply_core_node f s (dict_abs bs e) = do
  cs ← apply_preds_pending s bs
  u ← f e
  pure (dict_abs cs u)
apply_core_node f s (dict_app g es) = do
  u ← f g
  us ← each_core f es
  pure (dict_app u us)
apply_core_node f s (dict_proj e m) = do
  u ← f e
  pure (dict_proj u m)
apply_core_node f s (dict_rec c a i) = do
  u ← apply_type s a
  pure (dict_rec c u i)

-- `apply_subst_to_core` with so much depth left: one step a core node, and one a node of its types.
unfoldable pub apply_core_in : ℕ → Subst → Core → Steps Core
apply_core_in zero s e = refuse too_deep
apply_core_in (suc k) s e = step (apply_core_node (λ u. apply_core_in k s u) s e)

-- `apply_subst_to_core`.
abbrev pub apply_subst_to_core : Subst → Core → Steps Core
apply_subst_to_core s e = apply_core_in depth s e

-- `internal_name_order`: made variables by number, others in byte order. (Only made ones get here.)
unfoldable pub internal_before : TyVar → TyVar → Bool
internal_before (fresh m) (fresh n) = ltb m n
internal_before (fresh m) (named y) = tyvar_before (fresh m) (named y)
internal_before (named x) y = tyvar_before (named x) y

-- A variable put into a list in order.
unfoldable pub put : (TyVar → TyVar → Bool) → TyVar → List TyVar → List TyVar
put before x [] = x ∷ []
put before x (y ∷ ys) = if (before y x) (y ∷ put before x ys) (x ∷ (y ∷ ys))

-- `sort_by`.
unfoldable pub sort_by : (TyVar → TyVar → Bool) → List TyVar → List TyVar
sort_by before [] = []
sort_by before (x ∷ xs) = put before x (sort_by before xs)

-- From the k-th letter on: the 27th variable and later ones keep their names.
unfoldable pub renamer_from : ℕ → List TyVar → Map TyVar TyVar
renamer_from k [] = []
renamer_from k (v ∷ vs) = insert tyvars (v, if (ltb k 26) (letter k) v) (renamer_from (suc k) vs)

-- `canonical_renamer` of variables in their internal order.
unfoldable pub canonical_renamer : List TyVar → Map TyVar TyVar
canonical_renamer vs = renamer_from 0 (sort_by internal_before vs)

-- A renaming as a substitution.
abbrev pub as_subst : Map TyVar TyVar → Subst
as_subst r = map (λ (p : TyVar × TyVar). (p.0, var p.1)) r

-- The new names. They differ from each other, so the Rust's `dedup` removes none.
abbrev pub images : Map TyVar TyVar → List TyVar
images r = map (λ (p : TyVar × TyVar). p.1) r

-- `canonical_scheme_and_core`: predicates, type, then the core.
unfoldable pub canonical_scheme_and_core : List TyVar → Qual → Core → Steps (Scheme × Core)
canonical_scheme_and_core vs q e = do
  q₁ ← apply_qual (as_subst (canonical_renamer vs)) q
  e₁ ← apply_subst_to_core (as_subst (canonical_renamer vs)) e
  pure (forall (sort_by tyvar_before (images (canonical_renamer vs))) q₁, e₁)

-- `canonicalize_pair`.
unfoldable pub canonicalize_pair : Qual → Core → Steps (Qual × Core)
canonicalize_pair q e = do
  q₁ ← apply_qual (as_subst (canonical_renamer (ftv_qual q))) q
  e₁ ← apply_subst_to_core (as_subst (canonical_renamer (ftv_qual q))) e
  pure (q₁, e₁)
