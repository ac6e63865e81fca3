-- 002, subst.rs: substitutions, what they do to types, and free variables.
use Rattle.std.specs.Prelude.{Bool, false, not, ◌||◌, List, [], ◌∷◌, ℕ, suc, zero}
use Rattle.std.proofs.Math.Option.{Option, none, some}
use Rattle.meaning.specs.Base.{is_yes, if, null, keep}
use Rattle.meaning.specs.Ast.{TyVar, same_tyvar, Ty, Tys, var, con, arrow, nil, ◌◂◌, same_ty, Pred, pred, Qual, qual, Scheme, forall, Binder}
use Rattle.meaning.specs.Errors.{too_deep, unification_failure}
use Rattle.meaning.specs.Budget.{Steps, ◌>>=◌, pure, refuse, step, depth}
use Rattle.meaning.specs.Map.{Map, tyvars, get, remove, or_insert, elem}

-- `Subst`: pairs in the byte order of the variables.
abbrev pub Subst : Type 0
Subst = Map TyVar Ty

-- `Subst::empty`.
abbrev pub empty : Subst
empty = []

-- `Subst::singleton`.
abbrev pub singleton : TyVar → Ty → Subst
singleton v u = (v, u) ∷ []

-- A variable's type, or the variable itself.
unfoldable pub or_var : TyVar → Option Ty → Ty
or_var x none = var x
or_var x (some u) = u

-- What a substitution says of a variable.
abbrev pub look : Subst → TyVar → Ty
look s x = or_var x (get tyvars x s)

-- Each type of a list, left to right.
unfoldable pub each : (Ty → Steps Ty) → Tys → Steps Tys
each f nil = pure nil
each f (a ◂ ts) = do
  u ← f a
  us ← each f ts
  pure (u ◂ us)

-- `apply_type` at a node; `f` goes one deeper.
unfoldable pub apply_node : (Ty → Steps Ty) → Subst → Ty → Steps Ty
apply_node f s (var x) = pure (look s x)
apply_node f s (con c ts) = do
  us ← each f ts
  pure (con c us)
apply_node f s (arrow a b) = do
  u ← f a
  v ← f b
  pure (arrow u v)

-- `apply_type` with so much depth left: one step a type node. What replaces a variable is not walked.
unfoldable pub apply_in : ℕ → Subst → Ty → Steps Ty
apply_in zero s a = refuse too_deep
apply_in (suc k) s a = step (apply_node (λ u. apply_in k s u) s a)

-- `apply_type`.
abbrev pub apply_type : Subst → Ty → Steps Ty
apply_type s a = apply_in depth s a

-- `apply_pred`.
unfoldable pub apply_pred : Subst → Pred → Steps Pred
apply_pred s p = do
  u ← apply_type s p.ty
  pure (pred p.class u)

-- `apply_preds`.
unfoldable pub apply_preds : Subst → List Pred → Steps (List Pred)
apply_preds s [] = pure []
apply_preds s (p ∷ ps) = do
  q ← apply_pred s p
  qs ← apply_preds s ps
  pure (q ∷ qs)

-- `apply_preds_pending` of 000.
unfoldable pub apply_preds_pending : Subst → List Binder → Steps (List Binder)
apply_preds_pending s [] = pure []
apply_preds_pending s (b ∷ bs) = do
  q ← apply_pred s b.1
  qs ← apply_preds_pending s bs
  pure ((b.0, q) ∷ qs)

-- `apply_qual`: predicates, then the type.
unfoldable pub apply_qual : Subst → Qual → Steps Qual
apply_qual s q = do
  ps ← apply_preds s q.preds
  u ← apply_type s q.ty
  pure (qual ps u)

-- `self` applied to each type of `other`, in byte order.
unfoldable pub apply_values : Subst → Subst → Steps Subst
apply_values self [] = pure []
apply_values self (p ∷ other) = do
  u ← apply_type self p.1
  rest ← apply_values self other
  pure ((p.0, u) ∷ rest)

-- `self.compose(other)`: first `other`, then `self`.
unfoldable pub compose : Subst → Subst → Steps Subst
compose self other = do
  out ← apply_values self other
  pure (or_insert tyvars out self)

-- A type against what the other substitution has for the same variable.
unfoldable pub agree_at : Ty → Option Ty → Steps (Unit {0})
agree_at v none = pure tt
agree_at v (some w) = if (is_yes (same_ty v w)) (pure tt) (refuse (unification_failure v w))

-- No variable has two types; of several that do the least in byte order is named.
unfoldable pub agree : Subst → Subst → Steps (Unit {0})
agree [] other = pure tt
agree (p ∷ self) other = do
  _ ← agree_at p.1 (get tyvars p.0 other)
  agree self other

-- `self.merge(other)`.
unfoldable pub merge : Subst → Subst → Steps Subst
merge self other = do
  _ ← agree self other
  pure (or_insert tyvars self other)

-- One more variable, once.
unfoldable pub add : TyVar → List TyVar → List TyVar
add x vs = if (elem tyvars x vs) vs (x ∷ vs)

-- `ftv_type`: the variables of a type, each once, before those already found.
unfoldable mutual
  pub ftv_type : Ty → List TyVar → List TyVar
  ftv_type (var x) out = add x out
  ftv_type (con c ts) out = ftv_types ts out
  ftv_type (arrow a b) out = ftv_type b (ftv_type a out)

  pub ftv_types : Tys → List TyVar → List TyVar
  ftv_types nil out = out
  ftv_types (a ◂ ts) out = ftv_types ts (ftv_type a out)

-- `ftv_pred` of each predicate.
unfoldable pub ftv_preds : List Pred → List TyVar → List TyVar
ftv_preds [] out = out
ftv_preds (p ∷ ps) out = ftv_preds ps (ftv_type p.ty out)

-- `ftv_qual`.
unfoldable pub ftv_qual : Qual → List TyVar
ftv_qual q = ftv_preds q.preds (ftv_type q.ty [])

-- The first list without what is in the second.
unfoldable pub without : List TyVar → List TyVar → List TyVar
without vs ws = keep (λ v. not (elem tyvars v ws)) vs

-- `ftv_scheme`.
unfoldable pub ftv_scheme : Scheme → List TyVar
ftv_scheme c = without (ftv_qual c.qual) c.vars

-- A substitution without the variables of a list.
unfoldable pub filtered : List TyVar → Subst → Subst
filtered [] s = s
filtered (v ∷ vs) s = filtered vs (remove tyvars v s)

-- `apply_scheme`; a scheme without free variables costs no step and stays.
unfoldable pub apply_scheme : Subst → Scheme → Steps Scheme
apply_scheme s c = if (null (ftv_scheme c)) (pure c) (do
  q ← apply_qual (filtered c.vars s) c.qual
  pure (forall c.vars q))

-- `occurs`: the variable is one of the type's.
unfoldable mutual
  pub occurs : TyVar → Ty → Bool
  occurs v (var x) = is_yes (same_tyvar v x)
  occurs v (con c ts) = occurs_in v ts
  occurs v (arrow a b) = occurs v a || occurs v b

  pub occurs_in : TyVar → Tys → Bool
  occurs_in v nil = false
  occurs_in v (t ◂ ts) = occurs v t || occurs_in v ts
