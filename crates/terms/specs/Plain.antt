-- `subst_core` where no dictionary abstraction binds a name that is replaced: nothing is hidden at one.
use Rattle.std.specs.Prelude.{◌≡◌, List, [], ◌∷◌, ℕ, suc, zero}
use Rattle.std.proofs.Math.Option.{none}
use Rattle.meaning.specs.Ast.{DictName, Core, Cores, cvar, cdict, cint, cbool, cabs, capp, clet, dict_abs, dict_app, dict_proj, dict_rec, cnil, ◌◃◌, Binder}
use Rattle.meaning.specs.Errors.{too_deep}
use Rattle.meaning.specs.Budget.{Steps, ◌>>=◌, pure, refuse, step}
use Rattle.meaning.specs.Map.{Map, dicts, get}
use Rattle.meaning.specs.Cores.{each_core, or_core}

-- The walk at a node; `f` goes one deeper. It is `subst_node` but for the dictionary abstraction.
unfoldable pub plain_node : (Core → Steps Core) → Map DictName Core → Core → Steps Core
plain_node f sub (cvar x) = pure (cvar x)
plain_node f sub (cdict d) = pure (or_core (cdict d) (get dicts d sub))
plain_node f sub (cint i) = pure (cint i)
plain_node f sub (cbool b) = pure (cbool b)
plain_node f sub (cabs x e) = do
  u ← f e
  pure (cabs x u)
plain_node f sub (capp g e) = do
  u ← f g
  v ← f e
  pure (capp u v)
plain_node f sub (clet x e₁ e₂) = do
  u ← f e₁
  v ← f e₂
  pure (clet x u v)
plain_node f sub (dict_abs bs e) = do
  u ← f e
  pure (dict_abs bs u)
plain_node f sub (dict_app g es) = do
  u ← f g
  us ← each_core f es
  pure (dict_app u us)
plain_node f sub (dict_proj e m) = do
  u ← f e
  pure (dict_proj u m)
plain_node f sub (dict_rec c a i) = pure (dict_rec c a i)

-- The walk with so much depth left: one step a core node. What replaces a name is not walked.
unfoldable pub plain_in : ℕ → Map DictName Core → Core → Steps Core
plain_in zero sub e = refuse too_deep
plain_in (suc k) sub e = step (plain_node (λ u. plain_in k sub u) sub e)

-- None of the binders' names is replaced.
unfoldable pub NotReplaced : List Binder → Map DictName Core → Type 0
NotReplaced [] sub = Unit {0}
NotReplaced (b ∷ bs) sub = (get dicts b.0 sub ≡ none) × NotReplaced bs sub

-- No dictionary abstraction in a term binds a name that is replaced; records are not entered.
unfoldable mutual
  pub Apart : Core → Map DictName Core → Type 0
  Apart (cvar x) sub = Unit {0}
  Apart (cdict d) sub = Unit {0}
  Apart (cint i) sub = Unit {0}
  Apart (cbool b) sub = Unit {0}
  Apart (cabs x e) sub = Apart e sub
  Apart (capp g e) sub = Apart g sub × Apart e sub
  Apart (clet x e₁ e₂) sub = Apart e₁ sub × Apart e₂ sub
  Apart (dict_abs bs e) sub = NotReplaced bs sub × Apart e sub
  Apart (dict_app g es) sub = Apart g sub × AllApart es sub
  Apart (dict_proj e m) sub = Apart e sub
  Apart (dict_rec c a i) sub = Unit {0}

  -- The same of each term of a list.
  pub AllApart : Cores → Map DictName Core → Type 0
  AllApart cnil sub = Unit {0}
  AllApart (e ◃ es) sub = Apart e sub × AllApart es sub
