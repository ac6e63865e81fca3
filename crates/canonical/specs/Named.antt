-- What the functions of this crate ask of the words and give. The environment is that of the rows ev in the order od.
use Rattle.std.specs.Prelude.{◌≡◌, Bool, false, List, ℕ, ◌+◌, ◌*◌, ◌≤◌, length, take}
use Rattle.meaning.specs.Base.{count}
use Rattle.meaning.specs.Ast.{TyVar, tyvar_before, Qual, qual}
use Rattle.meaning.specs.Subst.{ftv_qual, without, occurs}
use Rattle.meaning.specs.Cores.{sort_by, canonical_renamer, as_subst}
use Rattle.meaning.specs.Generalize.{Env, env_ftv, preds_of}
use Rattle.theorems.proofs.Made.{MadeQual}
use Rattle.names.specs.Names.{Names}
use Rattle.ast.specs.Table.{nil_word, tree, Node}
use Rattle.vars.specs.Vars.{vars_of_word}
use Rattle.pairs.specs.Pairs.{Stands}
use Rattle.subst.specs.Preds.{preds_of_word}
use Rattle.supers.specs.Rows.{binders_in, Binders}
use Rattle.supers.specs.declared.rows.Row.{Row}
use Rattle.supers.specs.declared.rows.Row.TheVariants.{Pending, Replaced}
use Rattle.rows.specs.BuiltIns.{BuiltIns}
use Rattle.scope.specs.Scope.{env_of, Scope}
use Rattle.rename.specs.Renaming.{Renames}

-- The type t under the predicates of the first n rows.
abbrev pub rows_qual : List ℕ → List ℕ → List ℕ → ℕ → ℕ → Qual
rows_qual ns w bs n t = qual (preds_of (binders_in ns w bs 0 n)) (tree ns w t)

-- The variable occurs in the type of a row, if the row is pending.
abbrev pub row_has : List ℕ → List ℕ → Row → TyVar → Bool
row_has ns w (Pending d c t) v = occurs v (tree ns w t)
row_has ns w (Replaced d e) v = false

-- The type t under the predicates of the list ps.
abbrev pub list_qual : List ℕ → List ℕ → ℕ → ℕ → Qual
list_qual ns w ps t = qual (preds_of_word ns w ps) (tree ns w t)

-- The variables of a qualified type that an environment has not: those that a scheme of it binds.
abbrev pub bound : Qual → Env → List TyVar
bound q env = without (ftv_qual q) (env_ftv env)

-- The free variables of the environment.
abbrev pub free_in : List ℕ → List ℕ → List ℕ → List ℕ → List TyVar
free_in ns w ev od = env_ftv (env_of ns w ev od)

-- An environment.
pub record ReadyVar (ns w ev od : List ℕ) (top : ℕ) : Type 0 where
  pub names : Names ns
  pub scope : Scope ns w ev od top

-- The same with a type or a list of types t.
pub record ReadyType (ns w ev od : List ℕ) (top t : ℕ) : Type 0 where
  pub env : ReadyVar ns w ev od top
  pub node : Node w top t

-- The same with the first n rows of bs.
pub record ReadyRows (ns w ev od bs : List ℕ) (top n t : ℕ) : Type 0 where
  pub type : ReadyType ns w ev od top t
  pub binders : Binders w bs top n

-- The first k words of out are those of the bound variables of least number, in rising order: where all variables were made
-- and the names begin with the built-in ones, giving them the letters is the canonical renaming.
pub record Lettered (ns w : List ℕ) (q : Qual) (env : Env) (out : List ℕ) (k : ℕ) : Type 0 where
  pub most : k ≤ 26
  pub renames : BuiltIns ns → MadeQual q → Renames ns w nil_word 0 (take k out) (as_subst (canonical_renamer (bound q env)))

-- A type t and a list of predicates ps, an environment, and room for a cell for each bound variable; no step pays for them.
pub record ReadyVars (ns w ev od : List ℕ) (top ps t : ℕ) : Type 0 where
  pub type : ReadyType ns w ev od top t
  pub preds : Node w top ps
  pub room : 4 * (top + count (bound (list_qual ns w ps t) (env_of ns w ev od))) ≤ length w

-- The words became w': the list l has the bound variables in byte order, one new cell for each; all other words stand.
pub record Sorted (ns w w' : List ℕ) (q : Qual) (env : Env) (top l top' : ℕ) : Type 0 where
  pub is : vars_of_word ns w' l ≡ sort_by tyvar_before (bound q env)
  pub node : Node w' top' l
  pub grows : top' ≡ top + count (bound q env)
  pub stands : Stands w w' top (4 * top')
