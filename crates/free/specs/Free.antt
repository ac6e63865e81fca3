-- Free variables: how they are collected into a list of the table.
use Rattle.std.specs.Prelude.{◌≡◌, List, ℕ, ◌+◌, ◌*◌, ◌≤◌, length}
use Rattle.meaning.specs.Base.{if, count}
use Rattle.meaning.specs.Ast.{TyVar, Ty, Tys, var, con, arrow, nil, ◌◂◌}
use Rattle.meaning.specs.Map.{tyvars, elem}
use Rattle.meaning.specs.Subst.{add}
use Rattle.names.specs.Names.{Names}
use Rattle.ast.specs.Table.{Node}
use Rattle.vars.specs.Vars.{vars_of_word}
use Rattle.pairs.specs.Pairs.{Stands}

-- One more variable, once, unless it is one of vs.
unfoldable pub add_but : List TyVar → TyVar → List TyVar → List TyVar
add_but vs x out = if (elem tyvars x vs) out (add x out)

-- `ftv_type` and `ftv_types`, where the variables of vs are passed over.
unfoldable mutual
  pub free_type : List TyVar → Ty → List TyVar → List TyVar
  free_type vs (var x) out = add_but vs x out
  free_type vs (con c ts) out = free_types vs ts out
  free_type vs (arrow a b) out = free_type vs b (free_type vs a out)

  pub free_types : List TyVar → Tys → List TyVar → List TyVar
  free_types vs nil out = out
  free_types vs (a ◂ ts) out = free_types vs ts (free_type vs a out)

-- The names, and room for a cell for each variable that new has more than old; no step pays for them.
pub record Wants (ns w : List ℕ) (top : ℕ) (old new : List TyVar) : Type 0 where
  pub names : Names ns
  pub room : 4 * (top + count new) ≤ length w + 4 * count old

-- The words became w': the list l has the variables new, and a cell was written for each that old had not. The table
-- below top stands, and so do all words after the new cells.
pub record Collects (ns w w' : List ℕ) (top : ℕ) (old new : List TyVar) (l top' : ℕ) : Type 0 where
  pub is : vars_of_word ns w' l ≡ new
  pub node : Node w' top' l
  pub grows : top' + count old ≡ top + count new
  pub more : top ≤ top'
  pub stands : Stands w w' top (4 * top')
