-- What the program tests of a scheme.
use Rattle.std.specs.Prelude.{List, ℕ, ◌+◌, ◌≤◌}
use Rattle.meaning.specs.Base.{count}
use Rattle.meaning.specs.Ast.{TyVar}
use Rattle.ast.specs.Table.{tree, list, Node}
use Rattle.free.specs.Free.{free_type, free_types}
use Rattle.cases.specs.Tested.{Fits}

-- The types of the list l have at most so many variables.
pub record FewIn (w : List ℕ) (l most : ℕ) : Type 0 where
  pub is : (ns : List ℕ) (vs out : List TyVar) → count (free_types vs (list ns w l) out) ≤ count out + most

-- The type t has.
pub record FewOf (w : List ℕ) (t most : ℕ) : Type 0 where
  pub is : (ns : List ℕ) (vs out : List TyVar) → count (free_type vs (tree ns w t) out) ≤ count out + most

-- A list vs of variables, a list ps of predicates and a type t, the last two with at most two variables each, and n words:
-- enough for the table, the steps and 16 words more.
pub record Schemed (w : List ℕ) (n top left vs ps t : ℕ) : Type 0 where
  pub fits : Fits w n top (left + 2) ps t
  pub vars : Node w top vs
  pub preds : FewIn w ps 2
  pub ty : FewOf w t 2
