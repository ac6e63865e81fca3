-- What the programs test of their words before they resolve, reduce or test for overlap.
use Rattle.std.specs.Prelude.{List, ℕ, ◌+◌, ◌<◌, ◌≤◌}
use Rattle.meaning.specs.Base.{count}
use Rattle.names.specs.Names.{first_node}
use Rattle.ast.specs.Table.{cell_of}
use Rattle.subst.specs.Preds.{preds_of_word}
use Rattle.instances.specs.Accepted.{NotNil, Heads}
use Rattle.cases.specs.Tested.{Fits}

-- The list l has at most so many predicates.
pub record Short (w : List ℕ) (l most : ℕ) : Type 0 where
  pub is : (ns : List ℕ) → count (preds_of_word ns w l) ≤ most

-- The word l is below the table's end and a list with a first element.
pub record Headed (w : List ℕ) (top l : ℕ) : Type 0 where
  pub below : l < first_node + top
  pub cell : NotNil (cell_of w l)

-- n words of which there are enough, the words il of instances, the list l of the context of a head of class h, and the
-- type t of the goal or of the new head.
pub record Posed (w : List ℕ) (n : ℕ) (il : List ℕ) (top left h l t : ℕ) : Type 0 where
  pub fits : Fits w n top left l t
  pub heads : Heads w top il
  pub short : Short w l 64
  pub named : h < 65536
