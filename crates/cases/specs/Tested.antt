-- What the programs test of the names and the types of a case.
use Rattle.std.specs.Prelude.{◌≡◌, List, ℕ, ◌+◌, ◌*◌, ◌<◌, ◌≤◌, length}
use Rattle.names.specs.Names.{row, first_node}
use Rattle.ast.specs.Table.{shape_of, cell_of, ShapeBelow, CellBelow, Node}

-- Two names of the table differ.
pub record Apart (ns : List ℕ) (i j : ℕ) : Type 0 where
  pub differ : 4 * i + 3 < length ns → 4 * j + 3 < length ns → row ns i ≡ row ns j → ⊥

-- The names before name i differ from it.
pub record New (ns : List ℕ) (i : ℕ) : Type 0 where
  pub apart : (j : ℕ) → j < i → Apart ns i j

-- What node n refers to lies below it.
pub record Falls (w : List ℕ) (n : ℕ) : Type 0 where
  pub shape : ShapeBelow (first_node + n) (shape_of w (first_node + n))
  pub cell : CellBelow (first_node + n) (cell_of w (first_node + n))

-- Two types of a table, and n words, of which there are enough for the table and the steps.
pub record Fits (w : List ℕ) (n top left s t : ℕ) : Type 0 where
  pub first : Node w top s
  pub second : Node w top t
  pub room : 4 * top + 8 * left ≤ n
