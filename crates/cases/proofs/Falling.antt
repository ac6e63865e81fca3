-- Nodes that were tested one by one are a table, and a case that was tested is one.
use mathlib.Core.Path.{◌≡◌}
use mathlib.Core.Bool.{false}
use mathlib.Core.List.{List}
use Prim.Native.Nat.{ℕ, ◌+◌, ◌*◌, ◌<◌, ◌≤◌}
use lib.Dec.{leb}
use lib.ListN.{length}
use borrow.Author.Tests.{leb-false}
use Rattle.names.specs.Names.{first_node}
use Rattle.ast.specs.declared.Shape.{Shape}
use Rattle.ast.specs.declared.Shape.TheVariants.{Var, Con, Arrow}
use Rattle.ast.specs.declared.Cell.{Cell}
use Rattle.ast.specs.declared.Cell.TheVariants.{Nil, Cons}
use Rattle.ast.specs.Table.{shape_of, cell_of, ShapeBelow, CellBelow, Table}
use Rattle.cases.specs.Tested.{Falls, Fits}

-- A variable refers to nothing.
pub var_falls : (s : Shape) (x t : ℕ) → s ≡ Var x → ShapeBelow t s
var_falls s x t e = rw e tt

-- A constructor refers to the list of its arguments.
pub con_falls : (s : Shape) (c l t : ℕ) → s ≡ Con c l → leb t l ≡ false → ShapeBelow t s
con_falls s c l t e h = rw e (leb-false t l h)

-- An arrow refers to its sides.
pub arrow_falls : (s : Shape) (a b t : ℕ) → s ≡ Arrow a b → a < t → leb t b ≡ false → ShapeBelow t s
arrow_falls s a b t e h k = rw e (h, leb-false t b k)

-- The empty list refers to nothing.
pub nil_falls : (l : Cell) (t : ℕ) → l ≡ Nil → CellBelow t l
nil_falls l t e = rw e tt

-- Another one refers to its first type and to the rest.
pub cons_falls : (l : Cell) (a b t : ℕ) → l ≡ Cons a b → a < t → leb t b ≡ false → CellBelow t l
cons_falls l a b t e h k = rw e (h, leb-false t b k)

-- A node that was looked at both ways.
pub falls : (w : List ℕ) (n : ℕ) (s : Shape) (l : Cell) → s ≡ shape_of w (first_node + n) → l ≡ cell_of w (first_node + n)
    → ShapeBelow (first_node + n) s → CellBelow (first_node + n) l → Falls w n
falls w n s l d e f g = record { shape = rw d at f; cell = rw e at g }

-- Nodes each of which refers to lower words are a table.
pub all_fall : (w : List ℕ) (top : ℕ) → 4 * top ≤ length w → top ≤ first_node → ((n : ℕ) → n < top → Falls w n) → Table w top
all_fall w top r s f = record { room = r; small = s; shapes = λ n h. (f n h).shape; cells = λ n h. (f n h).cell }

-- Two types of a table, with the room that was tested.
pub all_fits : (w : List ℕ) (n top left s t : ℕ) → Table w top → s < first_node + top → t < first_node + top → 4 * top + 8 * left ≤ n → Fits w n top left s t
all_fits w n top left s t T h k r = record { first = record { table = T; below = h }; second = record { table = T; below = k }; room = r }
