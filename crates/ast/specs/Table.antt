-- How words stand for types. The words are those of a closed table and then those of the lent buffer. Node n is the four
-- words from 4 * n on: a tag, two fields, and one for later use.
use Rattle.std.specs.Prelude.{◌≡◌, List, Bool, true, false, ℕ, zero, suc, ◌+◌, ◌*◌, ◌-◌, ◌<◌, ◌≤◌, length, get_or, set}
use Rattle.meaning.specs.Ast.{called, Ty, Tys, var, con, arrow, nil, ◌◂◌, count_tys}
use Rattle.names.specs.Names.{first_node, kind_of, name_of, tyvar_of}
use Rattle.names.specs.declared.Kind.{Kind}
use Rattle.names.specs.declared.Kind.TheVariants.{Node as A-Node, Named, Fresh, Nullary}
use Rattle.ast.specs.declared.Shape.{Shape}
use Rattle.ast.specs.declared.Shape.TheVariants.{Var, Con, Arrow}
use Rattle.ast.specs.declared.Cell.{Cell}
use Rattle.ast.specs.declared.Cell.TheVariants.{Nil, Cons}

-- What a node's words say: tag 1 a constructor and its arguments, 2 an arrow; any other is taken for a variable.
abbrev pub shape : ℕ → ℕ → ℕ → ℕ → Shape
shape t zero a b = Var t
shape t (suc zero) a b = Con a b
shape t (suc (suc zero)) a b = Arrow a b
shape t (suc (suc (suc tag))) a b = Var t

-- What a list's words say: tag 3 a first type and the rest; any other is the empty list.
abbrev pub cell : ℕ → ℕ → ℕ → Cell
cell zero a b = Nil
cell (suc zero) a b = Nil
cell (suc (suc zero)) a b = Nil
cell (suc (suc (suc zero))) a b = Cons a b
cell (suc (suc (suc (suc tag)))) a b = Nil

-- The word of an empty list: it names no node.
abbrev pub nil_word : ℕ
nil_word = 0

-- What a type's word says, by its kind.
abbrev pub shape_at : List ℕ → ℕ → Kind → Shape
shape_at w t (A-Node n) = shape t (get_or w (4 * n) 0) (get_or w (4 * n + 1) 0) (get_or w (4 * n + 2) 0)
shape_at w t (Named i) = Var t
shape_at w t (Fresh k) = Var t
shape_at w t (Nullary i) = Con i nil_word

unfoldable pub shape_of : List ℕ → ℕ → Shape
shape_of w t = shape_at w t (kind_of t)

-- What a list's word says, by its kind.
abbrev pub cell_at : List ℕ → Kind → Cell
cell_at w (A-Node n) = cell (get_or w (4 * n) 0) (get_or w (4 * n + 1) 0) (get_or w (4 * n + 2) 0)
cell_at w (Named i) = Nil
cell_at w (Fresh k) = Nil
cell_at w (Nullary i) = Nil

unfoldable pub cell_of : List ℕ → ℕ → Cell
cell_of w l = cell_at w (kind_of l)

abbrev pub of_shape : List ℕ → (ℕ → Ty) → (ℕ → Tys) → Shape → Ty
of_shape ns ty tys (Var x) = var (tyvar_of ns x)
of_shape ns ty tys (Con c l) = con (name_of ns c) (tys l)
of_shape ns ty tys (Arrow a b) = arrow (ty a) (ty b)

abbrev pub of_cell : (ℕ → Ty) → (ℕ → Tys) → Cell → Tys
of_cell ty tys Nil = nil
of_cell ty tys (Cons a b) = ty a ◂ tys b

unfoldable mutual
  pub tree_f : ℕ → List ℕ → List ℕ → ℕ → Ty
  tree_f zero ns w t = var (tyvar_of ns t)
  tree_f (suc f) ns w t = of_shape ns (λ m. tree_f f ns w m) (λ m. list_f f ns w m) (shape_of w t)

  pub list_f : ℕ → List ℕ → List ℕ → ℕ → Tys
  list_f zero ns w l = nil
  list_f (suc f) ns w l = of_cell (λ m. tree_f f ns w m) (λ m. list_f f ns w m) (cell_of w l)

-- The type that a word stands for under the names ns, and the list of types.
unfoldable pub tree : List ℕ → List ℕ → ℕ → Ty
tree ns w t = tree_f (suc t) ns w t

unfoldable pub list : List ℕ → List ℕ → ℕ → Tys
list ns w l = list_f (suc l) ns w l

-- What a word refers to lies below it.
abbrev pub ShapeBelow : ℕ → Shape → Type 0
ShapeBelow t (Var x) = Unit {0}
ShapeBelow t (Con c l) = l < t
ShapeBelow t (Arrow a b) = (a < t) × (b < t)

abbrev pub CellBelow : ℕ → Cell → Type 0
CellBelow t Nil = Unit {0}
CellBelow t (Cons a b) = (a < t) × (b < t)

-- The first top nodes of w are there, and each refers only to words below its own.
pub record Table (w : List ℕ) (top : ℕ) : Type 0 where
  pub room : 4 * top ≤ length w
  pub small : top ≤ first_node
  pub shapes : (n : ℕ) → n < top → ShapeBelow (first_node + n) (shape_of w (first_node + n))
  pub cells : (n : ℕ) → n < top → CellBelow (first_node + n) (cell_of w (first_node + n))

-- A word of a table: no node, or one of its nodes.
pub record Node (w : List ℕ) (top t : ℕ) : Type 0 where
  pub table : Table w top
  pub below : t < first_node + top

-- The words of the first top nodes of w stand in w' too.
pub record Kept (w w' : List ℕ) (top : ℕ) : Type 0 where
  pub at : (i : ℕ) → i < 4 * top → get_or w' i 0 ≡ get_or w i 0

-- w with a tag and two fields as node top.
unfoldable pub pushed : List ℕ → ℕ → ℕ → ℕ → ℕ → List ℕ
pushed w top tag a b = set (set (set w (4 * top) tag) (4 * top + 1) a) (4 * top + 2) b

-- How many types a list's word stands for; no more than its node's number and one.
pub record Counted (ns w : List ℕ) (l r : ℕ) : Type 0 where
  pub is : r ≡ count_tys (list ns w l)
  pub most : r ≤ l + 1 - first_node

-- The answer says whether two lists of types are equal.
abbrev pub SameTys : Tys → Tys → Bool → Type 0
SameTys xs ys true = xs ≡ ys
SameTys xs ys false = xs ≡ ys → ⊥

-- A table of names that begins with those of the two built-in types.
pub record BuiltIn (ns : List ℕ) : Type 0 where
  pub int_name : name_of ns 0 ≡ called "Int"
  pub bool_name : name_of ns 1 ≡ called "Bool"

-- The word t is no node, and stands for the type u over any words.
pub record Stands (t : ℕ) (u : Ty) : Type 0 where
  pub low : t < first_node
  pub is : (ns w : List ℕ) → BuiltIn ns → tree ns w t ≡ u
