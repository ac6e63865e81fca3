-- A type of the file, as the code shows it.
use Rattle.std.specs.Prelude.{◌≡◌, List, ℕ, zero, suc, ◌+◌, ◌≤◌, length, get_or, Option, Some, None}
use Rattle.std.proofs.Math.Option.{some}
use Rattle.meaning.specs.Base.{nth}
use Rattle.meaning.specs.Ast.{Name, named, Ty, var, con, arrow}
use Rattle.meaning.specs.Reader.{Read, got, bad, from, numeral}
use Rattle.meaning.specs.File.{tys_of, type_node}
use Rattle.reader.specs.Placing.{upto, Placed}
use Rattle.views.specs.declared.TypeNode.{TypeNode}
use Rattle.views.specs.declared.TypeNode.TheVariants.{Var, Con, Arrow}
use Rattle.views.specs.Numbers.{number_at, count_at, Named, NamedAll}

-- A variable, by its name's number.
pub record VarAs (ns : List Name) (t : Ty) (x : ℕ) : Type 0 where
  pub name : Name
  pub named_so : Named ns x name
  pub is : t ≡ var (named name)

-- A constructor's name, and its k arguments from the place p on.
pub record ConAs (bytes : List ℕ) (ns : List Name) (ts : List Ty) (t : Ty) (c p k : ℕ) : Type 0 where
  pub name : Name
  pub arguments : List Ty
  pub named_so : Named ns c name
  pub each : NamedAll bytes ts p k arguments
  pub is : t ≡ con name (tys_of arguments)

-- The two sides of an arrow.
pub record ArrowAs (ts : List Ty) (t : Ty) (a b : ℕ) : Type 0 where
  pub left : Ty
  pub right : Ty
  pub left_so : Named ts a left
  pub right_so : Named ts b right
  pub is : t ≡ arrow left right

-- What the answer says of a type t that stands after the types ts. A type of the file is always a node.
abbrev pub TypeAs : List ℕ → List Name → List Ty → Ty → Option TypeNode → Type 0
TypeAs bytes ns ts t (Some (Var x)) = VarAs ns t x
TypeAs bytes ns ts t (Some (Con c p k)) = ConAs bytes ns ts t c p k
TypeAs bytes ns ts t (Some (Arrow a b)) = ArrowAs ts t a b
TypeAs bytes ns ts t None = ⊥

-- The node at a place by its tag, whatever the file holds.
abbrev pub tagged_node : List ℕ → ℕ → ℕ → Option TypeNode
tagged_node bytes at zero = Some (Var (number_at bytes (at + 1)))
tagged_node bytes at (suc zero) = Some (Con (number_at bytes (at + 1)) (at + 5) (count_at bytes (at + 3)))
tagged_node bytes at (suc (suc zero)) = Some (Arrow (number_at bytes (at + 1)) (number_at bytes (at + 3)))
tagged_node bytes at (suc (suc (suc tag))) = None

-- The node at a place after its tag was read.
abbrev pub node_from : List ℕ → ℕ → Read ℕ → Option TypeNode
node_from bytes at (got tag next rest) = tagged_node bytes at tag
node_from bytes at (bad r) = None

-- The node at a place.
unfoldable pub type_node_in : List ℕ → ℕ → Option TypeNode
type_node_in bytes at = node_from bytes at (numeral 1 at (from at bytes))

-- The node of type i, at its place in the index.
unfoldable pub type_node_at : List ℕ → List ℕ → ℕ → Option TypeNode
type_node_at bytes ix i = type_node_in bytes (get_or ix (2_048 + i) 0)

-- A constructor's arguments begin in the file or just behind it, and are few.
abbrev pub Small : List ℕ → Option TypeNode → Type 0
Small bytes (Some (Var x)) = Unit {0}
Small bytes (Some (Con c p k)) = (p ≤ length bytes + 4) × (k ≤ 64)
Small bytes (Some (Arrow a b)) = Unit {0}
Small bytes None = Unit {0}

-- The node at a place: right for every type that the definition reads there.
pub record TypeRead (bytes : List ℕ) (at : ℕ) (r : Option TypeNode) : Type 0 where
  pub exact : r ≡ type_node_in bytes at
  pub small : Small bytes r
  pub is : (ns : List Name) (ts : List Ty) (t : Ty) (next : ℕ) (rest : List ℕ) → type_node ns ts at (from at bytes) ≡ got t next rest → TypeAs bytes ns ts t r

-- Type i of a file whose types stand at their places in the index. What it names are types of smaller number.
pub record IsType (bytes ix : List ℕ) (i : ℕ) (r : Option TypeNode) : Type 0 where
  pub exact : r ≡ type_node_at bytes ix i
  pub small : Small bytes r
  pub is : (ns : List Name) (ts : List Ty) (at end : ℕ) (t : Ty) → Placed bytes ix 2_048 (type_node ns) ts at end → nth ts i ≡ some t
      → TypeAs bytes ns (upto i ts) t r
