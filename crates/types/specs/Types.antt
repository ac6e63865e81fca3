-- Types of a session file by their numbers, whatever file and index hold.
use Rattle.std.specs.Prelude.{◌≡◌, List, ℕ, zero, suc, ◌+◌, get_or, Option, Some, None}
use Rattle.std.proofs.Math.Option.{some}
use Rattle.meaning.specs.Base.{if, ltb, nth}
use Rattle.meaning.specs.Ast.{named, Ty, Tys, var, con, arrow, nil, ◌◂◌}
use Rattle.meaning.specs.File as M
use Rattle.names.specs.Names.{name_of}
use Rattle.views.specs.Numbers.{number_at}
use Rattle.views.specs.TypeViews.{type_node_at}
use Rattle.views.specs.declared.TypeNode.{TypeNode}
use Rattle.views.specs.declared.TypeNode.TheVariants.{Var, Con, Arrow}
use Rattle.file.specs.Reading.{Indexed}

-- The number in the table of names of the file's name v; 0 where the index has no row's number for it.
unfoldable pub row_of : List ℕ → ℕ → ℕ
row_of ix v = if (ltb (get_or ix v 0) 1_059) (get_or ix v 0) 0

-- What stands for no type of the file is read as this variable.
abbrev pub no_type : List ℕ → Ty
no_type ns = var (named (name_of ns 0))

-- The k types whose numbers stand from the place p on.
unfoldable pub args_of : (ℕ → Ty) → List ℕ → ℕ → ℕ → Tys
args_of ty bytes p zero = nil
args_of ty bytes p (suc k) = ty (number_at bytes p) ◂ args_of ty bytes (p + 2) k

-- A type by its node and by what the numbers in it stand for.
abbrev pub of_node : List ℕ → List ℕ → List ℕ → (ℕ → Ty) → Option TypeNode → Ty
of_node bytes ns ix ty (Some (Var x)) = var (named (name_of ns (row_of ix x)))
of_node bytes ns ix ty (Some (Con c p k)) = con (name_of ns (row_of ix c)) (args_of ty bytes p k)
of_node bytes ns ix ty (Some (Arrow a b)) = arrow (ty a) (ty b)
of_node bytes ns ix ty None = no_type ns

-- Type i, as deep as the fuel goes. A part whose number is not smaller is no type.
unfoldable pub type_f : ℕ → List ℕ → List ℕ → List ℕ → ℕ → Ty
type_f zero bytes ns ix i = no_type ns
type_f (suc f) bytes ns ix i = of_node bytes ns ix (λ j. if (ltb j i) (type_f f bytes ns ix j) (no_type ns)) (type_node_at bytes ix i)

-- Type i of the file, over the names ns.
unfoldable pub type_of : List ℕ → List ℕ → List ℕ → ℕ → Ty
type_of bytes ns ix i = type_f (suc i) bytes ns ix i

-- What the number j stands for in type i.
unfoldable pub part_of : List ℕ → List ℕ → List ℕ → ℕ → ℕ → Ty
part_of bytes ns ix i j = if (ltb j i) (type_of bytes ns ix j) (no_type ns)

-- The k arguments from the place p on in type i.
abbrev pub parts_of : List ℕ → List ℕ → List ℕ → ℕ → ℕ → ℕ → Tys
parts_of bytes ns ix i p k = args_of (part_of bytes ns ix i) bytes p k

-- Names table and index hold a file, whose type i is u.
pub record WrittenType (bytes ns ix : List ℕ) (i : ℕ) (u : Ty) : Type 0 where
  pub file : M.File
  pub a : ℕ
  pub b : ℕ
  pub c : ℕ
  pub d : ℕ
  pub indexed : Indexed bytes ns ix file a b c d
  pub there : nth file.types i ≡ some u
