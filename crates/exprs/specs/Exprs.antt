-- Expressions of a session file by their numbers, with the names in them as numbers of the table of names.
use Rattle.std.specs.Prelude.{◌≡◌, List, ℕ, ◌<◌, Option, Some, None}
use Rattle.std.proofs.Math.Option.{some}
use Rattle.meaning.specs.Base.{nth}
use Rattle.meaning.specs.Ast.{Expr, evar, eint, ebool, eabs, eapp, elet}
use Rattle.meaning.specs.File as M
use Rattle.names.specs.Names.{name_of}
use Rattle.file.specs.Reading.{Indexed}
use Rattle.views.specs.declared.ExprNode.{ExprNode}
use Rattle.views.specs.declared.ExprNode.TheVariants.{Var, Int, Bool, Abs, App, Let}

-- Names table and index hold a file, whose expression i is x.
pub record Written (bytes ns ix : List ℕ) (i : ℕ) (x : Expr) : Type 0 where
  pub file : M.File
  pub a : ℕ
  pub b : ℕ
  pub c : ℕ
  pub d : ℕ
  pub indexed : Indexed bytes ns ix file a b c d
  pub there : nth file.exprs i ≡ some x

-- A variable, by its name's number.
pub record VarShown (ns : List ℕ) (x : Expr) (r : ℕ) : Type 0 where
  pub small : r < 1_059
  pub is : x ≡ evar (name_of ns r)

-- A function: the number of its variable's name, and its body, an expression of smaller number.
pub record AbsShown (bytes ns ix : List ℕ) (i : ℕ) (x : Expr) (r b : ℕ) : Type 0 where
  pub body : Expr
  pub small : r < 1_059
  pub less : b < i
  pub body_so : Written bytes ns ix b body
  pub is : x ≡ eabs (name_of ns r) body

-- A function and what it is applied to.
pub record AppShown (bytes ns ix : List ℕ) (i : ℕ) (x : Expr) (f a : ℕ) : Type 0 where
  pub function : Expr
  pub argument : Expr
  pub function_less : f < i
  pub argument_less : a < i
  pub function_so : Written bytes ns ix f function
  pub argument_so : Written bytes ns ix a argument
  pub is : x ≡ eapp function argument

-- A let: the number of its name, what it names, and where that holds.
pub record LetShown (bytes ns ix : List ℕ) (i : ℕ) (x : Expr) (r b f : ℕ) : Type 0 where
  pub bound : Expr
  pub body : Expr
  pub small : r < 1_059
  pub bound_less : b < i
  pub body_less : f < i
  pub bound_so : Written bytes ns ix b bound
  pub body_so : Written bytes ns ix f body
  pub is : x ≡ elet (name_of ns r) bound body

-- What the answer says of the expression x. One of a file is always a node.
abbrev pub ShownAs : List ℕ → List ℕ → List ℕ → ℕ → Expr → Option ExprNode → Type 0
ShownAs bytes ns ix i x (Some (Var r)) = VarShown ns x r
ShownAs bytes ns ix i x (Some (Int v)) = x ≡ eint v
ShownAs bytes ns ix i x (Some (Bool b)) = x ≡ ebool b
ShownAs bytes ns ix i x (Some (Abs r b)) = AbsShown bytes ns ix i x r b
ShownAs bytes ns ix i x (Some (App f a)) = AppShown bytes ns ix i x f a
ShownAs bytes ns ix i x (Some (Let r b f)) = LetShown bytes ns ix i x r b f
ShownAs bytes ns ix i x None = ⊥

-- The answer is right for whatever table of names the index goes with.
pub record Shows (bytes ix : List ℕ) (i : ℕ) (r : Option ExprNode) : Type 0 where
  pub is : (ns : List ℕ) (x : Expr) → Written bytes ns ix i x → ShownAs bytes ns ix i x r
