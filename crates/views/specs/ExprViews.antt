-- An expression of the file, as the code shows it.
use Rattle.std.specs.Prelude.{◌≡◌, List, ℕ, Option, Some, None}
use Rattle.std.proofs.Math.Option.{some}
use Rattle.meaning.specs.Base.{nth}
use Rattle.meaning.specs.Ast.{Name, Expr, evar, eint, ebool, eabs, eapp, elet}
use Rattle.meaning.specs.Reader.{got, from}
use Rattle.meaning.specs.File.{expr_node}
use Rattle.reader.specs.Placing.{upto, Placed}
use Rattle.views.specs.declared.ExprNode.{ExprNode}
use Rattle.views.specs.declared.ExprNode.TheVariants.{Var, Int, Bool, Abs, App, Let}
use Rattle.views.specs.Numbers.{Named}

-- A variable, by its name's number.
pub record EVarAs (ns : List Name) (e : Expr) (x : ℕ) : Type 0 where
  pub name : Name
  pub named_so : Named ns x name
  pub is : e ≡ evar name

-- A function: its variable and its body.
pub record AbsAs (ns : List Name) (es : List Expr) (e : Expr) (x b : ℕ) : Type 0 where
  pub name : Name
  pub body : Expr
  pub named_so : Named ns x name
  pub body_so : Named es b body
  pub is : e ≡ eabs name body

-- A function and what it is applied to.
pub record AppAs (es : List Expr) (e : Expr) (f a : ℕ) : Type 0 where
  pub function : Expr
  pub argument : Expr
  pub function_so : Named es f function
  pub argument_so : Named es a argument
  pub is : e ≡ eapp function argument

-- A let: its name, what it names, and where that holds.
pub record LetAs (ns : List Name) (es : List Expr) (e : Expr) (x b f : ℕ) : Type 0 where
  pub name : Name
  pub bound : Expr
  pub body : Expr
  pub named_so : Named ns x name
  pub bound_so : Named es b bound
  pub body_so : Named es f body
  pub is : e ≡ elet name bound body

-- What the answer says of an expression e that stands after the expressions es. One of the file is always a node.
abbrev pub ExprAs : List Name → List Expr → Expr → Option ExprNode → Type 0
ExprAs ns es e (Some (Var x)) = EVarAs ns e x
ExprAs ns es e (Some (Int v)) = e ≡ eint v
ExprAs ns es e (Some (Bool b)) = e ≡ ebool b
ExprAs ns es e (Some (Abs x b)) = AbsAs ns es e x b
ExprAs ns es e (Some (App f a)) = AppAs es e f a
ExprAs ns es e (Some (Let x b f)) = LetAs ns es e x b f
ExprAs ns es e None = ⊥

-- The node at a place: right for every expression that the definition reads there.
pub record ExprRead (bytes : List ℕ) (at : ℕ) (r : Option ExprNode) : Type 0 where
  pub is : (ns : List Name) (es : List Expr) (e : Expr) (next : ℕ) (rest : List ℕ) → expr_node ns es at (from at bytes) ≡ got e next rest → ExprAs ns es e r

-- Expression i of a file whose expressions stand at their places in the index. What it names are those of smaller number.
pub record IsExpr (bytes ix : List ℕ) (i : ℕ) (r : Option ExprNode) : Type 0 where
  pub is : (ns : List Name) (es : List Expr) (at end : ℕ) (e : Expr) → Placed bytes ix 6_144 (expr_node ns) es at end → nth es i ≡ some e
      → ExprAs ns (upto i es) e r
