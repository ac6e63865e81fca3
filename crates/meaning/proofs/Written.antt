-- Session files as they are written by hand: names as texts.
use mathlib.Core.List.{List, map}
use Prim.Native.String.{String}
use Rattle.meaning.specs.Ast.{Name, called, named, Ty, Tys, var, con, Pred, pred, Expr, evar, eabs, elet, Decl, class_decl, instance_decl, let_decl, check_decl}

-- A type variable, and a constructor with its arguments.
abbrev pub v : String → Ty
v x = var (named (called x))

abbrev pub c : String → Tys → Ty
c x ts = con (called x) ts

-- A name, an abstraction and a let.
abbrev pub ev : String → Expr
ev x = evar (called x)

abbrev pub lam : String → Expr → Expr
lam x e = eabs (called x) e

abbrev pub bind : String → Expr → Expr → Expr
bind x e f = elet (called x) e f

-- A predicate, a signature, and a method or a default.
abbrev pub at : String → Ty → Pred
at k t = pred (called k) t

abbrev pub sig : String → Ty → Name × Ty
sig m t = (called m, t)

abbrev pub body : String → Expr → Name × Expr
body m e = (called m, e)

-- The four declarations.
abbrev pub class : String → String → List String → List (Name × Ty) → List (Name × Expr) → Decl
class k a supers sigs defaults = class_decl (record { name = called k; tyvar = named (called a); supers = map called supers; sigs = sigs; defaults = defaults })

abbrev pub instance : List Pred → String → Ty → List (Name × Expr) → Decl
instance context k t methods = instance_decl (record { context = context; head = pred (called k) t; methods = methods })

abbrev pub define : String → Expr → Decl
define x e = let_decl (called x) e

abbrev pub check : Expr → Decl
check e = check_decl e
