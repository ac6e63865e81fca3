-- The parts that nodes and declarations are made of, as readers.
use Rattle.std.specs.Prelude.{List, ℕ}
use Rattle.meaning.specs.Ast.{Name, Ty, Pred, Expr}
use Rattle.meaning.specs.Reader.{Reader, one_of, pair, list_of}
use Rattle.meaning.specs.File.{variable, word, pred_entry}
use Rattle.nodes.specs.declared.Counts.{Counts}
use Rattle.nodes.specs.declared.Section.{Section}
use Rattle.nodes.specs.declared.Section.TheVariants.{Names, Types, Exprs}
use Rattle.nodes.specs.declared.Use.{Use}
use Rattle.nodes.specs.declared.Use.TheVariants.{Variable, Word}
use Rattle.nodes.specs.declared.Row.{Row}
use Rattle.nodes.specs.declared.Row.TheVariants.{Super, Argument, Signature, Method, Context}
use Rattle.nodes.specs.Known.{Before}

-- What a section's things are.
abbrev pub Thing : Section → Type 0
Thing Names = Name
Thing Types = Ty
Thing Exprs = Expr

-- Those of a section that stand before.
abbrev pub things : (of : Section) → Before → List (Thing of)
things Names s = s.names
things Types s = s.types
things Exprs s = s.exprs

-- How many they are.
abbrev pub many_of : Counts → Section → ℕ
many_of n Names = n.names
many_of n Types = n.types
many_of n Exprs = n.exprs

-- A name's number, by what the name is used for.
abbrev pub name_for : Use → Before → Reader Name
name_for Variable s = variable s.names
name_for Word s = word s.names

-- The form that is reserved there.
abbrev pub reserved_form : Use → ℕ
reserved_form Variable = 1
reserved_form Word = 2

-- What a list's items are: superclasses, arguments, signatures, defaults or methods, a context's predicates.
abbrev pub RowOf : Row → Type 0
RowOf Super = Name
RowOf Argument = Ty
RowOf Signature = Name × Ty
RowOf Method = Name × Expr
RowOf Context = Pred

-- One of them.
abbrev pub row_reader : (k : Row) → Before → Reader (RowOf k)
row_reader Super s = one_of s.names
row_reader Argument s = one_of s.types
row_reader Signature s = pair (word s.names) (one_of s.types)
row_reader Method s = pair (word s.names) (one_of s.exprs)
row_reader Context s = pred_entry s.names s.types

-- A class's superclasses, signatures and defaults.
abbrev pub class_body : Before → Reader (List Name × (List (Name × Ty) × List (Name × Expr)))
class_body s = pair (list_of (row_reader Super s)) (pair (list_of (row_reader Signature s)) (list_of (row_reader Method s)))

-- An instance's head and methods.
abbrev pub instance_body : Before → Reader (Pred × List (Name × Expr))
instance_body s = pair (pred_entry s.names s.types) (list_of (row_reader Method s))
