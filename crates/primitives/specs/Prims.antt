-- The seven primitives as a table: what a row of it says, and what it makes of nodes and of an environment's rows.
use Rattle.std.specs.Prelude.{◌≡◌, List, [], ◌∷◌, ℕ, zero, suc, ◌+◌, ◌*◌, ◌<◌, ◌≤◌, length}
use Rattle.std.proofs.Math.Option.{Option, none, some}
use Rattle.meaning.specs.Base.{if, eqb, nth}
use Rattle.meaning.specs.Ast.{Name, called, Ty, arrow, int, bool, Scheme}
use Rattle.meaning.specs.Map.{names, insert}
use Rattle.meaning.specs.Generalize.{Env}
use Rattle.meaning.specs.Infer.{mono}
use Rattle.meaning.specs.Session.{primitives}
use Rattle.ast.specs.Table.{tree, Table, Node}
use Rattle.pairs.specs.Pairs.{Stands}
use Rattle.rows.specs.BuiltIns.{BuiltIns}
use Rattle.scope.specs.Scope.{entry_of, env_of, Order, Scope}
use Rattle.scope.specs.declared.Entry.TheVariants.{Nothing}
use Rattle.primitives.specs.declared.Primitive.{Primitive}

-- ## The table

-- A pair, if there is one.
abbrev or_pair : Option (Name × Scheme) → Name × Scheme
or_pair none = (called "", mono int)
or_pair (some q) = q

-- The name of the p-th primitive.
unfoldable pub title : ℕ → Name
title p = (or_pair (nth primitives p)).0

-- Its scheme.
unfoldable pub kind : ℕ → Scheme
kind p = (or_pair (nth primitives p)).1

-- How many arguments it takes.
unfoldable pub arity : ℕ → ℕ
arity p = if (eqb p 6) 1 2

-- How many arrows the types of the first p have.
unfoldable pub arrows : ℕ → ℕ
arrows zero = 0
arrows (suc p) = arrows p + arity p

-- The first p pairs.
unfoldable pub firsts : ℕ → Env → Env
firsts zero env = []
firsts (suc p) [] = []
firsts (suc p) (q ∷ env) = q ∷ firsts p env

-- The built-in type of that number.
unfoldable pub base_ty : ℕ → Ty
base_ty zero = int
base_ty (suc n) = bool

-- n arguments of type a, then b.
unfoldable pub curried : ℕ → Ty → Ty → Ty
curried zero a b = b
curried (suc n) a b = arrow a (curried n a b)

-- What the table's row p says: the number of the primitive's name, and its type.
pub record Row (p : ℕ) (r : Primitive) : Type 0 where
  pub number : r.number ≡ p + 2
  pub many : r.many ≡ arity p
  pub argument : r.argument < 2
  pub result : r.result < 2
  pub is : kind p ≡ mono (curried r.many (base_ty r.argument) (base_ty r.result))

-- ## Its nodes

-- From node top on many arrows were made: the word t is the type of so many arguments a and a result b.
pub record TypeMade (w w' : List ℕ) (top many a b t : ℕ) : Type 0 where
  pub stands : Stands w w' top (4 * (top + many))
  pub long : length w' ≡ length w
  pub node : Node w' (top + many) t
  pub is : (ns : List ℕ) → tree ns w' t ≡ curried many (tree ns w a) (tree ns w b)

-- ## One primitive

-- The built-in names have their rows, and there is room for the arrows of primitive p.
pub record ReadyOne (ns w ev od : List ℕ) (top p : ℕ) : Type 0 where
  pub built : BuiltIns ns
  pub first : p < 7
  pub table : Table w top
  pub scope : Scope ns w ev od top
  pub rows : length od ≡ 1_059
  pub room : 4 * (top + arity p) ≤ length w

-- Its scheme was inserted under its name.
pub record GivesOne (ns w w' ev ev' od : List ℕ) (top p top' : ℕ) : Type 0 where
  pub stands : Stands w w' top (4 * top')
  pub long : length w' ≡ length w
  pub wide : length ev' ≡ length ev
  pub grown : top' ≡ top + arity p
  pub table : Table w' top'
  pub scope : Scope ns w' ev' od top'
  pub is : env_of ns w' ev' od ≡ insert names (title p, kind p) (env_of ns w ev od)

-- ## All of them

-- No row says anything yet, and there is room for 13 arrows.
pub record ReadyPrims (ns w ev od : List ℕ) (top : ℕ) : Type 0 where
  pub built : BuiltIns ns
  pub table : Table w top
  pub order : Order ns od
  pub rows : length od ≡ 1_059
  pub fits : length ev ≡ 4_236
  pub bare : (r : ℕ) → r < 1_059 → entry_of ev r ≡ Nothing
  pub room : 4 * top + 52 ≤ length w

-- The rows are the environment of a new session, over 13 nodes more; what is older stands, and so do the words above.
pub record GivesPrims (ns w w' ev ev' od : List ℕ) (top top' : ℕ) : Type 0 where
  pub stands : Stands w w' top (4 * top')
  pub long : length w' ≡ length w
  pub wide : length ev' ≡ length ev
  pub grown : top' ≡ top + 13
  pub table : Table w' top'
  pub scope : Scope ns w' ev' od top'
  pub is : env_of ns w' ev' od ≡ primitives
