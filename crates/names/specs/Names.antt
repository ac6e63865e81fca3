-- How words stand for names and type variables.
use Rattle.std.specs.Prelude.{◌≡◌, List, ℕ, ◌+◌, ◌*◌, ◌-◌, ◌^◌, ◌<◌, length, get_or}
use Rattle.meaning.specs.Base.{if, ltb}
use Rattle.meaning.specs.Ast.{Name, name, TyVar, named, fresh}
use Rattle.names.specs.declared.Kind.{Kind}
use Rattle.names.specs.declared.Kind.TheVariants.{Node, Named, Fresh, Nullary}

-- Words below this one are variables by their name's number. From here on made variables, `t` and a number.
abbrev pub first_fresh : ℕ
first_fresh = 2_305_843_009_213_693_952

-- From here on constructors without arguments, by their name's number.
abbrev pub first_nullary : ℕ
first_nullary = 4_611_686_018_427_387_904

-- From here on nodes of the table: a node's word lies above all words that name no node.
abbrev pub first_node : ℕ
first_node = 9_223_372_036_854_775_808

-- What a type's word says.
unfoldable pub kind_of : ℕ → Kind
kind_of t = if (ltb t first_fresh) (Named t) (if (ltb t first_nullary) (Fresh (t - first_fresh)) (if (ltb t first_node) (Nullary (t - first_nullary)) (Node (t - first_node))))

-- A name is four words, its 32 bytes with the first one highest.
unfoldable pub row : List ℕ → ℕ → ℕ
row ns i = get_or ns (4 * i) 0 * 2 ^ 192 + get_or ns (4 * i + 1) 0 * 2 ^ 128 + get_or ns (4 * i + 2) 0 * 2 ^ 64 + get_or ns (4 * i + 3) 0

-- The i-th name of the table. A number that the table has not stands for a name that no file can have, so that equal
-- names have equal numbers whatever the numbers are.
unfoldable pub name_of : List ℕ → ℕ → Name
name_of ns i = if (ltb (4 * i + 3) (length ns)) (name (row ns i)) (name (2 ^ 256 + i))

-- The variable that a kind of word stands for; one that stands for none still has a name of its own.
abbrev pub variable_of : List ℕ → Kind → TyVar
variable_of ns (Node n) = named (name (2 ^ 258 + n))
variable_of ns (Named i) = named (name_of ns i)
variable_of ns (Fresh k) = fresh k
variable_of ns (Nullary i) = named (name (2 ^ 257 + i))

-- The variable that a word stands for.
unfoldable pub tyvar_of : List ℕ → ℕ → TyVar
tyvar_of ns t = variable_of ns (kind_of t)

-- A table of names: no two are equal.
pub record Names (ns : List ℕ) : Type 0 where
  pub words : (i : ℕ) → get_or ns i 0 < 2 ^ 64
  pub distinct : (i j : ℕ) → 4 * i + 3 < length ns → 4 * j + 3 < length ns → row ns i ≡ row ns j → i ≡ j
