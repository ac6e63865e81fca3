-- What rows replace: a row that was replaced has a dictionary's number and the word of the core term that stands for it.
use Rattle.std.specs.Prelude.{List, [], ◌∷◌, ℕ, zero, suc, ◌+◌, ◌*◌, ◌-◌, ◌<◌, ◌≤◌, length}
use Rattle.meaning.specs.Base.{if, eqb}
use Rattle.meaning.specs.Ast.{dvar, DictName, Core}
use Rattle.meaning.specs.Map.{Map}
use Rattle.ast.specs.Table.{Node}
use Rattle.cores.specs.Terms.{core}
use Rattle.supers.specs.Rows.{row_at}
use Rattle.supers.specs.declared.rows.Row.{Row}
use Rattle.supers.specs.declared.rows.Row.TheVariants.{Pending, Replaced}
use Rattle.std.specs.Prelude.{Option, Some, None}

-- The pair of a row that was replaced, and others after it.
abbrev pub with_replaced : List ℕ → List ℕ → Row → Map DictName Core → Map DictName Core
with_replaced ns w (Pending d c t) sub = sub
with_replaced ns w (Replaced d x) sub = (dvar d, core ns w x) ∷ sub

-- What k rows from number j on replace, in order.
unfoldable pub replaced_from : List ℕ → List ℕ → List ℕ → ℕ → ℕ → Map DictName Core
replaced_from ns w bs j zero = []
replaced_from ns w bs j (suc k) = with_replaced ns w (row_at bs j) (replaced_from ns w bs (suc j) k)

-- What the first n rows replace.
abbrev pub replaced_in : List ℕ → List ℕ → List ℕ → ℕ → Map DictName Core
replaced_in ns w bs n = replaced_from ns w bs 0 n

-- The word by which a row replaces the dictionary of number d.
abbrev pub row_for : Row → ℕ → Option ℕ
row_for (Pending e c t) d = None
row_for (Replaced e x) d = if (eqb e d) (Some x) None

-- What was found, or another word.
abbrev pub or_word : (Option ℕ) → ℕ → ℕ
or_word (Some x) e = x
or_word None e = e

-- The word by which the first of k rows from number j on replaces the dictionary of number d; e if none does.
unfoldable pub replacement_from : List ℕ → ℕ → ℕ → ℕ → ℕ → ℕ
replacement_from bs j zero d e = e
replacement_from bs j (suc k) d e = or_word (row_for (row_at bs j) d) (replacement_from bs (suc j) k d e)

-- The same of the rows from number j up to number n.
abbrev pub replacement_in : List ℕ → ℕ → ℕ → ℕ → ℕ → ℕ
replacement_in bs j n d e = replacement_from bs j (n - j) d e

-- The term that replaces a row is a word of the table.
abbrev pub TermIn : List ℕ → ℕ → Row → Type 0
TermIn w top (Pending d c t) = Unit {0}
TermIn w top (Replaced d x) = Node w top x

-- The first n rows are there, and what replaces them are words of the table.
pub record Replacing (w bs : List ℕ) (top n : ℕ) : Type 0 where
  pub fits : 3 * n ≤ length bs
  pub terms : (j : ℕ) → j < n → TermIn w top (row_at bs j)

-- A term e or a list e of terms, and n rows; above the table is room for 8 words a step.
pub record ReadyTerm (w bs : List ℕ) (top left n e : ℕ) : Type 0 where
  pub node : Node w top e
  pub rows : Replacing w bs top n
  pub room : 4 * top + 8 * left ≤ length w
