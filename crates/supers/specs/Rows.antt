-- Binders as rows of a lent slice, three words each: a dictionary's number, its class's name and its type's word. A row that
-- was replaced has a mark for its class, and its third word is the dictionary that replaces it.
use Rattle.std.specs.Prelude.{◌≡◌, Option, Some, None, List, [], ◌∷◌, ℕ, zero, suc, ◌+◌, ◌*◌, ◌-◌, ◌<◌, ◌≤◌, length, get_or}
use Rattle.meaning.specs.Base.{if, eqb}
use Rattle.meaning.specs.Ast.{dvar, pred, Binder}
use Rattle.names.specs.Names.{first_fresh, name_of}
use Rattle.ast.specs.Table.{tree, Node}
use Rattle.supers.specs.declared.rows.Row.{Row}
use Rattle.supers.specs.declared.rows.Row.TheVariants.{Pending, Replaced}
use Rattle.supers.specs.declared.Given.{Given}

-- The mark: no class has this number.
abbrev pub mark : ℕ
mark = 18_446_744_073_709_551_615

-- What three words say.
unfoldable pub row_of : ℕ → ℕ → ℕ → Row
row_of d c x = if (eqb c mark) (Replaced d x) (Pending d c x)

-- Row number j.
unfoldable pub row_at : List ℕ → ℕ → Row
row_at bs j = row_of (get_or bs (3 * j) 0) (get_or bs (3 * j + 1) 0) (get_or bs (3 * j + 2) 0)

-- The binder of a row that was not replaced, and others after it.
abbrev pub with_row : List ℕ → List ℕ → Row → List Binder → List Binder
with_row ns w (Pending d c t) os = (dvar d, pred (name_of ns c) (tree ns w t)) ∷ os
with_row ns w (Replaced d e) os = os

-- The binders of k rows from number j on.
unfoldable pub binders_from : List ℕ → List ℕ → List ℕ → ℕ → ℕ → List Binder
binders_from ns w bs j zero = []
binders_from ns w bs j (suc k) = with_row ns w (row_at bs j) (binders_from ns w bs (suc j) k)

-- Those of the rows from number j up to number n.
abbrev pub binders_in : List ℕ → List ℕ → List ℕ → ℕ → ℕ → List Binder
binders_in ns w bs j n = binders_from ns w bs j (n - j)

-- The dictionary of a pending row has a word.
abbrev pub HasWord : Row → Type 0
HasWord (Pending d c t) = d < first_fresh
HasWord (Replaced d e) = Unit {0}

-- The first n rows are there, and their dictionaries have words.
pub record RowsFit (bs : List ℕ) (n : ℕ) : Type 0 where
  pub fits : 3 * n ≤ length bs
  pub dicts : (j : ℕ) → j < n → HasWord (row_at bs j)

-- The type of a pending row is a word of the table.
abbrev pub TypeIn : List ℕ → ℕ → Row → Type 0
TypeIn w top (Pending d c t) = Node w top t
TypeIn w top (Replaced d e) = Unit {0}

-- The first n rows stand for binders.
pub record Binders (w bs : List ℕ) (top n : ℕ) : Type 0 where
  pub rows : RowsFit bs n
  pub types : (j : ℕ) → j < n → TypeIn w top (row_at bs j)

-- The first pending row from number j on: its dictionary's word e, its class's name c, its type u and the number after it.
pub record NextIs (bs : List ℕ) (j n e c u rest : ℕ) : Type 0 where
  pub at : ℕ
  pub d : ℕ
  pub after : rest ≡ suc at
  pub from : j ≤ at
  pub below : at < n
  pub row : row_at bs at ≡ Pending d c u
  pub word : e ≡ first_fresh + d
  pub is : (ns w : List ℕ) → binders_in ns w bs j n ≡ binders_in ns w bs at n

-- What the view of the rows from number j up to number n says.
abbrev pub NextAs : List ℕ → ℕ → ℕ → Option Given → Type 0
NextAs bs j n (Some q) = NextIs bs j n q.dict q.class q.ty q.rest
NextAs bs j n None = (ns w : List ℕ) → binders_in ns w bs j n ≡ []

pub record NextRow (bs : List ℕ) (j n : ℕ) (r : Option Given) : Type 0 where
  pub says : NextAs bs j n r
