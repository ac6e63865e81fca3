-- What taking a type of the file into the table asks of the words and gives.
use Rattle.std.specs.Prelude.{◌≡◌, List, ℕ, ◌+◌, ◌*◌, ◌≤◌, length}
use Rattle.ast.specs.Table.{Table, Node}
use Rattle.pairs.specs.Pairs.{Stands}

-- A word, and the first free node.
pub record Taken : Type 0 where
  pub word : ℕ
  pub top : ℕ

abbrev pub taken : ℕ → ℕ → Taken
taken word top = record { word = word; top = top }

-- There is a table, and room behind it for 8 words a node. The size is the same over all names.
pub record Fits (w : List ℕ) (top : ℕ) (size : List ℕ → ℕ) : Type 0 where
  pub table : Table w top
  pub room : (ns : List ℕ) → 4 * top + 8 * size ns ≤ length w

-- The words became w': what is older stands, and the answer's word is read as u over all names. Of 8 words for each of
-- its nodes, so many stay free.
pub record Takes {A : Type 0} (read : List ℕ → List ℕ → ℕ → A) (size : A → ℕ) (free : ℕ) (w w' : List ℕ) (top : ℕ) (u : List ℕ → A) (r : Taken) : Type 0 where
  pub node : Node w' r.top r.word
  pub stands : Stands w w' top (4 * r.top)
  pub more : top ≤ r.top
  pub is : (ns : List ℕ) → read ns w' r.word ≡ u ns
  pub spent : (ns : List ℕ) → 4 * r.top + free ≤ 4 * top + 8 * size (u ns)
