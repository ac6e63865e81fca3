-- Rows of a table of names: four words each.
use Rattle.std.specs.Prelude.{◌≡◌, Bool, List, [], ◌∷◌, ℕ, suc, zero, ◌+◌, ◌*◌, ◌^◌, ◌<◌, set, get_or, Option, Some, None}
use Rattle.meaning.specs.Base.{is_yes, any}
use Rattle.meaning.specs.Ast.{Name, name, same_name}
use Rattle.names.specs.declared.Key.{Key}
use Rattle.names.specs.Names.{row}
use Rattle.names.specs.Keys.{bytes_of}
use Rattle.rows.specs.BuiltIns.{First}

-- The words with a row written.
unfoldable pub row_set : List ℕ → ℕ → Key → List ℕ
row_set ns r k = set (set (set (set ns (4 * r) k.a) (4 * r + 1) k.b) (4 * r + 2) k.c) (4 * r + 3) k.d

-- A key holds the bytes of a row.
pub record RowIs (ns : List ℕ) (r : ℕ) (k : Key) : Type 0 where
  pub bytes : bytes_of k ≡ row ns r

-- The names of so many rows, from row r on.
unfoldable pub names_from : List ℕ → (r k : ℕ) → List Name
names_from ns r zero = []
names_from ns r (suc k) = name (row ns r) ∷ names_from ns (r + 1) k

-- One of the names is this one.
unfoldable pub among : Name → List Name → Bool
among x ys = any (λ y. is_yes (same_name x y)) ys

-- The table before a file is read.
pub record Filled (ns : List ℕ) : Type 0 where
  pub first : (r : ℕ) → r < 1059 → First r (row ns r)

-- Which of the first 35 rows has these bytes.
abbrev pub BuiltAs : List ℕ → ℕ → Option ℕ → Type 0
BuiltAs ns bytes (Some b) = (b < 35) × (row ns b ≡ bytes)
BuiltAs ns bytes None = (b : ℕ) → b < 35 → row ns b ≡ bytes → ⊥

pub record IsBuilt (ns : List ℕ) (bytes : ℕ) (r : Option ℕ) : Type 0 where
  pub is : BuiltAs ns bytes r

-- The words of a table are words.
pub record Words (ns : List ℕ) : Type 0 where
  pub below : (i : ℕ) → get_or ns i 0 < 2 ^ 64
