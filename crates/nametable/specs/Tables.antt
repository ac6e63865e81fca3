-- The names section of a file, as the table and the index have it.
use Rattle.std.specs.Prelude.{◌≡◌, List, [], ℕ, suc, ◌+◌, ◌^◌, ◌<◌, ◌≤◌, length, get_or, Result, Ok, Err}
use Rattle.std.proofs.Math.Option.{some}
use Rattle.meaning.specs.Base.{if, ltb, count, nth}
use Rattle.meaning.specs.Ast.{Name, name}
use Rattle.meaning.specs.Reader.{got, bad, from, items}
use Rattle.meaning.specs.File.{name_entry}
use Rattle.errors.specs.Refusals.{refusal_of}
use Rattle.errors.specs.declared.Refusal.{Refusal}
use Rattle.names.specs.Names.{row, name_of, Names}
use Rattle.reader.specs.Placing.{Placed}
use Rattle.rows.specs.BuiltIns.{BuiltIns}
use Rattle.rows.specs.Rows.{names_from}
use Rattle.spelling.specs.Forms.{FormWord}

-- The place of the j-th name, where i names were read up to the place p: its word of the index, or p for the next one.
unfoldable pub place_of : List ℕ → (i p j : ℕ) → ℕ
place_of ix i p j = if (ltb j i) (get_or ix (10_752 + j) 0) p

-- i names stand one after the other from at up to p, each at its word of the index and in its row.
pub record Spots (bytes ns ix : List ℕ) (at i p : ℕ) : Type 0 where
  pub first : place_of ix i p 0 ≡ at
  pub item : (j : ℕ) → j < i
      → name_entry (names_from ns 35 j) (place_of ix i p j) (from (place_of ix i p j) bytes) ≡ got (name (row ns (35 + j))) (place_of ix i p (suc j)) (from (place_of ix i p (suc j)) bytes)

-- A table that holds m names of a file from row 35 on, no two equal, each with its form in the index.
pub record Holds (ns ix : List ℕ) (m : ℕ) : Type 0 where
  pub full : (j : ℕ) → j < m → 2 ^ 248 ≤ row ns (35 + j)
  pub apart : (j k : ℕ) → j < k → k < m → row ns (35 + j) ≡ row ns (35 + k) → ⊥
  pub forms : (j : ℕ) → j < m → FormWord (name (row ns (35 + j))) (get_or ix (1_024 + j) 0)

-- All but rows 35 to 34 + m stand, and so do the words of the index for types, expressions and declarations.
pub record Apart (ns ix ns' ix' : List ℕ) (m : ℕ) : Type 0 where
  pub low : (r : ℕ) → r < 35 → row ns' r ≡ row ns r
  pub high : (r : ℕ) → 35 + m ≤ r → row ns' r ≡ row ns r
  pub index : (k : ℕ) → 2_048 ≤ k → k < 10_752 → get_or ix' k 0 ≡ get_or ix k 0

-- n names were read into the rows from 35 on.
pub record ReadUpTo (bytes ns ix ns' ix' : List ℕ) (at n p : ℕ) : Type 0 where
  pub read : items name_entry n [] at (from at bytes) ≡ got (names_from ns' 35 n) p (from p bytes)
  pub within : p ≤ length bytes
  pub holds : Holds ns' ix' n
  pub spots : Spots bytes ns' ix' at n p
  pub apart : Apart ns ix ns' ix' n

abbrev pub ReadAs : (bytes ns ix ns' ix' : List ℕ) (at n : ℕ) → Result ℕ Refusal → Type 0
ReadAs bytes ns ix ns' ix' at n (Ok p) = ReadUpTo bytes ns ix ns' ix' at n p
ReadAs bytes ns ix ns' ix' at n (Err e) = items name_entry n [] at (from at bytes) ≡ bad (refusal_of [] [] e)

pub record ReadAll (bytes ns ix ns' ix' : List ℕ) (at n : ℕ) (r : Result ℕ Refusal) : Type 0 where
  pub is : ReadAs bytes ns ix ns' ix' at n r

-- The number m of the name that stood in row r: its own row, if it is no built-in name; else that of the built-in
-- name, and the row holds its own number.
pub data Number (ns ns' : List ℕ) (r m : ℕ) : Type 0 where
  own : m ≡ r → row ns' r ≡ row ns r → ((b : ℕ) → b < 35 → row ns b ≡ row ns r → ⊥) → Number ns ns' r m
  built : m < 35 → row ns m ≡ row ns r → row ns' r ≡ r → Number ns ns' r m

-- The number of the i-th name stands in word i of the index; the other rows and words stand.
pub record Bound (ns ix ns' ix' : List ℕ) (i : ℕ) : Type 0 where
  pub number : Number ns ns' (35 + i) (get_or ix' i 0)
  pub others : (r : ℕ) → (r ≡ 35 + i → ⊥) → row ns' r ≡ row ns r
  pub stands : (k : ℕ) → (k ≡ i → ⊥) → get_or ix' k 0 ≡ get_or ix k 0

-- All of n names have their numbers.
pub record AllBound (ns ix ns' ix' : List ℕ) (n : ℕ) : Type 0 where
  pub numbers : (j : ℕ) → j < n → Number ns ns' (35 + j) (get_or ix' j 0)
  pub low : (r : ℕ) → r < 35 → row ns' r ≡ row ns r
  pub high : (r : ℕ) → 35 + n ≤ r → row ns' r ≡ row ns r
  pub stands : (k : ℕ) → n ≤ k → get_or ix' k 0 ≡ get_or ix k 0

-- What table and index say of the i-th name of the file: its number, and its form.
pub record NameKnown (ns ix : List ℕ) (i : ℕ) (x : Name) : Type 0 where
  pub number : get_or ix i 0 < 1_059
  pub named : name_of ns (get_or ix i 0) ≡ x
  pub form : FormWord x (get_or ix (1_024 + i) 0)

-- The names section was read up to the place p: the definition reads `list`, and table and index say the same of it; from
-- word 10,752 on the index has the place of each name.
pub record SectionRead (bytes ix ns' ix' : List ℕ) (at n p : ℕ) : Type 0 where
  pub list : List Name
  pub is : items name_entry n [] at (from at bytes) ≡ got list p (from p bytes)
  pub within : p ≤ length bytes
  pub many : count list ≡ n
  pub known : (i : ℕ) (x : Name) → nth list i ≡ some x → NameKnown ns' ix' i x
  pub places : Placed bytes ix' 10_752 name_entry list at p
  pub table : Names ns'
  pub built : BuiltIns ns'
  pub stands : (k : ℕ) → 2_048 ≤ k → k < 10_752 → get_or ix' k 0 ≡ get_or ix k 0

abbrev pub SectionAs : (bytes ix ns' ix' : List ℕ) (at n : ℕ) → Result ℕ Refusal → Type 0
SectionAs bytes ix ns' ix' at n (Ok p) = SectionRead bytes ix ns' ix' at n p
SectionAs bytes ix ns' ix' at n (Err e) = items name_entry n [] at (from at bytes) ≡ bad (refusal_of [] [] e)

-- What `read_names` says: the names, or the refusal of the first bad one.
pub record NamesRead (bytes ix ns' ix' : List ℕ) (at n : ℕ) (r : Result ℕ Refusal) : Type 0 where
  pub is : SectionAs bytes ix ns' ix' at n r
