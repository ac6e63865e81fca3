-- One name of a file: where its text stands, and how it is taken into the table.
use Rattle.std.specs.Prelude.{◌≡◌, true, List, [], ℕ, ◌+◌, ◌^◌, ◌<◌, ◌≤◌, length, get_or, set, Result, Ok, Err}
use Rattle.std.specs.Borrow.{Bor}
use Rattle.meaning.specs.Text.{packed}
use Rattle.meaning.specs.Ast.{Name, name}
use Rattle.meaning.specs.Errors.{format}
use Rattle.meaning.specs.Reserved.{letter_of_name, all}
use Rattle.meaning.specs.Reader.{got, bad, or_bad, unless, from}
use Rattle.meaning.specs.File.{name_entry}
use Rattle.errors.specs.Refusals.{refusal_of}
use Rattle.errors.specs.declared.Refusal.{Refusal}
use Rattle.names.specs.Names.{row}
use Rattle.names.specs.declared.Key.{Key}
use Rattle.spelling.specs.Forms.{FormWord}
use Rattle.spelling.specs.declared.Form as S
use Rattle.spelling.specs.declared.Form.TheVariants.{Free, Variable, Word}
use Rattle.reader.specs.Bytes.{text}
use Rattle.rows.specs.Rows.{row_set, names_from, among}

-- A text of so many letters stands after its length: it is a name unless it was read before.
pub record TextAt (bytes : List ℕ) (at len : ℕ) : Type 0 where
  pub some : 1 ≤ len
  pub short : len ≤ 32
  pub within : at + 1 + len ≤ length bytes
  pub letters : all letter_of_name (text bytes (at + 1) len) ≡ true
  pub entry : (earlier : List Name) → name_entry earlier at (from at bytes)
      ≡ or_bad (format (at + 1)) (unless (λ x. among x earlier) (name (packed 32 (text bytes (at + 1) len)))) (at + 1 + len) (from (at + 1 + len) bytes)

-- What stands at a place: such a text, or something that no name begins with.
abbrev pub SpotAs : List ℕ → ℕ → Result (Bor (List ℕ)) ℕ → Type 0
SpotAs bytes at (Ok t) = TextAt bytes at (length t.now) × (t.now ≡ text bytes (at + 1) (length t.now))
SpotAs bytes at (Err q) = (earlier : List Name) → name_entry earlier at (from at bytes) ≡ bad (format q)

pub record Spotted (bytes : List ℕ) (at : ℕ) (r : Result (Bor (List ℕ)) ℕ) : Type 0 where
  pub is : SpotAs bytes at r

-- The word of a form.
abbrev pub code_of : S.Form → ℕ
code_of Free = 0
code_of Variable = 1
code_of Word = 2

-- A name and its form are written.
pub record Entered (ns ix ns' ix' : List ℕ) (i : ℕ) (k : Key) (f : S.Form) : Type 0 where
  pub names : ns' ≡ row_set ns (35 + i) k
  pub index : ix' ≡ set ix (1_024 + i) (code_of f)

-- The i-th name was read and stands in row 35 + i, its form in word 1,024 + i of the index; the other rows and words stand.
pub record Took (bytes ns ix ns' ix' : List ℕ) (at i p : ℕ) : Type 0 where
  pub read : name_entry (names_from ns 35 i) at (from at bytes) ≡ got (name (row ns' (35 + i))) p (from p bytes)
  pub within : p ≤ length bytes
  pub new : (j : ℕ) → j < i → row ns (35 + j) ≡ row ns' (35 + i) → ⊥
  pub full : 2 ^ 248 ≤ row ns' (35 + i)
  pub others : (r : ℕ) → (r ≡ 35 + i → ⊥) → row ns' r ≡ row ns r
  pub form : FormWord (name (row ns' (35 + i))) (get_or ix' (1_024 + i) 0)
  pub stands : (k : ℕ) → (k ≡ 1_024 + i → ⊥) → get_or ix' k 0 ≡ get_or ix k 0

abbrev pub TakenAs : (bytes ns ix ns' ix' : List ℕ) (at i : ℕ) → Result ℕ Refusal → Type 0
TakenAs bytes ns ix ns' ix' at i (Ok p) = Took bytes ns ix ns' ix' at i p
TakenAs bytes ns ix ns' ix' at i (Err e) = name_entry (names_from ns 35 i) at (from at bytes) ≡ bad (refusal_of [] [] e)

-- The name at a place is taken in as the i-th one, or refused.
pub record Taken (bytes ns ix ns' ix' : List ℕ) (at i : ℕ) (r : Result ℕ Refusal) : Type 0 where
  pub is : TakenAs bytes ns ix ns' ix' at i r
