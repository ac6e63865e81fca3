-- What reading at a place of the file gives, against the definition's readers: each gets the bytes from the place on.
use Rattle.std.specs.Prelude.{◌≡◌, List, [], ℕ, ◌+◌, ◌<◌, ◌≤◌, length, Option, Some, None, Result, Ok, Err}
use Rattle.meaning.specs.Errors.{format}
use Rattle.meaning.specs.Reader as M
use Rattle.errors.specs.Refusals.{refusal_of}
use Rattle.errors.specs.declared.Refusal.{Refusal}

-- A field of k bytes at a place: its number and the place after it, or the refusal where it begins.
abbrev pub FieldAs : ℕ → List ℕ → ℕ → Option ℕ → Type 0
FieldAs k bytes at (Some v) = (M.numeral k at (M.from at bytes) ≡ M.got v (at + k) (M.from (at + k) bytes)) × (at + k ≤ length bytes)
FieldAs k bytes at None = M.numeral k at (M.from at bytes) ≡ M.bad (format at)

pub record IsField (k : ℕ) (bytes : List ℕ) (at : ℕ) (r : Option ℕ) : Type 0 where
  pub is : FieldAs k bytes at r

-- A count at a place, of at most so many things.
abbrev pub CountAs : ℕ → List ℕ → ℕ → Result ℕ Refusal → Type 0
CountAs most bytes at (Ok n) = (M.counted most at (M.from at bytes) ≡ M.got n (at + 2) (M.from (at + 2) bytes)) × (n ≤ most) × (at + 2 ≤ length bytes)
CountAs most bytes at (Err e) = M.counted most at (M.from at bytes) ≡ M.bad (refusal_of [] [] e)

pub record IsCount (most : ℕ) (bytes : List ℕ) (at : ℕ) (r : Result ℕ Refusal) : Type 0 where
  pub is : CountAs most bytes at r

-- The number of one of n things at a place. Where it is none of theirs, the field is cut or its number too large.
abbrev pub PickAs : ℕ → List ℕ → ℕ → Option ℕ → Type 0
PickAs n bytes at (Some v) = FieldAs 2 bytes at (Some v) × (v < n)
PickAs n bytes at None = (v next : ℕ) (rest : List ℕ) → M.numeral 2 at (M.from at bytes) ≡ M.got v next rest → n ≤ v

pub record Picks (n : ℕ) (bytes : List ℕ) (at : ℕ) (r : Option ℕ) : Type 0 where
  pub is : PickAs n bytes at r

-- The outcome o of a reader is some value, read up to the place p of the file.
pub record Passes {A : Type 0} (bytes : List ℕ) (o : M.Read A) (p : ℕ) : Type 0 where
  pub value : A
  pub is : o ≡ M.got value p (M.from p bytes)
  pub within : p ≤ length bytes

-- What a place says of the outcome o of a reader.
abbrev pub Verdict : {A : Type 0} → List ℕ → M.Read A → Result ℕ Refusal → Type 0
Verdict bytes o (Ok p) = Passes bytes o p
Verdict bytes o (Err e) = o ≡ M.bad (refusal_of [] [] e)
