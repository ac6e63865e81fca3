-- Readers of a file: fields one after the other, each tested as it is read. The first bad item ends the reading.
use Rattle.std.specs.Prelude.{Bool, List, [], ◌∷◌, ◌++◌, ℕ, suc, zero, ◌+◌, ◌*◌}
use Rattle.std.proofs.Math.Option.{Option, none, some}
use Rattle.meaning.specs.Base.{if, ltb, found, nth}
use Rattle.meaning.specs.Errors.{Refusal, format, limit}

-- What was read, the offset after it and the bytes from there on; or the refusal of the first bad item.
pub data Read (A : Type 0) : Type 0 where
  got : A → (next : ℕ) → List ℕ → Read A
  bad : Refusal → Read A

-- From a place in the file, its offset and the bytes from there on, to what is read there.
abbrev pub Reader : Type 0 → Type 0
Reader A = (at : ℕ) → List ℕ → Read A

-- What follows; a refusal is handed on.
unfoldable pub onward : {A B : Type 0} → Read A → (A → Reader B) → Read B
onward (got a next rest) f = f a next rest
onward (bad r) f = bad r

-- Two readers one after the other.
abbrev pub ◌>>=◌ : {A B : Type 0} → Reader A → (A → Reader B) → Reader B
◌>>=◌ r f = λ at bs. onward (r at bs) f

-- Nothing is read.
abbrev pub pure : {A : Type 0} → A → Reader A
pure a = λ at bs. got a at bs

-- What a test has found, if it has; else the refusal.
unfoldable pub or_bad : {A : Type 0} → Refusal → Option A → Reader A
or_bad r none next rest = bad r
or_bad r (some a) next rest = got a next rest

-- An item that must pass a test: else it is refused, with the offset at which it begins.
unfoldable pub item : {A B : Type 0} → (ℕ → Refusal) → Reader A → (A → Option B) → Reader B
item refusal r test at bs = onward (r at bs) (λ a. or_bad (refusal at) (test a))

-- A test that is passed unless the thing is such.
unfoldable pub unless : {A : Type 0} → (A → Bool) → A → Option A
unless f a = if (f a) none (some a)

-- So many bytes at the front, if there are as many.
unfoldable pub front : ℕ → List ℕ → Option (List ℕ)
front zero bs = some []
front (suc k) [] = none
front (suc k) (b ∷ bs) = found (front k bs) (λ cs. some (b ∷ cs))

-- The bytes after so many.
unfoldable pub from : ℕ → List ℕ → List ℕ
from zero bs = bs
from (suc k) [] = []
from (suc k) (b ∷ bs) = from k bs

-- A field of so many bytes. One that the end of the file cuts is refused where it begins.
unfoldable pub field : ℕ → Reader (List ℕ)
field k at bs = or_bad (format at) (front k bs) (at + k) (from k bs)

-- Bytes as a number, the least one first.
unfoldable pub little : List ℕ → ℕ
little [] = 0
little (b ∷ bs) = b + 256 * little bs

-- A number of so many bytes.
unfoldable pub numeral : ℕ → Reader ℕ
numeral k = do
  bs ← field k
  pure (little bs)

-- A count, before anything that it counts is read: LIMIT where it is above its limit.
unfoldable pub counted : ℕ → Reader ℕ
counted most = item limit (numeral 2) (unless (ltb most))

-- A number of one of these things, the first is 0: FORMAT where there is none of that number.
unfoldable pub one_of : {A : Type 0} → List A → Reader A
one_of xs = item format (numeral 2) (nth xs)

-- A tag byte, and then what it says: FORMAT where it is unknown.
unfoldable pub tagged : {A : Type 0} → List (Reader A) → Reader A
tagged rs = do
  r ← item format (numeral 1) (nth rs)
  r

-- So many items, each read with those before it at hand.
unfoldable pub items : {A : Type 0} → (List A → Reader A) → ℕ → List A → Reader (List A)
items r zero xs = pure xs
items r (suc n) xs = do
  x ← r xs
  items r n (xs ++ x ∷ [])

-- A section: its count, then its items.
unfoldable pub section : {A : Type 0} → ℕ → (List A → Reader A) → Reader (List A)
section most r = do
  n ← counted most
  items r n []

-- A list: its count, at most 64, then its items.
unfoldable pub list_of : {A : Type 0} → Reader A → Reader (List A)
list_of r = section 64 (λ xs. r)

-- Two things one after the other.
unfoldable pub pair : {A B : Type 0} → Reader A → Reader B → Reader (A × B)
pair r s = do
  a ← r
  b ← s
  pure (a, b)

-- No byte follows: FORMAT at the first that does.
unfoldable pub end_of_file : Reader (Unit {0})
end_of_file at [] = got tt at []
end_of_file at (b ∷ bs) = bad (format at)
