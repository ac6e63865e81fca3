-- Session files written by hand, as bytes: hexadecimal digits, names as texts, and damage done to a file.
use mathlib.Core.Bool.{true, false}
use mathlib.Core.List.{List, [], ◌∷◌, ◌++◌}
use Prim.Native.Nat.{ℕ, suc, zero, ◌+◌, ◌*◌, ◌-◌}
use Prim.Native.String.{String}
use Rattle.meaning.specs.Base.{if, eqb, ltb, count}
use Rattle.meaning.specs.Text.{quoted}
use Rattle.meaning.specs.Errors.{number, Value, a_number, a_name, a_variable, a_type, values}
use Rattle.meaning.specs.Reader.{Read, got, bad}
use Rattle.meaning.specs.File.{File, read}

-- A digit's value; capitals from 10 on.
unfoldable pub nibble : ℕ → ℕ
nibble c = if (ltb c 58) (c - 48) (c - 55)

-- Two digits a byte.
unfoldable pub hex : List ℕ → List ℕ
hex [] = []
hex (c ∷ []) = []
hex (c ∷ d ∷ cs) = (16 * nibble c + nibble d) ∷ hex cs

-- A word of the notation: after an apostrophe a name, which its length precedes; else digits.
unfoldable pub word_bytes : List ℕ → List ℕ
word_bytes [] = []
word_bytes (c ∷ cs) = if (eqb c 39) (count cs ∷ cs) (hex (c ∷ cs))

-- The bytes that words parted by blanks stand for; the first argument is the word so far.
unfoldable pub words_bytes : List ℕ → List ℕ → List ℕ
words_bytes w [] = word_bytes w
words_bytes w (c ∷ cs) = elim (eqb c 32) [ true ↦ word_bytes w ++ words_bytes [] cs | false ↦ words_bytes (w ++ c ∷ []) cs ]

-- A file, or a part of one.
unfoldable pub bytes : String → List ℕ
bytes s = words_bytes [] (quoted s [])

-- The first so many bytes.
unfoldable pub cut : ℕ → List ℕ → List ℕ
cut zero bs = []
cut (suc k) [] = []
cut (suc k) (b ∷ bs) = b ∷ cut k bs

-- The file with another byte at an offset.
unfoldable pub put : (at byte : ℕ) → List ℕ → List ℕ
put at b [] = []
put zero b (c ∷ cs) = b ∷ cs
put (suc k) b (c ∷ cs) = c ∷ put k b cs

-- The offset that a refusal carries.
unfoldable pub offset : List Value → ℕ
offset [] = 0
offset (a_number k ∷ vs) = k
offset (a_name x ∷ vs) = 0
offset (a_variable v ∷ vs) = 0
offset (a_type t ∷ vs) = 0

-- A refusal's number and its offset; of a good file 0 and how many declarations it has.
unfoldable pub outcome : Read File → ℕ × ℕ
outcome (got f next rest) = (0, count f.decls)
outcome (bad r) = (number r, offset (values r))

-- What comes of reading a file.
abbrev pub verdict : List ℕ → ℕ × ℕ
verdict bs = outcome (read bs)

-- Named on a proof's `unfolding` line it opens the words above.
unfoldable pub notation : Unit {0}
unfolding nibble hex word_bytes words_bytes bytes cut put offset outcome
notation = tt
