-- Bytes: quoted texts, decimal numbers, and names of up to 32 bytes as one number.
use Rattle.std.specs.Prelude.{List, [], ◌∷◌, true, false, ℕ, suc, zero, ◌+◌, ◌*◌, ◌/◌, ◌%◌, ◌^◌}
use Prim.Native.String.{String}
use Prim.Native.String as S
use Prim.Native.Char.{code}
use Rattle.meaning.specs.Base.{eqb, ltb}

-- Bytes that are written before what follows.
abbrev pub Text : Type 0
Text = List ℕ → List ℕ

-- A quoted text before what follows.
unfoldable pub quoted : String → Text
quoted S.[] cs = cs
quoted (S.◌∷◌ c s) cs = code c ∷ quoted s cs

-- A number in decimal before what follows; the first number bounds its digits.
unfoldable pub decimal : ℕ → ℕ → Text
decimal zero n cs = cs
decimal (suc f) n cs = elim (ltb n 10) [ true ↦ (48 + n) ∷ cs | false ↦ decimal f (n / 10) ((48 + n % 10) ∷ cs) ]

-- Bytes at the front of so many, the others zero, as one number: the order of such numbers is the byte order.
unfoldable pub packed : ℕ → List ℕ → ℕ
packed zero cs = 0
packed (suc k) [] = 0
packed (suc k) (c ∷ cs) = c * 256 ^ k + packed k cs

-- The bytes of a packed number without the zeros, before what follows.
unfoldable pub unpacked : ℕ → ℕ → Text
unpacked zero n cs = cs
unpacked (suc f) n cs = elim (eqb (n % 256) 0) [ true ↦ unpacked f (n / 256) cs | false ↦ unpacked f (n / 256) (n % 256 ∷ cs) ]
