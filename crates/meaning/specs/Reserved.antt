-- Names as they are spelled: the letters of a name, and the forms that RESERVED keeps for names that the checker makes.
use Rattle.std.specs.Prelude.{Bool, true, false, not, ◌&&◌, ◌||◌, List, [], ◌∷◌, ℕ}
use Rattle.std.proofs.Math.Option.{Option, none, some}
use Prim.Native.String.{String}
use Rattle.meaning.specs.Base.{if, eqb, ltb, null, any}
use Rattle.meaning.specs.Text.{quoted, unpacked}
use Rattle.meaning.specs.Ast.{Name, name}

-- The byte lies between two others, both allowed.
unfoldable pub between : (low high : ℕ) → ℕ → Bool
between low high b = not (ltb b low || ltb high b)

-- An ASCII digit.
unfoldable pub digit : ℕ → Bool
digit b = between 48 57 b

-- An ASCII letter, a digit or the underscore.
unfoldable pub letter_of_name : ℕ → Bool
letter_of_name b = digit b || between 65 90 b || between 97 122 b || eqb b 95

-- Every element passes the test.
unfoldable pub all : {A : Type 0} → (A → Bool) → List A → Bool
all f xs = not (any (λ x. not (f x)) xs)

-- The bytes of a name.
unfoldable pub spelling : Name → List ℕ
spelling (name n) = unpacked 32 n []

-- What follows a beginning, if the bytes have it (`strip_prefix`).
unfoldable pub past : List ℕ → List ℕ → Option (List ℕ)
past [] cs = some cs
past (b ∷ bs) [] = none
past (b ∷ bs) (c ∷ cs) = if (eqb b c) (past bs cs) none

-- At least one digit, and nothing else.
unfoldable pub digits : List ℕ → Bool
digits cs = not (null cs) && all digit cs

-- The name begins so, and what follows passes the test.
unfoldable pub begins : String → (List ℕ → Bool) → Name → Bool
begins s f x = elim (past (quoted s []) (spelling x)) [ none ↦ false | some cs ↦ f cs ]

-- A type variable like those that the checker makes: `t` plus digits.
unfoldable pub made_variable : Name → Bool
made_variable x = begins "t" digits x

-- A name like those that the checker makes: `self`, `d` plus digits, or a beginning `d_ctx_` or `__super_`.
unfoldable pub made_name : Name → Bool
made_name x = begins "self" null x || begins "d" digits x || begins "d_ctx_" (λ cs. true) x || begins "__super_" (λ cs. true) x
