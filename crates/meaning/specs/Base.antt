-- Tests and lists that the other files are made of.
use Rattle.std.specs.Prelude.{Bool, true, false, List, [], ◌∷◌, ℕ, suc, zero, ◌+◌}
use Rattle.std.proofs.Math.Option.{Option, none, some}
use Rattle.std.proofs.Math.Decide.{ℕ_discrete, dec_lt}

-- A decision as a test.
abbrev pub is_yes : {P : Type 0} → Dec P → Bool
is_yes (yes p) = true
is_yes (no h) = false

-- The first where the test holds, the second where it does not.
abbrev pub if : {A : Type 0} → Bool → A → A → A
if true a b = a
if false a b = b

-- Two numbers are equal.
unfoldable pub eqb : ℕ → ℕ → Bool
eqb m n = is_yes (ℕ_discrete m n)

-- The first number is the smaller one.
unfoldable pub ltb : ℕ → ℕ → Bool
ltb m n = is_yes (dec_lt m n)

-- What an optional thing leads to.
unfoldable pub found : {A B : Type 0} → Option A → (A → Option B) → Option B
found none f = none
found (some a) f = f a

-- The list is empty.
unfoldable pub null : {A : Type 0} → List A → Bool
null [] = true
null (x ∷ xs) = false

-- How many there are.
unfoldable pub count : {A : Type 0} → List A → ℕ
count [] = 0
count (x ∷ xs) = suc (count xs)

-- Some element passes the test.
unfoldable pub any : {A : Type 0} → (A → Bool) → List A → Bool
any f [] = false
any f (x ∷ xs) = if (f x) true (any f xs)

-- The elements that pass the test, in their order.
unfoldable pub keep : {A : Type 0} → (A → Bool) → List A → List A
keep f [] = []
keep f (x ∷ xs) = if (f x) (x ∷ keep f xs) (keep f xs)

-- The first element that passes the test.
unfoldable pub first : {A : Type 0} → (A → Bool) → List A → Option A
first f [] = none
first f (x ∷ xs) = if (f x) (some x) (first f xs)

-- The sum of a number of each element.
unfoldable pub total : {A : Type 0} → (A → ℕ) → List A → ℕ
total f [] = 0
total f (x ∷ xs) = f x + total f xs

-- The element of that number, the first is 0.
unfoldable pub nth : {A : Type 0} → List A → ℕ → Option A
nth [] i = none
nth (x ∷ xs) zero = some x
nth (x ∷ xs) (suc i) = nth xs i
