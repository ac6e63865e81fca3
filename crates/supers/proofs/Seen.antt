-- What the code returned, as what it comes to; and the two parts of a room.
use mathlib.Core.Path.{◌≡◌}
use Prim.Native.Nat.{ℕ}
use Rattle.std.specs.Prelude.{Option, Some, None, Result, Ok, Err}
use Rattle.ast.specs.declared.Room.{Room}
use Rattle.errors.specs.declared.Refusal.{Refusal}
use Rattle.supers.specs.Searched.{Found, Nothing, Refused, searched_of}

-- An entry.
pub found_is : {r : Result (Option ℕ) Refusal} {e t l : ℕ} → r ≡ Ok (Some e) → searched_of r t l ≡ Found e t l
found_is e = rw e

-- None.
pub none_is : {r : Result (Option ℕ) Refusal} {l : ℕ} (t : ℕ) → r ≡ Ok None → searched_of r t l ≡ Nothing l
none_is t e = rw e

-- A refusal.
pub err_is : {r : Result (Option ℕ) Refusal} {e : Refusal} {t l : ℕ} → r ≡ Err e → searched_of r t l ≡ Refused e t l
err_is e = rw e

-- The first free node.
pub same_top : {a b : Room} → a ≡ b → a.top ≡ b.top
same_top e = rw e

-- The steps left.
pub same_left : {a b : Room} → a ≡ b → a.left ≡ b.left
same_left e = rw e
