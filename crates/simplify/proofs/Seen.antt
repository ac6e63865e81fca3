-- What the code returned, as what it comes to.
use mathlib.Core.Path.{◌≡◌}
use Prim.Native.Nat.{ℕ}
use Rattle.std.specs.Prelude.{Result, Ok, Err}
use Rattle.errors.specs.declared.Refusal.{Refusal}
use Rattle.simplify.specs.Simplified.{Done, Refused, simplified_of}

-- Rows that were simplified.
pub ok_is : {r : Result (Unit {0}) Refusal} {x : Unit {0}} {t l : ℕ} → r ≡ Ok x → simplified_of r t l ≡ Done t l
ok_is e = rw e

-- A refusal.
pub err_is : {r : Result (Unit {0}) Refusal} {e : Refusal} {t l : ℕ} → r ≡ Err e → simplified_of r t l ≡ Refused e t l
err_is e = rw e
