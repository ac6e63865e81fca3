-- What the code returned, as what it comes to.
use mathlib.Core.Path.{◌≡◌}
use Prim.Native.Nat.{ℕ}
use Rattle.std.specs.Prelude.{Result, Ok, Err}
use Rattle.errors.specs.declared.Refusal.{Refusal}
use Rattle.reduce.specs.Reduced.{Done, Refused, reduced_of}

-- The rows are reduced.
pub reduced_is : {r : Result (Unit {0}) Refusal} {x : Unit {0}} {t l : ℕ} → r ≡ Ok x → reduced_of r t l ≡ Done t l
reduced_is e = rw e

-- A refusal.
pub refused_is : {r : Result (Unit {0}) Refusal} {e : Refusal} {t l : ℕ} → r ≡ Err e → reduced_of r t l ≡ Refused e t l
refused_is e = rw e
