-- What the code returned, as what it comes to.
use mathlib.Core.Path.{◌≡◌}
use Prim.Native.Nat.{ℕ}
use Rattle.std.specs.Prelude.{Result, Ok, Err}
use Rattle.errors.specs.declared.Refusal.{Refusal}
use Rattle.pending.specs.Swept.{Done, Refused, swept_of}

-- The rows are swept.
pub swept_is : {r : Result (Unit {0}) Refusal} {u : Unit {0}} {t l : ℕ} → r ≡ Ok u → swept_of r t l ≡ Done t l
swept_is e = rw e

-- A refusal.
pub unswept_is : {r : Result (Unit {0}) Refusal} {e : Refusal} {t l : ℕ} → r ≡ Err e → swept_of r t l ≡ Refused e t l
unswept_is e = rw e
