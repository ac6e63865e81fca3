-- What the code returned, as what it comes to.
use mathlib.Core.Path.{◌≡◌}
use Prim.Native.Nat.{ℕ}
use Rattle.std.specs.Prelude.{Result, Ok, Err}
use Rattle.errors.specs.declared.Refusal.{Refusal}
use Rattle.canonical.specs.Rows.{Done, Refused, rows_of}

-- The rows are renamed.
pub renamed_is : {r : Result (Unit {0}) Refusal} {u : Unit {0}} {t l : ℕ} → r ≡ Ok u → rows_of r t l ≡ Done t l
renamed_is e = rw e

-- A refusal.
pub unrenamed_is : {r : Result (Unit {0}) Refusal} {e : Refusal} {t l : ℕ} → r ≡ Err e → rows_of r t l ≡ Refused e t l
unrenamed_is e = rw e
