-- What the code returned, as what it comes to.
use mathlib.Core.Path.{◌≡◌}
use Prim.Native.Nat.{ℕ}
use Rattle.std.specs.Prelude.{Result, Ok, Err}
use Rattle.errors.specs.declared.Refusal.{Refusal}
use Rattle.apply.specs.Applied.{Done, Refused, applied_of}

-- An answer.
pub ok_is : {r : Result ℕ Refusal} {m t l : ℕ} → r ≡ Ok m → applied_of r t l ≡ Done m t l
ok_is e = rw e

-- A refusal.
pub err_is : {r : Result ℕ Refusal} {e : Refusal} {t l : ℕ} → r ≡ Err e → applied_of r t l ≡ Refused e t l
err_is e = rw e
