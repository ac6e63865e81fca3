-- What the code returned, as what it comes to.
use mathlib.Core.Path.{◌≡◌}
use Prim.Native.Nat.{ℕ}
use Rattle.std.specs.Prelude.{Result, Ok, Err}
use Rattle.errors.specs.declared.Refusal.{Refusal}
use Rattle.settle.specs.declared.Rest.{Rest}
use Rattle.settle.specs.Settled.{Done, Refused, settled_of}

-- The rows are settled.
pub settled_is : {r : Result Rest Refusal} {q : Rest} {t l : ℕ} → r ≡ Ok q → settled_of r t l ≡ Done q.term q.deferred t l
settled_is e = rw e

-- A refusal.
pub unsettled_is : {r : Result Rest Refusal} {e : Refusal} {t l : ℕ} → r ≡ Err e → settled_of r t l ≡ Refused e t l
unsettled_is e = rw e
