-- What the code returned, as what it comes to.
use mathlib.Core.Path.{◌≡◌}
use Prim.Native.Nat.{ℕ}
use Rattle.std.specs.Prelude.{Result, Ok, Err}
use Rattle.errors.specs.declared.Refusal.{Refusal}
use Rattle.ends.specs.declared.Function.{Function}
use Rattle.ends.specs.declared.Join.{Join}
use Rattle.ends.specs.Ended.{Done as Ended-Done, Refused as Ended-Refused, ended_of}
use Rattle.ends.specs.Joined.{Done as Joined-Done, Refused as Joined-Refused, joined_of}

-- A function.
pub function_is : {r : Result Function Refusal} {f : Function} {t l : ℕ} → r ≡ Ok f → ended_of r t l ≡ Ended-Done f.ty f.term t l
function_is e = rw e

-- A function that was refused.
pub function_refused : {r : Result Function Refusal} {e : Refusal} {t l : ℕ} → r ≡ Err e → ended_of r t l ≡ Ended-Refused e t l
function_refused e = rw e

-- An application.
pub join_is : {r : Result Join Refusal} {j : Join} {t l : ℕ} → r ≡ Ok j → joined_of r t l ≡ Joined-Done j.ty j.pairs t l
join_is e = rw e

-- An application that was refused.
pub join_refused : {r : Result Join Refusal} {e : Refusal} {t l : ℕ} → r ≡ Err e → joined_of r t l ≡ Joined-Refused e t l
join_refused e = rw e
