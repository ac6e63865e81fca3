-- What the code returned, as what it comes to.
use mathlib.Core.Path.{◌≡◌}
use Prim.Native.Nat.{ℕ}
use Rattle.std.specs.Prelude.{Result, Ok, Err}
use Rattle.errors.specs.declared.Refusal.{Refusal}
use Rattle.generalize.specs.declared.General.{General}
use Rattle.generalize.specs.Generalized.{Done, Refused, generalized_of}

-- What was generalized.
pub general_is : {r : Result General Refusal} {g : General} {t l : ℕ} → r ≡ Ok g → generalized_of r t l ≡ Done g.scheme.vars g.scheme.preds g.scheme.ty g.term g.deferred t l
general_is e = rw e

-- A refusal.
pub general_refused : {r : Result General Refusal} {e : Refusal} {t l : ℕ} → r ≡ Err e → generalized_of r t l ≡ Refused e t l
general_refused e = rw e
