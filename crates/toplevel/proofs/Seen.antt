-- What the code returned, as what it comes to.
use mathlib.Core.Path.{◌≡◌}
use Prim.Native.Nat.{ℕ}
use Rattle.std.specs.Prelude.{Result, Ok, Err}
use Rattle.errors.specs.declared.Refusal.{Refusal}
use Rattle.generalize.specs.declared.Final.{Final}
use Rattle.generalize.specs.Finalized.{Done, Refused, finalized_of}

-- A last form.
pub final_is : {r : Result Final Refusal} {f : Final} {t l : ℕ} → r ≡ Ok f → finalized_of r t l ≡ Done f.preds f.ty f.term t l
final_is e = rw e

-- A refusal.
pub final_refused : {r : Result Final Refusal} {e : Refusal} {t l : ℕ} → r ≡ Err e → finalized_of r t l ≡ Refused e t l
final_refused e = rw e
