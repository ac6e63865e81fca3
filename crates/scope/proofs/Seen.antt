-- What the code returned, as what it comes to.
use mathlib.Core.Path.{◌≡◌}
use Prim.Native.Nat.{ℕ}
use Rattle.std.specs.Prelude.{Result, Ok, Err}
use Rattle.errors.specs.declared.Refusal.{Refusal}
use Rattle.subst.specs.declared.Qual.{Qual}
use Rattle.subst.specs.AppliedQual.{Done as Qual-Done, Refused as Qual-Refused, qual_of}
use Rattle.scope.specs.Swept.{Done, Refused, swept_of}

-- A scheme that was applied.
pub qual_ok : {r : Result Qual Refusal} {q : Qual} {t l : ℕ} → r ≡ Ok q → qual_of r t l ≡ Qual-Done q.preds q.ty t l
qual_ok e = rw e

-- One that was refused.
pub qual_err : {r : Result Qual Refusal} {e : Refusal} {t l : ℕ} → r ≡ Err e → qual_of r t l ≡ Qual-Refused e t l
qual_err e = rw e

-- Rows that were applied.
pub ok_is : {r : Result (Unit {0}) Refusal} {x : Unit {0}} {t l : ℕ} → r ≡ Ok x → swept_of r t l ≡ Done t l
ok_is e = rw e

-- A refusal.
pub err_is : {r : Result (Unit {0}) Refusal} {e : Refusal} {t l : ℕ} → r ≡ Err e → swept_of r t l ≡ Refused e t l
err_is e = rw e
