-- What the code returned, as what it comes to.
use mathlib.Core.Path.{◌≡◌}
use Prim.Native.Nat.{ℕ}
use Rattle.std.specs.Prelude.{Option, Some, None, Result, Ok, Err}
use Rattle.errors.specs.declared.Refusal.{Refusal}
use Rattle.instantiate.specs.declared.Opened.{Opened}
use Rattle.instantiate.specs.declared.Used.{Used}
use Rattle.instantiate.specs.Taken.{Done as Took, Refused as Untaken, taken_of}
use Rattle.instantiate.specs.Opened.{Done as Got, Refused as Ungot, instance_of}
use Rattle.instantiate.specs.Cored.{Made, Unmade, cored_of}
use Rattle.instantiate.specs.Looked.{Done, Refused, looked_of}

-- So many rows.
pub ok_taken : {r : Result ℕ Refusal} {m t l : ℕ} → r ≡ Ok m → taken_of r t l ≡ Took m t l
ok_taken e = rw e

-- None of them.
pub err_taken : {r : Result ℕ Refusal} {e : Refusal} {t l : ℕ} → r ≡ Err e → taken_of r t l ≡ Untaken e t l
err_taken e = rw e

-- An instance.
pub ok_instance : {r : Result Opened Refusal} {o : Opened} {t l : ℕ} → r ≡ Ok o → instance_of r t l ≡ Got o.ty o.rows t l o.fresh.tv o.fresh.dv
ok_instance e = rw e

-- None.
pub err_instance : {r : Result Opened Refusal} {e : Refusal} {t l : ℕ} → r ≡ Err e → instance_of r t l ≡ Ungot e t l
err_instance e = rw e

-- A term.
pub some_core : {r : Option ℕ} {e t : ℕ} → r ≡ Some e → cored_of r t ≡ Made e t
some_core e = rw e

-- None.
pub none_core : {r : Option ℕ} (t : ℕ) → r ≡ None → cored_of r t ≡ Unmade
none_core t e = rw e

-- What a name comes to.
pub ok_is : {r : Result Used Refusal} {u : Used} {t l : ℕ} → r ≡ Ok u → looked_of r t l ≡ Done u.ty u.term u.rows t l u.fresh.tv u.fresh.dv
ok_is e = rw e

-- A refusal.
pub err_is : {r : Result Used Refusal} {e : Refusal} {t l : ℕ} → r ≡ Err e → looked_of r t l ≡ Refused e t l
err_is e = rw e
