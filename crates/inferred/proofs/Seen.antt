-- What the code returned, as what it comes to.
use mathlib.Core.Path.{◌≡◌}
use Prim.Native.Nat.{ℕ}
use Rattle.std.specs.Prelude.{Result, Ok, Err}
use Rattle.errors.specs.declared.Refusal.{Refusal}
use Rattle.inferred.specs.declared.Typed.{Typed}
use Rattle.inferred.specs.declared.Closing.{Closing}
use Rattle.inferred.specs.Closed.{closed_of}
use Rattle.inferred.specs.Inferred.{Inferred, Done, Refused, inferred_of}
use Rattle.inferred.specs.Inferring.{with_state}

-- An answer.
pub ok_is : {r : Result Typed Refusal} {x : Typed} {t l : ℕ} → r ≡ Ok x → inferred_of r t l ≡ Done x.ty x.term x.pairs x.rows t l x.fresh.tv x.fresh.dv
ok_is e = rw e

-- A refusal.
pub err_is : {r : Result Typed Refusal} {e : Refusal} {t l : ℕ} → r ≡ Err e → inferred_of r t l ≡ Refused e t l
err_is e = rw e

-- An end's answer with rows and counters.
pub ok_end : {r : Result Closing Refusal} {x : Closing} {q : Inferred} {t l m tv dv : ℕ} → r ≡ Ok x → q ≡ with_state (closed_of (Ok x) t l) m tv dv → q ≡ with_state (closed_of r t l) m tv dv
ok_end e h = rw e h

-- An end's refusal.
pub err_end : {r : Result Closing Refusal} {e : Refusal} {t l : ℕ} (m tv dv : ℕ) → r ≡ Err e → Refused e t l ≡ with_state (closed_of r t l) m tv dv
err_end m tv dv e = rw e
