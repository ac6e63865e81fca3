-- What the code returned, as what it comes to.
use mathlib.Core.Path.{◌≡◌}
use Prim.Native.Nat.{ℕ}
use Rattle.std.specs.Prelude.{Result, Ok, Err}
use Rattle.errors.specs.declared.Refusal.{Refusal}
use Rattle.unify.specs.declared.Pair.{Pair}
use Rattle.unify.specs.Two.{Done, Refused, two_of}

-- Two types.
pub two_ok : {r : Result Pair Refusal} {p : Pair} {t l : ℕ} → r ≡ Ok p → two_of r t l ≡ Done p.left p.right t l
two_ok e = rw e

-- A refusal.
pub two_err : {r : Result Pair Refusal} {e : Refusal} {t l : ℕ} → r ≡ Err e → two_of r t l ≡ Refused e t l
two_err e = rw e
