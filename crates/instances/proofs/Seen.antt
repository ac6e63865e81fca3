-- What the code returned, as what it comes to.
use mathlib.Core.Path.{◌≡◌, ap, ◌∙◌}
use mathlib.Core.Bool.{Bool, true, false}
use Prim.Native.Nat.{ℕ}
use Rattle.std.specs.Prelude.{Option, Some, None, Result, Ok, Err}
use Rattle.errors.specs.declared.Refusal.{Refusal}
use Rattle.instances.specs.declared.Match.{Match}
use Rattle.instances.specs.Tried.{Got, Failed, Limit, tried_of}
use Rattle.instances.specs.Picked.{At, Nothing, Refused as P-Refused, picked_of}
use Rattle.instances.specs.Truth.{Yes, No, Refused as T-Refused, truth_of}
use Rattle.instances.specs.Apart.{All, Refused as A-Refused, apart_of}

-- The answer is this one.
pub ok_as : {A E : Type 0} {r : Result A E} {x y : A} → r ≡ Ok x → x ≡ y → r ≡ Ok y
ok_as e h = e ∙ ap (λ z. Ok z) h

-- What an attempt answered.
pub tried_is : {r : Result (Option ℕ) Refusal} {x : Option ℕ} (t l : ℕ) → r ≡ Ok x → tried_of r t l ≡ tried_of (Ok x) t l
tried_is t l e = rw e

-- A match.
pub got_is : {r : Result (Option ℕ) Refusal} {x : Option ℕ} {k t l : ℕ} → r ≡ Ok x → x ≡ Some k → tried_of r t l ≡ Got k t l
got_is e h = rw (e, h)

-- No match.
pub failed_is : {r : Result (Option ℕ) Refusal} {x : Option ℕ} {l : ℕ} (t : ℕ) → r ≡ Ok x → x ≡ None → tried_of r t l ≡ Failed l
failed_is t e h = rw (e, h)

-- A refusal of either.
pub limit_is : {r : Result (Option ℕ) Refusal} {e : Refusal} {t l : ℕ} → r ≡ Err e → tried_of r t l ≡ Limit e t l
limit_is e = rw e

-- An instance.
pub at_is : {r : Result (Option Match) Refusal} {x : Option Match} {m : Match} {t l : ℕ} → r ≡ Ok x → x ≡ Some m → picked_of r t l ≡ At m.index m.pairs t l
at_is e h = rw (e, h)

-- No instance.
pub nothing_is : {r : Result (Option Match) Refusal} {x : Option Match} {l : ℕ} (t : ℕ) → r ≡ Ok x → x ≡ None → picked_of r t l ≡ Nothing l
nothing_is t e h = rw (e, h)

-- A refusal of either.
pub unpicked_is : {r : Result (Option Match) Refusal} {e : Refusal} {t l : ℕ} → r ≡ Err e → picked_of r t l ≡ P-Refused e t l
unpicked_is e = rw e

-- Yes.
pub yes_is : {r : Result Bool Refusal} {b : Bool} {l : ℕ} (t : ℕ) → r ≡ Ok b → b ≡ true → truth_of r t l ≡ Yes l
yes_is t e h = rw (e, h)

-- No.
pub no_is : {r : Result Bool Refusal} {b : Bool} {l : ℕ} (t : ℕ) → r ≡ Ok b → b ≡ false → truth_of r t l ≡ No l
no_is t e h = rw (e, h)

-- A refusal of either.
pub untold_is : {r : Result Bool Refusal} {e : Refusal} {t l : ℕ} → r ≡ Err e → truth_of r t l ≡ T-Refused e t l
untold_is e = rw e

-- All are apart.
pub all_is : {r : Result (Unit {0}) Refusal} {x : Unit {0}} {l : ℕ} (t : ℕ) → r ≡ Ok x → apart_of r t l ≡ All l
all_is t e = rw e

-- A refusal.
pub apart_refused_is : {r : Result (Unit {0}) Refusal} {e : Refusal} {t l : ℕ} → r ≡ Err e → apart_of r t l ≡ A-Refused e t l
apart_refused_is e = rw e
