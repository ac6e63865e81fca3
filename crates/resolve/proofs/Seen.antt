-- What the code returned, as what it comes to.
use mathlib.Core.Path.{◌≡◌}
use Prim.Native.Nat.{ℕ}
use Rattle.std.specs.Prelude.{Result, Ok, Err}
use Rattle.errors.specs.declared.Refusal.{Refusal}
use Rattle.instances.specs.declared.Match.{Match}
use Rattle.resolve.specs.declared.Way.{Way}
use Rattle.resolve.specs.declared.Way.TheVariants.{Given as At-Hand, By as By-Instance}
use Rattle.resolve.specs.Resolved.{Done, Refused, resolved_of}
use Rattle.resolve.specs.Choice.{Given, By, Refused as C-Refused, choice_of}

-- A dictionary.
pub done_is : {r : Result ℕ Refusal} {e t l : ℕ} → r ≡ Ok e → resolved_of r t l ≡ Done e t l
done_is e = rw e

-- A refusal.
pub refused_is : {r : Result ℕ Refusal} {e : Refusal} {t l : ℕ} → r ≡ Err e → resolved_of r t l ≡ Refused e t l
refused_is e = rw e

-- A dictionary at hand.
pub given_is : {r : Result Way Refusal} {x : Way} {e t l : ℕ} → r ≡ Ok x → x ≡ At-Hand e → choice_of r t l ≡ Given e t l
given_is e h = rw (e, h)

-- An instance.
pub by_is : {r : Result Way Refusal} {x : Way} {m : Match} {g t l : ℕ} → r ≡ Ok x → x ≡ By-Instance m g → choice_of r t l ≡ By m.index m.pairs g t l
by_is e h = rw (e, h)

-- A refusal.
pub unchosen_is : {r : Result Way Refusal} {e : Refusal} {t l : ℕ} → r ≡ Err e → choice_of r t l ≡ C-Refused e t l
unchosen_is e = rw e
