-- An instance by its number, how many pairs its match has, the first free node and the steps left; no instance, and the
-- steps left; or a refusal with the last two.
use Rattle.std.specs.Prelude.{ℕ, Option, Some, None, Result, Ok, Err}
use Rattle.errors.specs.declared.Refusal.{Refusal}
use Rattle.instances.specs.declared.Match.{Match}

-- What looking up an instance comes to: one, none or a refusal, each with what it leaves.
pub data Picked : Type 0 where
  At : ℕ → ℕ → ℕ → ℕ → Picked
  Nothing : ℕ → Picked
  Refused : Refusal → ℕ → ℕ → Picked

-- What the code returned, with what it left.
abbrev pub picked_of : Result (Option Match) Refusal → ℕ → ℕ → Picked
picked_of (Ok (Some m)) top left = At m.index m.pairs top left
picked_of (Ok None) top left = Nothing left
picked_of (Err e) top left = Refused e top left
