-- No older instance overlaps, and the steps left; or a refusal with the first free node too.
use Rattle.std.specs.Prelude.{ℕ, Result, Ok, Err}
use Rattle.errors.specs.declared.Refusal.{Refusal}

-- What the test of a new head comes to: that all older ones are apart, or a refusal, each with what it leaves.
pub data Apart : Type 0 where
  All : ℕ → Apart
  Refused : Refusal → ℕ → ℕ → Apart

-- What the code returned, with what it left.
abbrev pub apart_of : Result (Unit {0}) Refusal → ℕ → ℕ → Apart
apart_of (Ok x) top left = All left
apart_of (Err e) top left = Refused e top left
