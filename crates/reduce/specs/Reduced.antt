-- The first free node and the steps left; or a refusal with both.
use Rattle.std.specs.Prelude.{ℕ, Result, Ok, Err}
use Rattle.errors.specs.declared.Refusal.{Refusal}

-- What a function comes to: an answer or a refusal, each with what it leaves.
pub data Reduced : Type 0 where
  Done : ℕ → ℕ → Reduced
  Refused : Refusal → ℕ → ℕ → Reduced

-- What the code returned, with what it left.
abbrev pub reduced_of : Result (Unit {0}) Refusal → ℕ → ℕ → Reduced
reduced_of (Ok x) top left = Done top left
reduced_of (Err e) top left = Refused e top left
