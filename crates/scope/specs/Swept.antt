-- The first free node and the steps left; or a refusal with both.
use Rattle.std.specs.Prelude.{ℕ, Result, Ok, Err}
use Rattle.errors.specs.declared.Refusal.{Refusal}

-- What a function comes to: an answer or a refusal, each with what it leaves.
pub data Swept : Type 0 where
  Done : ℕ → ℕ → Swept
  Refused : Refusal → ℕ → ℕ → Swept

-- What the code returned, with what it left.
abbrev pub swept_of : Result (Unit {0}) Refusal → ℕ → ℕ → Swept
swept_of (Ok x) top left = Done top left
swept_of (Err e) top left = Refused e top left
