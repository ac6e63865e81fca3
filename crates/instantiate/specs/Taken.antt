-- How many rows, the first free node and the steps left; or a refusal with the last two.
use Rattle.std.specs.Prelude.{ℕ, Result, Ok, Err}
use Rattle.errors.specs.declared.Refusal.{Refusal}

-- What a function comes to: an answer or a refusal, each with what it leaves.
pub data Taken : Type 0 where
  Done : ℕ → ℕ → ℕ → Taken
  Refused : Refusal → ℕ → ℕ → Taken

-- What the code returned, with what it left.
abbrev pub taken_of : Result ℕ Refusal → ℕ → ℕ → Taken
taken_of (Ok x) top left = Done x top left
taken_of (Err e) top left = Refused e top left
