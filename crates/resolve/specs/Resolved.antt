-- A dictionary's word or the word of a list of them, the first free node and the steps left; or a refusal with the last
-- two.
use Rattle.std.specs.Prelude.{ℕ, Result, Ok, Err}
use Rattle.errors.specs.declared.Refusal.{Refusal}

-- What a function comes to: an answer or a refusal, each with what it leaves.
pub data Resolved : Type 0 where
  Done : ℕ → ℕ → ℕ → Resolved
  Refused : Refusal → ℕ → ℕ → Resolved

-- What the code returned, with what it left.
abbrev pub resolved_of : Result ℕ Refusal → ℕ → ℕ → Resolved
resolved_of (Ok x) top left = Done x top left
resolved_of (Err e) top left = Refused e top left
