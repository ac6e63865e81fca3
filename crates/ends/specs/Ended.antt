-- A type's word and a core term's, the first free node and the steps left; or a refusal with the same two.
use Rattle.std.specs.Prelude.{ℕ, Result, Ok, Err}
use Rattle.errors.specs.declared.Refusal.{Refusal}
use Rattle.ends.specs.declared.Function.{Function}

-- What a function comes to: an answer or a refusal, each with what it leaves.
pub data Ended : Type 0 where
  Done : ℕ → ℕ → ℕ → ℕ → Ended
  Refused : Refusal → ℕ → ℕ → Ended

-- What the code returned, with what it left.
abbrev pub ended_of : Result Function Refusal → ℕ → ℕ → Ended
ended_of (Ok x) top left = Done x.ty x.term top left
ended_of (Err e) top left = Refused e top left
