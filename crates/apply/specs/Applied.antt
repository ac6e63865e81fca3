-- A type's word, the first free node and the steps left; or a refusal with the same two.
use Rattle.std.specs.Prelude.{ℕ, Result, Ok, Err}
use Rattle.errors.specs.declared.Refusal.{Refusal}

-- What a function comes to: an answer or a refusal, each with what it leaves.
pub data Applied : Type 0 where
  Done : ℕ → ℕ → ℕ → Applied
  Refused : Refusal → ℕ → ℕ → Applied

-- What the code returned, with what it left.
abbrev pub applied_of : Result ℕ Refusal → ℕ → ℕ → Applied
applied_of (Ok x) top left = Done x top left
applied_of (Err e) top left = Refused e top left
