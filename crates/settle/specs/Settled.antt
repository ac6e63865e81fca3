-- The term's word, how many rows are deferred, the first free node and the steps left; or a refusal with both.
use Rattle.std.specs.Prelude.{ℕ, Result, Ok, Err}
use Rattle.errors.specs.declared.Refusal.{Refusal}
use Rattle.settle.specs.declared.Rest.{Rest}

-- What a function comes to: an answer or a refusal, each with what it leaves.
pub data Settled : Type 0 where
  Done : ℕ → ℕ → ℕ → ℕ → Settled
  Refused : Refusal → ℕ → ℕ → Settled

-- What the code returned, with what it left.
abbrev pub settled_of : Result Rest Refusal → ℕ → ℕ → Settled
settled_of (Ok x) top left = Done x.term x.deferred top left
settled_of (Err e) top left = Refused e top left
