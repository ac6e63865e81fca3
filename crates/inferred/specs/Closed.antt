-- A type, a term, how many pairs, the first free node and the steps left: rows and counters are those of the parts;
-- or a refusal with the same two.
use Rattle.std.specs.Prelude.{ℕ, Result, Ok, Err}
use Rattle.errors.specs.declared.Refusal.{Refusal}
use Rattle.inferred.specs.declared.Closing.{Closing}

-- What a function comes to: an answer or a refusal, each with what it leaves.
pub data Closed : Type 0 where
  Done : ℕ → ℕ → ℕ → ℕ → ℕ → Closed
  Refused : Refusal → ℕ → ℕ → Closed

-- What the code returned, with what it left.
abbrev pub closed_of : Result Closing Refusal → ℕ → ℕ → Closed
closed_of (Ok x) top left = Done x.ty x.term x.pairs top left
closed_of (Err e) top left = Refused e top left
