-- The predicates, the type and the term, the first free node and the steps left; or a refusal with both.
use Rattle.std.specs.Prelude.{ℕ, Result, Ok, Err}
use Rattle.errors.specs.declared.Refusal.{Refusal}
use Rattle.generalize.specs.declared.Final.{Final}

-- What a function comes to: an answer or a refusal, each with what it leaves.
pub data Finalized : Type 0 where
  Done : ℕ → ℕ → ℕ → ℕ → ℕ → Finalized
  Refused : Refusal → ℕ → ℕ → Finalized

-- What the code returned, with what it left.
abbrev pub finalized_of : Result Final Refusal → ℕ → ℕ → Finalized
finalized_of (Ok x) top left = Done x.preds x.ty x.term top left
finalized_of (Err e) top left = Refused e top left
