-- The scheme's variables, predicates and type, the term, how many rows are deferred, the first free node and the steps left; or a
-- refusal with both.
use Rattle.std.specs.Prelude.{ℕ, Result, Ok, Err}
use Rattle.errors.specs.declared.Refusal.{Refusal}
use Rattle.generalize.specs.declared.General.{General}

-- What a function comes to: an answer or a refusal, each with what it leaves.
pub data Generalized : Type 0 where
  Done : ℕ → ℕ → ℕ → ℕ → ℕ → ℕ → ℕ → Generalized
  Refused : Refusal → ℕ → ℕ → Generalized

-- What the code returned, with what it left.
abbrev pub generalized_of : Result General Refusal → ℕ → ℕ → Generalized
generalized_of (Ok x) top left = Done x.scheme.vars x.scheme.preds x.scheme.ty x.term x.deferred top left
generalized_of (Err e) top left = Refused e top left
