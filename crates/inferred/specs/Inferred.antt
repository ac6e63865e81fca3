-- An expression's type and term, how many pairs that end where the stack ended, how many pending rows, the first free node,
-- the steps left and both counters; or a refusal with the first free node and the steps left.
use Rattle.std.specs.Prelude.{ℕ, Result, Ok, Err}
use Rattle.errors.specs.declared.Refusal.{Refusal}
use Rattle.inferred.specs.declared.Typed.{Typed}

-- What a function comes to: an answer or a refusal, each with what it leaves.
pub data Inferred : Type 0 where
  Done : ℕ → ℕ → ℕ → ℕ → ℕ → ℕ → ℕ → ℕ → Inferred
  Refused : Refusal → ℕ → ℕ → Inferred

-- What the code returned, with what it left.
abbrev pub inferred_of : Result Typed Refusal → ℕ → ℕ → Inferred
inferred_of (Ok x) top left = Done x.ty x.term x.pairs x.rows top left x.fresh.tv x.fresh.dv
inferred_of (Err e) top left = Refused e top left
