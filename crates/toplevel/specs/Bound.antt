-- A scheme's variables, predicates and type, the first free node, the steps left and both counters; or a refusal with the first two.
use Rattle.std.specs.Prelude.{ℕ, Result, Ok, Err}
use Rattle.errors.specs.declared.Refusal.{Refusal}
use Rattle.toplevel.specs.declared.Let.{Let}

-- What a function comes to: an answer or a refusal, each with what it leaves.
pub data Bound : Type 0 where
  Done : ℕ → ℕ → ℕ → ℕ → ℕ → ℕ → ℕ → Bound
  Refused : Refusal → ℕ → ℕ → Bound

-- What the code returned, with what it left.
abbrev pub bound_of : Result Let Refusal → ℕ → ℕ → Bound
bound_of (Ok x) top left = Done x.scheme.vars x.scheme.preds x.scheme.ty top left x.fresh.tv x.fresh.dv
bound_of (Err e) top left = Refused e top left
