-- The word of a core term, the first free node, the steps left and both counters; or a refusal with node and steps.
use Rattle.std.specs.Prelude.{ℕ, Result, Ok, Err}
use Rattle.errors.specs.declared.Refusal.{Refusal}
use Rattle.made.specs.declared.Term.{Term}

-- What a function comes to: an answer or a refusal, each with what it leaves.
pub data Made : Type 0 where
  Done : ℕ → ℕ → ℕ → ℕ → ℕ → Made
  Refused : Refusal → ℕ → ℕ → Made

-- What the code returned, with what it left.
abbrev pub made_of : Result Term Refusal → ℕ → ℕ → Made
made_of (Ok x) top left = Done x.word top left x.fresh.tv x.fresh.dv
made_of (Err e) top left = Refused e top left
