-- A type's word, how many rows, the first free node, the steps left and both counters; or a refusal with node and steps.
use Rattle.std.specs.Prelude.{ℕ, Result, Ok, Err}
use Rattle.errors.specs.declared.Refusal.{Refusal}
use Rattle.instantiate.specs.declared.Opened.{Opened}

-- What a function comes to: an answer or a refusal, each with what it leaves.
pub data Instance : Type 0 where
  Done : ℕ → ℕ → ℕ → ℕ → ℕ → ℕ → Instance
  Refused : Refusal → ℕ → ℕ → Instance

-- What the code returned, with what it left.
abbrev pub instance_of : Result Opened Refusal → ℕ → ℕ → Instance
instance_of (Ok x) top left = Done x.ty x.rows top left x.fresh.tv x.fresh.dv
instance_of (Err e) top left = Refused e top left
