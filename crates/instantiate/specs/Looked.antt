-- A type's word, a term's word, how many rows, the first free node, the steps left and both counters; or a refusal.
use Rattle.std.specs.Prelude.{ℕ, Result, Ok, Err}
use Rattle.errors.specs.declared.Refusal.{Refusal}
use Rattle.instantiate.specs.declared.Used.{Used}

-- What a function comes to: an answer or a refusal, each with what it leaves.
pub data Looked : Type 0 where
  Done : ℕ → ℕ → ℕ → ℕ → ℕ → ℕ → ℕ → Looked
  Refused : Refusal → ℕ → ℕ → Looked

-- What the code returned, with what it left.
abbrev pub looked_of : Result Used Refusal → ℕ → ℕ → Looked
looked_of (Ok x) top left = Done x.ty x.term x.rows top left x.fresh.tv x.fresh.dv
looked_of (Err e) top left = Refused e top left
