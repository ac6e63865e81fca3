-- A type's word and how many pairs there are, the first free node and the steps left; or a refusal with the same two.
use Rattle.std.specs.Prelude.{ℕ, Result, Ok, Err}
use Rattle.errors.specs.declared.Refusal.{Refusal}
use Rattle.ends.specs.declared.Join.{Join}

-- What a function comes to: an answer or a refusal, each with what it leaves.
pub data Joined : Type 0 where
  Done : ℕ → ℕ → ℕ → ℕ → Joined
  Refused : Refusal → ℕ → ℕ → Joined

-- What the code returned, with what it left.
abbrev pub joined_of : Result Join Refusal → ℕ → ℕ → Joined
joined_of (Ok x) top left = Done x.ty x.pairs top left
joined_of (Err e) top left = Refused e top left
