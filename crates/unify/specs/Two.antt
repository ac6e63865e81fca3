-- Two types' words, the first free node and the steps left; or a refusal.
use Rattle.std.specs.Prelude.{ℕ, Result, Ok, Err}
use Rattle.errors.specs.declared.Refusal.{Refusal}
use Rattle.unify.specs.declared.Pair.{Pair}

-- What a function comes to: an answer or a refusal, each with what it leaves.
pub data Two : Type 0 where
  Done : ℕ → ℕ → ℕ → ℕ → Two
  Refused : Refusal → ℕ → ℕ → Two

-- What the code returned, with what it left.
abbrev pub two_of : Result Pair Refusal → ℕ → ℕ → Two
two_of (Ok x) top left = Done x.left x.right top left
two_of (Err e) top left = Refused e top left
