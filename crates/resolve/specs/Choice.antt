-- The way to a dictionary: its word; or an instance by its number, how many pairs its match has, and the list of its
-- subgoals; each with the first free node and the steps left. Or a refusal with these two.
use Rattle.std.specs.Prelude.{ℕ, Result, Ok, Err}
use Rattle.errors.specs.declared.Refusal.{Refusal}
use Rattle.resolve.specs.declared.Way.{Way}
use Rattle.resolve.specs.declared.Way.TheVariants.{Given as At-Hand, By as By-Instance}

-- What looking for a way comes to: a way or a refusal, each with what it leaves.
pub data Choice : Type 0 where
  Given : ℕ → ℕ → ℕ → Choice
  By : ℕ → ℕ → ℕ → ℕ → ℕ → Choice
  Refused : Refusal → ℕ → ℕ → Choice

-- What the code returned, with what it left.
abbrev pub choice_of : Result Way Refusal → ℕ → ℕ → Choice
choice_of (Ok (At-Hand e)) top left = Given e top left
choice_of (Ok (By-Instance m g)) top left = By m.index m.pairs g top left
choice_of (Err e) top left = Refused e top left
