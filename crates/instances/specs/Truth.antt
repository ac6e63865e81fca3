-- Whether something is so, and the steps left; or a refusal with the first free node too.
use Rattle.std.specs.Prelude.{Bool, true, false, ℕ, Result, Ok, Err}
use Rattle.errors.specs.declared.Refusal.{Refusal}

-- What a test comes to: yes, no or a refusal, each with what it leaves.
pub data Truth : Type 0 where
  Yes : ℕ → Truth
  No : ℕ → Truth
  Refused : Refusal → ℕ → ℕ → Truth

-- What the code returned, with what it left.
abbrev pub truth_of : Result Bool Refusal → ℕ → ℕ → Truth
truth_of (Ok true) top left = Yes left
truth_of (Ok false) top left = No left
truth_of (Err e) top left = Refused e top left
