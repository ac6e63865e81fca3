-- So many pairs, the first free node and the steps left; no match, and the steps left; or a refusal with both.
use Rattle.std.specs.Prelude.{ℕ, Option, Some, None, Result, Ok, Err}
use Rattle.errors.specs.declared.Refusal.{Refusal}

-- What an attempt to match comes to: a match, none or a refusal that stays one, each with what it leaves.
pub data Tried : Type 0 where
  Got : ℕ → ℕ → ℕ → Tried
  Failed : ℕ → Tried
  Limit : Refusal → ℕ → ℕ → Tried

-- What the code returned, with what it left.
abbrev pub tried_of : Result (Option ℕ) Refusal → ℕ → ℕ → Tried
tried_of (Ok (Some k)) top left = Got k top left
tried_of (Ok None) top left = Failed left
tried_of (Err e) top left = Limit e top left
