-- A dictionary's word, the first free node and the steps left; no entry, and the steps left; or a refusal with both.
use Rattle.std.specs.Prelude.{ℕ, Option, Some, None, Result, Ok, Err}
use Rattle.errors.specs.declared.Refusal.{Refusal}

-- What a search comes to: an entry, none or a refusal, each with what it leaves.
pub data Searched : Type 0 where
  Found : ℕ → ℕ → ℕ → Searched
  Nothing : ℕ → Searched
  Refused : Refusal → ℕ → ℕ → Searched

-- What the code returned, with what it left.
abbrev pub searched_of : Result (Option ℕ) Refusal → ℕ → ℕ → Searched
searched_of (Ok (Some e)) top left = Found e top left
searched_of (Ok None) top left = Nothing left
searched_of (Err e) top left = Refused e top left
