-- The term of a name, if there is one.
use Rattle.std.specs.Prelude.{ℕ, Option, Some, None}

-- A term's word and the first free node, or no term.
pub data Cored : Type 0 where
  Made : ℕ → ℕ → Cored
  Unmade : Cored

-- What the code returned, with the first free node that it left.
abbrev pub cored_of : Option ℕ → ℕ → Cored
cored_of (Some e) top = Made e top
cored_of None top = Unmade
