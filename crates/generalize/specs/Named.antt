-- The scheme's variables, predicates and type, the term, the first free node and the steps left; or a refusal with both.
use Rattle.std.specs.Prelude.{ℕ, Result, Ok, Err}
use Rattle.errors.specs.declared.Refusal.{Refusal}
use Rattle.generalize.specs.declared.naming.Naming.{Naming}

-- What a function comes to: an answer or a refusal, each with what it leaves.
pub data Named : Type 0 where
  Done : ℕ → ℕ → ℕ → ℕ → ℕ → ℕ → Named
  Refused : Refusal → ℕ → ℕ → Named

-- What the code returned, with what it left.
abbrev pub named_of : Result Naming Refusal → ℕ → ℕ → Named
named_of (Ok x) top left = Done x.scheme.vars x.scheme.preds x.scheme.ty x.term top left
named_of (Err e) top left = Refused e top left
