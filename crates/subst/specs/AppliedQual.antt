-- The predicates' list, a type's word, the first free node and the steps left; or a refusal with the last two.
use Rattle.std.specs.Prelude.{ℕ, Result, Ok, Err}
use Rattle.errors.specs.declared.Refusal.{Refusal}
use Rattle.subst.specs.declared.Qual.{Qual}

-- What a function comes to: an answer or a refusal, each with what it leaves.
pub data AppliedQual : Type 0 where
  Done : ℕ → ℕ → ℕ → ℕ → AppliedQual
  Refused : Refusal → ℕ → ℕ → AppliedQual

-- What the code returned, with what it left.
abbrev pub qual_of : Result Qual Refusal → ℕ → ℕ → AppliedQual
qual_of (Ok x) top left = Done x.preds x.ty top left
qual_of (Err e) top left = Refused e top left
