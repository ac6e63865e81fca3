-- Predicates, type and term, the first free node, the steps left and both counters; or a refusal with the first two.
use Rattle.std.specs.Prelude.{ℕ, Result, Ok, Err}
use Rattle.errors.specs.declared.Refusal.{Refusal}
use Rattle.toplevel.specs.declared.checks.Answer.{Answer}

-- What a function comes to: an answer or a refusal, each with what it leaves.
pub data Checked : Type 0 where
  Done : ℕ → ℕ → ℕ → ℕ → ℕ → ℕ → ℕ → Checked
  Refused : Refusal → ℕ → ℕ → Checked

-- What the code returned, with what it left.
abbrev pub checked_of : Result Answer Refusal → ℕ → ℕ → Checked
checked_of (Ok x) top left = Done x.preds x.ty x.term top left x.fresh.tv x.fresh.dv
checked_of (Err e) top left = Refused e top left
