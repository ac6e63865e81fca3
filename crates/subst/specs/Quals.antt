-- What applying a substitution to a qualified type asks of the words and gives.
use Rattle.std.specs.Prelude.{◌≡◌, List, ℕ, ◌+◌, ◌*◌, ◌-◌}
use Rattle.meaning.specs.Ast.{Qual, qual}
use Rattle.meaning.specs.Budget.{Out, done}
use Rattle.ast.specs.Table.{tree, Node}
use Rattle.errors.specs.Refusals.{Refuses}
use Rattle.pairs.specs.Pairs.{Stands}
use Rattle.apply.specs.Region.{Ready, Grown}
use Rattle.subst.specs.Preds.{preds_of_word}
use Rattle.subst.specs.AppliedQual.{AppliedQual}
use Rattle.subst.specs.AppliedQual.{Done, Refused}

-- A type t and predicates ps, and the k pairs from at, where the stack ends.
pub record ReadyQual (ns w : List ℕ) (top left at k ps t : ℕ) : Type 0 where
  pub ty : Ready ns w top left at k t
  pub preds : Node w top ps

-- The code's answer for an outcome o: predicates and a type of the grown table, within the words that are spoken for.
abbrev pub QualAnswer : List ℕ → List ℕ → ℕ → ℕ → Out Qual → AppliedQual → Type 0
QualAnswer ns w' top left o (Done ps t top' left') =
    (o ≡ done (qual (preds_of_word ns w' ps) (tree ns w' t)) left') × (Node w' top' ps × Grown (4 * top + 8 * left - 4) w' top left top' left' t)
QualAnswer ns w' top left o (Refused e top' left') = Refuses ns w' top left o e top' left'

-- The words became w': what is older stands, and the answer is the outcome o.
pub record GivesQual (ns w w' : List ℕ) (top left : ℕ) (o : Out Qual) (r : AppliedQual) : Type 0 where
  pub stands : Stands w w' top (4 * top + 8 * left)
  pub answer : QualAnswer ns w' top left o r
