-- What applying a substitution to a scheme asks of the words and gives.
use Rattle.std.specs.Prelude.{◌≡◌, true, List, ℕ, ◌+◌, ◌*◌}
use Rattle.meaning.specs.Base.{null}
use Rattle.meaning.specs.Ast.{qual, Scheme, forall}
use Rattle.meaning.specs.Budget.{Out, done}
use Rattle.meaning.specs.Subst.{ftv_scheme}
use Rattle.ast.specs.Table.{tree, Node}
use Rattle.errors.specs.Refusals.{Refuses}
use Rattle.vars.specs.Vars.{vars_of_word}
use Rattle.pairs.specs.Pairs.{Stands}
use Rattle.apply.specs.Region.{Grown}
use Rattle.subst.specs.Preds.{preds_of_word}
use Rattle.subst.specs.Quals.{ReadyQual}
use Rattle.subst.specs.AppliedQual.{AppliedQual}
use Rattle.subst.specs.AppliedQual.{Done, Refused}

-- The scheme of a list of variables, a list of predicates and a type.
abbrev pub scheme_of_word : List ℕ → List ℕ → ℕ → ℕ → ℕ → Scheme
scheme_of_word ns w vs ps t = forall (vars_of_word ns w vs) (qual (preds_of_word ns w ps) (tree ns w t))

-- The same as `ReadyQual`, and a list vs of variables that stay.
pub record ReadyScheme (ns w : List ℕ) (top left at k vs ps t : ℕ) : Type 0 where
  pub qual : ReadyQual ns w top left at k ps t
  pub vars : Node w top vs

-- The code's answer for an outcome o: the variables are the same words, predicates and type are words of the grown table.
abbrev pub SchemeAnswer : List ℕ → List ℕ → ℕ → ℕ → ℕ → Out Scheme → AppliedQual → Type 0
SchemeAnswer ns w' top left vs o (Done ps t top' left') =
    (o ≡ done (scheme_of_word ns w' vs ps t) left') × (Node w' top' ps × Grown (4 * top + 8 * left) w' top left top' left' t)
SchemeAnswer ns w' top left vs o (Refused e top' left') = Refuses ns w' top left o e top' left'

-- The words became w': what is older stands, and the answer is the outcome o. A scheme without free variables is handed
-- back as it is, and no word is written.
pub record GivesScheme (ns w w' : List ℕ) (top left vs ps t : ℕ) (o : Out Scheme) (r : AppliedQual) : Type 0 where
  pub stands : Stands w w' top (4 * top + 8 * left)
  pub answer : SchemeAnswer ns w' top left vs o r
  pub closed : null (ftv_scheme (scheme_of_word ns w vs ps t)) ≡ true → (r ≡ Done ps t top left) × (w' ≡ w)
