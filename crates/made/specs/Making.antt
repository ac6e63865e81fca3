-- A term made by inference for a field of an instance: what the code gives for a definition's outcome.
use Rattle.std.specs.Prelude.{◌≡◌, List, ℕ, ◌+◌, ◌*◌, ◌≤◌, length}
use Rattle.meaning.specs.Ast.{Core}
use Rattle.meaning.specs.Budget.{Out, done}
use Rattle.meaning.specs.Infer as M
use Rattle.ast.specs.Table.{Node}
use Rattle.errors.specs.Refusals.{Refuses}
use Rattle.pairs.specs.Pairs.{Stands}
use Rattle.cores.specs.Terms.{core}
use Rattle.scope.specs.Scope.{Scope}
use Rattle.inferred.specs.Inferring.{state_of}
use Rattle.made.specs.Made.{Made, Done, Refused}

-- The term e in the grown table, and the environment: no more words and numbers are used than the steps paid for, and of what they
-- paid for 4 words are left, for a cell that holds the term.
pub record GrownM (ns w' ev' od : List ℕ) (top left tv dv e top' left' tv' dv' : ℕ) : Type 0 where
  pub term : Node w' top' e
  pub scope : Scope ns w' ev' od top'
  pub more : top ≤ top'
  pub down : left' ≤ left
  pub spent : 4 * top' + 8 * left' + 4 ≤ 4 * top + 8 * left
  pub tvs : tv' + left' ≤ tv + left
  pub dvs : dv' + left' ≤ dv + left

-- The code's answer for the outcome o, for each i of which `Of` holds.
abbrev pub AnswerM : {E : Type 0} → (E → Type 0) → (E → Out (Core × M.State)) → List ℕ → List ℕ → List ℕ → List ℕ → ℕ → ℕ → ℕ → ℕ → Made → Type 0
AnswerM {E} Of o ns w' ev' od top left tv dv (Done e top' left' tv' dv') =
    GrownM ns w' ev' od top left tv dv e top' left' tv' dv'
    × ((i : E) → Of i → o i ≡ done (core ns w' e, state_of ns w' ev' od tv' dv') left')
AnswerM {E} Of o ns w' ev' od top left tv dv (Refused q top' left') = (i : E) → Of i → Refuses ns w' top left (o i) q top' left'

-- The words became w', the environment's rows ev' and the binders' rows bs': table and stack stand, and the answer is the
-- outcome o.
pub record GivesM {E : Type 0} (Of : E → Type 0) (o : E → Out (Core × M.State)) (ns w w' ev' od bs bs' : List ℕ) (top left sp tv dv : ℕ) (r : Made) : Type 0 where
  pub stands : Stands w w' top sp
  pub long : length bs' ≡ length bs
  pub answer : AnswerM Of o ns w' ev' od top left tv dv r
