-- What generalizing a let's binding asks of the words and gives.
use Rattle.std.specs.Prelude.{◌≡◌, List, ℕ, ◌+◌, ◌*◌, ◌-◌, ◌≤◌, length}
use Rattle.meaning.specs.Ast.{Scheme, Core}
use Rattle.meaning.specs.Budget.{Out, done}
use Rattle.meaning.specs.Classes.{ClassEnv}
use Rattle.meaning.specs.Generalize.{Pending}
use Rattle.meaning.specs.Infer as M
use Rattle.theorems.proofs.Made.{MadeEnv}
use Rattle.theorems.proofs.InferMade.{MadeInferred}
use Rattle.theorems.proofs.Bound.{names_of}
use Rattle.theorems.proofs.NamesGeneralized.{Named}
use Rattle.ast.specs.Table.{Node}
use Rattle.errors.specs.Refusals.{Refuses}
use Rattle.pairs.specs.Pairs.{Stands}
use Rattle.cores.specs.Terms.{core}
use Rattle.supers.specs.Rows.{binders_in}
use Rattle.subst.specs.Schemes.{scheme_of_word}
use Rattle.scope.specs.Scope.{Held, Scope}
use Rattle.pending.specs.Rows.{PendingRows}
use Rattle.resolve.specs.Resolves.{Declared}
use Rattle.inferred.specs.Closing.{Answered}
use Rattle.inferred.specs.Inferring.{state_of, ReadyI}
use Rattle.generalize.specs.Generalized.{Generalized}
use Rattle.generalize.specs.Generalized.{Done, Refused}

-- What inference leaves: types over made variables, and pending names that rise within some bounds and that the term does not bind.
pub record Fit (r : M.Inferred) (st : M.State) : Type 0 where
  pub made : MadeInferred r
  pub env : MadeEnv st.env
  pub lo : ℕ
  pub hi : ℕ
  pub named : Named lo hi (names_of r.2) r.3

-- What a binding's inference gave: type, term, k pairs that end at sp and m rows, with 8 words more than 8 a step free below them.
pub record ReadyMid (ns w ev od il bs : List ℕ) (top left sp tv dv t e k m : ℕ) : Type 0 where
  pub ready : ReadyI (2 * k + 8) 0 m ns w ev od il bs top left sp tv dv
  pub words : Answered ns w bs top sp t e k m

-- The class environment is what the words stand for, and what was inferred is fit.
pub record AskedGeneral (ns cl w il : List ℕ) (top : ℕ) (r : M.Inferred) (st : M.State) (ce : ClassEnv) : Type 0 where
  pub declared : Declared ns cl w top il ce
  pub fit : Fit r st

-- The scheme's three words, the term and nd deferred rows in the grown table.
pub record GrownG (ns w' ev' od bs' : List ℕ) (top left m vs ps u c nd top' left' : ℕ) : Type 0 where
  pub scheme : Held ns w' top' vs ps u
  pub bound : Node w' top' c
  pub scope : Scope ns w' ev' od top'
  pub rows : PendingRows w' bs' top' nd
  pub few : nd ≤ m
  pub more : top ≤ top'
  pub down : left' ≤ left
  pub spent : 4 * top' + 8 * left' ≤ 4 * top + 8 * left + 4

-- The code's answer for the outcome o, for each class environment of which `Of` holds.
abbrev pub AnswerG : (ClassEnv → Type 0) → (ClassEnv → Out ((Scheme × Core × Pending) × M.State)) → List ℕ → List ℕ → List ℕ → List ℕ → List ℕ → ℕ → ℕ → ℕ → ℕ → ℕ → Generalized → Type 0
AnswerG Of o ns w' ev' od bs' top left m tv dv (Done vs ps u c nd top' left') =
    GrownG ns w' ev' od bs' top left m vs ps u c nd top' left'
    × ((ce : ClassEnv) → Of ce → o ce ≡ done ((scheme_of_word ns w' vs ps u, core ns w' c, binders_in ns w' bs' 0 nd), state_of ns w' ev' od tv dv) left')
AnswerG Of o ns w' ev' od bs' top left m tv dv (Refused q top' left') = (ce : ClassEnv) → Of ce → Refuses ns w' top left (o ce) q top' left'

-- The words became w', the environment's rows ev' and the binders' rows bs': table and stack stand, the binding's k pairs too.
pub record GivesG (Of : ClassEnv → Type 0) (o : ClassEnv → Out ((Scheme × Core × Pending) × M.State)) (ns w w' ev' od bs bs' : List ℕ) (top left sp k m tv dv : ℕ) (r : Generalized) : Type 0 where
  pub stands : Stands w w' top (sp - 2 * k)
  pub long : length bs' ≡ length bs
  pub answer : AnswerG Of o ns w' ev' od bs' top left m tv dv r
