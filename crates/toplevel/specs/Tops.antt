-- What a let and an expression at the top of a session ask of the words and give.
use Rattle.std.specs.Prelude.{◌≡◌, List, ℕ, ◌+◌, ◌*◌, ◌<◌, ◌≤◌, length}
use Rattle.meaning.specs.Ast.{Scheme, Qual, Core}
use Rattle.meaning.specs.Budget.{Out, done}
use Rattle.meaning.specs.Infer as M
use Rattle.names.specs.Names.{Names}
use Rattle.ast.specs.Table.{Node}
use Rattle.errors.specs.Refusals.{Refuses}
use Rattle.pairs.specs.Pairs.{Stands}
use Rattle.subst.specs.Preds.{preds_of_word}
use Rattle.subst.specs.Schemes.{scheme_of_word}
use Rattle.cores.specs.Terms.{core}
use Rattle.scope.specs.Scope.{Smalls, Held, Scope}
use Rattle.pending.specs.Rows.{PendingRows}
use Rattle.canonical.specs.Named.{list_qual}
use Rattle.inferred.specs.Closing.{Answered}
use Rattle.inferred.specs.Inferring.{state_of, ReadyI}
use Rattle.toplevel.specs.Bound.{Bound}
use Rattle.toplevel.specs.Bound.{Done as B-Done, Refused as B-Refused}
use Rattle.toplevel.specs.Checked.{Checked}
use Rattle.toplevel.specs.Checked.{Done as C-Done, Refused as C-Refused}

-- ## What is asked

-- Nothing more is asked.
abbrev pub Nothing : Unit {0} → Type 0
Nothing x = Unit {0}

-- What was inferred: type, term, k pairs that end at sp and m rows; below the pairs is room for 8 words a step.
pub record ReadyRest (ns w ev od il bs : List ℕ) (top left sp tv dv t e k m : ℕ) : Type 0 where
  pub ready : ReadyI (2 * k) 0 m ns w ev od il bs top left sp tv dv
  pub words : Answered ns w bs top sp t e k m

-- An environment in which number x has a row.
pub record ReadyPut (ns w ev od : List ℕ) (top x vs ps t : ℕ) : Type 0 where
  pub names : Names ns
  pub scope : Scope ns w ev od top
  pub held : Held ns w top vs ps t
  pub there : x < length od

-- The same with nd deferred rows.
pub record ReadyEnd (ns w ev od bs : List ℕ) (top x vs ps t nd : ℕ) : Type 0 where
  pub put : ReadyPut ns w ev od top x vs ps t
  pub rows : PendingRows w bs top nd

-- ## What a let gives

-- The scheme's three words in the grown table, and the environment: no more words and numbers are used than the steps paid for.
pub record GrownB (ns w' ev' od : List ℕ) (top left tv dv vs ps t top' left' tv' dv' : ℕ) : Type 0 where
  pub held : Held ns w' top' vs ps t
  pub scope : Scope ns w' ev' od top'
  pub more : top ≤ top'
  pub down : left' ≤ left
  pub spent : 4 * top' + 8 * left' ≤ 4 * top + 8 * left
  pub tvs : tv' + left' ≤ tv + left
  pub dvs : dv' + left' ≤ dv + left

-- The code's answer for the outcome o, for each i of which `Of` holds.
abbrev pub AnswerB : {E : Type 0} → (E → Type 0) → (E → Out (Scheme × M.State)) → List ℕ → List ℕ → List ℕ → List ℕ → ℕ → ℕ → ℕ → ℕ → Bound → Type 0
AnswerB {E} Of o ns w' ev' od top left tv dv (B-Done vs ps t top' left' tv' dv') =
    GrownB ns w' ev' od top left tv dv vs ps t top' left' tv' dv'
    × ((i : E) → Of i → o i ≡ done (scheme_of_word ns w' vs ps t, state_of ns w' ev' od tv' dv') left')
AnswerB {E} Of o ns w' ev' od top left tv dv (B-Refused q top' left') = (i : E) → Of i → Refuses ns w' top left (o i) q top' left'

-- Over words that stand as they are.
pub record EndsB {E : Type 0} (Of : E → Type 0) (o : E → Out (Scheme × M.State)) (ns w ev' od : List ℕ) (top left tv dv : ℕ) (r : Bound) : Type 0 where
  pub answer : AnswerB Of o ns w ev' od top left tv dv r

-- The words became w', the environment's rows ev' and the binders' rows bs': table and stack stand, and the answer is the
-- outcome o.
pub record GivesB {E : Type 0} (Of : E → Type 0) (o : E → Out (Scheme × M.State)) (ns w w' ev' od bs bs' : List ℕ) (top left sp tv dv : ℕ) (r : Bound) : Type 0 where
  pub stands : Stands w w' top sp
  pub long : length bs' ≡ length bs
  pub answer : AnswerB Of o ns w' ev' od top left tv dv r

-- ## What an expression gives

-- The words of predicates, type and term in the grown table, and the environment.
pub record GrownK (ns w' ev' od : List ℕ) (top left tv dv ps t e top' left' tv' dv' : ℕ) : Type 0 where
  pub preds : Node w' top' ps
  pub type : Node w' top' t
  pub term : Node w' top' e
  pub small : Smalls ns (preds_of_word ns w' ps)
  pub scope : Scope ns w' ev' od top'
  pub more : top ≤ top'
  pub down : left' ≤ left
  pub spent : 4 * top' + 8 * left' ≤ 4 * top + 8 * left
  pub tvs : tv' + left' ≤ tv + left
  pub dvs : dv' + left' ≤ dv + left

-- The code's answer for the outcome o, for each i of which `Of` holds.
abbrev pub AnswerK : {E : Type 0} → (E → Type 0) → (E → Out ((Qual × Core) × M.State)) → List ℕ → List ℕ → List ℕ → List ℕ → ℕ → ℕ → ℕ → ℕ → Checked → Type 0
AnswerK {E} Of o ns w' ev' od top left tv dv (C-Done ps t e top' left' tv' dv') =
    GrownK ns w' ev' od top left tv dv ps t e top' left' tv' dv'
    × ((i : E) → Of i → o i ≡ done ((list_qual ns w' ps t, core ns w' e), state_of ns w' ev' od tv' dv') left')
AnswerK {E} Of o ns w' ev' od top left tv dv (C-Refused q top' left') = (i : E) → Of i → Refuses ns w' top left (o i) q top' left'

-- The words became w', the environment's rows ev' and the binders' rows bs': table and stack stand, and the answer is the
-- outcome o.
pub record GivesK {E : Type 0} (Of : E → Type 0) (o : E → Out ((Qual × Core) × M.State)) (ns w w' ev' od bs bs' : List ℕ) (top left sp tv dv : ℕ) (r : Checked) : Type 0 where
  pub stands : Stands w w' top sp
  pub long : length bs' ≡ length bs
  pub answer : AnswerK Of o ns w' ev' od top left tv dv r
