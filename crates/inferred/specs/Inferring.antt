-- What inference asks of the words and gives: an expression's type, term, substitution and pending predicates, the environment
-- after it and both counters.
use Rattle.std.specs.Prelude.{◌≡◌, List, ℕ, ◌+◌, ◌*◌, ◌≤◌, length}
use Rattle.meaning.specs.Budget.{Out, done}
use Rattle.meaning.specs.Classes.{ClassEnv}
use Rattle.meaning.specs.Infer as M
use Rattle.names.specs.Names.{Names}
use Rattle.ast.specs.Table.{Table}
use Rattle.rows.specs.BuiltIns.{BuiltIns}
use Rattle.errors.specs.Refusals.{Refuses}
use Rattle.pairs.specs.Pairs.{Stands}
use Rattle.instances.specs.Accepted.{Heads}
use Rattle.classes.specs.Method.{Methods}
use Rattle.resolve.specs.Resolves.{Declared}
use Rattle.scope.specs.Scope.{Scope, env_of}
use Rattle.inferred.specs.Closing.{Answered, answer_of}
use Rattle.inferred.specs.Closed.{Closed}
use Rattle.inferred.specs.Closed.{Done as C-Done, Refused as C-Refused}
use Rattle.inferred.specs.Inferred.{Inferred}
use Rattle.inferred.specs.Inferred.{Done, Refused}

-- The state that environment rows and counters stand for.
abbrev pub state_of : List ℕ → List ℕ → List ℕ → List ℕ → ℕ → ℕ → M.State
state_of ns w ev od tv dv = record { env = env_of ns w ev od; tv_counter = tv; dv_counter = dv }

-- An end's answer with m rows and both counters.
abbrev pub with_state : Closed → ℕ → ℕ → ℕ → Inferred
with_state (C-Done t e k top left) m tv dv = Done t e k m top left tv dv
with_state (C-Refused r top left) m tv dv = Refused r top left

-- What lies still while inference runs: class table, method table and the words of the instances stand for the class environment.
pub record Still (ns w cl mt il : List ℕ) (top : ℕ) (ce : ClassEnv) : Type 0 where
  pub declared : Declared ns cl w top il ce
  pub methods : Methods ns w top mt ce

-- What is asked. There is room for 8 words a step and x more, for a row a step and z more, and for a number of each counter a
-- step and y more of the variables'.
pub record ReadyI (x y z : ℕ) (ns w ev od il bs : List ℕ) (top left sp tv dv : ℕ) : Type 0 where
  pub names : Names ns
  pub built : BuiltIns ns
  pub table : Table w top
  pub scope : Scope ns w ev od top
  pub all : length od ≡ 1_059
  pub heads : Heads w top il
  pub room : 4 * top + 8 * left + x ≤ sp
  pub fits : sp ≤ length w
  pub long : length w ≤ 2_305_843_009_213_693_952
  pub rows : 3 * (left + z) ≤ length bs
  pub tvs : tv + left + y ≤ 1_152_921_504_606_846_976
  pub dvs : dv + left ≤ 17_592_186_044_416

-- An answer in the grown table: no more words, rows and numbers are used than the steps paid for.
pub record GrownI (x y z : ℕ) (ns w' ev' od bs' : List ℕ) (top left sp tv dv t e k m top' left' tv' dv' : ℕ) : Type 0 where
  pub words : Answered ns w' bs' top' sp t e k m
  pub scope : Scope ns w' ev' od top'
  pub more : top ≤ top'
  pub down : left' ≤ left
  pub spent : 4 * top' + 8 * left' + 2 * k ≤ 4 * top + 8 * left + x
  pub rows : m + left' ≤ left + z
  pub tvs : tv' + left' ≤ tv + left + y
  pub dvs : dv' + left' ≤ dv + left

-- The code's answer for the outcome o, for each i of which `Of` holds.
abbrev pub AnswerI : {E : Type 0} → (E → Type 0) → (E → Out (M.Inferred × M.State)) → ℕ → ℕ → ℕ → List ℕ → List ℕ → List ℕ → List ℕ → List ℕ → ℕ → ℕ → ℕ → ℕ → ℕ → Inferred → Type 0
AnswerI {E} Of o x y z ns w' ev' od bs' top left sp tv dv (Done t e k m top' left' tv' dv') =
    GrownI x y z ns w' ev' od bs' top left sp tv dv t e k m top' left' tv' dv'
    × ((i : E) → Of i → o i ≡ done (answer_of ns w' bs' sp t e k m, state_of ns w' ev' od tv' dv') left')
AnswerI {E} Of o x y z ns w' ev' od bs' top left sp tv dv (Refused r top' left') = (i : E) → Of i → Refuses ns w' top left (o i) r top' left'

-- The words became w', the environment's rows ev' and the binders' rows bs': table and stack stand, and the answer is the
-- outcome o.
pub record GivesI {E : Type 0} (Of : E → Type 0) (o : E → Out (M.Inferred × M.State)) (x y z : ℕ) (ns w w' ev' od bs bs' : List ℕ) (top left sp tv dv : ℕ) (r : Inferred) : Type 0 where
  pub stands : Stands w w' top sp
  pub long : length bs' ≡ length bs
  pub answer : AnswerI Of o x y z ns w' ev' od bs' top left sp tv dv r
