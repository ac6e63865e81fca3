-- What applying a substitution to the rows of an environment asks and gives, and what is asked of their free variables.
use Rattle.std.specs.Prelude.{◌≡◌, List, [], ℕ, ◌+◌, ◌*◌, ◌≤◌, length}
use Rattle.std.proofs.Math.Option.{Option, none, some}
use Rattle.meaning.specs.Ast.{TyVar, Scheme}
use Rattle.meaning.specs.Budget.{Out, done, after}
use Rattle.meaning.specs.Subst.{Subst, ftv_scheme, apply_scheme}
use Rattle.meaning.specs.Generalize.{Env}
use Rattle.names.specs.Names.{Names}
use Rattle.ast.specs.Table.{Table}
use Rattle.errors.specs.Refusals.{Refuses}
use Rattle.pairs.specs.Pairs.{Sub, Stands}
use Rattle.scope.specs.Scope.{entry_of, scheme_in, env_of, EntryIn, Scope}
use Rattle.scope.specs.Swept.{Swept}
use Rattle.scope.specs.Swept.{Done, Refused}

-- ## One row

-- The k pairs from at, where the stack ends, and row r: between table and stack is room for 8 words a step.
pub record ReadyRow (ns w ev : List ℕ) (top left at k r : ℕ) : Type 0 where
  pub names : Names ns
  pub table : Table w top
  pub room : 4 * top + 8 * left ≤ at
  pub sub : Sub w top at k
  pub there : 4 * r + 4 ≤ length ev
  pub entry : EntryIn ns w top (entry_of ev r)

-- `apply_scheme` where there is a scheme.
unfoldable pub applied : Subst → Option Scheme → ℕ → Out (Option Scheme)
applied s none n = done none n
applied s (some c) n = after (apply_scheme s c n) (λ c' m. done (some c') m)

-- Row r became what o says, and no other row changed.
pub record RowDone (ns w' ev ev' : List ℕ) (top left r : ℕ) (o : Out (Option Scheme)) (top' left' : ℕ) : Type 0 where
  pub table : Table w' top'
  pub more : top ≤ top'
  pub spent : 4 * top' + 8 * left' ≤ 4 * top + 8 * left
  pub down : left' ≤ left
  pub entry : EntryIn ns w' top' (entry_of ev' r)
  pub others : (j : ℕ) → (j ≡ r → ⊥) → entry_of ev' j ≡ entry_of ev j
  pub is : o ≡ done (scheme_in ns w' (entry_of ev' r)) left'

-- The code's answer for row r.
abbrev pub RowAs : List ℕ → List ℕ → List ℕ → List ℕ → ℕ → ℕ → ℕ → Out (Option Scheme) → Swept → Type 0
RowAs ns w' ev ev' top left r o (Done top' left') = RowDone ns w' ev ev' top left r o top' left'
RowAs ns w' ev ev' top left r o (Refused e top' left') = Refuses ns w' top left o e top' left'

-- The words became w' and the rows ev': what is older stands, and the answer is the outcome o.
pub record GivesRow (ns w w' ev ev' : List ℕ) (top left r : ℕ) (o : Out (Option Scheme)) (x : Swept) : Type 0 where
  pub stands : Stands w w' top (4 * top + 8 * left)
  pub wide : length ev' ≡ length ev
  pub answer : RowAs ns w' ev ev' top left r o x

-- ## All rows

-- The k pairs from at, where the stack ends, and an environment: between table and stack is room for 8 words a step.
pub record ReadyEnv (ns w ev od : List ℕ) (top left at k : ℕ) : Type 0 where
  pub names : Names ns
  pub table : Table w top
  pub room : 4 * top + 8 * left ≤ at
  pub sub : Sub w top at k
  pub scope : Scope ns w ev od top

-- The rows stand for the environment that o says.
pub record EnvDone (ns w' ev' od : List ℕ) (top left : ℕ) (o : Out Env) (top' left' : ℕ) : Type 0 where
  pub table : Table w' top'
  pub more : top ≤ top'
  pub spent : 4 * top' + 8 * left' ≤ 4 * top + 8 * left
  pub down : left' ≤ left
  pub scope : Scope ns w' ev' od top'
  pub is : o ≡ done (env_of ns w' ev' od) left'

-- The code's answer for all rows. After a refusal nothing is said of them: some may have changed.
abbrev pub EnvAs : List ℕ → List ℕ → List ℕ → List ℕ → ℕ → ℕ → Out Env → Swept → Type 0
EnvAs ns w' ev' od top left o (Done top' left') = EnvDone ns w' ev' od top left o top' left'
EnvAs ns w' ev' od top left o (Refused e top' left') = Refuses ns w' top left o e top' left'

-- The words became w' and the rows ev': what is older stands, and the answer is the outcome o.
pub record GivesEnv (ns w w' ev ev' od : List ℕ) (top left : ℕ) (o : Out Env) (r : Swept) : Type 0 where
  pub stands : Stands w w' top (4 * top + 8 * left)
  pub wide : length ev' ≡ length ev
  pub answer : EnvAs ns w' ev' od top left o r

-- ## Free variables

-- Those of a scheme, where there is one.
abbrev pub ftv_in : Option Scheme → List TyVar
ftv_in none = []
ftv_in (some c) = ftv_scheme c
