-- What settling pending rows asks of the words and gives.
use Rattle.std.specs.Prelude.{◌≡◌, List, [], ◌⊎◌, ℕ, ◌+◌, ◌*◌, ◌-◌, ◌<◌, ◌≤◌, length, get_or}
use Rattle.meaning.specs.Ast.{TyVar, DictName, Core, Binder}
use Rattle.meaning.specs.Budget.{Out, done}
use Rattle.meaning.specs.Subst.{ftv_type}
use Rattle.meaning.specs.Classes.{ClassEnv}
use Rattle.meaning.specs.Reduce.{simplify_context}
use Rattle.meaning.specs.Generalize.{env_ftv, is_own}
use Rattle.theorems.proofs.Bound.{names_of}
use Rattle.theorems.proofs.NamesGeneralized.{Named}
use Rattle.names.specs.Names.{Names}
use Rattle.ast.specs.Table.{tree, Node}
use Rattle.errors.specs.Refusals.{Refuses}
use Rattle.errors.specs.declared.Refusal.{Refusal}
use Rattle.pairs.specs.Pairs.{Stands}
use Rattle.apply.specs.Applied.{Applied}
use Rattle.apply.specs.Applied.{Done, Refused}
use Rattle.scope.specs.Scope.{env_of, Scope}
use Rattle.instances.specs.Accepted.{Heads}
use Rattle.cores.specs.Terms.{core}
use Rattle.supers.specs.ClassTable.{Supers}
use Rattle.supers.specs.Rows.{row_at, binders_in, Binders}
use Rattle.supers.specs.declared.rows.Row.{Row}
use Rattle.supers.specs.declared.rows.Row.TheVariants.{Pending, Replaced}
use Rattle.simplify.specs.Simplified.{Simplifies, RowLeft}
use Rattle.terms.specs.Plain.{plain_in}
use Rattle.terms.specs.Rows.{replaced_in, Replacing}
use Rattle.terms.specs.Answers.{MakesFor}
use Rattle.resolve.specs.Resolves.{Declared}
use Rattle.pending.specs.Rows.{PendingRows}
use Rattle.pending.specs.Owned.{GivesAliased, GivesDeferred}
use Rattle.settle.specs.Settles.{settled}
use Rattle.settle.specs.Settled.{Settled}
use Rattle.settle.specs.Settled.{Done as Settled-Done, Refused as Settled-Refused}

-- ## Rows after `reduce`: equal predicates, and those that are deferred

-- The rows were mid between: of equal predicates the first stayed, and then the deferred ones came to the front, nd of them.
pub record GivesSorted (fs es : List TyVar) (ns w bs bs' : List ℕ) (n nd : ℕ) : Type 0 where
  pub mid : List ℕ
  pub long : length mid ≡ length bs
  pub aliased : GivesAliased fs es ns w bs mid n
  pub deferred : GivesDeferred fs es ns w mid bs' n nd

-- ## Rows of one's own: they are simplified, and then all that were replaced replace names in the term

-- A term e and n rows whose pending ones stand for binders and whose others are replaced by words of the table; the stack ends
-- at sp, and between table and stack is room for 8 words a step.
pub record ReadyReplace (ns w bs : List ℕ) (top left sp n e : ℕ) : Type 0 where
  pub names : Names ns
  pub term : Node w top e
  pub binders : Binders w bs top n
  pub replaced : Replacing w bs top n
  pub room : 4 * top + 8 * left ≤ sp
  pub fits : sp ≤ length w

-- The words were mid, top₁ nodes and left₁ steps between the simplification and the walk over the term.
pub record Simplifying (ns cl w mid bs bs' : List ℕ) (top left sp n top₁ left₁ : ℕ) : Type 0 where
  pub stands : Stands w mid top sp
  pub long : length mid ≡ length w
  pub is : Simplifies ns cl w mid bs bs' top left n top₁ left₁

-- The outcome of that walk.
abbrev pub walk_out : List ℕ → List ℕ → ℕ → ℕ → ℕ → List ℕ → Out Core
walk_out mid bs' n e left₁ ns = plain_in 256 (replaced_in ns mid bs' n) (core ns mid e) left₁

-- The term e' is what the walk makes.
pub record Replaces (ns cl w w' bs bs' : List ℕ) (top left sp n e e' top' left' : ℕ) : Type 0 where
  pub mid : List ℕ
  pub top₁ : ℕ
  pub left₁ : ℕ
  pub first : Simplifying ns cl w mid bs bs' top left sp n top₁ left₁
  pub stands : Stands mid w' top₁ sp
  pub made : MakesFor {E = List ℕ} (λ ns. Unit {0}) (λ ns. ns) core 4 (4 * top₁ + 8 * left₁) w' top₁ left₁ (λ ns. walk_out mid bs' n e left₁ ns) e' top' left'

-- The walk refuses.
pub record Stops (ns cl w w' bs bs' : List ℕ) (top left sp n e : ℕ) (q : Refusal) (top' left' : ℕ) : Type 0 where
  pub mid : List ℕ
  pub top₁ : ℕ
  pub left₁ : ℕ
  pub first : Simplifying ns cl w mid bs bs' top left sp n top₁ left₁
  pub lost : Refuses ns w' top₁ left₁ (walk_out mid bs' n e left₁ ns) q top' left'

-- The simplification refuses, whatever the class environment.
abbrev pub Fails : List ℕ → List ℕ → List ℕ → List ℕ → List ℕ → ℕ → ℕ → ℕ → Refusal → ℕ → ℕ → Type 0
Fails ns cl w w' bs top left n q top' left' = (ce : ClassEnv) → Supers ns cl ce → Refuses ns w' top left (simplify_context ce (binders_in ns w bs 0 n) left) q top' left'

-- The code's answer.
abbrev pub ReplacedAs : List ℕ → List ℕ → List ℕ → List ℕ → List ℕ → List ℕ → ℕ → ℕ → ℕ → ℕ → ℕ → Applied → Type 0
ReplacedAs ns cl w w' bs bs' top left sp n e (Done e' top' left') = Replaces ns cl w w' bs bs' top left sp n e e' top' left'
ReplacedAs ns cl w w' bs bs' top left sp n e (Refused q top' left') = Fails ns cl w w' bs top left n q top' left' ⊎ Stops ns cl w w' bs bs' top left sp n e q top' left'

-- The words became w' and the rows bs': table, stack and what lies after the rows stand.
pub record GivesReplaced (ns cl w w' bs bs' : List ℕ) (top left sp n e : ℕ) (r : Applied) : Type 0 where
  pub stands : Stands w w' top sp
  pub rows : (j : ℕ) → j < n → RowLeft (row_at bs j) (row_at bs' j)
  pub outside : (k : ℕ) → 3 * n ≤ k → get_or bs' k 0 ≡ get_or bs k 0
  pub answer : ReplacedAs ns cl w w' bs bs' top left sp n e r

-- The same of the rows from number nd up to number n, which are lent as rows of their own: part, and then part'.
pub record GivesFrom (ns cl w w' bs bs' : List ℕ) (top left sp nd n e : ℕ) (r : Applied) : Type 0 where
  pub part : List ℕ
  pub part' : List ℕ
  pub cut : (j : ℕ) → j < n - nd → row_at part j ≡ row_at bs (nd + j)
  pub back : (j : ℕ) → j < n - nd → row_at bs' (nd + j) ≡ row_at part' j
  pub before : (j : ℕ) → j < nd → row_at bs' j ≡ row_at bs j
  pub gives : GivesReplaced ns cl w w' part part' top left sp (n - nd) e r

-- ## All of it

-- The environment of the slices ev and od, the words il of the instances, n pending rows, the binding's type t and its term e;
-- the stack ends at sp, and between table and stack is room for 8 words a step.
pub record ReadySettle (ns w il ev od bs : List ℕ) (top left sp n t e : ℕ) : Type 0 where
  pub names : Names ns
  pub scope : Scope ns w ev od top
  pub heads : Heads w top il
  pub rows : PendingRows w bs top n
  pub type : Node w top t
  pub term : Node w top e
  pub room : 4 * top + 8 * left ≤ sp
  pub fits : sp ≤ length w

-- A class environment that the words stand for, where the pending names ds rise within some bounds and the term binds
-- others within these bounds alone.
pub record Asked (ns cl w : List ℕ) (top : ℕ) (il : List ℕ) (ds : List DictName) (e : Core) (ce : ClassEnv) : Type 0 where
  pub declared : Declared ns cl w top il ce
  pub lo : ℕ
  pub hi : ℕ
  pub named : Named lo hi ds e

-- What the meaning says of n rows bs, the type t and the term e over the words w.
abbrev pub settled_out : List ℕ → List ℕ → List ℕ → List ℕ → List ℕ → ℕ → ℕ → ℕ → ℕ → ClassEnv → Out (List Binder × Core × List Binder)
settled_out ns w ev od bs n t e left ce = settled ce (is_own (ftv_type (tree ns w t) []) (env_ftv (env_of ns w ev od))) (binders_in ns w bs 0 n) (core ns w e) left

-- A row that may be pending: its dictionary's number, its class's name and its type's word are in their bounds.
abbrev pub OwnRow : List ℕ → ℕ → Row → Type 0
OwnRow w top (Pending d c t) = (d < 17_592_186_044_416) × ((c < 65_536) × Node w top t)
OwnRow w top (Replaced d x) = Unit {0}

-- The first nd rows are deferred, those up to number n that are pending are kept, and e' is the term with names replaced. Four words
-- are left over.
pub record SettledIn (ns cl w w' il ev od bs bs' : List ℕ) (top left n t e e' nd top' left' : ℕ) : Type 0 where
  pub term : Node w' top' e'
  pub most : nd ≤ n
  pub late : PendingRows w' bs' top' nd
  pub own : (i : ℕ) → nd ≤ i → i < n → OwnRow w' top' (row_at bs' i)
  pub more : top ≤ top'
  pub spent : 4 * top' + 8 * left' + 4 ≤ 4 * top + 8 * left
  pub down : left' ≤ left
  pub is : (ce : ClassEnv) → Asked ns cl w top il (names_of (binders_in ns w bs 0 n)) (core ns w e) ce
      → settled_out ns w ev od bs n t e left ce ≡ done (binders_in ns w' bs' nd n, core ns w' e', binders_in ns w' bs' 0 nd) left'

-- The code's answer. After a refusal nothing is said of the rows: some may have been replaced or moved.
abbrev pub SettledAs : List ℕ → List ℕ → List ℕ → List ℕ → List ℕ → List ℕ → List ℕ → List ℕ → List ℕ → ℕ → ℕ → ℕ → ℕ → ℕ → Settled → Type 0
SettledAs ns cl w w' il ev od bs bs' top left n t e (Settled-Done e' nd top' left') = SettledIn ns cl w w' il ev od bs bs' top left n t e e' nd top' left'
SettledAs ns cl w w' il ev od bs bs' top left n t e (Settled-Refused q top' left') = (ce : ClassEnv)
    → Asked ns cl w top il (names_of (binders_in ns w bs 0 n)) (core ns w e) ce → Refuses ns w' top left (settled_out ns w ev od bs n t e left ce) q top' left'

-- The words became w' and the rows bs': table and stack stand, and there are as many rows.
pub record GivesSettled (ns cl w w' il ev od bs bs' : List ℕ) (top left sp n t e : ℕ) (r : Settled) : Type 0 where
  pub stands : Stands w w' top sp
  pub long : length bs' ≡ length bs
  pub answer : SettledAs ns cl w w' il ev od bs bs' top left n t e r
