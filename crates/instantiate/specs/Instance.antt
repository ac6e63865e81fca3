-- What making an instance of a scheme asks of the words and gives.
use Rattle.std.specs.Prelude.{◌≡◌, List, [], ℕ, ◌+◌, ◌*◌, ◌<◌, ◌≤◌, length, set}
use Rattle.meaning.specs.Budget.{done}
use Rattle.meaning.specs.Subst.{Subst}
use Rattle.meaning.specs.Generalize.{Env}
use Rattle.meaning.specs.Infer.{State, instantiate_preds, instantiate}
use Rattle.meaning.specs.Declare.{pred_nodes}
use Rattle.names.specs.Names.{Names, first_fresh}
use Rattle.ast.specs.Table.{tree, Table, Node}
use Rattle.errors.specs.Refusals.{Refuses}
use Rattle.pairs.specs.Pairs.{Stands}
use Rattle.rename.specs.Renaming.{Renames}
use Rattle.subst.specs.Preds.{preds_of_word}
use Rattle.subst.specs.Schemes.{scheme_of_word}
use Rattle.supers.specs.Rows.{row_at, binders_in}
use Rattle.supers.specs.declared.rows.Row.TheVariants.{Pending as A-Pending}
use Rattle.scope.specs.Scope.{Smalls, Held}
use Rattle.instantiate.specs.Opened.{Instance}
use Rattle.instantiate.specs.Opened.{Done, Refused}
use Rattle.instantiate.specs.Taken.{Taken}
use Rattle.instantiate.specs.Taken.{Done as Took, Refused as Untaken}

-- The state of inference from its parts.
abbrev pub state : Env → ℕ → ℕ → State
state env tv dv = record { env = env; tv_counter = tv; dv_counter = dv }

-- ## Rows

-- bs with three words as row j: a dictionary's number, its class and its type.
unfoldable pub with_words : List ℕ → ℕ → ℕ → ℕ → ℕ → List ℕ
with_words bs j d c x = set (set (set bs (3 * j) d) (3 * j + 1) c) (3 * j + 2) x

-- Row i waits for the dictionary of number d, of a class of two bytes and a type of the table.
pub record Waits (w bs : List ℕ) (top i d : ℕ) : Type 0 where
  pub class : ℕ
  pub type : ℕ
  pub row : row_at bs i ≡ A-Pending d class type
  pub small : class < 65536
  pub node : Node w top type

-- The first m rows wait for the dictionaries of the numbers from dv on.
pub record Rows (w bs : List ℕ) (top dv m : ℕ) : Type 0 where
  pub at : (i : ℕ) → i < m → Waits w bs top i (dv + i)

-- ## What is asked

-- A scheme's words, room for 8 words and for a row a step, and counters whose numbers have words.
pub record ReadyInstance (ns w bs : List ℕ) (top left sp tv dv vs ps t : ℕ) : Type 0 where
  pub names : Names ns
  pub held : Held ns w top vs ps t
  pub room : 4 * top + 8 * left ≤ sp
  pub fits : sp ≤ length w
  pub big : length w ≤ 2_305_843_009_213_693_952
  pub rows : 3 * left ≤ length bs
  pub made : tv + left ≤ 1_152_921_504_606_846_976
  pub named : dv + left ≤ 17_592_186_044_416

-- The same of a list of predicates alone, with fewer steps left than there are rows.
pub record ReadyPreds (ns w bs : List ℕ) (top left tv dv vs ps : ℕ) : Type 0 where
  pub names : Names ns
  pub vars : Node w top vs
  pub preds : Node w top ps
  pub small : Smalls ns (preds_of_word ns w ps)
  pub room : 4 * top + 8 * left ≤ length w
  pub big : length w ≤ 2_305_843_009_213_693_952
  pub rows : 3 * left ≤ length bs
  pub made : tv ≤ 1_152_921_504_606_846_976
  pub named : dv + left ≤ 17_592_186_044_416

-- ## What is given

-- m rows are the predicates' binders. Each type node cost a step, and 4 words are left over for each row.
pub record Takes (ns w w' bs' : List ℕ) (top left tv dv vs ps m top' left' : ℕ) : Type 0 where
  pub more : top ≤ top'
  pub table : Table w' top'
  pub rows : Rows w' bs' top' dv m
  pub steps : left' + pred_nodes (preds_of_word ns w ps) ≡ left
  pub each : m + left' ≤ left
  pub spent : 4 * top' + 8 * left' + 4 * m ≤ 4 * top + 8 * left
  pub is : (s : Subst) → Renames ns w vs (first_fresh + tv) [] s → (env : Env) (tv₁ : ℕ)
      → instantiate_preds s (preds_of_word ns w ps) (state env tv₁ dv) left ≡ done (binders_in ns w' bs' 0 m, state env tv₁ (dv + m)) left'

-- The code's answer for a list of predicates.
abbrev pub TakenAs : List ℕ → List ℕ → List ℕ → List ℕ → ℕ → ℕ → ℕ → ℕ → ℕ → ℕ → Taken → Type 0
TakenAs ns w w' bs' top left tv dv vs ps (Took m top' left') = Takes ns w w' bs' top left tv dv vs ps m top' left'
TakenAs ns w w' bs' top left tv dv vs ps (Untaken e top' left') = (s : Subst) → Renames ns w vs (first_fresh + tv) [] s → (env : Env) (tv₁ : ℕ)
    → Refuses ns w' top left (instantiate_preds s (preds_of_word ns w ps) (state env tv₁ dv) left) e top' left'

-- The words became w' and the rows bs': what is older stands.
pub record GivesTaken (ns w w' bs' : List ℕ) (top left tv dv vs ps : ℕ) (r : Taken) : Type 0 where
  pub stands : Stands w w' top (4 * top + 8 * left)
  pub answer : TakenAs ns w w' bs' top left tv dv vs ps r

-- A type u and m rows, which wait for the next dictionaries. Each made variable, each dictionary's name and each row is paid
-- by a step; 4 words are left over for each row, and 4 more. For every environment they are the instance of the scheme.
pub record Instantiates (ns w w' bs' : List ℕ) (top left tv dv vs ps t u m top' left' tv' dv' : ℕ) : Type 0 where
  pub node : Node w' top' u
  pub more : top ≤ top'
  pub rows : Rows w' bs' top' dv m
  pub dicts : dv' ≡ dv + m
  pub made : tv' + left' ≤ tv + left
  pub named : dv' + left' ≤ dv + left
  pub steps : m + left' < left
  pub spent : 4 * top' + 8 * left' + 4 * m + 4 ≤ 4 * top + 8 * left
  pub is : (env : Env) → instantiate (scheme_of_word ns w vs ps t) (state env tv dv) left ≡ done ((tree ns w' u, binders_in ns w' bs' 0 m), state env tv' dv') left'

-- The code's answer for a scheme.
abbrev pub InstanceAs : List ℕ → List ℕ → List ℕ → List ℕ → ℕ → ℕ → ℕ → ℕ → ℕ → ℕ → ℕ → Instance → Type 0
InstanceAs ns w w' bs' top left tv dv vs ps t (Done u m top' left' tv' dv') = Instantiates ns w w' bs' top left tv dv vs ps t u m top' left' tv' dv'
InstanceAs ns w w' bs' top left tv dv vs ps t (Refused e top' left') = (env : Env) → Refuses ns w' top left (instantiate (scheme_of_word ns w vs ps t) (state env tv dv) left) e top' left'

-- The words became w' and the rows bs': table and stack stand, and the answer is the instance.
pub record GivesInstance (ns w w' bs' : List ℕ) (top left sp tv dv vs ps t : ℕ) (r : Instance) : Type 0 where
  pub stands : Stands w w' top sp
  pub answer : InstanceAs ns w w' bs' top left tv dv vs ps t r
