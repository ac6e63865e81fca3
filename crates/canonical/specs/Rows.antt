-- What renaming the types of pending rows asks and gives, and the list of their predicates.
use Rattle.std.specs.Prelude.{◌≡◌, List, [], ℕ, ◌+◌, ◌*◌, ◌≤◌, length, Result, Ok, Err}
use Rattle.meaning.specs.Base.{count, total}
use Rattle.meaning.specs.Ast.{Pred, Binder}
use Rattle.meaning.specs.Budget.{done, after}
use Rattle.meaning.specs.Subst.{Subst, apply_preds, apply_preds_pending}
use Rattle.meaning.specs.Generalize.{preds_of}
use Rattle.names.specs.Names.{Names}
use Rattle.ast.specs.Table.{nil_word, Table, Node}
use Rattle.errors.specs.Refusals.{Refuses}
use Rattle.errors.specs.declared.Refusal.{Refusal}
use Rattle.pairs.specs.Pairs.{Stands}
use Rattle.apply.specs.Applied.{Applied, Done as Made, Refused as Not-made}
use Rattle.subst.specs.Preds.{preds_of_word}
use Rattle.supers.specs.Rows.{row_at, with_row, binders_in, HasWord, TypeIn, Binders}
use Rattle.rename.specs.Renaming.{Renames, leaves}

-- What the rows come to: they are renamed, or a refusal; with the first free node and the steps left.
pub data Rows : Type 0 where
  Done : ℕ → ℕ → Rows
  Refused : Refusal → ℕ → ℕ → Rows

-- What the code returned, with what it left.
abbrev pub rows_of : Result (Unit {0}) Refusal → ℕ → ℕ → Rows
rows_of (Ok x) top left = Done top left
rows_of (Err e) top left = Refused e top left

-- The variables of predicates, each as often as it stands there.
abbrev pub leaves_preds : List Pred → ℕ
leaves_preds ps = total (λ (p : Pred). leaves p.ty) ps

-- The first n rows of bs and words ls that become letters; there is room for 8 words a step.
pub record ReadyRename (ns w ls bs : List ℕ) (top left n : ℕ) : Type 0 where
  pub names : Names ns
  pub table : Table w top
  pub binders : Binders w bs top n
  pub letters : length ls ≤ 26
  pub room : 4 * top + 8 * left ≤ length w

-- A substitution that gives the words ls the letters.
abbrev pub Letters : List ℕ → List ℕ → List ℕ → Subst → Type 0
Letters ns w ls s = Renames ns w nil_word 0 ls s

-- Row i has its renamed type, whatever rows follow it; the steps and words are those of its type.
pub record RowDone (ns w w' ls bs bs' : List ℕ) (top left i top' left' : ℕ) : Type 0 where
  pub table : Table w' top'
  pub fits : HasWord (row_at bs i) → HasWord (row_at bs' i)
  pub type : TypeIn w' top' (row_at bs' i)
  pub more : top ≤ top'
  pub down : left' ≤ left
  pub spent : 4 * top' + 8 * left' + 4 * leaves_preds (preds_of (with_row ns w (row_at bs i) [])) + 4 * count (with_row ns w (row_at bs i) []) ≤ 4 * top + 8 * left
  pub same : count (with_row ns w' (row_at bs' i) []) ≡ count (with_row ns w (row_at bs i) [])
  pub is : (s : Subst) → Letters ns w ls s → (os : List Binder)
      → apply_preds_pending s (with_row ns w (row_at bs i) os) left ≡ after (apply_preds_pending s os left') (λ qs k. done (with_row ns w' (row_at bs' i) qs) k)

-- The code's answer for row i.
abbrev pub RowAs : List ℕ → List ℕ → List ℕ → List ℕ → List ℕ → List ℕ → ℕ → ℕ → ℕ → Rows → Type 0
RowAs ns w w' ls bs bs' top left i (Done top' left') = RowDone ns w w' ls bs bs' top left i top' left'
RowAs ns w w' ls bs bs' top left i (Refused e top' left') =
    (s : Subst) → Letters ns w ls s → (os : List Binder) → Refuses ns w' top left (apply_preds_pending s (with_row ns w (row_at bs i) os) left) e top' left'

-- The words became w' and the rows bs': what is older stands, and so do all other rows.
pub record RenamesRow (ns w w' ls bs bs' : List ℕ) (top left i : ℕ) (r : Rows) : Type 0 where
  pub stands : Stands w w' top (4 * top + 8 * left)
  pub others : (j : ℕ) → (j ≡ i → ⊥) → row_at bs' j ≡ row_at bs j
  pub answer : RowAs ns w w' ls bs bs' top left i r

-- The rows are the renamed binders. For each variable in their types 4 words were not used, and for each binder 4 more.
pub record RowsDone (ns w w' ls bs bs' : List ℕ) (top left n top' left' : ℕ) : Type 0 where
  pub table : Table w' top'
  pub binders : Binders w' bs' top' n
  pub more : top ≤ top'
  pub down : left' ≤ left
  pub spent : 4 * top' + 8 * left' + 4 * leaves_preds (preds_of (binders_in ns w bs 0 n)) + 4 * count (binders_in ns w bs 0 n) ≤ 4 * top + 8 * left
  pub same : count (binders_in ns w' bs' 0 n) ≡ count (binders_in ns w bs 0 n)
  pub is : (s : Subst) → Letters ns w ls s → apply_preds_pending s (binders_in ns w bs 0 n) left ≡ done (binders_in ns w' bs' 0 n) left'

-- The code's answer for the rows.
abbrev pub RowsAs : List ℕ → List ℕ → List ℕ → List ℕ → List ℕ → List ℕ → ℕ → ℕ → ℕ → Rows → Type 0
RowsAs ns w w' ls bs bs' top left n (Done top' left') = RowsDone ns w w' ls bs bs' top left n top' left'
RowsAs ns w w' ls bs bs' top left n (Refused e top' left') =
    (s : Subst) → Letters ns w ls s → Refuses ns w' top left (apply_preds_pending s (binders_in ns w bs 0 n) left) e top' left'

-- The words became w' and the rows bs': what is older stands.
pub record GivesRows (ns w w' ls bs bs' : List ℕ) (top left n : ℕ) (r : Rows) : Type 0 where
  pub stands : Stands w w' top (4 * top + 8 * left)
  pub answer : RowsAs ns w w' ls bs bs' top left n r

-- The first n rows, and room for a cell for each binder of them.
pub record ReadyList (ns w bs : List ℕ) (top n : ℕ) : Type 0 where
  pub table : Table w top
  pub binders : Binders w bs top n
  pub room : 4 * (top + count (binders_in ns w bs 0 n)) ≤ length w

-- The words became w': the list l has the predicates of the first n rows, one new cell for each; all other words stand.
pub record Preds (ns w w' bs : List ℕ) (top n l top' : ℕ) : Type 0 where
  pub is : preds_of_word ns w' l ≡ preds_of (binders_in ns w bs 0 n)
  pub node : Node w' top' l
  pub grows : top' ≡ top + count (binders_in ns w bs 0 n)
  pub stands : Stands w w' top (4 * top')

-- The renamed predicates: the list l has them, and the rows are the renamed binders. 4 words for each variable in them
-- were not used.
pub record RenamesRows (ns w w' ls bs bs' : List ℕ) (top left n l top' left' : ℕ) : Type 0 where
  pub node : Node w' top' l
  pub binders : Binders w' bs' top' n
  pub more : top ≤ top'
  pub down : left' ≤ left
  pub spent : 4 * top' + 8 * left' + 4 * leaves_preds (preds_of (binders_in ns w bs 0 n)) ≤ 4 * top + 8 * left
  pub rows : (s : Subst) → Letters ns w ls s → apply_preds_pending s (binders_in ns w bs 0 n) left ≡ done (binders_in ns w' bs' 0 n) left'
  pub is : (s : Subst) → Letters ns w ls s → apply_preds s (preds_of (binders_in ns w bs 0 n)) left ≡ done (preds_of_word ns w' l) left'

-- The code's answer.
abbrev pub RenamedAs : List ℕ → List ℕ → List ℕ → List ℕ → List ℕ → List ℕ → ℕ → ℕ → ℕ → Applied → Type 0
RenamedAs ns w w' ls bs bs' top left n (Made l top' left') = RenamesRows ns w w' ls bs bs' top left n l top' left'
RenamedAs ns w w' ls bs bs' top left n (Not-made e top' left') =
    (s : Subst) → Letters ns w ls s → Refuses ns w' top left (apply_preds s (preds_of (binders_in ns w bs 0 n)) left) e top' left'

-- The words became w' and the rows bs': what is older stands.
pub record GivesRenamed (ns w w' ls bs bs' : List ℕ) (top left n : ℕ) (r : Applied) : Type 0 where
  pub stands : Stands w w' top (4 * top + 8 * left)
  pub answer : RenamedAs ns w w' ls bs bs' top left n r
