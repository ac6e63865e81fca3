-- What applying a substitution to the types of rows asks of the words and gives.
use Rattle.std.specs.Prelude.{◌≡◌, List, ℕ, ◌+◌, ◌*◌, ◌<◌, ◌≤◌, length, get_or, Result, Ok, Err}
use Rattle.meaning.specs.Budget.{done}
use Rattle.meaning.specs.Subst.{apply_preds_pending}
use Rattle.names.specs.Names.{Names}
use Rattle.ast.specs.Table.{Table, Node}
use Rattle.errors.specs.Refusals.{Refuses}
use Rattle.errors.specs.declared.Refusal.{Refusal}
use Rattle.pairs.specs.Pairs.{sub_at, Sub, Stands}
use Rattle.supers.specs.Rows.{row_at, binders_in, TypeIn}
use Rattle.supers.specs.declared.rows.Row.{Row}
use Rattle.supers.specs.declared.rows.Row.TheVariants.{Pending, Replaced}
use Rattle.pending.specs.Rows.{PendingRows}

-- What the rows come to: they are swept, or a refusal; with the first free node and the steps left.
pub data Swept : Type 0 where
  Done : ℕ → ℕ → Swept
  Refused : Refusal → ℕ → ℕ → Swept

-- What the code returned, with what it left.
abbrev pub swept_of : Result (Unit {0}) Refusal → ℕ → ℕ → Swept
swept_of (Ok x) top left = Done top left
swept_of (Err e) top left = Refused e top left

-- The k pairs from at, where the stack ends, and the rows from number j up to number n, whose pending ones have types of the
-- table; between table and stack is room for 8 words a step.
pub record ReadySweep (ns w bs : List ℕ) (top left at k j n : ℕ) : Type 0 where
  pub names : Names ns
  pub table : Table w top
  pub sub : Sub w top at k
  pub room : 4 * top + 8 * left ≤ at
  pub rows : 3 * n ≤ length bs
  pub types : (i : ℕ) → j ≤ i → i < n → TypeIn w top (row_at bs i)

-- What becomes of a row: a pending one has a type of the grown table, and is else as it was.
abbrev pub Retyped : List ℕ → ℕ → Row → Row → Type 0
Retyped w' top' (Pending d c t) (Pending d' c' t') = (d' ≡ d) × ((c' ≡ c) × Node w' top' t')
Retyped w' top' (Pending d c t) (Replaced d' x') = ⊥
Retyped w' top' (Replaced d x) (Pending d' c' t') = ⊥
Retyped w' top' (Replaced d x) (Replaced d' x') = Replaced d' x' ≡ Replaced d x

-- The rows from number j up to number n have the types that the substitution makes of theirs.
pub record RowsSwept (ns w w' bs bs' : List ℕ) (top left at k j n top' left' : ℕ) : Type 0 where
  pub table : Table w' top'
  pub more : top ≤ top'
  pub spent : 4 * top' + 8 * left' ≤ 4 * top + 8 * left
  pub down : left' ≤ left
  pub rows : (i : ℕ) → j ≤ i → i < n → Retyped w' top' (row_at bs i) (row_at bs' i)
  pub is : apply_preds_pending (sub_at ns w at k) (binders_in ns w bs j n) left ≡ done (binders_in ns w' bs' j n) left'

-- The code's answer. After a refusal nothing is said of these rows: some may have their new types.
abbrev pub SweptAs : List ℕ → List ℕ → List ℕ → List ℕ → List ℕ → ℕ → ℕ → ℕ → ℕ → ℕ → ℕ → Swept → Type 0
SweptAs ns w w' bs bs' top left at k j n (Done top' left') = RowsSwept ns w w' bs bs' top left at k j n top' left'
SweptAs ns w w' bs bs' top left at k j n (Refused e top' left') = Refuses ns w' top left (apply_preds_pending (sub_at ns w at k) (binders_in ns w bs j n) left) e top' left'

-- The words became w' and the rows bs': what is older stands, and so do the words of all other rows.
pub record GivesSwept (ns w w' bs bs' : List ℕ) (top left at k j n : ℕ) (r : Swept) : Type 0 where
  pub stands : Stands w w' top (4 * top + 8 * left)
  pub before : (i : ℕ) → i < 3 * j → get_or bs' i 0 ≡ get_or bs i 0
  pub behind : (i : ℕ) → 3 * n ≤ i → get_or bs' i 0 ≡ get_or bs i 0
  pub answer : SweptAs ns w w' bs bs' top left at k j n r

-- The same of the first n rows: rows that were all pending still are.
abbrev pub StillPending : List ℕ → List ℕ → List ℕ → List ℕ → ℕ → ℕ → Swept → Type 0
StillPending w w' bs bs' top n (Done top' left') = PendingRows w bs top n → PendingRows w' bs' top' n
StillPending w w' bs bs' top n (Refused e top' left') = Unit {0}

pub record GivesRows (ns w w' bs bs' : List ℕ) (top left at k n : ℕ) (r : Swept) : Type 0 where
  pub gives : GivesSwept ns w w' bs bs' top left at k 0 n r
  pub pending : StillPending w w' bs bs' top n r
