-- What `simplify_context` asks of binders in rows, and gives.
use Rattle.std.specs.Prelude.{◌≡◌, List, [], ◌∷◌, ◌++◌, ℕ, zero, suc, ◌+◌, ◌*◌, ◌<◌, ◌≤◌, length, get_or, Result, Ok, Err}
use Rattle.meaning.specs.Ast.{dvar}
use Rattle.meaning.specs.Budget.{done}
use Rattle.meaning.specs.Classes.{ClassEnv}
use Rattle.meaning.specs.Reduce.{Removed, simplify_from, simplify_context}
use Rattle.names.specs.Names.{Names}
use Rattle.ast.specs.Table.{Table, Node}
use Rattle.errors.specs.declared.Refusal.{Refusal}
use Rattle.errors.specs.Refusals.{Refuses}
use Rattle.pairs.specs.Pairs.{Stands}
use Rattle.cores.specs.Terms.{core}
use Rattle.supers.specs.declared.rows.Row.{Row}
use Rattle.supers.specs.declared.rows.Row.TheVariants.{Pending, Replaced}
use Rattle.supers.specs.ClassTable.{Supers}
use Rattle.supers.specs.Rows.{row_at, binders_in, Binders}

-- ## What it comes to

-- What a function comes to: an answer or a refusal, each with what it leaves.
pub data Simplified : Type 0 where
  Done : ℕ → ℕ → Simplified
  Refused : Refusal → ℕ → ℕ → Simplified

-- What the code returned, with what it left.
abbrev pub simplified_of : Result (Unit {0}) Refusal → ℕ → ℕ → Simplified
simplified_of (Ok x) top left = Done top left
simplified_of (Err e) top left = Refused e top left

-- What a row that was pending and was then replaced says: its dictionary's name, and what replaces it.
abbrev pub removed_row : List ℕ → List ℕ → Row → Row → List Removed
removed_row ns w (Pending d c t) (Pending d₁ c₁ t₁) = []
removed_row ns w (Pending d c t) (Replaced d₁ e) = (dvar d₁, core ns w e) ∷ []
removed_row ns w (Replaced d x) (Pending d₁ c₁ t₁) = []
removed_row ns w (Replaced d x) (Replaced d₁ e) = []

-- The same of k rows from number j on, which were those of bs and are those of bs'.
unfoldable pub removed_from : List ℕ → List ℕ → List ℕ → List ℕ → ℕ → ℕ → List Removed
removed_from ns w bs bs' j zero = []
removed_from ns w bs bs' j (suc k) = removed_row ns w (row_at bs j) (row_at bs' j) ++ removed_from ns w bs bs' (suc j) k

-- Of the first n rows.
abbrev pub removed_in : List ℕ → List ℕ → List ℕ → List ℕ → ℕ → List Removed
removed_in ns w bs bs' n = removed_from ns w bs bs' 0 n

-- A row stands, or it was pending and has the same dictionary's number.
abbrev pub RowLeft : Row → Row → Type 0
RowLeft (Pending d c t) (Pending d₁ c₁ t₁) = (d₁ ≡ d) × ((c₁ ≡ c) × (t₁ ≡ t))
RowLeft (Pending d c t) (Replaced d₁ e) = d₁ ≡ d
RowLeft (Replaced d x) (Pending d₁ c₁ t₁) = ⊥
RowLeft (Replaced d x) (Replaced d₁ e) = (d₁ ≡ d) × (e ≡ x)

-- What replaces it is a word of the table.
abbrev pub RowMade : List ℕ → ℕ → Row → Row → Type 0
RowMade w top (Pending d c t) (Pending d₁ c₁ t₁) = Unit {0}
RowMade w top (Pending d c t) (Replaced d₁ e) = Node w top e
RowMade w top (Replaced d x) (Pending d₁ c₁ t₁) = Unit {0}
RowMade w top (Replaced d x) (Replaced d₁ e) = Unit {0}

-- The first n rows of bs, and the stack that ends at sp; between table and stack is room for 8 words a step.
pub record ReadySimplify (ns w bs : List ℕ) (top left sp n : ℕ) : Type 0 where
  pub names : Names ns
  pub table : Table w top
  pub binders : Binders w bs top n
  pub room : 4 * top + 8 * left ≤ sp
  pub fits : sp ≤ length w

-- The table grew to top' nodes and no more than the steps paid for.
pub record Grown (w' : List ℕ) (top left top' left' : ℕ) : Type 0 where
  pub table : Table w' top'
  pub more : top ≤ top'
  pub down : left' ≤ left
  pub spent : 4 * top' + 8 * left' ≤ 4 * top + 8 * left

-- One turn of the loop of `simplify_from`, at row i, whatever was removed before.
pub record TurnDone (ns cl w w' bs bs' : List ℕ) (top left n i top' left' : ℕ) : Type 0 where
  pub grown : Grown w' top left top' left'
  pub made : RowMade w' top' (row_at bs i) (row_at bs' i)
  pub is : (ce : ClassEnv) → Supers ns cl ce → (rs : List Removed) → simplify_from ce (binders_in ns w bs i n) (binders_in ns w bs 0 i, rs) left
      ≡ simplify_from ce (binders_in ns w' bs' (suc i) n) (binders_in ns w' bs' 0 (suc i), rs ++ removed_row ns w' (row_at bs i) (row_at bs' i)) left'

abbrev pub TurnAs : List ℕ → List ℕ → List ℕ → List ℕ → List ℕ → List ℕ → ℕ → ℕ → ℕ → ℕ → Simplified → Type 0
TurnAs ns cl w w' bs bs' top left n i (Done top' left') = TurnDone ns cl w w' bs bs' top left n i top' left'
TurnAs ns cl w w' bs bs' top left n i (Refused e top' left') = (ce : ClassEnv) → Supers ns cl ce → (rs : List Removed)
    → Refuses ns w' top left (simplify_from ce (binders_in ns w bs i n) (binders_in ns w bs 0 i, rs) left) e top' left'

-- The words became w' and the rows bs': table, stack, the other rows and what lies after all rows stand.
pub record Turn (ns cl w w' bs bs' : List ℕ) (top left sp n i : ℕ) (r : Simplified) : Type 0 where
  pub stands : Stands w w' top sp
  pub others : (j : ℕ) → (j ≡ i → ⊥) → row_at bs' j ≡ row_at bs j
  pub row : RowLeft (row_at bs i) (row_at bs' i)
  pub outside : (k : ℕ) → 3 * n ≤ k → get_or bs' k 0 ≡ get_or bs k 0
  pub answer : TurnAs ns cl w w' bs bs' top left n i r

-- The rows that are pending are what is kept, and those that were replaced what is removed, in every class environment that
-- the class table cl says.
pub record Simplifies (ns cl w w' bs bs' : List ℕ) (top left n top' left' : ℕ) : Type 0 where
  pub grown : Grown w' top left top' left'
  pub made : (j : ℕ) → j < n → RowMade w' top' (row_at bs j) (row_at bs' j)
  pub is : (ce : ClassEnv) → Supers ns cl ce → simplify_context ce (binders_in ns w bs 0 n) left ≡ done (binders_in ns w' bs' 0 n, removed_in ns w' bs bs' n) left'

abbrev pub SimplifiedAs : List ℕ → List ℕ → List ℕ → List ℕ → List ℕ → List ℕ → ℕ → ℕ → ℕ → Simplified → Type 0
SimplifiedAs ns cl w w' bs bs' top left n (Done top' left') = Simplifies ns cl w w' bs bs' top left n top' left'
SimplifiedAs ns cl w w' bs bs' top left n (Refused e top' left') = (ce : ClassEnv) → Supers ns cl ce → Refuses ns w' top left (simplify_context ce (binders_in ns w bs 0 n) left) e top' left'

-- The words became w' and the rows bs'. After a refusal some rows may have been replaced, and it is not said by what.
pub record GivesSimplified (ns cl w w' bs bs' : List ℕ) (top left sp n : ℕ) (r : Simplified) : Type 0 where
  pub stands : Stands w w' top sp
  pub rows : (j : ℕ) → j < n → RowLeft (row_at bs j) (row_at bs' j)
  pub outside : (k : ℕ) → 3 * n ≤ k → get_or bs' k 0 ≡ get_or bs k 0
  pub answer : SimplifiedAs ns cl w w' bs bs' top left n r
