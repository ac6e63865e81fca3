-- Rows whose words are in their bounds, through all that happens to them.
use mathlib.Core.Path.{◌≡◌, sym, subst}
use mathlib.Core.Bool.{Bool, true, false}
use mathlib.Core.List.{List}
use Prim.Native.Nat.{ℕ, ◌+◌, ◌*◌, ◌<◌, ◌≤◌}
use native.Mathlib.Omega.{arith}
use lib.ListN.{length}
use Rattle.meaning.specs.Base.{if}
use Rattle.meaning.specs.Ast.{TyVar, Binder}
use Rattle.names.specs.Names.{first_fresh, first_node}
use Rattle.ast.specs.Table.{tree, Table, Node}
use Rattle.ast.proofs.Laws.{node_more, low_node}
use Rattle.supers.specs.Rows.{row_at, HasWord, TypeIn, Binders}
use Rattle.supers.specs.declared.rows.Row.{Row}
use Rattle.supers.specs.declared.rows.Row.TheVariants.{Pending, Replaced}
use Rattle.reduce.specs.Reduces.{Became}
use Rattle.simplify.specs.Simplified.{RowLeft, RowMade}
use Rattle.terms.specs.Rows.{TermIn, Replacing}
use Rattle.pending.specs.Rows.{PendingRow}
use Rattle.pending.specs.Owned.{owns, Aliased, IsPending}
use Rattle.settle.specs.Answers.{OwnRow}

-- The words of a row are in their bounds, pending or not.
abbrev pub Fine : List ℕ → ℕ → Row → Type 0
Fine w top (Pending d c t) = (d < 17_592_186_044_416) × ((c < 65_536) × Node w top t)
Fine w top (Replaced d x) = Node w top x

-- A pending row has a type.
pub pending_type : (w : List ℕ) (top : ℕ) (r : Row) → PendingRow w top r → TypeIn w top r
pending_type w top (Pending d c t) h = h.1.1
pending_type w top (Replaced d x) h = tt

-- What `reduce` makes of a pending row.
pub fine_reduced : (w w₁ : List ℕ) (top top₁ : ℕ) (r r' : Row) → Table w₁ top₁ → top ≤ top₁ → PendingRow w top r → Became w₁ top₁ r r' → Fine w₁ top₁ r'
fine_reduced w w₁ top top₁ (Pending d c t) (Pending d' c' t') T m h b = subst (λ (q : Row). Fine w₁ top₁ q) (sym b) (h.0, (h.1.0, node_more T m h.1.1))
fine_reduced w w₁ top top₁ (Pending d c t) (Replaced d' x) T m h b = b.1
fine_reduced w w₁ top top₁ (Replaced d y) r' T m h b = absurd h

-- A dictionary's name is no node.
named_node : {w : List ℕ} {top : ℕ} (b : Bool) (m d x : ℕ) → Table w top → m < first_fresh → d < 17_592_186_044_416 → x ≡ first_fresh + if b m d → Node w top x
named_node true m d x T h k e = let z : x < first_node = omega arith in low_node T z
named_node false m d x T h k e = let z : x < first_node = omega arith in low_node T z

-- What becomes of it where an earlier row has its predicate.
pub fine_aliased : (fs es : List TyVar) (ns w : List ℕ) (os : List Binder) (top : ℕ) (r r' : Row) → Table w top → Fine w top r → Aliased fs es ns w os r r' → Fine w top r'
fine_aliased fs es ns w os top (Pending d c t) (Pending d' c' t') T h a = subst (λ (q : Row). Fine w top q) (sym a.0) h
fine_aliased fs es ns w os top (Pending d c t) (Replaced d' x) T h a = named_node (owns fs es (tree ns w t)) a.1.number d x T a.1.small h.0 a.1.word
fine_aliased fs es ns w os top (Replaced d x) (Pending d' c' t') T h a = absurd a
fine_aliased fs es ns w os top (Replaced d x) (Replaced d' x') T h a = subst (λ (q : Row). Fine w top q) (sym a) h

-- Under a grown table.
pub fine_more : (w w₁ : List ℕ) (top top₁ : ℕ) (r : Row) → Table w₁ top₁ → top ≤ top₁ → Fine w top r → Fine w₁ top₁ r
fine_more w w₁ top top₁ (Pending d c t) T m h = (h.0, (h.1.0, node_more T m h.1.1))
fine_more w w₁ top top₁ (Replaced d x) T m h = node_more T m h

-- When it is simplified.
pub fine_left : (w w₁ : List ℕ) (top top₁ : ℕ) (r r' : Row) → Table w₁ top₁ → top ≤ top₁ → Fine w top r → RowLeft r r' → RowMade w₁ top₁ r r' → Fine w₁ top₁ r'
fine_left w w₁ top top₁ (Pending d c t) (Pending d' c' t') T m h l k = rw (l.0, l.1.0, l.1.1) (h.0, (h.1.0, node_more T m h.1.1))
fine_left w w₁ top top₁ (Pending d c t) (Replaced d' x) T m h l k = k
fine_left w w₁ top top₁ (Replaced d x) (Pending d' c' t') T m h l k = absurd l
fine_left w w₁ top top₁ (Replaced d x) (Replaced d' x') T m h l k = rw l.1 (node_more T m h)

-- What it says of a row that may be pending.
pub fine_own : (w : List ℕ) (top : ℕ) (r : Row) → Fine w top r → OwnRow w top r
fine_own w top (Pending d c t) h = h
fine_own w top (Replaced d x) h = tt

-- And of one that is.
pub fine_pending : (w : List ℕ) (top : ℕ) (r : Row) → Fine w top r → IsPending r → PendingRow w top r
fine_pending w top (Pending d c t) h p = h
fine_pending w top (Replaced d x) h p = absurd p

-- Its dictionary's name has a word.
fine_word : (w : List ℕ) (top : ℕ) (r : Row) → Fine w top r → HasWord r
fine_word w top (Pending d c t) h = let k = h.0 in omega arith
fine_word w top (Replaced d x) h = tt

-- It has a type.
pub fine_type : (w : List ℕ) (top : ℕ) (r : Row) → Fine w top r → TypeIn w top r
fine_type w top (Pending d c t) h = h.1.1
fine_type w top (Replaced d x) h = tt

-- Or a term.
fine_term : (w : List ℕ) (top : ℕ) (r : Row) → Fine w top r → TermIn w top r
fine_term w top (Pending d c t) h = tt
fine_term w top (Replaced d x) h = h

-- Rows of which each is so stand for binders.
pub fine_binders : (w bs : List ℕ) (top n : ℕ) → 3 * n ≤ length bs → ((i : ℕ) → i < n → Fine w top (row_at bs i)) → Binders w bs top n
fine_binders w bs top n l h = record { rows = record { fits = l; dicts = λ j k. fine_word w top (row_at bs j) (h j k) }; types = λ j k. fine_type w top (row_at bs j) (h j k) }

-- And what replaces them are words of the table.
pub fine_replacing : (w bs : List ℕ) (top n : ℕ) → 3 * n ≤ length bs → ((i : ℕ) → i < n → Fine w top (row_at bs i)) → Replacing w bs top n
fine_replacing w bs top n l h = record { fits = l; terms = λ j k. fine_term w top (row_at bs j) (h j k) }
