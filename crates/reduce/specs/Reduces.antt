-- What `reduce` asks of the words and gives. The binders are rows of a lent slice: a row that is resolved is replaced.
use Rattle.std.specs.Prelude.{◌≡◌, Bool, List, [], ◌∷◌, ◌++◌, ℕ, zero, suc, ◌+◌, ◌*◌, ◌-◌, ◌<◌, ◌≤◌, length, get_or, set}
use Rattle.std.proofs.Math.Option.{Option, none, some}
use Rattle.meaning.specs.Base.{if}
use Rattle.meaning.specs.Ast.{pred, Pred, Core}
use Rattle.meaning.specs.Budget.{Out, done, Steps, after}
use Rattle.meaning.specs.Classes.{ClassEnv, Given, resolve}
use Rattle.meaning.specs.Generalize.{preds_of}
use Rattle.meaning.specs.Reduce.{Discharged, is_head_normal, contains, reduce_one}
use Rattle.names.specs.Names.{Names, name_of}
use Rattle.ast.specs.Table.{tree, Table, Node}
use Rattle.errors.specs.Refusals.{Refuses}
use Rattle.pairs.specs.Pairs.{Stands}
use Rattle.instances.specs.Accepted.{Heads}
use Rattle.cores.specs.Terms.{core}
use Rattle.supers.specs.Rows.{mark, row_at, binders_in, TypeIn}
use Rattle.supers.specs.Givens.{Few}
use Rattle.supers.specs.declared.Root.{Root}
use Rattle.supers.specs.declared.rows.Row.{Row}
use Rattle.supers.specs.declared.rows.Row.TheVariants.{Pending, Replaced}
use Rattle.supers.specs.Searched.{Searched}
use Rattle.supers.specs.Searched.{Found, Nothing, Refused}
use Rattle.resolve.specs.Resolves.{Makes}
use Rattle.reduce.specs.Reduced.{Reduced}
use Rattle.reduce.specs.Reduced.{Done, Refused as Reduced-Refused}

-- ## The rows before and after, bs and bs', over the words w and w'

-- The predicates of the pending rows from number j up to number n.
abbrev pub preds_in : List ℕ → List ℕ → List ℕ → ℕ → ℕ → List Pred
preds_in ns w bs j n = preds_of (binders_in ns w bs j n)

-- bs with row j replaced by the dictionary e.
unfoldable pub marked : List ℕ → ℕ → ℕ → List ℕ
marked bs j e = set (set bs (3 * j + 1) mark) (3 * j + 2) e

-- One row more among the discharged: its predicate as it was, and its dictionary, if it was pending and was replaced.
abbrev pub add_discharged : List ℕ → List ℕ → List ℕ → Row → Row → List Discharged → List Discharged
add_discharged ns w w' (Pending d c t) (Pending d' c' t') os = os
add_discharged ns w w' (Pending d c t) (Replaced d' e) os = os ++ ((pred (name_of ns c) (tree ns w t), core ns w' e) ∷ [])
add_discharged ns w w' (Replaced d x) (Pending d' c' t') os = os
add_discharged ns w w' (Replaced d x) (Replaced d' e) os = os

-- What the first n rows discharged, in order.
unfoldable pub discharged_in : List ℕ → List ℕ → List ℕ → List ℕ → List ℕ → ℕ → List Discharged
discharged_in ns w w' bs bs' zero = []
discharged_in ns w w' bs bs' (suc n) = add_discharged ns w w' (row_at bs n) (row_at bs' n) (discharged_in ns w w' bs bs' n)

-- One row more among the residuals: its predicate, if it was pending and is, unless it is among them.
abbrev pub add_residual : List ℕ → List ℕ → Row → Row → List Pred → List Pred
add_residual ns w (Pending d c t) (Pending d' c' t') ps = if (contains ps (pred (name_of ns c) (tree ns w t))) ps (ps ++ (pred (name_of ns c) (tree ns w t) ∷ []))
add_residual ns w (Pending d c t) (Replaced d' e) ps = ps
add_residual ns w (Replaced d x) (Pending d' c' t') ps = ps
add_residual ns w (Replaced d x) (Replaced d' e) ps = ps

-- What the first n rows left, in order and each once.
unfoldable pub residuals_in : List ℕ → List ℕ → List ℕ → List ℕ → ℕ → List Pred
residuals_in ns w bs bs' zero = []
residuals_in ns w bs bs' (suc n) = add_residual ns w (row_at bs n) (row_at bs' n) (residuals_in ns w bs bs' n)

-- What may become of a row: pending it stays as it is or is replaced, under its number and by a term of the table;
-- replaced it stays as it is.
abbrev pub Became : List ℕ → ℕ → Row → Row → Type 0
Became w' top' (Pending d c t) (Pending d' c' t') = Pending d' c' t' ≡ Pending d c t
Became w' top' (Pending d c t) (Replaced d' e) = (d' ≡ d) × Node w' top' e
Became w' top' (Replaced d x) (Pending d' c' t') = ⊥
Became w' top' (Replaced d x) (Replaced d' e) = Replaced d' e ≡ Replaced d x

-- ## What is asked

-- A list l of givens, the words il of the instances, rows from number j up to number n whose pending ones have types of the
-- table, and the stack that ends at sp; between table and stack is room for 8 words a step.
pub record ReadyReduce (ns w il bs : List ℕ) (top left sp : ℕ) (root : Root) (l j n : ℕ) : Type 0 where
  pub names : Names ns
  pub givens : Node w top l
  pub few : Few ns w root 0 l
  pub heads : Heads w top il
  pub rows : 3 * n ≤ length bs
  pub types : (i : ℕ) → j ≤ i → i < n → TypeIn w top (row_at bs i)
  pub room : 4 * top + 8 * left ≤ sp
  pub fits : sp ≤ length w

-- ## What is given, for each class environment of which `Of` holds

-- The answer says whether the type of word t is a variable.
pub record HeadNormal (w : List ℕ) (t : ℕ) (r : Bool) : Type 0 where
  pub is : (ns : List ℕ) → is_head_normal (tree ns w t) ≡ r

-- What `reduce_one` does where the type is no variable.
abbrev pub must : ClassEnv → List Given → Pred → Steps (Option Core)
must ce gs p n = after (resolve ce gs p n) (λ e m. done (some e) m)

-- There is no dictionary.
pub record Leaves (Of : ClassEnv → Type 0) (left : ℕ) (o : ClassEnv → Out (Option Core)) (left' : ℕ) : Type 0 where
  pub down : left' ≤ left
  pub is : (ce : ClassEnv) → Of ce → o ce ≡ done none left'

-- The code's answer for one predicate: a dictionary's word of the grown table with 4 words to spare, nothing, or a refusal.
abbrev pub OneAs : (ClassEnv → Type 0) → List ℕ → List ℕ → ℕ → ℕ → (ClassEnv → Out (Option Core)) → Searched → Type 0
OneAs Of ns w' top left o (Found e top' left') = Makes Of (λ u. some (core ns w' u)) (4 * top + 8 * left - 4) 1 w' top left o e top' left'
OneAs Of ns w' top left o (Nothing left') = Leaves Of left o left'
OneAs Of ns w' top left o (Refused e top' left') = (ce : ClassEnv) → Of ce → Refuses ns w' top left (o ce) e top' left'

-- The words became w': table and stack stand, and the answer is the outcome o.
pub record GivesOne (Of : ClassEnv → Type 0) (ns w w' : List ℕ) (top left sp : ℕ) (o : ClassEnv → Out (Option Core)) (r : Searched) : Type 0 where
  pub stands : Stands w w' top sp
  pub answer : OneAs Of ns w' top left o r

-- What `reduce` does for a row: nothing where it was replaced before.
abbrev pub row_out : List ℕ → List ℕ → ClassEnv → List Given → Row → ℕ → Out (Option Core)
row_out ns w ce gs (Pending d c t) left = reduce_one ce gs (pred (name_of ns c) (tree ns w t)) left
row_out ns w ce gs (Replaced d x) left = done none left

-- The dictionary that was found for a row.
abbrev pub found_for : List ℕ → List ℕ → Row → Row → Option Core
found_for ns w' (Pending d c t) (Pending d' c' t') = none
found_for ns w' (Pending d c t) (Replaced d' e) = some (core ns w' e)
found_for ns w' (Replaced d x) (Pending d' c' t') = none
found_for ns w' (Replaced d x) (Replaced d' e) = none

-- Row j became what o says, and no word of another row changed.
pub record RowDone (Of : ClassEnv → Type 0) (ns w' bs bs' : List ℕ) (top left j : ℕ) (o : ClassEnv → Out (Option Core)) (top' left' : ℕ) : Type 0 where
  pub table : Table w' top'
  pub more : top ≤ top'
  pub spent : 4 * top' + 8 * left' ≤ 4 * top + 8 * left
  pub down : left' ≤ left
  pub became : Became w' top' (row_at bs j) (row_at bs' j)
  pub before : (i : ℕ) → i < 3 * j → get_or bs' i 0 ≡ get_or bs i 0
  pub behind : (i : ℕ) → 3 * j + 3 ≤ i → get_or bs' i 0 ≡ get_or bs i 0
  pub is : (ce : ClassEnv) → Of ce → o ce ≡ done (found_for ns w' (row_at bs j) (row_at bs' j)) left'

-- The code's answer for row j.
abbrev pub RowAs : (ClassEnv → Type 0) → List ℕ → List ℕ → List ℕ → List ℕ → ℕ → ℕ → ℕ → (ClassEnv → Out (Option Core)) → Reduced → Type 0
RowAs Of ns w' bs bs' top left j o (Done top' left') = RowDone Of ns w' bs bs' top left j o top' left'
RowAs Of ns w' bs bs' top left j o (Reduced-Refused e top' left') = (ce : ClassEnv) → Of ce → Refuses ns w' top left (o ce) e top' left'

-- The words became w' and the rows bs': table and stack stand, and the answer is the outcome o.
pub record GivesRow (Of : ClassEnv → Type 0) (ns w w' bs bs' : List ℕ) (top left sp j : ℕ) (o : ClassEnv → Out (Option Core)) (r : Reduced) : Type 0 where
  pub stands : Stands w w' top sp
  pub answer : RowAs Of ns w' bs bs' top left j o r

-- The first n rows became what o says, and no word behind them changed.
pub record RowsDone (Of : ClassEnv → Type 0) (ns w w' bs bs' : List ℕ) (top left n : ℕ) (o : ClassEnv → Out (List Discharged × List Pred)) (top' left' : ℕ) : Type 0 where
  pub table : Table w' top'
  pub more : top ≤ top'
  pub spent : 4 * top' + 8 * left' ≤ 4 * top + 8 * left
  pub down : left' ≤ left
  pub became : (i : ℕ) → i < n → Became w' top' (row_at bs i) (row_at bs' i)
  pub behind : (i : ℕ) → 3 * n ≤ i → get_or bs' i 0 ≡ get_or bs i 0
  pub is : (ce : ClassEnv) → Of ce → o ce ≡ done (discharged_in ns w w' bs bs' n, residuals_in ns w bs bs' n) left'

-- The code's answer for the first n rows. After a refusal nothing is said of the rows: some may have been replaced.
abbrev pub RowsAs : (ClassEnv → Type 0) → List ℕ → List ℕ → List ℕ → List ℕ → List ℕ → ℕ → ℕ → ℕ → (ClassEnv → Out (List Discharged × List Pred)) → Reduced → Type 0
RowsAs Of ns w w' bs bs' top left n o (Done top' left') = RowsDone Of ns w w' bs bs' top left n o top' left'
RowsAs Of ns w w' bs bs' top left n o (Reduced-Refused e top' left') = (ce : ClassEnv) → Of ce → Refuses ns w' top left (o ce) e top' left'

-- The words became w' and the rows bs': table and stack stand, and the answer is the outcome o.
pub record GivesReduced (Of : ClassEnv → Type 0) (ns w w' bs bs' : List ℕ) (top left sp n : ℕ) (o : ClassEnv → Out (List Discharged × List Pred)) (r : Reduced) : Type 0 where
  pub stands : Stands w w' top sp
  pub answer : RowsAs Of ns w w' bs bs' top left n o r
