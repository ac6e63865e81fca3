-- The loop of `list_preds`, from the last row on, and what both loops give together.
use mathlib.Core.Path.{◌≡◌, refl, ap, sym, ◌∙◌, subst}
use mathlib.Core.List.{List, [], ◌∷◌}
use Prim.Native.Nat.{ℕ, suc, ◌+◌, ◌*◌, ◌-◌, ◌<◌, ◌≤◌}
use native.Mathlib.Omega.{arith}
use lib.ListN.{length}
use Rattle.meaning.specs.Base.{count}
use Rattle.meaning.specs.Ast.{dvar, Pred, pred, Binder}
use Rattle.meaning.specs.Budget.{Out, done, refused, after}
use Rattle.meaning.specs.Subst.{Subst, apply_pred, apply_preds, apply_preds_pending}
use Rattle.meaning.specs.Generalize.{preds_of}
use Rattle.names.specs.Names.{first_node, name_of}
use Rattle.ast.specs.Table.{nil_word, tree, Table, Node}
use Rattle.ast.proofs.Laws.{kept_tree, low_node, node_more}
use Rattle.errors.specs.declared.Refusal.{Refusal}
use Rattle.pairs.specs.Pairs.{Stands}
use Rattle.pairs.proofs.Frames.{stands_refl, stands_then, stands_up}
use Rattle.apply.specs.Applied.{Done as Made, Refused as Not-made}
use Rattle.subst.specs.Preds.{preds_of_word, pushed_pred}
use Rattle.subst.proofs.PredLaws.{low_preds, pred_stands, push_preds}
use Rattle.supers.specs.declared.rows.Row.{Row}
use Rattle.supers.specs.declared.rows.Row.TheVariants.{Pending, Replaced}
use Rattle.supers.specs.Rows.{row_at, binders_in, TypeIn, Binders}
use Rattle.supers.proofs.RowLaws.{row_pending, row_passed, rows_end, kept_rows}
use Rattle.simplify.proofs.RowSets.{binders_split}
use Rattle.canonical.specs.Rows.{ReadyRename, RowsDone, GivesRows, ReadyList, Preds, GivesRenamed}
use Rattle.canonical.specs.Rows.{Rows}
use Rattle.canonical.specs.Rows.{Done, Refused}
use Rattle.canonical.proofs.Goes.{type_later, count_both}

-- Rows of a grown table.
binders_later : {w w' bs : List ℕ} {top top' n : ℕ} → Table w' top' → top ≤ top' → Binders w bs top n → Binders w' bs top' n
binders_later {w} {w'} {bs} {top} T h B = record { rows = B.rows; types = λ j b. type_later w top (row_at bs j) T h (B.types j b) }

-- The words were w₀: the list l has the predicates of the rows from row i on.
pub record Listing (ns w₀ w bs : List ℕ) (top n l m i : ℕ) : Type 0 where
  pub first : Binders w₀ bs top n
  pub long : length w ≡ length w₀
  pub room : 4 * (top + count (binders_in ns w₀ bs 0 n)) ≤ length w₀
  pub upto : i ≤ n
  pub more : top ≤ m
  pub node : Node w m l
  pub grows : m ≡ top + count (binders_in ns w₀ bs i n)
  pub stands : Stands w₀ w top (4 * m)
  pub is : preds_of_word ns w l ≡ preds_of (binders_in ns w₀ bs i n)

-- At first none.
pub listing : {ns w bs : List ℕ} {top n : ℕ} → ReadyList ns w bs top n → Listing ns w w bs top n nil_word top n
unfolding count
listing {ns} {w} {bs} {top} {n} R =
    let z = rows_end ns w bs n n (omega arith) in
    record {
      first = R.binders;
      long = refl;
      room = R.room;
      upto = omega arith;
      more = omega arith;
      node = low_node R.table (omega arith);
      grows = rw z (omega arith);
      stands = stands_refl w top (4 * top);
      is = low_preds ns w nil_word (omega arith) ∙ rw z refl;
    }

module _ {ns w₀ w bs : List ℕ} {top n l m i : ℕ} (G : Listing ns w₀ w bs top n l m i) where
  -- The row before is there.
  pub list_row : 0 < i → 3 * (i - 1) + 3 ≤ length bs
  list_row h = let f = G.first.rows.fits in let u = G.upto in omega arith

  -- All rows were taken.
  pub listed : i ≤ 0 → Preds ns w₀ w bs top n l m
  listed h =
      let z : i ≡ 0 = omega arith in
      record {
        is = G.is ∙ ap (λ (j : ℕ). preds_of (binders_in ns w₀ bs j n)) z;
        node = G.node;
        grows = G.grows ∙ ap (λ (j : ℕ). top + count (binders_in ns w₀ bs j n)) z;
        stands = G.stands;
      }

  module _ {r : Row} (h : 0 < i) (e : r ≡ row_at bs (i - 1)) where
    -- The number after the row's.
    next_row : suc (i - 1) ≡ i
    next_row = omega arith

    -- A row that was replaced.
    pub list_past : {d x : ℕ} → r ≡ Replaced d x → Listing ns w₀ w bs top n l m (i - 1)
    list_past k =
        let u = G.upto in
        let z : binders_in ns w₀ bs (i - 1) n ≡ binders_in ns w₀ bs i n = row_passed ns w₀ bs (i - 1) n (omega arith) (sym e ∙ k) ∙ ap (λ (j : ℕ). binders_in ns w₀ bs j n) next_row in
        record { first = G.first; long = G.long; room = G.room; upto = omega arith; more = G.more; node = G.node; grows = rw z G.grows; stands = G.stands; is = rw z G.is }

    module _ {d c t : ℕ} (k : r ≡ Pending d c t) where
      -- Its binder and those after it.
      one_more : binders_in ns w₀ bs (i - 1) n ≡ (dvar d, pred (name_of ns c) (tree ns w₀ t)) ∷ binders_in ns w₀ bs i n
      one_more = let u = G.upto in row_pending ns w₀ bs (i - 1) n (omega arith) (sym e ∙ k) ∙ ap (λ (j : ℕ). (dvar d, pred (name_of ns c) (tree ns w₀ t)) ∷ binders_in ns w₀ bs j n) next_row

      -- There is room for its cell.
      pub list_room : (4 * m + 4 ≤ length w) × (4 * m + 4 ≤ length w₀)
      unfolding count
      list_room =
          let u = G.upto in
          let a = ap count (binders_split ns w₀ bs (i - 1) n (omega arith)) ∙ count_both (binders_in ns w₀ bs 0 (i - 1)) (binders_in ns w₀ bs (i - 1) n) in
          let b = ap count one_more in
          let g = G.grows in
          let o = G.room in
          let q = G.long in
          (omega arith, omega arith)

      -- It is written.
      pub list_on : {w' : List ℕ} → m < first_node → w' ≡ pushed_pred w m c t l → Listing ns w₀ w' bs top n (first_node + m) (m + 1) (i - 1)
      unfolding count
      list_on {w'} small f =
          let u = G.upto in
          let N : Node w₀ top t = subst (TypeIn w₀ top) (sym e ∙ k) (G.first.types (i - 1) (omega arith)) in
          let P = push_preds w m c t l list_room.0 f ns small (node_more G.node.table G.more N) G.node in
          let g = G.grows in
          let b = ap count one_more in
          record {
            first = G.first;
            long = P.long ∙ G.long;
            room = G.room;
            upto = omega arith;
            more = (let y = G.more in omega arith);
            node = P.node;
            grows = omega arith;
            stands = stands_then (stands_up G.stands (omega arith)) (pred_stands w m c t l list_room.0 f (4 * (m + 1)) (omega arith)) G.more;
            is = P.is ∙ rw (kept_tree ns G.stands.low N, G.is, one_more) refl;
          }

-- ## both loops
-- Predicates alone, by what is said of their binders.
preds_pending : (s : Subst) (bs : List Binder) (n : ℕ) → apply_preds s (preds_of bs) n ≡ after (apply_preds_pending s bs n) (λ qs k. done (preds_of qs) k)
unfolding apply_preds apply_preds_pending after
preds_pending s [] n = refl
preds_pending s (b ∷ bs) n = go (apply_pred s b.1 n) (λ m. preds_pending s bs m)
  where
    join : (q : Pred) (o : Out (List Binder)) → after (after o (λ qs k. done (preds_of qs) k)) (λ qs l. done (q ∷ qs) l) ≡ after (after o (λ qs l. done ((b.0, q) ∷ qs) l)) (λ qs k. done (preds_of qs) k)
    join q (done qs k) = refl
    join q (refused x k) = refl

    go : (o : Out Pred) → ((m : ℕ) → apply_preds s (preds_of bs) m ≡ after (apply_preds_pending s bs m) (λ qs k. done (preds_of qs) k))
        → after o (λ q m. after (apply_preds s (preds_of bs) m) (λ qs l. done (q ∷ qs) l)) ≡ after (after o (λ q m. after (apply_preds_pending s bs m) (λ qs l. done ((b.0, q) ∷ qs) l))) (λ qs k. done (preds_of qs) k)
    go (done q m) ih = rw (ih m) (join q (apply_preds_pending s bs m))
    go (refused x m) ih = refl

module _ {ns w w' ls bs bs' : List ℕ} {top left n : ℕ} {r : Rows} (G : ReadyRename ns w ls bs top left n) (A : GivesRows ns w w' ls bs bs' top left n r) where
  -- A row was refused.
  pub rows_refused : {x : Refusal} {m k : ℕ} → r ≡ Refused x m k → GivesRenamed ns w w' ls bs bs' top left n (Not-made x m k)
  unfolding after
  rows_refused {x} {m} {k} q =
      let B = rw q at A.answer in
      record {
        stands = A.stands;
        answer = λ s S. let F = B s S in record { is = preds_pending s (binders_in ns w bs 0 n) left ∙ rw F.is refl; types = F.types; more = F.more; down = F.down };
      }

  module _ {m k : ℕ} (q : r ≡ Done m k) where
    -- What the rows give.
    rows_done : RowsDone ns w w' ls bs bs' top left n m k
    rows_done = rw q at A.answer

    -- The table grew.
    pub rows_more : top ≤ m
    rows_more = rows_done.more

    -- There is room for the list.
    pub rows_ready : length w' ≡ length w → ReadyList ns w' bs' m n
    rows_ready o =
        let D = rows_done in
        let a = D.spent in
        let b = D.same in
        let c = G.room in
        record { table = D.table; binders = D.binders; room = omega arith }

    -- The list is there.
    pub rows_listed : {w'' : List ℕ} {l m' : ℕ} → Preds ns w' w'' bs' m n l m' → GivesRenamed ns w w'' ls bs bs' top left n (Made l m' k)
    unfolding after
    rows_listed {w''} {l} {m'} P =
        let D = rows_done in
        let a = D.spent in
        let b = D.same in
        let g = P.grows in
        let z : binders_in ns w'' bs' 0 n ≡ binders_in ns w' bs' 0 n = kept_rows ns bs' P.stands.low 0 (n - 0) (λ i p y. D.binders.types i (omega arith)) in
        record {
          stands = stands_then A.stands (stands_up P.stands (omega arith)) D.more;
          answer = record {
            node = P.node;
            binders = binders_later P.node.table (omega arith) D.binders;
            more = (let c = D.more in omega arith);
            down = D.down;
            spent = omega arith;
            rows = λ s S. rw z (D.is s S);
            is = λ s S. preds_pending s (binders_in ns w bs 0 n) left ∙ rw (D.is s S, P.is) refl;
          };
        }
