-- The loop of `apply_rows`: what all rows give is what the rows before j have become, and then what the others give.
use mathlib.Core.Path.{◌≡◌, refl, ap, sym, ◌∙◌}
use mathlib.Core.List.{List, [], ◌++◌, append-nil}
use Prim.Native.Nat.{ℕ, suc, ◌+◌, ◌*◌, ◌-◌, ◌<◌, ◌≤◌}
use native.Mathlib.Omega.{arith}
use native.Mathlib.Decide.{ℕ_discrete}
use lib.ListN.{length, get_or}
use Rattle.meaning.specs.Ast.{Binder}
use Rattle.meaning.specs.Subst.{apply_preds_pending}
use Rattle.ast.specs.Table.{Table}
use Rattle.ast.proofs.Laws.{node_more}
use Rattle.errors.specs.declared.Refusal.{Refusal}
use Rattle.pairs.specs.Pairs.{sub_at, Stands}
use Rattle.pairs.proofs.Frames.{stands_refl, stands_then, stands_up, sub_stands, sub-later}
use Rattle.apply.proofs.Hand.{Then, then_done, refuse_on}
use Rattle.supers.specs.Rows.{row_at, with_row, binders_in, TypeIn}
use Rattle.supers.specs.declared.rows.Row.{Row}
use Rattle.supers.specs.declared.rows.Row.TheVariants.{Pending, Replaced}
use Rattle.supers.proofs.RowLaws.{row_step, rows_end, kept_rows}
use Rattle.simplify.proofs.RowSets.{same_rows, rows_split}
use Rattle.reduce.proofs.Marks.{row_same}
use Rattle.pending.specs.Swept.{Swept}
use Rattle.pending.specs.Swept.{Done, Refused}
use Rattle.pending.specs.Rows.{PendingRow}
use Rattle.pending.specs.Swept.{ReadySweep, Retyped, RowsSwept, GivesSwept, GivesRows}
use Rattle.pending.proofs.Sweeps.{prefixed, prefixed_none, prefixed_after, pending_split}

-- ## Binders of rows

-- A row's binder before others, as lists.
pub with_row_lem : (ns w : List ℕ) (r : Row) (xs ys : List Binder) → with_row ns w r (xs ++ ys) ≡ with_row ns w r xs ++ ys
with_row_lem ns w (Pending d c t) xs ys = refl
with_row_lem ns w (Replaced d x) xs ys = refl

-- The binders from row j up to row i and those from it on.
pub binders_split : (ns w bs : List ℕ) (j i n : ℕ) → j ≤ i → i ≤ n → binders_in ns w bs j n ≡ binders_in ns w bs j i ++ binders_in ns w bs i n
binders_split ns w bs j i n g h =
    let e : n - j ≡ i - j + (n - i) = omega arith in
    let z : j + (i - j) ≡ i = omega arith in
    rw e (rows_split ns w bs j (i - j) (n - i) ∙ rw z)

-- The binders up to row i, and then its own.
pub binders_snoc : (ns w bs : List ℕ) (j i : ℕ) → j ≤ i → binders_in ns w bs j (suc i) ≡ binders_in ns w bs j i ++ with_row ns w (row_at bs i) []
binders_snoc ns w bs j i h =
    binders_split ns w bs j i (suc i) h (omega arith)
    ∙ ap (λ ys. binders_in ns w bs j i ++ ys) (row_step ns w bs i (suc i) (omega arith) ∙ ap (with_row ns w (row_at bs i)) (rows_end ns w bs (suc i) (suc i) (omega arith)))

-- ## Rows of a grown table

-- A retyped row under a table that has grown.
retyped_kept : {w₂ : List ℕ} {t₂ : ℕ} (w₁ : List ℕ) (t : ℕ) (r r' : Row) → Table w₂ t₂ → t ≤ t₂ → Retyped w₁ t r r' → Retyped w₂ t₂ r r'
retyped_kept w₁ t₁ (Pending d c t) (Pending d' c' t') T h b = (b.0, (b.1.0, node_more T h b.1.1))
retyped_kept w₁ t₁ (Pending d c t) (Replaced d' x') T h b = b
retyped_kept w₁ t₁ (Replaced d x) (Pending d' c' t') T h b = b
retyped_kept w₁ t₁ (Replaced d x) (Replaced d' x') T h b = b

-- Its type is a word of the table.
retyped_type : (w : List ℕ) (top : ℕ) (r r' : Row) → Retyped w top r r' → TypeIn w top r'
retyped_type w top (Pending d c t) (Pending d' c' t') b = b.1.1
retyped_type w top (Pending d c t) (Replaced d' x') b = tt
retyped_type w top (Replaced d x) (Pending d' c' t') b = absurd b
retyped_type w top (Replaced d x) (Replaced d' x') b = tt

-- A pending row of inference still is one.
retyped_pending : (w₀ w : List ℕ) (top₀ top : ℕ) (r r' : Row) → Retyped w top r r' → PendingRow w₀ top₀ r → PendingRow w top r'
retyped_pending w₀ w top₀ top (Pending d c t) (Pending d' c' t') b P = (rw b.0 P.0, (rw b.1.0 P.1.0, b.1.1))
retyped_pending w₀ w top₀ top (Pending d c t) (Replaced d' x') b P = b
retyped_pending w₀ w top₀ top (Replaced d x) (Pending d' c' t') b P = absurd b
retyped_pending w₀ w top₀ top (Replaced d x) (Replaced d' x') b P = P

-- The type of a row under such a table.
type_kept : {w₁ : List ℕ} {t : ℕ} (w : List ℕ) (top : ℕ) (r : Row) → Table w₁ t → top ≤ t → TypeIn w top r → TypeIn w₁ t r
type_kept w top (Pending d c u) T h N = node_more T h N
type_kept w top (Replaced d x) T h N = tt

-- ## The loop has come to row j: the words are w₁ and the rows bs₁

pub record Sweeping (ns w bs : List ℕ) (top left at k n : ℕ) (w₁ bs₁ : List ℕ) (t m j : ℕ) : Type 0 where
  pub stands : Stands w w₁ top (4 * top + 8 * left)
  pub long : length w₁ ≡ length w
  pub wide : length bs₁ ≡ length bs
  pub table : Table w₁ t
  pub more : top ≤ t
  pub spent : 4 * t + 8 * m ≤ 4 * top + 8 * left
  pub down : m ≤ left
  pub under : j ≤ n
  pub rows : (i : ℕ) → i < j → Retyped w₁ t (row_at bs i) (row_at bs₁ i)
  pub behind : (i : ℕ) → 3 * j ≤ i → get_or bs₁ i 0 ≡ get_or bs i 0
  pub is : apply_preds_pending (sub_at ns w at k) (binders_in ns w bs 0 n) left ≡ prefixed (binders_in ns w₁ bs₁ 0 j) (apply_preds_pending (sub_at ns w at k) (binders_in ns w bs j n) m)

module _ {ns w bs : List ℕ} {top left at k n : ℕ} (R : ReadySweep ns w bs top left at k 0 n) where
  -- At first to row 0.
  pub sweeping : Sweeping ns w bs top left at k n w bs top left 0
  sweeping = record {
    stands = stands_refl _ _ _;
    long = refl;
    wide = refl;
    table = R.table;
    more = omega arith;
    spent = omega arith;
    down = omega arith;
    under = omega arith;
    rows = λ i h. absurd (omega arith);
    behind = λ i h. refl;
    is = rw (rows_end ns w bs 0 0 (omega arith)) (sym (prefixed_none _));
  }

  module _ {w₁ bs₁ : List ℕ} {t m j : ℕ} (I : Sweeping ns w bs top left at k n w₁ bs₁ t m j) where
    -- All rows are done.
    pub swept_all : n ≤ j → GivesRows ns w w₁ bs bs₁ top left at k n (Done t m)
    unfolding apply_preds_pending prefixed
    swept_all h =
        let u = I.under in
        let l = I.wide in
        let e : j ≡ n = omega arith in
        record {
          gives = record {
            stands = I.stands;
            before = λ i p. absurd (omega arith);
            behind = λ i p. I.behind i (omega arith);
            answer = record {
              table = I.table;
              more = I.more;
              spent = I.spent;
              down = I.down;
              rows = λ i p q. I.rows i (omega arith);
              is = I.is ∙ rw (rows_end ns w bs j n h, e, append-nil);
            };
          };
          pending = λ P. record { fits = (let f = P.fits in omega arith); each = λ i p. retyped_pending w w₁ top t (row_at bs i) (row_at bs₁ i) (I.rows i (omega arith)) (P.each i p) };
        }

    module _ (h : j < n) where
      -- A row that is left is as it was.
      ahead : (i : ℕ) → j ≤ i → row_at bs₁ i ≡ row_at bs i
      ahead i g = row_same bs bs₁ i (λ x p q. I.behind x (omega arith))

      -- What is asked of row j.
      pub swept_ready : ReadySweep ns w₁ bs₁ t m at k j (j + 1)
      swept_ready =
          let s = I.spent in let r = R.room in let a = I.long in let b = I.wide in let z = R.rows in
          record {
            names = R.names;
            table = I.table;
            sub = sub-later I.stands R.sub r I.more (omega arith);
            room = omega arith;
            rows = omega arith;
            types = λ i p q. rw (ahead i p) (type_kept w top (row_at bs i) I.table I.more (R.types i (omega arith) (omega arith)));
          }

      -- Its binder, for the code and for the definition.
      row_then_same : binders_in ns w₁ bs₁ j (j + 1) ≡ binders_in ns w bs j (j + 1)
      row_then_same =
          same_rows ns w₁ bs bs₁ j (j + 1 - j) (λ i p q. ahead i p)
          ∙ kept_rows ns bs I.stands.low j (j + 1 - j) (λ i p q. R.types i (omega arith) (omega arith))

      -- That row, and then the others.
      next : Then (apply_preds_pending (sub_at ns w at k) (binders_in ns w bs 0 n) left) (apply_preds_pending (sub_at ns w₁ at k) (binders_in ns w₁ bs₁ j (j + 1)) m)
          (λ a l. prefixed (binders_in ns w₁ bs₁ 0 j ++ a) (apply_preds_pending (sub_at ns w at k) (binders_in ns w bs (j + 1) n) l))
      next =
          let r = R.room in
          record {
            is = I.is
                ∙ ap (λ os. prefixed (binders_in ns w₁ bs₁ 0 j) (apply_preds_pending (sub_at ns w at k) os m)) (binders_split ns w bs j (j + 1) n (omega arith) (omega arith))
                ∙ ap (prefixed (binders_in ns w₁ bs₁ 0 j)) (pending_split (sub_at ns w at k) (binders_in ns w bs j (j + 1)) (binders_in ns w bs (j + 1) n) m)
                ∙ prefixed_after (binders_in ns w₁ bs₁ 0 j) (apply_preds_pending (sub_at ns w at k) (binders_in ns w bs j (j + 1)) m) (λ l. apply_preds_pending (sub_at ns w at k) (binders_in ns w bs (j + 1) n) l)
                ∙ rw (row_then_same, sub_stands ns R.table I.stands R.sub r);
          }

      module _ {w₂ bs₂ : List ℕ} {r : Swept} (G : GivesSwept ns w₁ w₂ bs₁ bs₂ t m at k j (j + 1) r) where
        -- Words behind the rows stand.
        still : (i : ℕ) → 3 * n ≤ i → get_or bs₂ i 0 ≡ get_or bs i 0
        still i p = G.behind i (omega arith) ∙ I.behind i (omega arith)

        -- Table and stack stand.
        holds_on : Stands w w₂ top (4 * top + 8 * left)
        holds_on = stands_then I.stands (stands_up G.stands I.spent) I.more

        -- It is refused.
        pub swept_lost : {x : Refusal} {t₂ m₂ : ℕ} → r ≡ Refused x t₂ m₂ → GivesRows ns w w₂ bs bs₂ top left at k n (Refused x t₂ m₂)
        swept_lost y = record {
          gives = record {
            stands = holds_on;
            before = λ i p. absurd (omega arith);
            behind = still;
            answer = refuse_on next (rw y at G.answer) I.more I.down;
          };
          pending = tt;
        }

        module _ {t₂ m₂ : ℕ} (y : r ≡ Done t₂ m₂) (len : length w₂ ≡ length w₁) (lenb : length bs₂ ≡ length bs₁) where
          -- What the row became.
          row : RowsSwept ns w₁ w₂ bs₁ bs₂ t m at k j (j + 1) t₂ m₂
          row = rw y at G.answer

          -- The rows before it are as they were.
          earlier : (i : ℕ) → i < j → row_at bs₂ i ≡ row_at bs₁ i
          earlier i g = row_same bs₁ bs₂ i (λ a p q. G.before a (omega arith))

          -- What each row up to it became.
          each : (i : ℕ) → i < suc j → Dec (i ≡ j) → Retyped w₂ t₂ (row_at bs i) (row_at bs₂ i)
          each i g (yes e) = rw (e, ← ahead j (omega arith)) (row.rows j (omega arith) (omega arith))
          each i g (no e) = rw (earlier i (omega arith)) (retyped_kept w₁ t (row_at bs i) (row_at bs₁ i) row.table row.more (I.rows i (omega arith)))

          -- The binders up to it.
          up_to : binders_in ns w₁ bs₁ 0 j ++ binders_in ns w₂ bs₂ j (j + 1) ≡ binders_in ns w₂ bs₂ 0 (j + 1)
          up_to =
              ap (λ os. os ++ binders_in ns w₂ bs₂ j (j + 1)) (sym (same_rows ns w₂ bs₁ bs₂ 0 (j - 0) (λ i p q. earlier i (omega arith)) ∙ kept_rows ns bs₁ G.stands.low 0 (j - 0) (λ i p q. retyped_type w₁ t (row_at bs i) (row_at bs₁ i) (I.rows i (omega arith)))))
              ∙ sym (binders_split ns w₂ bs₂ 0 j (j + 1) (omega arith) (omega arith))

          -- One row more is done.
          pub swept_on : Sweeping ns w bs top left at k n w₂ bs₂ t₂ m₂ (j + 1)
          swept_on =
              let a = I.more in let b = row.more in let c = I.spent in let d = row.spent in let e = I.down in let f = row.down in
              record {
                stands = holds_on;
                long = len ∙ I.long;
                wide = lenb ∙ I.wide;
                table = row.table;
                more = omega arith;
                spent = omega arith;
                down = omega arith;
                under = omega arith;
                rows = λ i g. each i (omega arith) (ℕ_discrete i j);
                behind = λ i g. G.behind i (omega arith) ∙ I.behind i (omega arith);
                is = then_done _ m₂ next row.is ∙ rw up_to;
              }
