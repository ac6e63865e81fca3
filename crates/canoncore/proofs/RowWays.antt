-- The ways out of the functions for rows, from what the calls gave.
use mathlib.Core.Path.{◌≡◌, refl, sym, ◌∙◌}
use mathlib.Core.List.{List, [], ◌∷◌}
use Prim.Native.Nat.{ℕ, ◌+◌, ◌*◌, ◌-◌, ◌/◌, ◌%◌, ◌^◌, ◌<◌, ◌≤◌}
use native.Mathlib.Omega.{arith}
use native.Mathlib.Numerals.{add-one}
use lib.ListN.{length}
use Rattle.meaning.specs.Ast.{dvar, pred, dict_abs}
use Rattle.meaning.specs.Budget.{done, after}
use Rattle.meaning.specs.Subst.{apply_in, apply_pred, apply_preds_pending}
use Rattle.meaning.specs.Cores.{apply_core_in}
use Rattle.meaning.specs.Generalize.{abstracted}
use Rattle.names.specs.Names.{first_node, name_of}
use Rattle.ast.specs.Table.{tree, Table, Node}
use Rattle.ast.proofs.Ranges.{cell_low}
use Rattle.ast.proofs.Laws.{no_nodes, low_node, kept_tree, node_more}
use Rattle.errors.specs.declared.Refusal.{Refusal}
use Rattle.errors.specs.declared.Refusal.TheVariants.{Steps}
use Rattle.cores.specs.Parts.{pushed_four}
use Rattle.cores.specs.Binders.{binders_of_word}
use Rattle.cores.specs.Terms.{core}
use Rattle.cores.proofs.BinderLaws.{binders_nil}
use Rattle.cores.proofs.NewTerm.{four_stands, push_binder}
use Rattle.subst.specs.Preds.{pushed_pred}
use Rattle.supers.specs.Rows.{row_at, binders_in, TypeIn, NextIs, NextRow}
use Rattle.supers.specs.declared.rows.Row.{Row}
use Rattle.supers.specs.declared.rows.Row.TheVariants.{Pending, Replaced}
use Rattle.supers.specs.declared.Given.{Given}
use Rattle.std.specs.Prelude.{Option, Some, None}
use Rattle.supers.proofs.RowLaws.{rows_end, row_pending, row_passed, kept_rows}
use Rattle.apply.specs.Applied.{Applied}
use Rattle.apply.specs.Applied.{Done, Refused}
use Rattle.apply.proofs.Ways.{Room}
use Rattle.rename.specs.Renamed.{TypeRenamed}
use Rattle.terms.proofs.Handing.{Thens, onward, made, fails, stays, refuses, two_refused, two_room, two_done}
use Rattle.canoncore.specs.Lettered.{Lettered, ReadyLetters, GivesLettered, node_out}
use Rattle.canoncore.specs.RowsReady.{ReadyRows}
use Rattle.canoncore.proofs.Arms.{gives_type, core_spent, core_step}
use Rattle.canoncore.proofs.TypeWays.{in_turn}

-- ## Rows over a larger table

-- One row's type.
more_type : (w : List ℕ) {w₁ : List ℕ} (top : ℕ) {top₁ : ℕ} (q : Row) → Table w₁ top₁ → top ≤ top₁ → TypeIn w top q → TypeIn w₁ top₁ q
more_type w top (Pending d c t) T h N = node_more T h N
more_type w top (Replaced d x) T h N = tt

-- All of them.
rows_more : {ns w w₁ bs ls : List ℕ} {top top₁ left left₁ n : ℕ} → ReadyRows ns w bs ls top left n → Table w₁ top₁ → top ≤ top₁ → 4 * top₁ + 8 * left₁ ≤ length w₁ → ReadyRows ns w₁ bs ls top₁ left₁ n
rows_more {w = w} {bs = bs} {top = top} R T h o = record {
  names = R.names;
  table = T;
  rows = record { rows = R.rows.rows; types = λ j l. more_type w top (row_at bs j) T h (R.rows.types j l) };
  small = R.small;
  few = R.few;
  room = o;
}

-- ## The rows one after the other

-- The word of no list stands for no binders.
no_binders : (ns w : List ℕ) → binders_of_word ns w 0 ≡ []
no_binders ns w = binders_nil ns (low_node (no_nodes w) (omega arith)) (sym (cell_low w 0 (omega arith))) refl

-- 65536 * d + c gives d and c back.
apart : (d c : ℕ) → c < 65536 → ((65536 * d + c) / 65536 ≡ d) × ((65536 * d + c) % 65536 ≡ c)
apart d c h = (omega arith, omega arith)

-- A number that is not the last is below it.
pub below : (j n : ℕ) → j ≤ n → (j ≡ n → ⊥) → j < n
below j n h k = omega arith

module _ {ns w bs ls : List ℕ} {top left n : ℕ} (j : ℕ) (R : ReadyRows ns w bs ls top left n) where
  -- There are no more rows.
  pub rows_none : j ≡ n → GivesLettered binders_of_word 0 ns ls w w top left (λ s. apply_preds_pending s (binders_in ns w bs j n) left) (Done 0 top left)
  unfolding apply_preds_pending
  rows_none h = stays (λ s u. rw (rows_end ns w bs j n (omega arith), no_binders ns w)) (low_node R.table (omega arith)) (omega arith) (omega arith)

  -- q is what `row_at` returned.
  module _ (l : j < n) {q : Row} (e : q ≡ row_at bs j) where
    -- A row that was replaced is passed over.
    pub rows_passed : {d x : ℕ} {w₁ : List ℕ} {r : Applied} → q ≡ Replaced d x → GivesLettered binders_of_word 0 ns ls w w₁ top left (λ s. apply_preds_pending s (binders_in ns w bs (j + 1) n) left) r
        → GivesLettered binders_of_word 0 ns ls w w₁ top left (λ s. apply_preds_pending s (binders_in ns w bs j n) left) r
    rows_passed k G = onward G (record { at = λ s u. rw (row_passed ns w bs j n l (sym e ∙ k), add-one j) }) (omega arith) (omega arith) (omega arith)

    module _ {d c t : ℕ} (k : q ≡ Pending d c t) where
      -- Its number and its class are small.
      pub row_small : (d < 17_592_186_044_416) × (c < 65536)
      row_small = rw (sym e ∙ k) at (R.small j l)

      -- Its type is next.
      pub row_asks : ReadyLetters ns w ls top left t
      row_asks = record { names = R.names; node = rw (sym e ∙ k) at (R.rows.types j l); few = R.few; room = R.room }

      -- Its type, then the rest.
      rows_then : Thens (Lettered ns ls) (λ s. apply_preds_pending s (binders_in ns w bs j n) left) (λ s. apply_in 256 s (tree ns w t) left)
          (λ s u m. after (apply_preds_pending s (binders_in ns w bs (j + 1) n) m) (λ us m₂. done ((dvar d, pred (name_of ns c) u) ∷ us) m₂))
      unfolding apply_preds_pending apply_pred after
      rows_then = record { at = λ s h. rw (row_pending ns w bs j n l (sym e ∙ k), add-one j) (in_turn (apply_in 256 s (tree ns w t) left) _ _) }

      module _ {w₁ : List ℕ} {r₁ : Applied} (T : TypeRenamed ns w w₁ ls top left 256 0 0 t r₁) where
        -- The type is refused.
        pub rows_refused : {q : Refusal} {t₁ l₁ : ℕ} → r₁ ≡ Refused q t₁ l₁ → GivesLettered binders_of_word 0 ns ls w w₁ top left (λ s. apply_preds_pending s (binders_in ns w bs j n) left) (Refused q t₁ l₁)
        rows_refused h = fails (gives_type 256 t r₁ T) rows_then h

        module _ {m t₁ l₁ : ℕ} (h : r₁ ≡ Done m t₁ l₁) where
          -- The rest is next.
          pub rows_asks : length w₁ ≡ length w → (top ≤ t₁) × ReadyRows ns w₁ bs ls t₁ l₁ n
          rows_asks len = let g = made (gives_type 256 t r₁ T) h in let s = g.spent in let o = R.room in (g.more, rows_more R g.node.table g.more (omega arith))

          module _ {w₂ : List ℕ} {r₂ : Applied} (H : GivesLettered binders_of_word 0 ns ls w₁ w₂ t₁ l₁ (λ s. apply_preds_pending s (binders_in ns w₁ bs (j + 1) n) l₁) r₂) where
            -- The rest is what it was.
            rest_kept : binders_in ns w₁ bs (j + 1) n ≡ binders_in ns w bs (j + 1) n
            rest_kept = kept_rows ns bs T.stands.low (j + 1) (n - (j + 1)) (λ i p z. R.rows.types i (omega arith))

            -- Then what comes of both.
            rows_next : Thens (Lettered ns ls) (λ s. after (apply_preds_pending s (binders_in ns w bs (j + 1) n) l₁) (λ us m₂. done ((dvar d, pred (name_of ns c) (tree ns w₁ m)) ∷ us) m₂))
                (λ s. apply_preds_pending s (binders_in ns w₁ bs (j + 1) n) l₁) (λ s us m₂. done ((dvar d, pred (name_of ns c) (tree ns w₁ m)) ∷ us) m₂)
            rows_next = record { at = λ s u. rw rest_kept }

            -- The rest is refused.
            pub rows_refused_2 : {q : Refusal} {t₂ l₂ : ℕ} → r₂ ≡ Refused q t₂ l₂ → GivesLettered binders_of_word 0 ns ls w w₂ top left (λ s. apply_preds_pending s (binders_in ns w bs j n) left) (Refused q t₂ l₂)
            rows_refused_2 i = two_refused (gives_type 256 t r₁ T) h H rows_then rows_next i

            module _ {m₂ t₂ l₂ : ℕ} (i : r₂ ≡ Done m₂ t₂ l₂) (len : length w₂ ≡ length w) (big : length w < 2 ^ 65) where
              -- There is room for the cell.
              pub rows_room : Room w₂ top t₂
              rows_room = two_room (gives_type 256 t r₁ T) h H i (omega arith) R.room len big

              -- The cell is the answer.
              pub rows_done : {w₃ : List ℕ} → w₃ ≡ pushed_pred w₂ t₂ (65536 * d + c) m m₂
                  → GivesLettered binders_of_word 0 ns ls w w₃ top left (λ s. apply_preds_pending s (binders_in ns w bs j n) left) (Done (first_node + t₂) (t₂ + 1) l₂)
              unfolding pushed_pred pushed_four
              rows_done p = two_done (gives_type 256 t r₁ T) h H i (omega arith)
                  (λ ns. (dvar ((65536 * d + c) / 65536), pred (name_of ns ((65536 * d + c) % 65536)) (tree ns w₂ m)) ∷ binders_of_word ns w₂ m₂) rows_then rows_next
                  (λ ns. push_binder ns rows_room.room rows_room.small (node_more (made H i).node.table (made H i).more (made (gives_type 256 t r₁ T) h).node) (made H i).node (65536 * d + c) p)
                  (four_stands w₂ t₂ 3 m m₂ (65536 * d + c) p _ (omega arith))
                  (λ s u. rw ((apart d c row_small.1).0, (apart d c row_small.1).1, kept_tree ns H.stands.low (made (gives_type 256 t r₁ T) h).node))

-- ## The whole term

module _ {ns w bs ls : List ℕ} {top left n e : ℕ} (R : ReadyRows ns w bs ls top left n) (N : Node w top e) where
  -- What `rename_core` asks, with no more steps.
  pub whole_asks : {l : ℕ} → l ≤ left → ReadyLetters ns w ls top l e
  whole_asks h = let o = R.room in record { names = R.names; node = N; few = R.few; room = omega arith }

  -- What `in_rows` asks.
  pub rows_less : {l : ℕ} → l ≤ left → ReadyRows ns w bs ls top l n
  rows_less h = let o = R.room in record { names = R.names; table = R.table; rows = R.rows; small = R.small; few = R.few; room = omega arith }

  -- No step is left.
  pub rows_spent : left ≡ 0 → GivesLettered core 4 ns ls w w top left (λ s. apply_core_in 256 s (dict_abs (binders_in ns w bs 0 n) (core ns w e)) left) (Refused Steps top left)
  rows_spent h = refuses (λ s u. core_spent 256 _ _ _ (λ z. omega arith) h ∙ rw h) tt (omega arith)

  -- One step, then the binders and the term.
  pub rows_stepped : {w₁ : List ℕ} {r : Applied} → (left ≡ 0 → ⊥) → GivesLettered core 0 ns ls w w₁ top (left - 1) (λ s. node_out 255 (left - 1) s (dict_abs (binders_in ns w bs 0 n) (core ns w e))) r
      → GivesLettered core 4 ns ls w w₁ top left (λ s. apply_core_in 256 s (dict_abs (binders_in ns w bs 0 n) (core ns w e)) left) r
  rows_stepped lp G = onward G (record { at = λ s u. core_step 256 left s _ (λ z. omega arith) lp }) (omega arith) (omega arith) (omega arith)

  -- g is what `next_row` returned.
  module _ {g : Option Given} (X : NextRow bs 0 n g) {w₁ : List ℕ} {r : Applied} where
    -- No row is pending.
    pub whole_none : g ≡ None → GivesLettered core 4 ns ls w w₁ top left (λ s. apply_core_in 256 s (core ns w e) left) r
        → GivesLettered core 4 ns ls w w₁ top left (λ s. apply_core_in 256 s (abstracted (binders_in ns w bs 0 n) (core ns w e)) left) r
    unfolding abstracted
    whole_none k G = let h : (ns w : List ℕ) → binders_in ns w bs 0 n ≡ [] = rw k at X.says in
        onward G (record { at = λ s u. rw (h ns w) }) (omega arith) (omega arith) (omega arith)

    -- Some row is.
    pub whole_some : {v : Given} → g ≡ Some v → GivesLettered core 4 ns ls w w₁ top left (λ s. apply_core_in 256 s (dict_abs (binders_in ns w bs 0 n) (core ns w e)) left) r
        → GivesLettered core 4 ns ls w w₁ top left (λ s. apply_core_in 256 s (abstracted (binders_in ns w bs 0 n) (core ns w e)) left) r
    unfolding abstracted
    whole_some {v} k G = let h : NextIs bs 0 n v.dict v.class v.ty v.rest = rw k at X.says in
        onward G (record { at = λ s u. rw (h.is ns w ∙ row_pending ns w bs h.at n h.below h.row) }) (omega arith) (omega arith) (omega arith)
