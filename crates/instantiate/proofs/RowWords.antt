-- Laws of a row that is written, and of rows that wait.
use mathlib.Core.Path.{◌≡◌, ap, ◌∙◌}
use mathlib.Core.List.{List, [], ◌∷◌, ◌++◌}
use Prim.Native.Nat.{ℕ, suc, ◌+◌, ◌*◌, ◌-◌, ◌<◌, ◌≤◌}
use native.Mathlib.Decide.{ℕ_discrete}
use native.Mathlib.Omega.{arith}
use lib.ListN.{length, get_or, set, length-set}
use lib.Seq.{get_or-set_same, get_or-set_other}
use Rattle.meaning.specs.Ast.{dvar, pred}
use Rattle.names.specs.Names.{name_of}
use Rattle.ast.specs.Table.{tree, Node, Kept}
use Rattle.ast.proofs.Laws.{node_more}
use Rattle.supers.specs.Rows.{row_at, binders_in, TypeIn}
use Rattle.supers.specs.declared.rows.Row.TheVariants.{Pending}
use Rattle.supers.proofs.RowLaws.{row_open, kept_rows}
use Rattle.simplify.proofs.RowSets.{same_row, same_rows, binders_snoc}
use Rattle.instantiate.specs.Instance.{with_words, Waits, Rows}

-- bs' is bs with three words as row j.
module _ {bs' : List ℕ} (bs : List ℕ) (j d c x : ℕ) (is : bs' ≡ with_words bs j d c x) where
  -- There are as many words.
  pub words_long : length bs' ≡ length bs
  unfolding with_words
  words_long = rw is (length-set (set (set bs (3 * j) d) (3 * j + 1) c) (3 * j + 2) x ∙ length-set (set bs (3 * j) d) (3 * j + 1) c ∙ length-set bs (3 * j) d)

  -- Another word stands.
  word_other : (i : ℕ) → (i ≡ 3 * j → ⊥) → (i ≡ 3 * j + 1 → ⊥) → (i ≡ 3 * j + 2 → ⊥) → get_or bs' i 0 ≡ get_or bs i 0
  unfolding with_words
  word_other i p q r = rw is (get_or-set_other (set (set bs (3 * j) d) (3 * j + 1) c) (3 * j + 2) i x 0 r ∙ get_or-set_other (set bs (3 * j) d) (3 * j + 1) i c 0 q ∙ get_or-set_other bs (3 * j) i d 0 p)

  -- Another row stands.
  pub row_other : (i : ℕ) → (i ≡ j → ⊥) → row_at bs' i ≡ row_at bs i
  row_other i n = same_row bs bs' i
      (word_other (3 * i) (λ h. n (omega arith)) (λ h. omega arith) (λ h. omega arith))
      (word_other (3 * i + 1) (λ h. omega arith) (λ h. n (omega arith)) (λ h. omega arith))
      (word_other (3 * i + 2) (λ h. omega arith) (λ h. omega arith) (λ h. n (omega arith)))

  module _ (room : 3 * j + 3 ≤ length bs) (small : c < 65536) where
    -- The row's first word.
    first_word : get_or bs' (3 * j) 0 ≡ d
    unfolding with_words
    first_word = rw is (get_or-set_other (set (set bs (3 * j) d) (3 * j + 1) c) (3 * j + 2) (3 * j) x 0 (omega arith)
        ∙ get_or-set_other (set bs (3 * j) d) (3 * j + 1) (3 * j) c 0 (omega arith) ∙ get_or-set_same bs (3 * j) d 0 (omega arith))

    -- Its second.
    second_word : get_or bs' (3 * j + 1) 0 ≡ c
    unfolding with_words
    second_word = rw is (get_or-set_other (set (set bs (3 * j) d) (3 * j + 1) c) (3 * j + 2) (3 * j + 1) x 0 (omega arith)
        ∙ get_or-set_same (set bs (3 * j) d) (3 * j + 1) c 0 (simp length-set (omega arith)))

    -- Its third.
    third_word : get_or bs' (3 * j + 2) 0 ≡ x
    unfolding with_words
    third_word = rw is (get_or-set_same (set (set bs (3 * j) d) (3 * j + 1) c) (3 * j + 2) x 0 (simp length-set (omega arith)))

    -- The row waits.
    pub row_here : row_at bs' j ≡ Pending d c x
    unfolding row_at
    row_here = rw (first_word, second_word, third_word) (row_open d c x (λ h. omega arith))

-- Rows that wait have types of the table.
pub waits_type : {w bs : List ℕ} {top i d : ℕ} → Waits w bs top i d → TypeIn w top (row_at bs i)
waits_type W = rw W.row W.node

-- No rows wait.
pub no_rows : (w bs : List ℕ) (top dv : ℕ) → Rows w bs top dv 0
no_rows w bs top dv = record { at = λ i h. absurd (omega arith) }

-- One row more, over a grown table.
module _ {w w' bs bs' : List ℕ} {top top' dv m c x : ℕ} (R : Rows w bs top dv m) (is : bs' ≡ with_words bs m (dv + m) c x) (room : 3 * m + 3 ≤ length bs) (small : c < 65536)
    (h : top ≤ top') (N : Node w' top' x) where
  -- All of them wait.
  pub rows_more : Rows w' bs' top' dv (m + 1)
  rows_more = record { at = λ i l. go i l (ℕ_discrete i m) }
    where
      go : (i : ℕ) → i < m + 1 → Dec (i ≡ m) → Waits w' bs' top' i (dv + i)
      go i l (yes p) = record { class = c; type = x; row = rw p (row_here bs m (dv + m) c x is room small); small = small; node = N }
      go i l (no n) = let W = R.at i (omega arith) in
          record { class = W.class; type = W.type; row = row_other bs m (dv + m) c x is i n ∙ W.row; small = W.small; node = node_more N.table h W.node }

  -- Their binders are those before and the new one.
  pub binders_more : (ns : List ℕ) → Kept w w' top → binders_in ns w' bs' 0 (m + 1) ≡ binders_in ns w bs 0 m ++ ((dvar (dv + m), pred (name_of ns c) (tree ns w' x)) ∷ [])
  binders_more ns K =
      let e : m + 1 ≡ suc m = omega arith in
      rw e (binders_snoc ns w' bs' m
      ∙ rw (row_here bs m (dv + m) c x is room small) (ap (λ ys. ys ++ ((dvar (dv + m), pred (name_of ns c) (tree ns w' x)) ∷ []))
      (same_rows ns w' bs bs' 0 (m - 0) (λ i p q. row_other bs m (dv + m) c x is i (λ z. omega arith))
      ∙ kept_rows ns bs K 0 (m - 0) (λ i p q. waits_type (R.at i (omega arith))))))
