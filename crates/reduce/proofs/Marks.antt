-- One row: it is replaced or stays, and the words of the others stand.
use mathlib.Core.Path.{◌≡◌, refl, sym, ◌∙◌}
use mathlib.Core.List.{List}
use Prim.Native.Nat.{ℕ, ◌+◌, ◌*◌, ◌<◌, ◌≤◌}
use native.Mathlib.Omega.{arith}
use native.Mathlib.Decide.{ℕ_discrete}
use lib.ListN.{length, get_or, set, length-set}
use lib.Seq.{get_or-set_same, get_or-set_other}
use Rattle.meaning.specs.Base.{if, eqb, is_yes}
use Rattle.meaning.specs.Ast.{pred}
use Rattle.meaning.specs.Reduce.{reduce_one}
use Rattle.names.specs.Names.{name_of}
use Rattle.ast.specs.Table.{tree}
use Rattle.errors.specs.declared.Refusal.{Refusal}
use Rattle.pairs.proofs.Frames.{stands_refl, stands_node}
use Rattle.supers.specs.Rows.{mark, row_of, row_at}
use Rattle.supers.specs.Givens.{givens_of}
use Rattle.supers.specs.declared.Root.{Root}
use Rattle.supers.specs.declared.rows.Row.{Row}
use Rattle.supers.specs.declared.rows.Row.TheVariants.{Pending, Replaced}
use Rattle.supers.specs.Searched.{Searched}
use Rattle.supers.specs.Searched.{Found, Nothing, Refused}
use Rattle.supers.proofs.RowLaws.{row_replaced}
use Rattle.resolve.specs.Resolves.{Declared, ReadyResolve}
use Rattle.reduce.specs.Reduces.{marked, ReadyReduce, GivesOne, row_out, GivesRow}
use Rattle.reduce.specs.Reduced.{Done, Refused as Reduced-Refused}

-- ## Rows by their words

-- A row whose words stand is the same.
pub row_same : (bs bs' : List ℕ) (j : ℕ) → ((i : ℕ) → 3 * j ≤ i → i < 3 * j + 3 → get_or bs' i 0 ≡ get_or bs i 0) → row_at bs' j ≡ row_at bs j
unfolding row_at
row_same bs bs' j h = rw (h (3 * j) (omega arith) (omega arith), h (3 * j + 1) (omega arith) (omega arith), h (3 * j + 2) (omega arith) (omega arith))

-- A pending row's number is its first word.
number_of : (x c y : ℕ) {d b t : ℕ} → row_of x c y ≡ Pending d b t → x ≡ d
unfolding row_of eqb
number_of x c y {d} {b} {t} = go (ℕ_discrete c mark)
  where
    go : (q : Dec (c ≡ mark)) → if (is_yes q) (Replaced x y) (Pending x c y) ≡ Pending d b t → x ≡ d
    go (yes p) e = let z : ◌≡◌ {A = ℕ} 0 1 = cc in absurd (omega arith)
    go (no h) e = cc

-- bs' is bs with row j replaced by e.
module _ {bs' : List ℕ} (bs : List ℕ) (j e : ℕ) (is : bs' ≡ marked bs j e) where
  -- The words of other rows, and the row's first, stand.
  pub marked_other : (i : ℕ) → (i ≡ 3 * j + 1 → ⊥) → (i ≡ 3 * j + 2 → ⊥) → get_or bs' i 0 ≡ get_or bs i 0
  unfolding marked
  marked_other i p q = rw is (get_or-set_other (set bs (3 * j + 1) mark) (3 * j + 2) i e 0 q ∙ get_or-set_other bs (3 * j + 1) i mark 0 p)

  module _ (fits : 3 * j + 3 ≤ length bs) where
    -- Its class is the mark.
    marked_class : get_or bs' (3 * j + 1) 0 ≡ mark
    unfolding marked
    marked_class = rw is (get_or-set_other (set bs (3 * j + 1) mark) (3 * j + 2) (3 * j + 1) e 0 (omega arith) ∙ get_or-set_same bs (3 * j + 1) mark 0 (omega arith))

    -- Its third word is the dictionary.
    marked_word : get_or bs' (3 * j + 2) 0 ≡ e
    unfolding marked
    marked_word = rw is (get_or-set_same (set bs (3 * j + 1) mark) (3 * j + 2) e 0 (simp length-set (omega arith)))

    -- The row, if it was pending.
    pub marked_row : {d c t : ℕ} → row_at bs j ≡ Pending d c t → row_at bs' j ≡ Replaced d e
    unfolding row_at
    marked_row k = rw (marked_other (3 * j) (omega arith) (omega arith), marked_word, number_of (get_or bs (3 * j) 0) (get_or bs (3 * j + 1) 0) (get_or bs (3 * j + 2) 0) k) (row_replaced _ _ _ marked_class)

-- ## The ways out of `reduce_row`: q is what `row_at` returned

module _ {ns w il bs : List ℕ} {top left sp : ℕ} {root : Root} {l j : ℕ} (R : ReadyReduce ns w il bs top left sp root l j (j + 1)) (cl : List ℕ) {q : Row} (e : q ≡ row_at bs j) where
  -- The row was replaced before.
  pub row_was : {d x : ℕ} → q ≡ Replaced d x
      → GivesRow (Declared ns cl w top il) ns w w bs bs top left sp j (λ ce. row_out ns w ce (givens_of ns w root 0 l) (row_at bs j) left) (Done top left)
  row_was k = record {
    stands = stands_refl _ _ _;
    answer = record {
      table = R.givens.table;
      more = omega arith;
      spent = omega arith;
      down = omega arith;
      became = rw (sym e ∙ k) refl;
      before = λ i h. refl;
      behind = λ i h. refl;
      is = λ ce D. rw (sym e ∙ k);
    };
  }

  module _ {d c t : ℕ} (k : q ≡ Pending d c t) where
    -- What is asked of its type.
    pub row_ready : ReadyResolve ns w il top left sp root l t
    row_ready = record { names = R.names; givens = R.givens; few = R.few; goal = rw (sym e ∙ k) at (R.types j (omega arith) (omega arith)); heads = R.heads; room = R.room; fits = R.fits }

    module _ {w₁ : List ℕ} {r : Searched} (G : GivesOne (Declared ns cl w top il) ns w w₁ top left sp (λ ce. reduce_one ce (givens_of ns w root 0 l) (pred (name_of ns c) (tree ns w t)) left) r) where
      -- A dictionary replaces it.
      pub row_found : {bs₁ : List ℕ} {x t₁ l₁ : ℕ} → r ≡ Found x t₁ l₁ → bs₁ ≡ marked bs j x
          → GivesRow (Declared ns cl w top il) ns w w₁ bs bs₁ top left sp j (λ ce. row_out ns w ce (givens_of ns w root 0 l) (row_at bs j) left) (Done t₁ l₁)
      row_found {x = x} h p =
          let A = rw h at G.answer in
          let s = A.spent in let f = A.down in let z = R.rows in
          let b = marked_row bs j x p (omega arith) (sym e ∙ k) in
          record {
            stands = G.stands;
            answer = record {
              table = A.node.table;
              more = A.more;
              spent = omega arith;
              down = omega arith;
              became = rw (sym e ∙ k, b) (refl, A.node);
              before = λ i g. marked_other bs j x p i (omega arith) (omega arith);
              behind = λ i g. marked_other bs j x p i (omega arith) (omega arith);
              is = λ ce D. rw (sym e ∙ k, b) (A.is ce D);
            };
          }

      -- It stays.
      pub row_stays : {l₁ : ℕ} → r ≡ Nothing l₁ → length w₁ ≡ length w
          → GivesRow (Declared ns cl w top il) ns w w₁ bs bs top left sp j (λ ce. row_out ns w ce (givens_of ns w root 0 l) (row_at bs j) left) (Done top l₁)
      row_stays h len =
          let A = rw h at G.answer in
          let f = A.down in
          record {
            stands = G.stands;
            answer = record {
              table = (stands_node G.stands (omega arith) R.givens).table;
              more = omega arith;
              spent = omega arith;
              down = f;
              became = rw (sym e ∙ k) refl;
              before = λ i g. refl;
              behind = λ i g. refl;
              is = λ ce D. rw (sym e ∙ k) (A.is ce D);
            };
          }

      -- It is refused.
      pub row_refused : {x : Refusal} {t₁ l₁ : ℕ} → r ≡ Refused x t₁ l₁
          → GivesRow (Declared ns cl w top il) ns w w₁ bs bs top left sp j (λ ce. row_out ns w ce (givens_of ns w root 0 l) (row_at bs j) left) (Reduced-Refused x t₁ l₁)
      row_refused h = record { stands = G.stands; answer = λ ce D. rw (sym e ∙ k) ((rw h at G.answer) ce D) }
