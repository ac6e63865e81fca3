-- The loop of `rename_types`: one row after the other is renamed.
use mathlib.Core.Path.{◌≡◌, refl, ap, sym, ◌∙◌, subst}
use mathlib.Core.List.{List, [], ◌∷◌, ◌++◌, append-nil}
use mathlib.Core.Logic.{◌⊎◌, inl, inr, ⊎_elim}
use Prim.Native.Nat.{ℕ, suc, ◌+◌, ◌*◌, ◌-◌, ◌<◌, ◌≤◌}
use native.Mathlib.Omega.{arith}
use native.Mathlib.Decide.{ℕ_discrete}
use native.Mathlib.Numerals.{add-one}
use lib.ListN.{length}
use Rattle.meaning.specs.Base.{count, total}
use Rattle.meaning.specs.Ast.{Binder}
use Rattle.meaning.specs.Budget.{Out, done, after}
use Rattle.meaning.specs.Subst.{Subst, apply_preds_pending}
use Rattle.meaning.specs.Generalize.{preds_of}
use Rattle.ast.specs.Table.{Table}
use Rattle.ast.proofs.Laws.{node_more}
use Rattle.errors.specs.declared.Refusal.{Refusal}
use Rattle.pairs.specs.Pairs.{Stands}
use Rattle.pairs.proofs.Frames.{stands_refl, stands_then, stands_up}
use Rattle.supers.specs.declared.rows.Row.{Row}
use Rattle.supers.specs.declared.rows.Row.TheVariants.{Pending, Replaced}
use Rattle.supers.specs.Rows.{row_at, with_row, binders_from, binders_in, HasWord, TypeIn, Binders}
use Rattle.supers.proofs.RowLaws.{row_step, rows_end, kept_rows}
use Rattle.simplify.proofs.RowSets.{same_rows, binders_split, binders_snoc}
use Rattle.canonical.specs.Rows.{leaves_preds, ReadyRename, Letters, RowDone, RenamesRow, GivesRows}
use Rattle.canonical.specs.Rows.{Rows}
use Rattle.canonical.specs.Rows.{Done, Refused}
use Rattle.canonical.proofs.Turns.{after_same, after_both, after_ext, letters_same}

-- The words were w₀ and the rows bs₀: up to row i they are renamed.
pub record Going (ns w₀ w ls bs₀ bs : List ℕ) (top left n i m k : ℕ) : Type 0 where
  pub ready : ReadyRename ns w ls bs m k n
  pub long : length w ≡ length w₀
  pub rows_long : length bs ≡ length bs₀
  pub upto : i ≤ n
  pub more : top ≤ m
  pub down : k ≤ left
  pub within : 4 * m + 8 * k ≤ 4 * top + 8 * left
  pub stands : Stands w₀ w top (4 * top + 8 * left)
  pub spent : 4 * m + 8 * k + 4 * leaves_preds (preds_of (binders_in ns w₀ bs₀ 0 n)) + 4 * count (binders_in ns w₀ bs₀ 0 n)
      ≤ 4 * top + 8 * left + 4 * leaves_preds (preds_of (binders_in ns w bs i n)) + 4 * count (binders_in ns w bs i n)
  pub same : count (binders_in ns w bs 0 n) ≡ count (binders_in ns w₀ bs₀ 0 n)
  pub is : (s : Subst) → Letters ns w₀ ls s → apply_preds_pending s (binders_in ns w₀ bs₀ 0 n) left
      ≡ after (apply_preds_pending s (binders_in ns w bs i n) k) (λ qs l. done (binders_in ns w bs 0 i ++ qs) l)

-- At first none is.
pub going : {ns w ls bs : List ℕ} {top left n : ℕ} → ReadyRename ns w ls bs top left n → Going ns w w ls bs bs top left n 0 top left
going {ns} {w} {ls} {bs} {top} {left} {n} R = record {
  ready = R;
  long = refl;
  rows_long = refl;
  upto = omega arith;
  more = omega arith;
  down = omega arith;
  within = omega arith;
  stands = stands_refl w top (4 * top + 8 * left);
  spent = omega arith;
  same = refl;
  is = λ s S. sym (after_ext _ _ _ (λ qs l. ap (λ (bs : List Binder). done (bs ++ qs) l) (rows_end ns w bs 0 0 (omega arith))) ∙ after_same (apply_preds_pending s (binders_in ns w bs 0 n) left));
}

-- The type of a row in a grown table.
pub type_later : {w' : List ℕ} {top' : ℕ} (w : List ℕ) (top : ℕ) (r : Row) → Table w' top' → top ≤ top' → TypeIn w top r → TypeIn w' top' r
type_later w top (Pending d c t) T h N = node_more T h N
type_later w top (Replaced d x) T h N = tt

-- A row before others, in numbers.
row_leaves : (ns w : List ℕ) (r : Row) (os : List Binder) → leaves_preds (preds_of (with_row ns w r os)) ≡ leaves_preds (preds_of (with_row ns w r [])) + leaves_preds (preds_of os)
unfolding total
row_leaves ns w (Pending d c t) os = omega arith
row_leaves ns w (Replaced d x) os = omega arith

-- The same of their number.
row_count : (ns w : List ℕ) (r : Row) (os : List Binder) → count (with_row ns w r os) ≡ count (with_row ns w r []) + count os
unfolding count
row_count ns w (Pending d c t) os = omega arith
row_count ns w (Replaced d x) os = omega arith

-- Two lists, in numbers.
pub count_both : {A : Type 0} (xs ys : List A) → count (xs ++ ys) ≡ count xs + count ys
unfolding count
count_both [] ys = omega arith
count_both (x ∷ xs) ys = let ih = count_both xs ys in omega arith

-- A row between others, as lists.
row_between : (ns w : List ℕ) (xs : List Binder) (r : Row) (ys : List Binder) → (xs ++ with_row ns w r []) ++ ys ≡ xs ++ with_row ns w r ys
row_between ns w [] (Pending d c t) ys = refl
row_between ns w [] (Replaced d x) ys = refl
row_between ns w (x ∷ xs) r ys = ap (λ (zs : List Binder). x ∷ zs) (row_between ns w xs r ys)

module _ {ns w₀ w w' ls bs₀ bs bs' : List ℕ} {top left n i m k : ℕ} {r : Rows} (G : Going ns w₀ w ls bs₀ bs top left n i m k) (T : RenamesRow ns w w' ls bs bs' m k i r) where
  -- A row was refused.
  pub turn_stops : {x : Refusal} {m₂ k₂ : ℕ} → i < n → r ≡ Refused x m₂ k₂ → GivesRows ns w₀ w' ls bs₀ bs' top left n (Refused x m₂ k₂)
  unfolding after
  turn_stops {x} {m₂} {k₂} h q =
      let B = rw q at T.answer in
      record {
        stands = stands_then G.stands (stands_up T.stands G.within) G.more;
        answer = λ s S. let F = B s (letters_same w₀ w S) (binders_in ns w bs (suc i) n) in record {
          is = G.is s S ∙ rw (row_step ns w bs i n h, F.is) refl;
          types = F.types;
          more = (let a = F.more in let b = G.more in omega arith);
          down = (let a = F.down in let b = G.down in omega arith);
        };
      }

  module _ {m₂ k₂ : ℕ} (q : r ≡ Done m₂ k₂) (h : i < n) (long : length w' ≡ length w) (rows_long : length bs' ≡ length bs) where
    -- What the row gives.
    turned : RowDone ns w w' ls bs bs' m k i m₂ k₂
    turned = rw q at T.answer

    -- Other rows are the same binders.
    alike : (j l : ℕ) → (i < j) ⊎ (j + l ≤ i) → j + l ≤ n → binders_from ns w' bs' j l ≡ binders_from ns w bs j l
    alike j l o b =
        same_rows ns w' bs bs' j l (λ a p z. T.others a (λ y. ⊎_elim (λ g. omega arith) (λ g. omega arith) o))
        ∙ kept_rows ns bs T.stands.low j l (λ a p z. G.ready.binders.types a (omega arith))

    -- Those after it are,
    rest_same : binders_in ns w' bs' (suc i) n ≡ binders_in ns w bs (suc i) n
    rest_same = alike (suc i) (n - suc i) (inl (omega arith)) (omega arith)

    -- and those before it.
    front_same : binders_in ns w' bs' 0 i ≡ binders_in ns w bs 0 i
    front_same = alike 0 (i - 0) (inr (omega arith)) (omega arith)

    -- The rows after it.
    next_rows : Binders w' bs' m₂ n
    next_rows = record {
      rows = record {
        fits = (let f = G.ready.binders.rows.fits in omega arith);
        dicts = λ j b. dict j b (ℕ_discrete j i);
      };
      types = λ j b. type j b (ℕ_discrete j i);
    }
      where
        dict : (j : ℕ) → j < n → Dec (j ≡ i) → HasWord (row_at bs' j)
        dict j b (yes p) = subst (λ (x : ℕ). HasWord (row_at bs' x)) (sym p) (turned.fits (G.ready.binders.rows.dicts i h))
        dict j b (no p) = rw (T.others j p) (G.ready.binders.rows.dicts j b)

        type : (j : ℕ) → j < n → Dec (j ≡ i) → TypeIn w' m₂ (row_at bs' j)
        type j b (yes p) = subst (λ (x : ℕ). TypeIn w' m₂ (row_at bs' x)) (sym p) turned.type
        type j b (no p) = rw (T.others j p) (type_later w m (row_at bs j) turned.table turned.more (G.ready.binders.types j b))

    -- There are as many binders as before.
    count_same : count (binders_in ns w' bs' 0 n) ≡ count (binders_in ns w bs 0 n)
    count_same =
        let a = ap count (binders_split ns w' bs' i n G.upto) ∙ count_both (binders_in ns w' bs' 0 i) (binders_in ns w' bs' i n) in
        let b = ap count (binders_split ns w bs i n G.upto) ∙ count_both (binders_in ns w bs 0 i) (binders_in ns w bs i n) in
        let c = ap count (row_step ns w' bs' i n h) ∙ row_count ns w' (row_at bs' i) (binders_in ns w' bs' (suc i) n) in
        let d = ap count (row_step ns w bs i n h) ∙ row_count ns w (row_at bs i) (binders_in ns w bs (suc i) n) in
        let f = ap count front_same in
        let g = ap count rest_same in
        let e = turned.same in
        omega arith

    -- The renamed rows up to this one, and then others.
    one_more : (qs : List Binder) (l : ℕ) → after (done (with_row ns w' (row_at bs' i) qs) l) (λ os l₁. done (binders_in ns w bs 0 i ++ os) l₁) ≡ done (binders_in ns w' bs' 0 (suc i) ++ qs) l
    unfolding after
    one_more qs l = ap (λ (os : List Binder). done os l)
        (sym (ap (λ (os : List Binder). os ++ qs) (binders_snoc ns w' bs' i ∙ ap (λ (os : List Binder). os ++ with_row ns w' (row_at bs' i) []) front_same) ∙ row_between ns w' (binders_in ns w bs 0 i) (row_at bs' i) qs))

    -- What all rows give is what those after this one give now.
    whole_is : (s : Subst) → Letters ns w₀ ls s → apply_preds_pending s (binders_in ns w₀ bs₀ 0 n) left
        ≡ after (apply_preds_pending s (binders_in ns w' bs' (suc i) n) k₂) (λ qs l. done (binders_in ns w' bs' 0 (suc i) ++ qs) l)
    whole_is s S =
        let a : apply_preds_pending s (binders_in ns w bs i n) k ≡ after (apply_preds_pending s (binders_in ns w bs (suc i) n) k₂) (λ qs l. done (with_row ns w' (row_at bs' i) qs) l) =
        rw (row_step ns w bs i n h) (turned.is s (letters_same w₀ w S) (binders_in ns w bs (suc i) n)) in
        G.is s S
        ∙ ap (λ (o : Out (List Binder)). after o (λ qs l. done (binders_in ns w bs 0 i ++ qs) l)) a
        ∙ after_both (apply_preds_pending s (binders_in ns w bs (suc i) n) k₂) (λ qs l. done (with_row ns w' (row_at bs' i) qs) l) (λ qs l. done (binders_in ns w bs 0 i ++ qs) l)
        ∙ after_ext (apply_preds_pending s (binders_in ns w bs (suc i) n) k₂) (λ qs l. after (done (with_row ns w' (row_at bs' i) qs) l) (λ os l₁. done (binders_in ns w bs 0 i ++ os) l₁))
        (λ qs l. done (binders_in ns w' bs' 0 (suc i) ++ qs) l) one_more
        ∙ ap (λ (os : List Binder). after (apply_preds_pending s os k₂) (λ qs l. done (binders_in ns w' bs' 0 (suc i) ++ qs) l)) (sym rest_same)

    -- The loop goes on.
    pub turn_goes : Going ns w₀ w' ls bs₀ bs' top left n (i + 1) m₂ k₂
    turn_goes =
        let D = turned in
        let y = D.spent in
        let z = G.spent in
        let g = G.ready.room in
        rw (add-one i) (record {
          ready = record { names = G.ready.names; table = D.table; binders = next_rows; letters = G.ready.letters; room = omega arith };
          long = long ∙ G.long;
          rows_long = rows_long ∙ G.rows_long;
          upto = h;
          more = (let a = D.more in let b = G.more in omega arith);
          down = (let a = D.down in let b = G.down in omega arith);
          within = (let a = G.within in omega arith);
          stands = stands_then G.stands (stands_up T.stands G.within) G.more;
          spent = rw rest_same (let a = rw (row_step ns w bs i n h, row_leaves ns w (row_at bs i) (binders_in ns w bs (suc i) n), row_count ns w (row_at bs i) (binders_in ns w bs (suc i) n)) at z in omega arith);
          same = count_same ∙ G.same;
          is = whole_is;
        })

-- All rows are renamed.
pub all_done : {ns w₀ w ls bs₀ bs : List ℕ} {top left n i m k : ℕ} → Going ns w₀ w ls bs₀ bs top left n i m k → n ≤ i → GivesRows ns w₀ w ls bs₀ bs top left n (Done m k)
unfolding after apply_preds_pending count total
all_done {ns} {w₀} {w} {ls} {bs₀} {bs} {top} {left} {n} {i} {m} {k} G h =
    let e : i ≡ n = (let u = G.upto in omega arith) in
    let z = rows_end ns w bs i n h in
    let y = rw z at G.spent in
    record {
      stands = G.stands;
      answer = record {
        table = G.ready.table;
        binders = G.ready.binders;
        more = G.more;
        down = G.down;
        spent = omega arith;
        same = G.same;
        is = λ s S. G.is s S ∙ rw z (ap (λ (os : List Binder). done os k) (append-nil (binders_in ns w bs 0 i) ∙ ap (λ (x : ℕ). binders_in ns w bs 0 x) e));
      };
    }
