-- Laws of rows: what three words say, the rows one after the other, and that their binders stand where the table does.
use mathlib.Core.Path.{◌≡◌, refl, ap, sym, ◌∙◌}
use mathlib.Core.List.{List, [], ◌∷◌}
use Rattle.std.specs.Prelude.{Some, None}
use Prim.Native.Nat.{ℕ, zero, suc, ◌+◌, ◌*◌, ◌-◌, ◌<◌, ◌≤◌}
use native.Mathlib.Omega.{arith}
use native.Mathlib.Decide.{ℕ_discrete}
use native.Mathlib.Numerals.{add-one}
use lib.ListN.{length}
use Rattle.meaning.specs.Base.{if, eqb, is_yes}
use Rattle.meaning.specs.Ast.{dvar, pred, Binder}
use Rattle.names.specs.Names.{first_fresh, name_of}
use Rattle.ast.specs.Table.{tree, Kept}
use Rattle.ast.proofs.Laws.{kept_tree, kept_node}
use Rattle.supers.specs.declared.rows.Row.{Row}
use Rattle.supers.specs.declared.rows.Row.TheVariants.{Pending, Replaced}
use Rattle.supers.specs.Rows.{mark, row_of, row_at, with_row, binders_from, binders_in, TypeIn, Binders, NextRow}

-- A marked row was replaced.
pub row_replaced : (d c x : ℕ) → c ≡ mark → row_of d c x ≡ Replaced d x
unfolding row_of eqb
row_replaced d c x e = go (ℕ_discrete c mark)
  where
    go : (t : Dec (c ≡ mark)) → if (is_yes t) (Replaced d x) (Pending d c x) ≡ Replaced d x
    go (yes p) = refl
    go (no h) = absurd (h e)

-- Any other is pending.
pub row_open : (d c x : ℕ) → (c ≡ mark → ⊥) → row_of d c x ≡ Pending d c x
unfolding row_of eqb
row_open d c x n = go (ℕ_discrete c mark)
  where
    go : (t : Dec (c ≡ mark)) → if (is_yes t) (Replaced d x) (Pending d c x) ≡ Pending d c x
    go (yes p) = absurd (n p)
    go (no h) = refl

-- The rows from j on are row j and those after it.
pub row_step : (ns w bs : List ℕ) (j n : ℕ) → j < n → binders_in ns w bs j n ≡ with_row ns w (row_at bs j) (binders_in ns w bs (suc j) n)
unfolding binders_from
row_step ns w bs j n h = let e : n - j ≡ suc (n - suc j) = omega arith in rw e

-- There are none from n on.
pub rows_end : (ns w bs : List ℕ) (j n : ℕ) → n ≤ j → binders_in ns w bs j n ≡ []
unfolding binders_from
rows_end ns w bs j n h = let e : n - j ≡ 0 = omega arith in rw e

-- Row j is pending.
pub row_pending : {d c t : ℕ} (ns w bs : List ℕ) (j n : ℕ) → j < n → row_at bs j ≡ Pending d c t → binders_in ns w bs j n ≡ (dvar d, pred (name_of ns c) (tree ns w t)) ∷ binders_in ns w bs (suc j) n
row_pending ns w bs j n h e = row_step ns w bs j n h ∙ rw e

-- Row j was replaced.
pub row_passed : {d x : ℕ} (ns w bs : List ℕ) (j n : ℕ) → j < n → row_at bs j ≡ Replaced d x → binders_in ns w bs j n ≡ binders_in ns w bs (suc j) n
row_passed ns w bs j n h e = row_step ns w bs j n h ∙ rw e

-- A row's binder under words that keep the table.
kept_row : {w w' : List ℕ} {top : ℕ} (ns : List ℕ) (r : Row) (os : List Binder) → Kept w w' top → TypeIn w top r → with_row ns w' r os ≡ with_row ns w r os
kept_row ns (Pending d c t) os K N = rw (kept_tree ns K N)
kept_row ns (Replaced d x) os K N = refl

-- The binders of k rows under such words.
pub kept_rows : {w w' : List ℕ} {top : ℕ} (ns bs : List ℕ) → Kept w w' top → (j k : ℕ) → ((i : ℕ) → j ≤ i → i < j + k → TypeIn w top (row_at bs i)) → binders_from ns w' bs j k ≡ binders_from ns w bs j k
unfolding binders_from
kept_rows ns bs K j zero h = refl
kept_rows {w} {w'} ns bs K j (suc k) h = ap (with_row ns w' (row_at bs j)) (kept_rows ns bs K (suc j) k (λ i p q. h i (omega arith) (omega arith))) ∙ (kept_row ns (row_at bs j) (binders_from ns w bs (suc j) k) K (h j (omega arith) (omega arith)))

-- The type of a row under such words.
kept_type : {w w' : List ℕ} {top : ℕ} (r : Row) → Kept w w' top → 4 * top ≤ length w' → TypeIn w top r → TypeIn w' top r
kept_type (Pending d c t) K h N = kept_node K h N
kept_type (Replaced d x) K h N = tt

-- Rows that stand for binders do so under such words.
pub kept_binders_in : {w w' bs : List ℕ} {top n : ℕ} → Kept w w' top → 4 * top ≤ length w' → Binders w bs top n → Binders w' bs top n
kept_binders_in {bs = bs} K h B = record { rows = B.rows; types = λ j l. kept_type (row_at bs j) K h (B.types j l) }

-- The loop of `next_row` has passed over the rows from j up to k.
pub record Passing (bs : List ℕ) (j n k : ℕ) : Type 0 where
  pub from : j ≤ k
  pub is : (ns w : List ℕ) → binders_in ns w bs j n ≡ binders_in ns w bs k n

-- At first over none.
pub passing : (bs : List ℕ) (j n : ℕ) → Passing bs j n j
passing bs j n = record { from = omega arith; is = λ ns w. refl }

module _ {bs : List ℕ} {j n k : ℕ} (P : Passing bs j n k) where
  -- There are no more.
  pub passed_all : n ≤ k → NextRow bs j n None
  passed_all h = record { says = λ ns w. P.is ns w ∙ rows_end ns w bs k n h }

  module _ {r : Row} (h : k < n) (e : r ≡ row_at bs k) where
    -- Row k was replaced.
    pub passed_on : {d x : ℕ} → r ≡ Replaced d x → Passing bs j n (k + 1)
    passed_on q = record { from = (let f = P.from in omega arith); is = λ ns w. P.is ns w ∙ row_passed ns w bs k n h (sym e ∙ q) ∙ rw (add-one k) }

    -- It is pending.
    pub passed_to : {d c t : ℕ} → r ≡ Pending d c t → NextRow bs j n (Some (record { dict = first_fresh + d; class = c; ty = t; rest = k + 1 }))
    passed_to {d} q = record { says = record { at = k; d = d; after = add-one k; from = P.from; below = h; row = sym e ∙ q; word = refl; is = P.is } }
