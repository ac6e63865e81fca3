-- The loop of `reduce`: what the rows that are left give, from what the rows before them became.
use mathlib.Core.Path.{◌≡◌, refl, ap, ◌∙◌}
use mathlib.Core.List.{List}
use mathlib.Core.Option.{Option}
use Prim.Native.Nat.{ℕ, zero, suc, ◌+◌, ◌*◌, ◌<◌, ◌≤◌}
use native.Mathlib.Omega.{arith}
use native.Mathlib.Decide.{ℕ_discrete}
use native.Mathlib.Numerals.{add-one}
use lib.ListN.{length, get_or}
use Rattle.meaning.specs.Ast.{pred, Pred, Core, Binder}
use Rattle.meaning.specs.Budget.{after}
use Rattle.meaning.specs.Classes.{ClassEnv, Given}
use Rattle.meaning.specs.Generalize.{preds_of}
use Rattle.meaning.specs.Reduce.{Discharged, discharge, reduce_from, reduce}
use Rattle.names.specs.Names.{name_of}
use Rattle.ast.specs.Table.{tree, Table, Kept}
use Rattle.ast.proofs.Laws.{node_more, kept_tree}
use Rattle.errors.specs.declared.Refusal.{Refusal}
use Rattle.pairs.specs.Pairs.{Stands}
use Rattle.pairs.proofs.Frames.{stands_refl, stands_then}
use Rattle.apply.proofs.Hand.{Then, then_done, refuse_on}
use Rattle.instances.proofs.Held.{heads_kept}
use Rattle.cores.proofs.TermLaws.{kept_core}
use Rattle.supers.specs.Rows.{row_at, with_row, binders_in, TypeIn}
use Rattle.supers.specs.Givens.{givens_of}
use Rattle.supers.specs.declared.Root.{Root}
use Rattle.supers.specs.declared.rows.Row.{Row}
use Rattle.supers.specs.declared.rows.Row.TheVariants.{Pending, Replaced}
use Rattle.supers.proofs.RowLaws.{row_step, rows_end}
use Rattle.supers.proofs.GivenLaws.{kept_list, kept_few}
use Rattle.resolve.specs.Resolves.{Declared}
use Rattle.resolve.proofs.Goals.{declared_kept}
use Rattle.reduce.specs.Reduces.{preds_in, add_discharged, discharged_in, add_residual, residuals_in, Became, ReadyReduce, row_out, found_for, RowDone, GivesRow, GivesReduced}
use Rattle.reduce.specs.Reduced.{Reduced}
use Rattle.reduce.specs.Reduced.{Done, Refused}
use Rattle.reduce.proofs.Marks.{row_same}

-- ## One row of the definition

-- What has been discharged and what is left, after a row with this answer.
abbrev with_answer : List ℕ → List ℕ → Row → Option Core → List Discharged × List Pred → List Discharged × List Pred
with_answer ns w (Pending d c t) x o = discharge (pred (name_of ns c) (tree ns w t)) x o
with_answer ns w (Replaced d e) x o = o

-- The row, and then the others.
row_from : (ns w : List ℕ) (ce : ClassEnv) (gs : List Given) (r : Row) (os : List Binder) (o : List Discharged × List Pred) (n : ℕ)
    → reduce_from ce gs (preds_of (with_row ns w r os)) o n ≡ after (row_out ns w ce gs r n) (λ x m. reduce_from ce gs (preds_of os) (with_answer ns w r x o) m)
unfolding reduce_from after
row_from ns w ce gs (Pending d c t) os o n = refl
row_from ns w ce gs (Replaced d e) os o n = refl

-- The answer is told by what became of the row.
answered : (ns w w' : List ℕ) (r r' : Row) (xs : List Discharged) (ps : List Pred) → with_answer ns w r (found_for ns w' r r') (xs, ps) ≡ (add_discharged ns w w' r r' xs, add_residual ns w r r' ps)
unfolding discharge
answered ns w w' (Pending d c t) (Pending d' c' t') xs ps = refl
answered ns w w' (Pending d c t) (Replaced d' e) xs ps = refl
answered ns w w' (Replaced d x) (Pending d' c' t') xs ps = refl
answered ns w w' (Replaced d x) (Replaced d' e) xs ps = refl

-- ## Rows under words that keep the table

-- What became of a row is still that.
became_kept : {w₂ : List ℕ} {t₂ : ℕ} (w₁ : List ℕ) (t : ℕ) (r r' : Row) → Table w₂ t₂ → t ≤ t₂ → Became w₁ t r r' → Became w₂ t₂ r r'
became_kept w₁ t₁ (Pending d c t) (Pending d' c' t') T h b = b
became_kept w₁ t₁ (Pending d c t) (Replaced d' e) T h b = (b.0, node_more T h b.1)
became_kept w₁ t₁ (Replaced d x) (Pending d' c' t') T h b = b
became_kept w₁ t₁ (Replaced d x) (Replaced d' e) T h b = b

-- So is its type.
type_kept : {w₁ : List ℕ} {t : ℕ} (w : List ℕ) (top : ℕ) (r : Row) → Table w₁ t → top ≤ t → TypeIn w top r → TypeIn w₁ t r
type_kept w top (Pending d c u) T h N = node_more T h N
type_kept w top (Replaced d x) T h N = tt

-- And what `reduce` does for it.
out_kept : {w w₁ : List ℕ} {top : ℕ} (ns : List ℕ) (ce : ClassEnv) (gs : List Given) (n : ℕ) (r : Row) → Kept w w₁ top → TypeIn w top r → row_out ns w ce gs r n ≡ row_out ns w₁ ce gs r n
out_kept ns ce gs n (Pending d c t) K N = rw (kept_tree ns K N)
out_kept ns ce gs n (Replaced d x) K N = refl

-- What a row adds to the discharged.
add_kept : {w₁ w₂ : List ℕ} {t : ℕ} (ns w : List ℕ) (r r' : Row) (os : List Discharged) → Kept w₁ w₂ t → Became w₁ t r r' → add_discharged ns w w₂ r r' os ≡ add_discharged ns w w₁ r r' os
add_kept ns w (Pending d c t) (Pending d' c' t') os K b = refl
add_kept ns w (Pending d c t) (Replaced d' e) os K b = rw (kept_core ns K b.1)
add_kept ns w (Replaced d x) (Pending d' c' t') os K b = refl
add_kept ns w (Replaced d x) (Replaced d' e) os K b = refl

-- What n rows discharged.
discharged_kept : {w₁ w₂ : List ℕ} {t : ℕ} (ns w bs bs₁ bs₂ : List ℕ) → Kept w₁ w₂ t → (n : ℕ) → ((i : ℕ) → i < n → Became w₁ t (row_at bs i) (row_at bs₁ i)) → ((i : ℕ) → i < n → row_at bs₂ i ≡ row_at bs₁ i)
    → discharged_in ns w w₂ bs bs₂ n ≡ discharged_in ns w w₁ bs bs₁ n
unfolding discharged_in
discharged_kept ns w bs bs₁ bs₂ K zero b s = refl
discharged_kept {w₁} ns w bs bs₁ bs₂ K (suc n) b s =
    rw (s n (omega arith), discharged_kept ns w bs bs₁ bs₂ K n (λ i h. b i (omega arith)) (λ i h. s i (omega arith))) (add_kept ns w (row_at bs n) (row_at bs₁ n) (discharged_in ns w w₁ bs bs₁ n) K (b n (omega arith)))

-- What they left.
residuals_kept : (ns w bs bs₁ bs₂ : List ℕ) (n : ℕ) → ((i : ℕ) → i < n → row_at bs₂ i ≡ row_at bs₁ i) → residuals_in ns w bs bs₂ n ≡ residuals_in ns w bs bs₁ n
unfolding residuals_in
residuals_kept ns w bs bs₁ bs₂ zero s = refl
residuals_kept ns w bs bs₁ bs₂ (suc n) s = rw (s n (omega arith), residuals_kept ns w bs bs₁ bs₂ n (λ i h. s i (omega arith)))

-- ## The loop has reduced the rows before j: the words are w₁ and the rows bs₁

pub record Reducing (ns cl w il bs : List ℕ) (top left sp : ℕ) (root : Root) (l n : ℕ) (w₁ bs₁ : List ℕ) (t m j : ℕ) : Type 0 where
  pub stands : Stands w w₁ top sp
  pub long : length w₁ ≡ length w
  pub wide : length bs₁ ≡ length bs
  pub table : Table w₁ t
  pub more : top ≤ t
  pub spent : 4 * t + 8 * m ≤ 4 * top + 8 * left
  pub down : m ≤ left
  pub under : j ≤ n
  pub became : (i : ℕ) → i < j → Became w₁ t (row_at bs i) (row_at bs₁ i)
  pub behind : (i : ℕ) → 3 * j ≤ i → get_or bs₁ i 0 ≡ get_or bs i 0
  pub is : (ce : ClassEnv) → Declared ns cl w top il ce → reduce ce (givens_of ns w root 0 l) (preds_in ns w bs 0 n) left
      ≡ reduce_from ce (givens_of ns w root 0 l) (preds_in ns w bs j n) (discharged_in ns w w₁ bs bs₁ j, residuals_in ns w bs bs₁ j) m

module _ {ns w il bs : List ℕ} {top left sp : ℕ} {root : Root} {l n : ℕ} (R : ReadyReduce ns w il bs top left sp root l 0 n) (cl : List ℕ) where
  -- At first none.
  pub reducing : Reducing ns cl w il bs top left sp root l n w bs top left 0
  unfolding discharged_in residuals_in
  reducing = record {
    stands = stands_refl _ _ _;
    long = refl;
    wide = refl;
    table = R.givens.table;
    more = omega arith;
    spent = omega arith;
    down = omega arith;
    under = omega arith;
    became = λ i h. absurd (omega arith);
    behind = λ i h. refl;
    is = λ ce D. refl;
  }

  module _ {w₁ bs₁ : List ℕ} {t m j : ℕ} (I : Reducing ns cl w il bs top left sp root l n w₁ bs₁ t m j) where
    -- All rows are reduced.
    pub reduced_all : n ≤ j → GivesReduced (Declared ns cl w top il) ns w w₁ bs bs₁ top left sp n (λ ce. reduce ce (givens_of ns w root 0 l) (preds_in ns w bs 0 n) left) (Done t m)
    unfolding reduce_from
    reduced_all h =
        let u = I.under in
        let e : j ≡ n = omega arith in
        record {
          stands = I.stands;
          answer = record {
            table = I.table;
            more = I.more;
            spent = I.spent;
            down = I.down;
            became = λ i g. I.became i (omega arith);
            behind = λ i g. I.behind i (omega arith);
            is = λ ce D. I.is ce D ∙ rw (rows_end ns w bs j n h, e);
          };
        }

    module _ (h : j < n) where
      -- A row that is left is as it was.
      ahead : (i : ℕ) → j ≤ i → row_at bs₁ i ≡ row_at bs i
      ahead i g = row_same bs bs₁ i (λ k p q. I.behind k (omega arith))

      -- What is asked of row j.
      pub reduced_ready : ReadyReduce ns w₁ il bs₁ t m sp root l j (j + 1)
      reduced_ready =
          let s = I.spent in let r = R.room in let f = R.fits in let a = I.long in let b = I.wide in let z = R.rows in
          record {
            names = R.names;
            givens = node_more I.table I.more R.givens;
            few = kept_few ns root 0 I.stands.low R.givens R.few;
            heads = heads_kept I.stands.low I.table I.more R.heads;
            rows = omega arith;
            types = λ i p q. rw (ahead i p) (type_kept w top (row_at bs i) I.table I.more (R.types i (omega arith) (omega arith)));
            room = omega arith;
            fits = omega arith;
          }

      -- The environment, for it.
      said : (ce : ClassEnv) → Declared ns cl w top il ce → Declared ns cl w₁ t il ce
      said ce D = declared_kept I.stands.low I.table I.more D

      -- What the code does for it is what `reduce` does.
      out_same : (ce : ClassEnv) → row_out ns w ce (givens_of ns w root 0 l) (row_at bs j) m ≡ row_out ns w₁ ce (givens_of ns w₁ root 0 l) (row_at bs₁ j) m
      out_same ce =
          out_kept ns ce (givens_of ns w root 0 l) m (row_at bs j) I.stands.low (R.types j (omega arith) h)
          ∙ rw (ahead j (omega arith), kept_list ns root 0 I.stands.low R.givens)

      -- That row, and then the others.
      next : (ce : ClassEnv) → Declared ns cl w top il ce → Then (reduce ce (givens_of ns w root 0 l) (preds_in ns w bs 0 n) left) (row_out ns w₁ ce (givens_of ns w₁ root 0 l) (row_at bs₁ j) m)
          (λ x k. reduce_from ce (givens_of ns w root 0 l) (preds_in ns w bs (suc j) n) (with_answer ns w (row_at bs j) x (discharged_in ns w w₁ bs bs₁ j, residuals_in ns w bs bs₁ j)) k)
      next ce D = record {
        is = I.is ce D
            ∙ ap (λ os. reduce_from ce (givens_of ns w root 0 l) (preds_of os) (discharged_in ns w w₁ bs bs₁ j, residuals_in ns w bs bs₁ j) m) (row_step ns w bs j n h)
            ∙ row_from ns w ce (givens_of ns w root 0 l) (row_at bs j) (binders_in ns w bs (suc j) n) (discharged_in ns w w₁ bs bs₁ j, residuals_in ns w bs bs₁ j) m
            ∙ ap (λ o. after o (λ x k. reduce_from ce (givens_of ns w root 0 l) (preds_in ns w bs (suc j) n) (with_answer ns w (row_at bs j) x (discharged_in ns w w₁ bs bs₁ j, residuals_in ns w bs bs₁ j)) k)) (out_same ce);
      }

      module _ {w₂ bs₂ : List ℕ} {r : Reduced} (G : GivesRow (Declared ns cl w₁ t il) ns w₁ w₂ bs₁ bs₂ t m sp j (λ ce. row_out ns w₁ ce (givens_of ns w₁ root 0 l) (row_at bs₁ j) m) r) where
        -- It is refused.
        pub reduced_refused : {x : Refusal} {t₂ m₂ : ℕ} → r ≡ Refused x t₂ m₂
            → GivesReduced (Declared ns cl w top il) ns w w₂ bs bs₂ top left sp n (λ ce. reduce ce (givens_of ns w root 0 l) (preds_in ns w bs 0 n) left) (Refused x t₂ m₂)
        reduced_refused k = record {
          stands = stands_then I.stands G.stands I.more;
          answer = λ ce D. refuse_on (next ce D) ((rw k at G.answer) ce (said ce D)) I.more I.down;
        }

        module _ {t₂ m₂ : ℕ} (k : r ≡ Done t₂ m₂) (len : length w₂ ≡ length w₁) (lenb : length bs₂ ≡ length bs₁) where
          -- What the row became.
          row : RowDone (Declared ns cl w₁ t il) ns w₂ bs₁ bs₂ t m j (λ ce. row_out ns w₁ ce (givens_of ns w₁ root 0 l) (row_at bs₁ j) m) t₂ m₂
          row = rw k at G.answer

          -- The rows before it are as they were.
          earlier : (i : ℕ) → i < j → row_at bs₂ i ≡ row_at bs₁ i
          earlier i g = row_same bs₁ bs₂ i (λ a p q. row.before a (omega arith))

          -- What each row up to it became.
          each : (i : ℕ) → i < suc j → Dec (i ≡ j) → Became w₂ t₂ (row_at bs i) (row_at bs₂ i)
          each i g (yes e) = rw (e, ← ahead j (omega arith)) row.became
          each i g (no e) = rw (earlier i (omega arith)) (became_kept w₁ t (row_at bs i) (row_at bs₁ i) row.table row.more (I.became i (omega arith)))

          -- What they discharged and left.
          together : with_answer ns w (row_at bs j) (found_for ns w₂ (row_at bs₁ j) (row_at bs₂ j)) (discharged_in ns w w₁ bs bs₁ j, residuals_in ns w bs bs₁ j) ≡ (discharged_in ns w w₂ bs bs₂ (suc j), residuals_in ns w bs bs₂ (suc j))
          unfolding discharged_in residuals_in
          together =
              rw (ahead j (omega arith), ← discharged_kept ns w bs bs₁ bs₂ G.stands.low j I.became earlier, ← residuals_kept ns w bs bs₁ bs₂ j earlier)
              (answered ns w w₂ (row_at bs j) (row_at bs₂ j) (discharged_in ns w w₂ bs bs₂ j) (residuals_in ns w bs bs₂ j))

          -- One row more is reduced.
          pub reduced_on : Reducing ns cl w il bs top left sp root l n w₂ bs₂ t₂ m₂ (j + 1)
          reduced_on =
              let a = I.more in let b = row.more in let c = I.spent in let d = row.spent in let e = I.down in let f = row.down in
              rw (add-one j) (record {
                stands = stands_then I.stands G.stands a;
                long = len ∙ I.long;
                wide = lenb ∙ I.wide;
                table = row.table;
                more = omega arith;
                spent = omega arith;
                down = omega arith;
                under = omega arith;
                became = λ i g. each i g (ℕ_discrete i j);
                behind = λ i g. row.behind i (omega arith) ∙ I.behind i (omega arith);
                is = λ ce D. then_done _ m₂ (next ce D) (row.is ce (said ce D)) ∙ ap (λ o. reduce_from ce (givens_of ns w root 0 l) (preds_in ns w bs (suc j) n) o m₂) together;
              })
