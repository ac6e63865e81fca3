-- The loop of `simplify_context`: what all rows give is what those from row i on give now.
use mathlib.Core.Path.{◌≡◌, refl, ap, sym, ◌∙◌}
use mathlib.Core.List.{List, ◌++◌, append-nil, append_assoc}
use Prim.Native.Nat.{ℕ, zero, suc, ◌+◌, ◌*◌, ◌<◌, ◌≤◌}
use native.Mathlib.Omega.{arith}
use native.Mathlib.Decide.{ℕ_discrete}
use native.Mathlib.Numerals.{add-one}
use lib.ListN.{length, get_or}
use Rattle.meaning.specs.Classes.{ClassEnv}
use Rattle.meaning.specs.Reduce.{simplify_from, simplify_context}
use Rattle.ast.specs.Table.{Table, Kept}
use Rattle.ast.proofs.Laws.{node_more}
use Rattle.errors.specs.declared.Refusal.{Refusal}
use Rattle.pairs.specs.Pairs.{Stands}
use Rattle.pairs.proofs.Frames.{stands_refl, stands_then}
use Rattle.cores.proofs.TermLaws.{kept_core}
use Rattle.supers.specs.declared.rows.Row.{Row}
use Rattle.supers.specs.declared.rows.Row.TheVariants.{Pending, Replaced}
use Rattle.supers.specs.ClassTable.{Supers}
use Rattle.supers.specs.Rows.{row_at, binders_from, binders_in}
use Rattle.supers.proofs.RowLaws.{rows_end}
use Rattle.simplify.specs.Simplified.{Simplified}
use Rattle.simplify.specs.Simplified.{Done, Refused}
use Rattle.simplify.specs.Simplified.{removed_row, removed_from, removed_in, RowLeft, RowMade, ReadySimplify, Turn, GivesSimplified}
use Rattle.simplify.proofs.Turns.{left_same, made_same, binders_left, one_left}

-- ## What was removed

-- A row's part of it under words that keep the table.
kept_removed_row : {w w' : List ℕ} {top : ℕ} (ns : List ℕ) (r r' : Row) → Kept w w' top → RowMade w top r r' → removed_row ns w' r r' ≡ removed_row ns w r r'
kept_removed_row ns (Pending d c t) (Pending d₁ c₁ t₁) K N = refl
kept_removed_row ns (Pending d c t) (Replaced d₁ e) K N = rw (kept_core ns K N)
kept_removed_row ns (Replaced d x) (Pending d₁ c₁ t₁) K N = refl
kept_removed_row ns (Replaced d x) (Replaced d₁ e) K N = refl

-- The parts of k rows that stand, under such words.
kept_removed : {w w' : List ℕ} {top : ℕ} (ns bs₀ bs bs' : List ℕ) → Kept w w' top → (j k : ℕ) → ((i : ℕ) → j ≤ i → i < j + k → RowMade w top (row_at bs₀ i) (row_at bs i))
    → ((i : ℕ) → j ≤ i → i < j + k → row_at bs' i ≡ row_at bs i) → removed_from ns w' bs₀ bs' j k ≡ removed_from ns w bs₀ bs j k
unfolding removed_from
kept_removed ns bs₀ bs bs' K j zero N o = refl
kept_removed ns bs₀ bs bs' K j (suc k) N o =
    rw (
      o j (omega arith) (omega arith),
      kept_removed_row ns (row_at bs₀ j) (row_at bs j) K (N j (omega arith) (omega arith)),
      kept_removed ns bs₀ bs bs' K (suc j) k (λ i p q. N i (omega arith) (omega arith)) (λ i p q. o i (omega arith) (omega arith)),
    )

-- The last row's part comes last.
removed_snoc : (ns w bs bs' : List ℕ) (j k : ℕ) → removed_from ns w bs bs' j (suc k) ≡ removed_from ns w bs bs' j k ++ removed_row ns w (row_at bs (j + k)) (row_at bs' (j + k))
unfolding removed_from
removed_snoc ns w bs bs' j zero = let e : j + 0 ≡ j = omega arith in rw (e, append-nil)
removed_snoc ns w bs bs' j (suc k) =
    let e : j + suc k ≡ suc j + k = omega arith in
    rw e (ap (λ xs. removed_row ns w (row_at bs j) (row_at bs' j) ++ xs) (removed_snoc ns w bs bs' (suc j) k) ∙ sym (append_assoc (removed_row ns w (row_at bs j) (row_at bs' j)) (removed_from ns w bs bs' (suc j) k) _))

-- ## The loop

-- It has come to row i, with the words w and the rows bs.
pub record Going (ns cl w₀ w bs₀ bs : List ℕ) (top left sp n i t l : ℕ) : Type 0 where
  pub ready : ReadySimplify ns w bs t l sp n
  pub stands : Stands w₀ w top sp
  pub long : length w ≡ length w₀
  pub rows_long : length bs ≡ length bs₀
  pub reached : i ≤ n
  pub more : top ≤ t
  pub down : l ≤ left
  pub spent : 4 * t + 8 * l ≤ 4 * top + 8 * left
  pub rows : (j : ℕ) → RowLeft (row_at bs₀ j) (row_at bs j)
  pub made : (j : ℕ) → RowMade w t (row_at bs₀ j) (row_at bs j)
  pub later : (j : ℕ) → i ≤ j → row_at bs j ≡ row_at bs₀ j
  pub outside : (k : ℕ) → 3 * n ≤ k → get_or bs k 0 ≡ get_or bs₀ k 0
  pub is : (ce : ClassEnv) → Supers ns cl ce → simplify_context ce (binders_in ns w₀ bs₀ 0 n) left ≡ simplify_from ce (binders_in ns w bs i n) (binders_in ns w bs 0 i, removed_in ns w bs₀ bs i) l

-- At first to row 0.
pub going : {ns w bs : List ℕ} {top left sp n : ℕ} (cl : List ℕ) → ReadySimplify ns w bs top left sp n → Going ns cl w w bs bs top left sp n 0 top left
unfolding binders_from removed_from
going {ns} {w} {bs} {top} cl R = record {
  ready = R;
  stands = stands_refl _ _ _;
  long = refl;
  rows_long = refl;
  reached = omega arith;
  more = omega arith;
  down = omega arith;
  spent = omega arith;
  rows = λ j. left_same (row_at bs j);
  made = λ j. made_same w top (row_at bs j);
  later = λ j h. refl;
  outside = λ k h. refl;
  is = λ ce S. refl;
}

module _ {ns cl w₀ w bs₀ bs : List ℕ} {top left sp n i t l : ℕ} (G : Going ns cl w₀ w bs₀ bs top left sp n i t l) where
  -- All rows are done.
  pub all_done : n ≤ i → GivesSimplified ns cl w₀ w bs₀ bs top left sp n (Done t l)
  unfolding simplify_from
  all_done h =
      let r = G.reached in
      let e : i ≡ n = omega arith in
      record {
        stands = G.stands;
        rows = λ j b. G.rows j;
        outside = G.outside;
        answer = record {
          grown = record { table = G.ready.table; more = G.more; down = G.down; spent = G.spent };
          made = λ j b. G.made j;
          is = λ ce S. G.is ce S ∙ rw (rows_end ns w bs i n h, e);
        };
      }

  module _ {w' bs' : List ℕ} {r : Simplified} (T : Turn ns cl w w' bs bs' t l sp n i r) where
    -- Each row is left so.
    each_left : (j : ℕ) → Dec (j ≡ i) → RowLeft (row_at bs₀ j) (row_at bs' j)
    each_left j (yes e) = rw (e, sym (G.later i (omega arith))) T.row
    each_left j (no h) = rw (T.others j h) (G.rows j)

    -- Row i is refused.
    pub turn_stops : {e : Refusal} {t₂ l₂ : ℕ} → r ≡ Refused e t₂ l₂ → GivesSimplified ns cl w₀ w' bs₀ bs' top left sp n (Refused e t₂ l₂)
    turn_stops k =
        let F = rw k at T.answer in
        let m = G.more in
        let d = G.down in
        record {
          stands = stands_then G.stands T.stands (omega arith);
          rows = λ j b. each_left j (ℕ_discrete j i);
          outside = λ j b. T.outside j b ∙ G.outside j b;
          answer = λ ce S. record {
            is = G.is ce S ∙ (F ce S _).is;
            types = (F ce S (removed_in ns w bs₀ bs i)).types;
            more = (let x = (F ce S (removed_in ns w bs₀ bs i)).more in omega arith);
            down = (let x = (F ce S (removed_in ns w bs₀ bs i)).down in omega arith);
          };
        }

    module _ {t₂ l₂ : ℕ} (k : r ≡ Done t₂ l₂) (h : i < n) (long : length w' ≡ length w) (rows_long : length bs' ≡ length bs) where
      -- What each row was replaced by.
      each_made : (j : ℕ) → Dec (j ≡ i) → RowMade w' t₂ (row_at bs₀ j) (row_at bs' j)
      each_made j (yes e) = rw (e, sym (G.later i (omega arith))) (rw k at T.answer).made
      each_made j (no h) = rw (T.others j h) (go (row_at bs₀ j) (row_at bs j) (rw k at T.answer).grown.table (rw k at T.answer).grown.more (G.made j))
        where
          go : (x y : Row) → Table w' t₂ → t ≤ t₂ → RowMade w t x y → RowMade w' t₂ x y
          go (Pending d c u) (Pending d₁ c₁ u₁) B m N = tt
          go (Pending d c u) (Replaced d₁ e) B m N = node_more B m N
          go (Replaced d x) (Pending d₁ c₁ u₁) B m N = tt
          go (Replaced d x) (Replaced d₁ e) B m N = tt

      -- What is removed up to row i.
      removed_on : removed_in ns w' bs₀ bs' (suc i) ≡ removed_in ns w bs₀ bs i ++ removed_row ns w' (row_at bs i) (row_at bs' i)
      removed_on =
          let e : 0 + i ≡ i = omega arith in
          removed_snoc ns w' bs₀ bs' 0 i
          ∙ rw (e, kept_removed ns bs₀ bs bs' T.stands.low 0 i (λ j p q. G.made j) (λ j p q. T.others j (omega arith)), G.later i (omega arith))

      -- The loop comes to the next row.
      pub turn_goes : Going ns cl w₀ w' bs₀ bs' top left sp n (i + 1) t₂ l₂
      turn_goes =
          let D = rw k at T.answer in
          let x = D.grown.spent in
          let y = D.grown.more in
          let z = D.grown.down in
          let m = G.more in
          let d = G.down in
          let s = G.spent in
          let o = G.ready.room in
          let f = G.ready.fits in
          rw (add-one i) (record {
            ready = record {
              names = G.ready.names;
              table = D.grown.table;
              binders = binders_left G.ready.binders D.grown.table y rows_long (λ j b. one_left bs bs' i T.others T.row j);
              room = omega arith;
              fits = omega arith;
            };
            stands = stands_then G.stands T.stands (omega arith);
            long = long ∙ G.long;
            rows_long = rows_long ∙ G.rows_long;
            reached = omega arith;
            more = omega arith;
            down = omega arith;
            spent = omega arith;
            rows = λ j. each_left j (ℕ_discrete j i);
            made = λ j. each_made j (ℕ_discrete j i);
            later = λ j b. T.others j (omega arith) ∙ G.later j (omega arith);
            outside = λ j b. T.outside j b ∙ G.outside j b;
            is = λ ce S. G.is ce S ∙ D.is ce S (removed_in ns w bs₀ bs i) ∙ rw removed_on;
          })
