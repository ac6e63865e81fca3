-- The ways out of the ends of abstractions and applications, from what the calls gave.
use mathlib.Core.Path.{◌≡◌, refl, sym, ◌∙◌}
use mathlib.Core.List.{List}
use Prim.Native.Nat.{ℕ, ◌+◌, ◌*◌, ◌-◌, ◌^◌, ◌<◌, ◌≤◌}
use native.Mathlib.Omega.{arith}
use lib.ListN.{length}
use Rattle.meaning.specs.Ast.{Name, TyVar, Ty, var, arrow, Core, cabs, capp}
use Rattle.meaning.specs.Budget.{Out, done, after}
use Rattle.meaning.specs.Subst.{apply_type, apply_preds_pending}
use Rattle.meaning.specs.Infer as M
use Rattle.names.specs.Names.{first_node, name_of, tyvar_of}
use Rattle.ast.specs.Table.{tree, Table, Kept}
use Rattle.ast.proofs.Laws.{kept_tree, node_more}
use Rattle.ast.proofs.NewNode.{Pushed}
use Rattle.errors.specs.declared.Refusal.{Refusal}
use Rattle.pairs.specs.Pairs.{sub_at, Stands}
use Rattle.pairs.proofs.Frames.{stands_then, stands_up, sub-later, sub_stands}
use Rattle.apply.proofs.Hand.{Then, then_done, refuse_on, refuse_same}
use Rattle.cores.specs.Parts.{pushed_four}
use Rattle.cores.specs.Terms.{core}
use Rattle.cores.proofs.TermLaws.{kept_core}
use Rattle.cores.proofs.NewTerm.{four_stands, push_called}
use Rattle.supers.specs.Rows.{row_at, binders_in, TypeIn}
use Rattle.supers.specs.declared.rows.Row.{Row}
use Rattle.supers.specs.declared.rows.Row.TheVariants.{Pending as P-Row, Replaced}
use Rattle.supers.proofs.RowLaws.{kept_rows}
use Rattle.ends.specs.Ends as E
use Rattle.ends.specs.Ended.{Ended}
use Rattle.ends.specs.Ended.{Done as E-Done, Refused as E-Refused}
use Rattle.pending.specs.Rows.{PendingRow, PendingRows}
use Rattle.pending.specs.Swept.{ReadySweep, RowsSwept, GivesRows}
use Rattle.pending.specs.Swept.{Swept}
use Rattle.pending.specs.Swept.{Done as S-Done, Refused as S-Refused}
use Rattle.inferred.specs.Parts.{abs_close, app_rows}
use Rattle.inferred.specs.Closing.{Region, answer_of, ReadyAbs, ReadyLast, AnswerC, GivesC}
use Rattle.inferred.specs.Closed.{Closed}
use Rattle.inferred.specs.Closed.{Done, Refused}
use Rattle.compose.proofs.Hand.{after-after}

-- ## Words that stand

-- A pending row of a grown table.
pub row_later : {w' : List ℕ} {t : ℕ} (w : List ℕ) (top : ℕ) (r : Row) → Table w' t → top ≤ t → PendingRow w top r → PendingRow w' t r
row_later w top (P-Row d c u) T h P = (P.0, (P.1.0, node_more T h P.1.1))
row_later w top (Replaced d x) T h P = P

-- Pending rows of a grown table.
pub rows_later : {w w' bs : List ℕ} {top t m : ℕ} → Table w' t → top ≤ t → PendingRows w bs top m → PendingRows w' bs t m
rows_later {w} {w'} {bs} {top} T h P = record { fits = P.fits; each = λ i l. row_later w top (row_at bs i) T h (P.each i l) }

-- The type of a pending row.
pub row_type : (w : List ℕ) (top : ℕ) (r : Row) → PendingRow w top r → TypeIn w top r
row_type w top (P-Row d c u) P = P.1.1
row_type w top (Replaced d x) P = tt

-- Their binders stand.
pub rows_same : {w w' bs : List ℕ} {top m : ℕ} (ns : List ℕ) → Kept w w' top → PendingRows w bs top m → (j n : ℕ) → n ≤ m → binders_in ns w' bs j n ≡ binders_in ns w bs j n
rows_same {w} {w'} {bs} {top} {m} ns K P j n h = kept_rows ns bs K j (n - j) (λ i p q. row_type w top (row_at bs i) (P.each i (omega arith)))

-- A region of a grown table.
pub region_later : {ns w w' : List ℕ} {top t hi sp k : ℕ} → Table w top → Stands w w' top hi → hi ≤ sp - 2 * k → top ≤ t → length w ≤ length w' → Region ns w top sp k → Region ns w' t sp k
region_later {ns} T F h m l R = record { sub = sub-later F R.sub h m l; sorted = rw (sub_stands ns T F R.sub h) R.sorted }

-- ## Answers

-- An answer for a caller that had more words and steps.
pub closed_answer : (o o' : Out M.Inferred) (x x₂ : ℕ) (ns w bs : List ℕ) (top left t l sp m : ℕ) (r : Closed) → o ≡ o' → top ≤ t → l ≤ left → 4 * t + 8 * l + x₂ ≤ 4 * top + 8 * left + x
    → AnswerC o' x₂ ns w bs t l sp m r → AnswerC o x ns w bs top left sp m r
closed_answer o o' x x₂ ns w bs top left t l sp m (Done u e k t' l') q more fewer less a =
    let y = a.0.more in let z = a.0.down in let s = a.0.spent in
    (record { words = a.0.words; more = omega arith; down = omega arith; spent = omega arith }, q ∙ a.1)
closed_answer o o' x x₂ ns w bs top left t l sp m (Refused e t' l') q more fewer less a = refuse_same q a more fewer

-- ## abs_close

-- It is `abs_ended` and then the rest.
abs_way : (x : Name) (a : TyVar) (r : M.Inferred) (n : ℕ) → Then (abs_close x a r n) (E.abs_ended r.0 a r.1 x r.3 n) (λ p. done (r.0, p.0, r.2, p.1))
unfolding abs_close E.abs_ended after
abs_way x a r n = record { is = sym (after-after {A = Ty} {B = Ty × Core} {C = M.Inferred} (apply_type r.0 (var a) n) (λ u. done (arrow u r.1, cabs x r.3)) (λ p. done (r.0, p.0, r.2, p.1))) }

module _ {ns w bs : List ℕ} {top left sp t e k m a : ℕ} (R : ReadyAbs ns w bs top left sp t e k m a) where
  -- What `abs_end` asks.
  pub abs_asks : E.ReadyAbs ns w top left sp k a t e
  abs_asks = let z = R.room in record { names = R.names; variable = R.variable; ty = R.body.ty; term = R.body.term; sub = R.body.region.sub; room = omega arith; fits = R.fits }

  module _ (x : ℕ) {w₁ : List ℕ} {r : Ended} (A : E.GivesAbs ns w w₁ top left (E.abs_ended (sub_at ns w (sp - 2 * k) k) (tyvar_of ns a) (tree ns w t) (name_of ns x) (core ns w e) left) r) where
    -- The outcome.
    abbrev abs_whole : Out M.Inferred
    abs_whole = abs_close (name_of ns x) (tyvar_of ns a) (answer_of ns w bs sp t e k m) left

    -- It goes on after the types.
    abs_then : Then abs_whole (E.abs_ended (sub_at ns w (sp - 2 * k) k) (tyvar_of ns a) (tree ns w t) (name_of ns x) (core ns w e) left) (λ p. done (sub_at ns w (sp - 2 * k) k, p.0, binders_in ns w bs 0 m, p.1))
    abs_then = abs_way (name_of ns x) (tyvar_of ns a) (answer_of ns w bs sp t e k m) left

    -- It is refused.
    pub abs_lost : {f : Refusal} {n l : ℕ} → r ≡ E-Refused f n l → GivesC abs_whole (2 * k + 8) ns w w₁ bs bs top left sp m (Refused f n l)
    abs_lost h = let z = R.room in record { stands = stands_up A.stands (omega arith); long = refl; answer = refuse_on abs_then (rw h at A.answer) (omega arith) (omega arith) }

    -- Type and term.
    pub abs_closed : {u f n l : ℕ} → r ≡ E-Done u f n l → length w₁ ≡ length w → GivesC abs_whole (2 * k + 8) ns w w₁ bs bs top left sp m (Done u f k n l)
    abs_closed {u} {f} {n} {l} h len =
        let z = R.room in
        let T = R.body.ty.table in
        let G : (E.abs_ended (sub_at ns w (sp - 2 * k) k) (tyvar_of ns a) (tree ns w t) (name_of ns x) (core ns w e) left ≡ done (tree ns w₁ u, core ns w₁ f) l) × E.GrownAbs w₁ top left n l u f = rw h at A.answer in
        let s = G.1.spent in
        record {
          stands = stands_up A.stands (omega arith);
          long = refl;
          answer = (
            record {
              words = record {
                ty = G.1.ty;
                term = G.1.term;
                region = region_later T A.stands (omega arith) G.1.more (omega arith) R.body.region;
                pending = rows_later G.1.ty.table G.1.more R.body.pending;
              };
              more = G.1.more;
              down = G.1.down;
              spent = omega arith;
            },
            then_done _ l abs_then G.0 ∙ rw (sub_stands ns T A.stands R.body.region.sub (omega arith), rows_same ns A.stands.low R.body.pending 0 m (omega arith)),
          );
        }

-- ## app_last

module _ {ns w bs : List ℕ} {top left sp t f e k m : ℕ} (R : ReadyLast ns w bs top left sp t f e k m) where
  -- What `apply_rows` asks.
  pub last_sweep : ReadySweep ns w bs top left (sp - 2 * k) k 0 m
  last_sweep =
      let z = R.room in
      record { names = R.names; table = R.ty.table; sub = R.region.sub; room = omega arith; rows = R.pending.fits; types = λ i p q. row_type w top (row_at bs i) (R.pending.each i q) }

  -- The outcome.
  abbrev last_whole : Out M.Inferred
  last_whole = app_rows (sub_at ns w (sp - 2 * k) k) (tree ns w t) (binders_in ns w bs 0 m) (core ns w f) (core ns w e) left

  -- It goes on after the rows.
  last_then : Then last_whole (apply_preds_pending (sub_at ns w (sp - 2 * k) k) (binders_in ns w bs 0 m) left) (λ qs. done (sub_at ns w (sp - 2 * k) k, tree ns w t, qs, capp (core ns w f) (core ns w e)))
  unfolding app_rows
  last_then = record { is = refl }

  module _ {w₁ bs₁ : List ℕ} {r : Swept} (G : GivesRows ns w w₁ bs bs₁ top left (sp - 2 * k) k m r) (wide : length bs₁ ≡ length bs) where
    -- The rows refuse.
    pub last_lost : {x : Refusal} {n l : ℕ} → r ≡ S-Refused x n l → GivesC last_whole (2 * k + 4) ns w w₁ bs bs₁ top left sp m (Refused x n l)
    last_lost h = let z = R.room in record { stands = stands_up G.gives.stands (omega arith); long = wide; answer = refuse_on last_then (rw h at G.gives.answer) (omega arith) (omega arith) }

    module _ {n l : ℕ} (h : r ≡ S-Done n l) (len : length w₁ ≡ length w) (big : length w < 2 ^ 65) where
      -- What the rows became.
      swept : RowsSwept ns w w₁ bs bs₁ top left (sp - 2 * k) k 0 m n l
      swept = rw h at G.gives.answer

      -- There is room for a node.
      pub last_room : (top ≤ n) × ((4 * n + 4 ≤ length w₁) × (n < first_node))
      last_room = let a = swept.more in let b = swept.spent in let c = R.room in let d = R.fits in (a, (omega arith, omega arith))

      -- The term.
      last_term : {w₂ : List ℕ} → w₂ ≡ pushed_four w₁ n 5 f e 0 → Pushed (core ns w₂) w₁ w₂ n (capp (core ns w₁ f) (core ns w₁ e))
      last_term q = let T = swept.table in let a = swept.more in push_called ns last_room.1.0 last_room.1.1 (node_more T a R.function_term) (node_more T a R.argument_term) q

      -- The answer.
      pub last_closed : {w₂ : List ℕ} → w₂ ≡ pushed_four w₁ n 5 f e 0 → GivesC last_whole (2 * k + 4) ns w w₂ bs bs₁ top left sp m (Done t (first_node + n) k (n + 1) l)
      last_closed {w₂} q =
          let P = last_term q in
          let S = swept in let a = S.more in let b = S.spent in let c = R.room in
          let T = R.ty.table in
          let pl = P.long in
          let U = G.gives.stands in
          let pend : PendingRows w₁ bs₁ n m = (rw h at G.pending) R.pending in
          let K = stands_then (stands_up U (omega arith)) (four_stands w₁ n 5 f e 0 q (4 * top + 8 * left + 4) (omega arith)) a in
          record {
            stands = stands_up K (omega arith);
            long = wide;
            answer = (
              record {
                words = record {
                  ty = node_more P.node.table (omega arith) R.ty;
                  term = P.node;
                  region = region_later T K (omega arith) (omega arith) (omega arith) R.region;
                  pending = rows_later P.node.table (omega arith) pend;
                };
                more = omega arith;
                down = S.down;
                spent = omega arith;
              },
              then_done _ l last_then S.is ∙ rw (
                sub_stands ns T K R.region.sub (omega arith),
                kept_tree ns K.low R.ty,
                rows_same ns P.kept pend 0 m (omega arith),
                P.is,
                kept_core ns U.low R.function_term,
                kept_core ns U.low R.argument_term,
              ),
            );
          }
