-- The ways out of `let_last` and `let_close`, from what the calls gave.
use mathlib.Core.Path.{◌≡◌, refl, ap, ◌∙◌}
use mathlib.Core.List.{List, ◌++◌}
use Prim.Native.Nat.{ℕ, ◌+◌, ◌*◌, ◌-◌, ◌^◌, ◌<◌, ◌≤◌}
use native.Mathlib.Omega.{arith}
use lib.ListN.{length}
use native.Mathlib.Decide.{dec_lt}
use Rattle.meaning.specs.Ast.{clet}
use Rattle.meaning.specs.Budget.{Out, done}
use Rattle.meaning.specs.Subst.{apply_preds_pending, compose}
use Rattle.meaning.specs.Infer as M
use Rattle.names.specs.Names.{first_node, name_of}
use Rattle.ast.specs.Table.{tree}
use Rattle.ast.proofs.Laws.{kept_tree, node_more}
use Rattle.ast.proofs.NewNode.{Pushed}
use Rattle.errors.specs.declared.Refusal.{Refusal}
use Rattle.pairs.specs.Pairs.{sub_at, Stands}
use Rattle.pairs.proofs.Frames.{stands_then, stands_up, sub_stands}
use Rattle.apply.specs.Applied.{Applied}
use Rattle.apply.specs.Applied.{Done as A-Done, Refused as A-Refused}
use Rattle.apply.proofs.Hand.{Then, then_done, refuse_on}
use Rattle.compose.specs.Compose.{Both, GivesSub}
use Rattle.compose.specs.Answers.{GivesU, ReadyJoin}
use Rattle.compose.proofs.Hand.{got, lost}
use Rattle.unify.proofs.Single.{join_both, joins}
use Rattle.cores.specs.Parts.{pushed_four}
use Rattle.cores.specs.Terms.{core}
use Rattle.cores.proofs.TermLaws.{kept_core}
use Rattle.cores.proofs.NewTerm.{four_stands, push_bound}
use Rattle.supers.specs.Rows.{row_at, binders_in}
use Rattle.reduce.proofs.Marks.{row_same}
use Rattle.pending.specs.Rows.{PendingRow, PendingRows}
use Rattle.pending.specs.Swept.{ReadySweep, RowsSwept, GivesRows}
use Rattle.pending.specs.Swept.{Swept}
use Rattle.pending.specs.Swept.{Done as S-Done, Refused as S-Refused}
use Rattle.simplify.proofs.RowSets.{same_rows}
use Rattle.pending.proofs.Loops.{binders_split}
use Rattle.inferred.specs.Parts.{let_last, let_close}
use Rattle.inferred.specs.Closing.{answer_from, ReadyLet, GivesC}
use Rattle.inferred.specs.Closed.{Closed}
use Rattle.inferred.specs.Closed.{Done, Refused}
use Rattle.inferred.proofs.Ends.{row_later, rows_later, row_type, rows_same, region_later, closed_answer}

module _ {ns w bs : List ℕ} {top left sp k₁ c t e k₂ nd m : ℕ} (R : ReadyLet ns w bs top left sp k₁ c t e k₂ nd m) where
  -- ## let_last

  -- Both regions side by side.
  pub let_join : ReadyJoin ns w top left sp k₂ k₁
  let_join =
      let z = R.room in
      record { names = R.names; table = R.ty.table; room = omega arith; self = R.self.sub; other = R.other.sub; self_sorted = R.self.sorted; other_sorted = R.other.sorted }

  -- What `compose_in` asks.
  pub let_both : Both ns w top left (sp - 2 * k₁ - 2 * k₂) k₂ k₁
  let_both = join_both let_join

  module _ (x : ℕ) where
    -- The outcome.
    abbrev last_whole : Out M.Inferred
    last_whole = let_last (name_of ns x) (sub_at ns w (sp - 2 * k₁ - 2 * k₂) k₂) (sub_at ns w (sp - 2 * k₁) k₁) (tree ns w t) (binders_in ns w bs 0 m) (core ns w c) (core ns w e) left

    -- It goes on after the pairs.
    last_then : Then last_whole (compose (sub_at ns w (sp - 2 * k₁ - 2 * k₂) k₂) (sub_at ns w (sp - 2 * k₁) k₁) left) (λ s. done (s, tree ns w t, binders_in ns w bs 0 m, clet (name_of ns x) (core ns w c) (core ns w e)))
    unfolding let_last
    last_then = record { is = refl }

    module _ {w₁ : List ℕ} {r : Applied} (G : GivesSub (4 * top + 8 * left + 2 * k₂ + 2 * k₁) ns w w₁ top left (sp - 2 * k₁ - 2 * k₂ + 2 * k₂ + 2 * k₁)
        (compose (sub_at ns w (sp - 2 * k₁ - 2 * k₂) k₂) (sub_at ns w (sp - 2 * k₁ - 2 * k₂ + 2 * k₂) k₁) left) r) where
      -- The pairs as they end at sp.
      one : GivesU 0 (2 * k₂ + 2 * k₁) ns w w₁ top left sp (compose (sub_at ns w (sp - 2 * k₁ - 2 * k₂) k₂) (sub_at ns w (sp - 2 * k₁) k₁) left) r
      one = joins let_join G

      -- They refuse.
      pub let_last_lost : {f : Refusal} {n l : ℕ} → r ≡ A-Refused f n l → GivesC last_whole (2 * k₁ + 2 * k₂ + 4) ns w w₁ bs bs top left sp m (Refused f n l)
      let_last_lost h = record { stands = one.stands; long = refl; answer = refuse_on last_then (lost one h) (omega arith) (omega arith) }

      module _ {k n l : ℕ} (h : r ≡ A-Done k n l) (len : length w₁ ≡ length w) (big : length w < 2 ^ 65) where
        -- There is room for a node.
        pub let_room : (top ≤ n) × ((4 * n + 4 ≤ length w₁) × (n < first_node))
        let_room = let g = (got one h).1 in let a = g.more in let b = g.spent in let y = R.room in let d = R.fits in (a, (omega arith, omega arith))

        -- The term.
        let_term : {w₂ : List ℕ} → w₂ ≡ pushed_four w₁ n 6 x c e → Pushed (core ns w₂) w₁ w₂ n (clet (name_of ns x) (core ns w₁ c) (core ns w₁ e))
        let_term q = let g = (got one h).1 in push_bound ns let_room.1.0 let_room.1.1 (node_more g.table g.more R.bound) (node_more g.table g.more R.term) x q

        -- The answer.
        pub let_last_closed : {w₂ : List ℕ} → w₂ ≡ pushed_four w₁ n 6 x c e → GivesC last_whole (2 * k₁ + 2 * k₂ + 4) ns w w₂ bs bs top left sp m (Done t (first_node + n) k (n + 1) l)
        let_last_closed {w₂} q =
            let P = let_term q in
            let g = (got one h).1 in let a = g.more in let b = g.spent in let z = R.room in let d = g.down in
            let pl = P.long in
            let U = one.stands in
            let F : Stands w₁ w₂ n (sp - 2 * k) = four_stands w₁ n 6 x c e q (sp - 2 * k) (omega arith) in
            let K : Stands w w₂ top sp = stands_then U (stands_up F (omega arith)) a in
            record {
              stands = K;
              long = refl;
              answer = (
                record {
                  words = record {
                    ty = node_more P.node.table (omega arith) R.ty;
                    term = P.node;
                    region = region_later g.table F (omega arith) (omega arith) (omega arith) (record { sub = g.sub; sorted = g.sorted });
                    pending = rows_later P.node.table (omega arith) R.pending;
                  };
                  more = omega arith;
                  down = omega arith;
                  spent = omega arith;
                },
                then_done _ l last_then (got one h).0 ∙ rw (
                  sub_stands ns g.table F g.sub (omega arith),
                  kept_tree ns K.low R.ty,
                  rows_same ns K.low R.pending 0 m (omega arith),
                  P.is,
                  kept_core ns U.low R.bound,
                  kept_core ns U.low R.term,
                ),
              );
            }

  -- ## let_close

  -- What `apply_rows` asks of the deferred rows.
  pub let_sweep : ReadySweep ns w bs top left (sp - 2 * k₁ - 2 * k₂) k₂ 0 nd
  let_sweep =
      let z = R.room in let f = R.pending.fits in let n = R.few in
      record { names = R.names; table = R.ty.table; sub = R.self.sub; room = omega arith; rows = omega arith; types = λ i p q. row_type w top (row_at bs i) (R.pending.each i (omega arith)) }

  module _ (x : ℕ) where
    -- The outcome.
    abbrev let_whole : Out M.Inferred
    let_whole = let_close (name_of ns x) (sub_at ns w (sp - 2 * k₁) k₁) (core ns w c) (binders_in ns w bs 0 nd) (answer_from ns w bs (sp - 2 * k₁) t e k₂ nd m) left

    -- It goes on after the deferred rows.
    let_then : Then let_whole (apply_preds_pending (sub_at ns w (sp - 2 * k₁ - 2 * k₂) k₂) (binders_in ns w bs 0 nd) left)
        (λ qs. let_last (name_of ns x) (sub_at ns w (sp - 2 * k₁ - 2 * k₂) k₂) (sub_at ns w (sp - 2 * k₁) k₁) (tree ns w t) (qs ++ binders_in ns w bs nd m) (core ns w c) (core ns w e))
    unfolding let_close let_last
    let_then = record { is = refl }

    module _ {w₁ bs₁ : List ℕ} {r : Swept} (G : GivesRows ns w w₁ bs bs₁ top left (sp - 2 * k₁ - 2 * k₂) k₂ nd r) (wide : length bs₁ ≡ length bs) where
      -- They refuse.
      pub let_lost : {f : Refusal} {n l : ℕ} → r ≡ S-Refused f n l → GivesC let_whole (2 * k₁ + 2 * k₂ + 4) ns w w₁ bs bs₁ top left sp m (Refused f n l)
      let_lost h = let z = R.room in record { stands = stands_up G.gives.stands (omega arith); long = wide; answer = refuse_on let_then (rw h at G.gives.answer) (omega arith) (omega arith) }

      module _ {n l : ℕ} (h : r ≡ S-Done n l) (len : length w₁ ≡ length w) where
        -- What the deferred rows became.
        swept : RowsSwept ns w w₁ bs bs₁ top left (sp - 2 * k₁ - 2 * k₂) k₂ 0 nd n l
        swept = rw h at G.gives.answer

        -- The table did not shrink.
        pub let_more : top ≤ n
        let_more = swept.more

        -- A row behind them is as it was.
        behind : (i : ℕ) → nd ≤ i → row_at bs₁ i ≡ row_at bs i
        behind i g = row_same bs bs₁ i (λ j p q. G.gives.behind j (omega arith))

        -- Each row is pending.
        each : (i : ℕ) → i < m → Dec (i < nd) → PendingRow w₁ n (row_at bs₁ i)
        each i g (yes p) =
            let few = R.few in let f = R.pending.fits in
            let Q : PendingRows w₁ bs₁ n nd = (rw h at G.pending) (record { fits = omega arith; each = λ j q. R.pending.each j (omega arith) }) in
            Q.each i p
        each i g (no p) = rw (behind i (omega arith)) (row_later w top (row_at bs i) swept.table swept.more (R.pending.each i g))

        -- All rows.
        rows : PendingRows w₁ bs₁ n m
        rows = let f = R.pending.fits in record { fits = omega arith; each = λ i g. each i g (dec_lt i nd) }

        -- What `let_last` asks.
        pub let_ready : ReadyLet ns w₁ bs₁ n l sp k₁ c t e k₂ m m
        let_ready =
            let S = swept in let s = S.spent in let a = S.more in let z = R.room in let y = R.fits in let T = S.table in let U = G.gives.stands in
            record {
              names = R.names;
              bound = node_more T a R.bound;
              ty = node_more T a R.ty;
              term = node_more T a R.term;
              self = region_later R.ty.table U (omega arith) a (omega arith) R.self;
              other = region_later R.ty.table U (omega arith) a (omega arith) R.other;
              pending = rows;
              few = omega arith;
              room = omega arith;
              fits = omega arith;
            }

        -- The binders of all rows.
        all_rows : binders_in ns w₁ bs₁ 0 m ≡ binders_in ns w₁ bs₁ 0 nd ++ binders_in ns w bs nd m
        all_rows =
            binders_split ns w₁ bs₁ 0 nd m (omega arith) R.few
            ∙ ap (λ qs. binders_in ns w₁ bs₁ 0 nd ++ qs) (same_rows ns w₁ bs bs₁ nd (m - nd) (λ i p q. behind i p) ∙ rows_same ns G.gives.stands.low R.pending nd m (omega arith))

        -- Its answer is the answer.
        pub let_closed : {w₂ : List ℕ} {q : Closed}
            → GivesC (let_last (name_of ns x) (sub_at ns w₁ (sp - 2 * k₁ - 2 * k₂) k₂) (sub_at ns w₁ (sp - 2 * k₁) k₁) (tree ns w₁ t) (binders_in ns w₁ bs₁ 0 m) (core ns w₁ c) (core ns w₁ e) l) (2 * k₁ + 2 * k₂ + 4) ns w₁ w₂ bs₁ bs₁ n l sp m q
            → GivesC let_whole (2 * k₁ + 2 * k₂ + 4) ns w w₂ bs bs₁ top left sp m q
        let_closed {w₂} {q} H =
            let S = swept in let s = S.spent in let d = S.down in let z = R.room in let U = G.gives.stands in let T = R.ty.table in
            record {
              stands = stands_then (stands_up U (omega arith)) H.stands S.more;
              long = wide;
              answer = closed_answer _ _ (2 * k₁ + 2 * k₂ + 4) (2 * k₁ + 2 * k₂ + 4) ns w₂ bs₁ top left n l sp m q
                  (then_done _ l let_then S.is ∙ rw (
                    sub_stands ns T U R.self.sub (omega arith),
                    sub_stands ns T U R.other.sub (omega arith),
                    kept_tree ns U.low R.ty,
                    all_rows,
                    kept_core ns U.low R.bound,
                    kept_core ns U.low R.term,
                  ))
                  S.more d (omega arith) H.answer;
            }
