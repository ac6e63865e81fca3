-- What `settle` asks of those that it calls, and each of its ways out.
use mathlib.Core.Path.{◌≡◌, refl, ap, sym, ◌∙◌, subst}
use mathlib.Core.List.{List, []}
use mathlib.Core.Logic.{◌⊎◌, inl, inr}
use Prim.Native.Nat.{ℕ, ◌+◌, ◌*◌, ◌-◌, ◌<◌, ◌≤◌}
use native.Mathlib.Omega.{arith}
use lib.ListN.{length}
use Rattle.meaning.specs.Ast.{Binder}
use Rattle.meaning.specs.Budget.{Out, done, after}
use Rattle.meaning.specs.Subst.{ftv_type}
use Rattle.meaning.specs.Classes.{ClassEnv, Given}
use Rattle.meaning.specs.Reduce.{reduce}
use Rattle.meaning.specs.Generalize.{preds_of, env_ftv, is_own}
use Rattle.theorems.proofs.Bound.{names_of}
use Rattle.theorems.proofs.NamesGeneralized.{Named}
use Rattle.ast.specs.Table.{tree}
use Rattle.ast.proofs.Laws.{kept_tree, kept_then, node_more, low_node}
use Rattle.ast.proofs.Ranges.{cell_low}
use Rattle.errors.specs.Refusals.{refusal_of, Refuses}
use Rattle.errors.specs.declared.Refusal.{Refusal}
use Rattle.pairs.proofs.Frames.{stands_then}
use Rattle.apply.specs.Applied.{Applied}
use Rattle.apply.specs.Applied.{Done, Refused}
use Rattle.scope.specs.Scope.{env_of}
use Rattle.scope.proofs.Laws.{scope_kept, env_kept}
use Rattle.cores.specs.Terms.{core}
use Rattle.cores.proofs.TermLaws.{kept_core}
use Rattle.supers.specs.Rows.{row_at, binders_from, binders_in}
use Rattle.supers.specs.Givens.{givens_of}
use Rattle.supers.specs.declared.Root.TheVariants.{Binder as Root-Binder}
use Rattle.supers.specs.declared.rows.Row.{Row}
use Rattle.supers.proofs.GivenLaws.{no_givens}
use Rattle.supers.proofs.RowLaws.{kept_rows}
use Rattle.resolve.specs.Resolves.{Declared}
use Rattle.reduce.specs.Reduces.{preds_in, discharged_in, residuals_in, ReadyReduce, RowsDone, GivesReduced}
use Rattle.reduce.specs.Reduced.{Reduced}
use Rattle.reduce.specs.Reduced.{Done as Reduced-Done, Refused as Reduced-Refused}
use Rattle.terms.specs.Plain.{plain_in}
use Rattle.terms.specs.Rows.{replaced_in}
use Rattle.pending.specs.Rows.{PendingRow}
use Rattle.pending.specs.Owned.{ReadyOwn}
use Rattle.settle.specs.Settles.{settled}
use Rattle.settle.specs.Answers.{GivesSorted, ReadyReplace, Simplifying, Replaces, Stops, Fails, GivesFrom, ReadySettle, Asked, settled_out, OwnRow, SettledIn, GivesSettled}
use Rattle.settle.specs.Settled.{Done as Settled-Done, Refused as Settled-Refused}
use Rattle.settle.proofs.Fine.{Fine, pending_type, fine_reduced, fine_aliased, fine_more, fine_left, fine_own, fine_pending, fine_type, fine_binders, fine_replacing}
use Rattle.settle.proofs.Course.{settled_stops, rows_shift, Course, late_are, simplify_stops, walked}

-- What `reduce` asks.
pub reduce_ready : {ns w il ev od bs : List ℕ} {top left sp n t e : ℕ} → ReadySettle ns w il ev od bs top left sp n t e → ReadyReduce ns w il bs top left sp Root-Binder 0 0 n
reduce_ready {w = w} {bs = bs} {top = top} A = record {
  names = A.names;
  givens = low_node A.term.table (omega arith);
  few = tt;
  heads = A.heads;
  rows = A.rows.fits;
  types = λ i a b. pending_type w top (row_at bs i) (A.rows.each i b);
  room = A.room;
  fits = A.fits;
}

module _ {ns cl w w₁ il ev od bs b₁ : List ℕ} {top left sp n t e : ℕ} {q : Reduced} (A : ReadySettle ns w il ev od bs top left sp n t e)
    (R : GivesReduced (Declared ns cl w top il) ns w w₁ bs b₁ top left sp n (λ ce. reduce ce (givens_of ns w Root-Binder 0 0) (preds_in ns w bs 0 n) left) q)
    (long : length w₁ ≡ length w) (wide : length b₁ ≡ length bs) where
  -- No givens.
  none_given : givens_of ns w Root-Binder 0 0 ≡ []
  none_given = no_givens ns 0 (low_node A.term.table (omega arith)) (sym (cell_low w 0 (omega arith))) Root-Binder refl

  -- The outcome of `reduce` in the words of the meaning.
  plainly : (ce : ClassEnv) {o : Out _} → reduce ce (givens_of ns w Root-Binder 0 0) (preds_in ns w bs 0 n) left ≡ o → reduce ce [] (preds_of (binders_from ns w bs 0 n)) left ≡ o
  plainly ce {o} h =
      let z : n - 0 ≡ n = omega arith in
      subst (λ (k : ℕ). reduce ce [] (preds_of (binders_from ns w bs 0 k)) left ≡ o) z (subst (λ (gs : List Given). reduce ce gs (preds_in ns w bs 0 n) left ≡ o) none_given h)

  -- From the first n rows to k rows from the first on.
  of_rows : {X : Type 0} (F : List Binder → X) → F (binders_in ns w bs 0 n) ≡ F (binders_from ns w bs 0 n)
  of_rows F = let z : n - 0 ≡ n = omega arith in ap (λ (k : ℕ). F (binders_from ns w bs 0 k)) z

  -- `reduce` refuses.
  pub reduce_lost : {x : Refusal} {t' l' : ℕ} → q ≡ Reduced-Refused x t' l' → GivesSettled ns cl w w₁ il ev od bs b₁ top left sp n t e (Settled-Refused x t' l')
  reduce_lost {x} {t'} {l'} k = record { stands = R.stands; long = wide; answer = lost }
    where
      got : (ce : ClassEnv) → Declared ns cl w top il ce → Refuses ns w₁ top left (reduce ce (givens_of ns w Root-Binder 0 0) (preds_in ns w bs 0 n) left) x t' l'
      got = rw k at R.answer

      lost : (ce : ClassEnv) → Asked ns cl w top il (names_of (binders_in ns w bs 0 n)) (core ns w e) ce → Refuses ns w₁ top left (settled_out ns w ev od bs n t e left ce) x t' l'
      lost ce a =
          let L = got ce a.declared in
          record {
            is = of_rows (λ ps. settled ce (is_own (ftv_type (tree ns w t) []) (env_ftv (env_of ns w ev od))) ps (core ns w e) left)
                ∙ settled_stops ce (is_own (ftv_type (tree ns w t) []) (env_ftv (env_of ns w ev od))) (binders_from ns w bs 0 n) (core ns w e) left (refusal_of ns w₁ x) l' (plainly ce L.is);
            types = L.types;
            more = L.more;
            down = L.down;
          }

  module _ {t₂ l₂ : ℕ} (k : q ≡ Reduced-Done t₂ l₂) where
    -- What it did.
    did : RowsDone (Declared ns cl w top il) ns w w₁ bs b₁ top left n (λ ce. reduce ce (givens_of ns w Root-Binder 0 0) (preds_in ns w bs 0 n) left) t₂ l₂
    did = rw k at R.answer

    -- The words of each row are in their bounds.
    fine₁ : (i : ℕ) → i < n → Fine w₁ t₂ (row_at b₁ i)
    fine₁ i h = fine_reduced w w₁ top t₂ (row_at bs i) (row_at b₁ i) did.table did.more (A.rows.each i h) (did.became i h)

    -- What `sort_out` asks.
    pub sort_out_ready : ReadyOwn ns w₁ ev od b₁ t₂ n t
    sort_out_ready = record {
      names = A.names;
      scope = scope_kept A.scope R.stands.low did.more did.table;
      type = node_more did.table did.more A.type;
      binders = fine_binders w₁ b₁ t₂ n (let f = A.rows.fits in omega arith) fine₁;
    }

    module _ {b₃ : List ℕ} {nd : ℕ} (S : GivesSorted (ftv_type (tree ns w₁ t) []) (env_ftv (env_of ns w₁ ev od)) ns w₁ b₁ b₃ n nd) (wide₃ : length b₃ ≡ length b₁) where
      -- The rows after sorting.
      fine₃ : (i : ℕ) → i < n → Fine w₁ t₂ (row_at b₃ i)
      fine₃ i h =
          let c = S.deferred.comes i h in
          subst (λ (r : Row). Fine w₁ t₂ r) c.is (fine_aliased (ftv_type (tree ns w₁ t) []) (env_ftv (env_of ns w₁ ev od)) ns w₁ (binders_in ns w₁ b₁ 0 n) t₂ (row_at b₁ c.number) (row_at S.mid c.number) did.table
          (fine₁ c.number c.below) (S.aliased.rows c.number c.below))

      -- What `replace_from` asks.
      pub replace_ready : {b : ℕ} → b ≤ 4 * top → (nd ≤ n) × ((3 * n ≤ length b₃) × ((b ≤ 4 * t₂) × ReadyReplace ns w₁ b₃ t₂ l₂ sp n e))
      replace_ready h =
          let f = A.rows.fits in
          let m = did.more in
          let s = did.spent in
          let r = A.room in
          let g = A.fits in
          let y : 3 * n ≤ length b₃ = omega arith in (
            S.deferred.most,
            (
              y,
              (
                omega arith,
                record {
                  names = A.names;
                  term = node_more did.table m A.term;
                  binders = fine_binders w₁ b₃ t₂ n y fine₃;
                  replaced = fine_replacing w₁ b₃ t₂ n y fine₃;
                  room = omega arith;
                  fits = omega arith;
                },
              ),
            ),
          )

      module _ {w₃ bs' : List ℕ} {f : Applied} (F : GivesFrom ns cl w₁ w₃ b₃ bs' t₂ l₂ sp nd n e f) (wide' : length bs' ≡ length b₃) where
        -- The course of the rows, with the free variables of before.
        course : Course (ftv_type (tree ns w t) []) (env_ftv (env_of ns w ev od)) ns w w₁ bs b₁ S.mid b₃ F.part top t₂ n nd
        course = record {
          all = A.rows.each;
          kept = R.stands.low;
          became = did.became;
          aliased = rw (kept_tree ns R.stands.low A.type, env_kept A.scope R.stands.low) at S.aliased;
          deferred = rw (kept_tree ns R.stands.low A.type, env_kept A.scope R.stands.low) at S.deferred;
          part = F.cut;
        }

        -- `reduce` in a class environment.
        red : (ce : ClassEnv) → Declared ns cl w top il ce → reduce ce [] (preds_of (binders_from ns w bs 0 n)) left ≡ done (discharged_in ns w w₁ bs b₁ n, residuals_in ns w bs b₁ n) l₂
        red ce D = plainly ce (did.is ce D)

        -- The rows of the part.
        fine_part : (j : ℕ) → j < n - nd → Fine w₁ t₂ (row_at F.part j)
        fine_part j h = subst (λ (r : Row). Fine w₁ t₂ r) (sym (F.cut j h)) (fine₃ (nd + j) (omega arith))

        -- The simplification refuses.
        fails : {x : Refusal} {t' l' : ℕ} → Fails ns cl w₁ w₃ F.part t₂ l₂ (n - nd) x t' l' → (ce : ClassEnv) → Asked ns cl w top il (names_of (binders_in ns w bs 0 n)) (core ns w e) ce
            → Refuses ns w₃ top left (settled_out ns w ev od bs n t e left ce) x t' l'
        fails {x} {t'} {l'} L ce a =
            let N = L ce a.declared.supers in
            let m = N.more in
            let d = N.down in
            let m₁ = did.more in
            let d₁ = did.down in
            record {
              is = of_rows (λ ps. settled ce (is_own (ftv_type (tree ns w t) []) (env_ftv (env_of ns w ev od))) ps (core ns w e) left)
                  ∙ simplify_stops course ce left l₂ (red ce a.declared) (core ns w e) (refusal_of ns w₃ x) l' N.is;
              types = N.types;
              more = omega arith;
              down = omega arith;
            }

        -- What is left after the simplification.
        module _ {w₂ : List ℕ} {t₃ l₃ : ℕ} (P : Simplifying ns cl w₁ w₂ F.part F.part' t₂ l₂ sp (n - nd) t₃ l₃) where
          onwards : (ce : ClassEnv) → Asked ns cl w top il (names_of (binders_in ns w bs 0 n)) (core ns w e) ce → settled_out ns w ev od bs n t e left ce
              ≡ after (plain_in 256 (replaced_in ns w₂ F.part' (n - nd)) (core ns w₂ e) l₃) (λ e₁ m. done (binders_in ns w₂ F.part' 0 (n - nd), e₁, binders_in ns w₁ b₃ 0 nd) m)
          onwards ce a =
              let named = subst (λ (ps : List Binder). Named a.lo a.hi (names_of ps) (core ns w e)) (of_rows (λ ps. ps)) a.named in
              of_rows (λ ps. settled ce (is_own (ftv_type (tree ns w t) []) (env_ftv (env_of ns w ev od))) ps (core ns w e) left)
              ∙ walked course ce left l₂ (red ce a.declared) w₂ F.part' l₃ P.stands.low F.gives.rows a.lo a.hi (core ns w e) named (P.is.is ce a.declared.supers)
              ∙ rw (late_are course ce left l₂ (red ce a.declared), kept_core ns (kept_then R.stands.low P.stands.low did.more) A.term) refl

        -- The walk refuses.
        stops : {x : Refusal} {t' l' : ℕ} → Stops ns cl w₁ w₃ F.part F.part' t₂ l₂ sp (n - nd) e x t' l' → (ce : ClassEnv) → Asked ns cl w top il (names_of (binders_in ns w bs 0 n)) (core ns w e) ce
            → Refuses ns w₃ top left (settled_out ns w ev od bs n t e left ce) x t' l'
        unfolding after
        stops {x} L ce a =
            let m = L.lost.more in
            let d = L.lost.down in
            let m₁ = did.more in
            let d₁ = did.down in
            let m₂ = L.first.is.grown.more in
            let d₂ = L.first.is.grown.down in
            record { is = onwards L.first ce a ∙ rw L.lost.is refl; types = L.lost.types; more = omega arith; down = omega arith }

        -- A refusal of either.
        pub settle_lost : {x : Refusal} {t' l' : ℕ} → f ≡ Refused x t' l' → GivesSettled ns cl w w₃ il ev od bs bs' top left sp n t e (Settled-Refused x t' l')
        settle_lost {x} {t'} {l'} h = record { stands = stands_then R.stands F.gives.stands did.more; long = wide' ∙ wide₃ ∙ wide; answer = go (rw h at F.gives.answer) }
          where
            go : Fails ns cl w₁ w₃ F.part t₂ l₂ (n - nd) x t' l' ⊎ Stops ns cl w₁ w₃ F.part F.part' t₂ l₂ sp (n - nd) e x t' l'
                → (ce : ClassEnv) → Asked ns cl w top il (names_of (binders_in ns w bs 0 n)) (core ns w e) ce → Refuses ns w₃ top left (settled_out ns w ev od bs n t e left ce) x t' l'
            go (inl L) = fails L
            go (inr L) = stops L

        module _ {u t₄ l₄ : ℕ} (P : Replaces ns cl w₁ w₃ F.part F.part' t₂ l₂ sp (n - nd) e u t₄ l₄) where
          -- The rows of the part in the end.
          fine_end : (j : ℕ) → j < n - nd → Fine P.mid P.top₁ (row_at F.part' j)
          fine_end j h = fine_left w₁ P.mid t₂ P.top₁ (row_at F.part j) (row_at F.part' j) P.first.is.grown.table P.first.is.grown.more (fine_part j h) (F.gives.rows j h) (P.first.is.made j h)

          -- What is kept.
          kept_are : binders_in ns w₃ bs' nd n ≡ binders_in ns P.mid F.part' 0 (n - nd)
          kept_are =
              let z : n - nd ≡ n - nd - 0 = omega arith in
              rows_shift ns w₃ F.part' bs' 0 nd (n - nd) (λ m h. let a : m ≡ 0 + m = omega arith in F.back m h ∙ ap (row_at F.part') a)
              ∙ kept_rows ns F.part' P.stands.low 0 (n - nd) (λ i a b. fine_type P.mid P.top₁ (row_at F.part' i) (fine_end i (omega arith)))
              ∙ ap (binders_from ns P.mid F.part' 0) z

          -- What is deferred.
          late_rows : binders_in ns w₃ bs' 0 nd ≡ binders_in ns w₁ b₃ 0 nd
          late_rows =
              let o = S.deferred.most in
              rows_shift ns w₃ b₃ bs' 0 0 (nd - 0) (λ m h. F.before (0 + m) (omega arith))
              ∙ kept_rows ns b₃ F.gives.stands.low 0 (nd - 0) (λ i a b. fine_type w₁ t₂ (row_at b₃ i) (fine₃ i (omega arith)))

          -- The outcome.
          ended : (ce : ClassEnv) → Asked ns cl w top il (names_of (binders_in ns w bs 0 n)) (core ns w e) ce
              → settled_out ns w ev od bs n t e left ce ≡ done (binders_in ns w₃ bs' nd n, core ns w₃ u, binders_in ns w₃ bs' 0 nd) l₄
          unfolding after
          ended ce a = onwards P.first ce a ∙ rw (P.made.is ns tt, kept_are, late_rows) refl

          -- All of it.
          settled_in : SettledIn ns cl w w₃ il ev od bs bs' top left n t e u nd t₄ l₄
          settled_in =
              let m₁ = did.more in
              let m₂ = P.first.is.grown.more in
              let m₃ = P.made.more in
              let s₁ = did.spent in
              let s₂ = P.first.is.grown.spent in
              let s₃ = P.made.spent in
              let d₁ = did.down in
              let d₂ = P.first.is.grown.down in
              let d₃ = P.made.down in
              let o = S.deferred.most in
              let y = A.rows.fits in
              let up : t₂ ≤ t₄ = omega arith in
              record {
                term = P.made.node;
                most = o;
                late = record {
                  fits = omega arith;
                  each = λ j h. subst (λ (r : Row). PendingRow w₃ t₄ r) (sym (F.before j h))
                      (fine_pending w₃ t₄ (row_at b₃ j) (fine_more w₁ w₃ t₂ t₄ (row_at b₃ j) P.made.node.table up (fine₃ j (omega arith))) (S.deferred.front j h));
                };
                own = λ i a b. own_row i a b m₃;
                more = omega arith;
                spent = omega arith;
                down = omega arith;
                is = ended;
              }
            where
              own_row : (i : ℕ) → nd ≤ i → i < n → P.top₁ ≤ t₄ → OwnRow w₃ t₄ (row_at bs' i)
              own_row i a b m =
                  let h : i - nd < n - nd = omega arith in
                  let c : nd + (i - nd) ≡ i = omega arith in
                  subst (λ (r : Row). OwnRow w₃ t₄ r) (sym (F.back (i - nd) h) ∙ ap (row_at bs') c)
                  (fine_own w₃ t₄ (row_at F.part' (i - nd)) (fine_more P.mid w₃ P.top₁ t₄ (row_at F.part' (i - nd)) P.made.node.table m (fine_end (i - nd) h)))

        -- The answer.
        pub settle_done : {u t₄ l₄ : ℕ} → f ≡ Done u t₄ l₄ → GivesSettled ns cl w w₃ il ev od bs bs' top left sp n t e (Settled-Done u nd t₄ l₄)
        settle_done h = record { stands = stands_then R.stands F.gives.stands did.more; long = wide' ∙ wide₃ ∙ wide; answer = settled_in (rw h at F.gives.answer) }
