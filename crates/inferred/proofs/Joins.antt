-- The ways out of `app_close`, from what the calls gave: types joined, then the rows of both parts in one sweep.
use mathlib.Core.Path.{◌≡◌, refl, ap, sym, ◌∙◌}
use mathlib.Core.List.{List, ◌++◌}
use Prim.Native.Nat.{ℕ, ◌+◌, ◌*◌, ◌-◌, ◌≤◌}
use native.Mathlib.Omega.{arith}
use lib.ListN.{length}
use Rattle.meaning.specs.Ast.{Ty, Binder, Core, capp}
use Rattle.meaning.specs.Budget.{Out, done, refused, after}
use Rattle.meaning.specs.Subst.{Subst, apply_preds_pending}
use Rattle.meaning.specs.Generalize.{Pending}
use Rattle.meaning.specs.Infer as M
use Rattle.names.specs.Names.{tyvar_of}
use Rattle.ast.specs.Table.{tree}
use Rattle.ast.proofs.Laws.{node_more}
use Rattle.errors.specs.declared.Refusal.{Refusal}
use Rattle.pairs.specs.Pairs.{sub_at}
use Rattle.pairs.proofs.Frames.{stands_then}
use Rattle.apply.proofs.Hand.{Then, then_done, refuse_on}
use Rattle.cores.specs.Terms.{core}
use Rattle.cores.proofs.TermLaws.{kept_core}
use Rattle.supers.specs.Rows.{binders_in}
use Rattle.ends.specs.Ends as E
use Rattle.ends.specs.Joined.{Joined}
use Rattle.ends.specs.Joined.{Done as J-Done, Refused as J-Refused}
use Rattle.pending.proofs.Sweeps.{prefixed, pending_split}
use Rattle.pending.proofs.Loops.{binders_split}
use Rattle.inferred.specs.Parts.{app_last, app_rows, app_close}
use Rattle.inferred.specs.Closing.{answer_from, answer_of, ReadyLast, ReadyApp, GivesC}
use Rattle.inferred.specs.Closed.{Closed}
use Rattle.inferred.specs.Closed.{Refused}
use Rattle.compose.proofs.Hand.{after-after}
use Rattle.inferred.proofs.Cuts.{after_same}
use Rattle.inferred.proofs.Ends.{rows_later, rows_same, closed_answer}

-- A list before what is applied, and then the rest of the block.
prefixed_on : {A : Type 0} (a : List Binder) (o : Out (List Binder)) (g : List Binder → A) → after (prefixed a o) (λ z. done (g z)) ≡ after o (λ z. done (g (a ++ z)))
unfolding prefixed after
prefixed_on a (done z n) g = refl
prefixed_on a (refused e n) g = refl

-- Both lists one after the other are one list.
pub rows_one : (s : Subst) (t : Ty) (ps qs : Pending) (f e : Core) (n : ℕ) → after (apply_preds_pending s ps n) (λ us m. after (apply_preds_pending s qs m) (λ vs. done (s, t, us ++ vs, capp f e))) ≡ app_rows s t (ps ++ qs) f e n
unfolding app_rows
rows_one s t ps qs f e n = sym (
    ap (λ (o : Out Pending). after {B = M.Inferred} o (λ z. done (s, t, z, capp f e))) (pending_split s ps qs n)
    ∙ after-after (apply_preds_pending s ps n) _ _
    ∙ after_same (apply_preds_pending s ps n) _ _ (λ a m. prefixed_on {A = M.Inferred} a (apply_preds_pending s qs m) (λ z. (s, t, z, capp f e))))

module _ {ns w bs : List ℕ} {top left sp tf f k₁ tx e k₂ m₁ m a : ℕ} (R : ReadyApp ns w bs top left sp tf f k₁ tx e k₂ m₁ m a) where
  -- What `app_end` asks.
  pub app_asks : E.ReadyApp ns w top left sp k₁ k₂ a tf tx
  app_asks =
      let z = R.room in
      record {
        names = R.names;
        variable = R.variable;
        function = R.function;
        argument = R.argument;
        room = omega arith;
        self = R.self.sub;
        other = R.other.sub;
        self_sorted = R.self.sorted;
        other_sorted = R.other.sorted;
      }

  -- The outcome.
  abbrev app_whole : Out M.Inferred
  app_whole = app_close (tyvar_of ns a) (answer_of ns w bs sp tf f k₁ m₁) (answer_from ns w bs (sp - 2 * k₁) tx e k₂ m₁ m) left

  -- That of `app_end`.
  abbrev app_joined : Out (Subst × Ty)
  app_joined = E.joined (sub_at ns w (sp - 2 * k₁) k₁) (tree ns w tf) (sub_at ns w (sp - 2 * k₁ - 2 * k₂) k₂) (tree ns w tx) (tyvar_of ns a) left

  -- It goes on after the types.
  app_then : Then app_whole app_joined (λ j. app_rows j.0 j.1 (binders_in ns w bs 0 m) (core ns w f) (core ns w e))
  unfolding app_close app_last
  app_then = record {
    is = after_same app_joined _ _ (λ j n.
        rows_one j.0 j.1 (binders_in ns w bs 0 m₁) (binders_in ns w bs m₁ m) (core ns w f) (core ns w e) n
        ∙ ap (λ ps. app_rows j.0 j.1 ps (core ns w f) (core ns w e) n) (sym (binders_split ns w bs 0 m₁ m (omega arith) R.few)));
  }

  module _ {w₁ : List ℕ} {r : Joined} (J : E.GivesJoin 14 2 (2 * k₁ + 2 * k₂) ns w w₁ top left sp app_joined r) where
    -- The types refuse.
    pub app_lost : {x : Refusal} {n l : ℕ} → r ≡ J-Refused x n l → GivesC app_whole (2 * k₁ + 2 * k₂ + 8) ns w w₁ bs bs top left sp m (Refused x n l)
    app_lost h = record { stands = J.stands; long = refl; answer = refuse_on app_then (rw h at J.answer) (omega arith) (omega arith) }

    module _ {t k n l : ℕ} (h : r ≡ J-Done t k n l) where
      -- What was joined.
      app_got : (app_joined ≡ done (sub_at ns w₁ (sp - 2 * k) k, tree ns w₁ t) l) × E.GrownJoin 14 2 (2 * k₁ + 2 * k₂) ns w₁ top left sp n l t k
      app_got = rw h at J.answer

      -- The table did not shrink.
      pub app_more : top ≤ n
      app_more = app_got.1.more

      -- What `app_last` asks.
      pub app_ready : length w₁ ≡ length w → ReadyLast ns w₁ bs n l sp t f e k m
      app_ready len =
          let g = app_got.1 in let s = g.spent in let z = R.room in let y = R.fits in
          record {
            names = R.names;
            ty = g.node;
            function_term = node_more g.node.table g.more R.function_term;
            argument_term = node_more g.node.table g.more R.argument_term;
            region = record { sub = g.sub; sorted = g.sorted };
            pending = rows_later g.node.table g.more R.pending;
            room = omega arith;
            fits = omega arith;
          }

      -- Its answer is the answer.
      pub app_closed : {w₂ bs₂ : List ℕ} {q : Closed}
          → GivesC (app_rows (sub_at ns w₁ (sp - 2 * k) k) (tree ns w₁ t) (binders_in ns w₁ bs 0 m) (core ns w₁ f) (core ns w₁ e) l) (2 * k + 4) ns w₁ w₂ bs bs₂ n l sp m q
          → GivesC app_whole (2 * k₁ + 2 * k₂ + 8) ns w w₂ bs bs₂ top left sp m q
      app_closed {w₂} {bs₂} {q} G =
          let g = app_got.1 in let s = g.spent in let d = g.down in
          record {
            stands = stands_then J.stands G.stands g.more;
            long = G.long;
            answer = closed_answer _ _ (2 * k₁ + 2 * k₂ + 8) (2 * k + 4) ns w₂ bs₂ top left n l sp m q
                (then_done _ l app_then app_got.0 ∙ rw (rows_same ns J.stands.low R.pending 0 m (omega arith), kept_core ns J.stands.low R.function_term, kept_core ns J.stands.low R.argument_term))
                g.more (omega arith) (omega arith) G.answer;
          }
