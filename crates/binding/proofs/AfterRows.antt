-- The ways out of `rest`: the pending rows, and then `generalize_binding`.
use mathlib.Core.Path.{◌≡◌, ◌∙◌}
use mathlib.Core.List.{List}
use Prim.Native.Nat.{ℕ, ◌*◌, ◌-◌, ◌≤◌}
use native.Mathlib.Omega.{arith}
use lib.ListN.{length}
use Rattle.meaning.specs.Ast.{Scheme, Core}
use Rattle.meaning.specs.Budget.{Out, done, after}
use Rattle.meaning.specs.Subst.{apply_preds_pending}
use Rattle.meaning.specs.Classes.{ClassEnv}
use Rattle.meaning.specs.Generalize.{Pending, generalize_binding}
use Rattle.meaning.specs.Infer as M
use Rattle.theorems.proofs.Bound.{names_of, pending_names}
use Rattle.theorems.proofs.Made.{MadePending, pending_made}
use Rattle.ast.specs.Table.{tree}
use Rattle.ast.proofs.Laws.{kept_tree, node_more}
use Rattle.errors.specs.declared.Refusal.{Refusal}
use Rattle.pairs.specs.Pairs.{sub_at, Stands}
use Rattle.pairs.proofs.Frames.{stands_then, stands_up}
use Rattle.apply.proofs.Hand.{Then, then_done, refuse_on}
use Rattle.cores.specs.Terms.{core}
use Rattle.cores.proofs.TermLaws.{kept_core}
use Rattle.supers.specs.Rows.{row_at, binders_in}
use Rattle.instances.proofs.Held.{heads_kept}
use Rattle.resolve.proofs.Goals.{declared_kept}
use Rattle.scope.specs.Scope.{env_of}
use Rattle.scope.proofs.Laws.{scope_kept, env_kept}
use Rattle.pending.specs.Rows.{PendingRows}
use Rattle.pending.specs.Swept.{ReadySweep, RowsSwept, GivesRows}
use Rattle.pending.specs.Swept.{Swept}
use Rattle.pending.specs.Swept.{Done as S-Done, Refused as S-Refused}
use Rattle.generalize.specs.Generalizes.{ReadyGeneralize, Known, GeneralizedAs, GivesGeneralized}
use Rattle.generalize.specs.Generalized.{Generalized}
use Rattle.generalize.specs.Generalized.{Done, Refused}
use Rattle.inferred.specs.Closing.{answer_of}
use Rattle.inferred.specs.Inferring.{state_of}
use Rattle.compose.proofs.Hand.{after-after}
use Rattle.inferred.proofs.Ends.{row_type}
use Rattle.binding.specs.General.{ReadyMid, AskedGeneral, AnswerG, GivesG}
use Rattle.binding.specs.Rest.{general_rest}
use Rattle.binding.proofs.AfterEnv.{says_done}

module _ {ns w ev od il bs : List ℕ} {top left sp tv dv t e k m : ℕ} (R : ReadyMid ns w ev od il bs top left sp tv dv t e k m) where
  -- What `apply_rows` asks.
  pub rows_asks : ReadySweep ns w bs top left (sp - 2 * k) k 0 m
  rows_asks =
      let z = R.ready.room in let P = R.words.pending in
      record { names = R.ready.names; table = R.ready.table; sub = R.words.region.sub; room = omega arith; rows = P.fits; types = λ i p q. row_type w top (row_at bs i) (P.each i q) }

  -- The class environments that are asked for.
  abbrev rows_of : List ℕ → ClassEnv → Type 0
  rows_of cl = AskedGeneral ns cl w il top (answer_of ns w bs sp t e k m) (state_of ns w ev od tv dv)

  -- The outcome.
  abbrev rows_whole : ClassEnv → Out ((Scheme × Core × Pending) × M.State)
  rows_whole ce = general_rest ce (answer_of ns w bs sp t e k m) (state_of ns w ev od tv dv) left

  -- The rows first.
  rows_first : (ce : ClassEnv) → Then (rows_whole ce) (apply_preds_pending (sub_at ns w (sp - 2 * k) k) (binders_in ns w bs 0 m) left)
      (λ ps l. after (generalize_binding ce (env_of ns w ev od) (tree ns w t) ps (core ns w e) l) (λ g. done (g, state_of ns w ev od tv dv)))
  unfolding general_rest after
  rows_first ce = record { is = after-after (apply_preds_pending (sub_at ns w (sp - 2 * k) k) (binders_in ns w bs 0 m) left) _ _ }

  module _ (cl : List ℕ) {w₁ bs₁ : List ℕ} {s : Swept} (G : GivesRows ns w w₁ bs bs₁ top left (sp - 2 * k) k m s) (wide : length bs₁ ≡ length bs) where
    -- What was older stands.
    rows_stands : Stands w w₁ top (sp - 2 * k)
    rows_stands = let z = R.ready.room in stands_up G.gives.stands (omega arith)

    -- They are refused.
    pub rows_lost : {q : Refusal} {t' l' : ℕ} → s ≡ S-Refused q t' l' → GivesG (rows_of cl) rows_whole ns w w₁ ev od bs bs₁ top left sp k m tv dv (Refused q t' l')
    rows_lost h = record { stands = rows_stands; long = wide; answer = λ ce A. refuse_on (rows_first ce) (rw h at G.gives.answer) (omega arith) (omega arith) }

    module _ {t₂ l₂ : ℕ} (h : s ≡ S-Done t₂ l₂) (len : length w₁ ≡ length w) where
      -- What the rows became.
      swept : RowsSwept ns w w₁ bs bs₁ top left (sp - 2 * k) k 0 m t₂ l₂
      swept = rw h at G.gives.answer

      -- The table did not shrink.
      pub rows_more : top ≤ t₂
      rows_more = swept.more

      -- All are pending, as before.
      rows_pending : PendingRows w₁ bs₁ t₂ m
      rows_pending = (rw h at G.pending) R.words.pending

      -- What `generalize` asks.
      pub rows_ready : ReadyGeneralize ns w₁ il ev od bs₁ t₂ l₂ (sp - 2 * k) m t e
      rows_ready =
          let S = swept in let T = S.table in let s1 = S.more in let s2 = S.spent in let Q = R.ready in let q1 = Q.room in let q2 = Q.fits in let K = G.gives.stands.low in
          record {
            settle = record {
              names = Q.names;
              scope = scope_kept Q.scope K s1 T;
              heads = heads_kept K T s1 Q.heads;
              rows = rows_pending;
              type = node_more T s1 R.words.ty;
              term = node_more T s1 R.words.term;
              room = omega arith;
              fits = omega arith;
            };
            built = Q.built;
          }

      -- The rows have made variables alone and the names of before; type, term and environment are the same.
      rows_known : (ce : ClassEnv) → rows_of cl ce → Known ns cl w₁ t₂ il (binders_in ns w₁ bs₁ 0 m) (tree ns w₁ t) (core ns w₁ e) (env_of ns w₁ ev od) ce
      rows_known ce A =
          let S = swept in let F = A.fit in let K = G.gives.stands.low in
          let N : names_of (binders_in ns w₁ bs₁ 0 m) ≡ names_of (binders_in ns w bs 0 m) =
          says_done (λ cs. names_of cs ≡ names_of (binders_in ns w bs 0 m)) (binders_in ns w₁ bs₁ 0 m) l₂ S.is (pending_names (sub_at ns w (sp - 2 * k) k) (binders_in ns w bs 0 m) left) in
          record {
            asked = record { declared = declared_kept K S.table S.more A.declared; lo = F.lo; hi = F.hi; named = rw (N, kept_core ns K R.words.term) F.named };
            type = rw (kept_tree ns K R.words.ty) F.made.1;
            pending = says_done MadePending (binders_in ns w₁ bs₁ 0 m) l₂ S.is (pending_made (sub_at ns w (sp - 2 * k) k) (binders_in ns w bs 0 m) left F.made.0 F.made.2);
            schemes = rw (env_kept R.ready.scope K) F.env;
          }

      -- Then the binding.
      rows_then : (ce : ClassEnv) → Then (rows_whole ce) (generalize_binding ce (env_of ns w₁ ev od) (tree ns w₁ t) (binders_in ns w₁ bs₁ 0 m) (core ns w₁ e) l₂) (λ g. done (g, state_of ns w ev od tv dv))
      rows_then ce = let K = G.gives.stands.low in record {
        is = then_done _ l₂ (rows_first ce) swept.is ∙ rw (env_kept R.ready.scope K, kept_tree ns K R.words.ty, kept_core ns K R.words.term);
      }

      -- What `generalize` answers, for the caller.
      rows_answer : (w₂ bs₂ : List ℕ) (r : Generalized) → Stands w₁ w₂ t₂ (sp - 2 * k) → GeneralizedAs ns cl w₁ w₂ il ev od bs₁ bs₂ t₂ l₂ m t e r → AnswerG (rows_of cl) rows_whole ns w₂ ev od bs₂ top left m tv dv r
      rows_answer w₂ bs₂ (Done vs ps u c nd t' l') Z g =
          let S = swept in let s1 = S.more in let s2 = S.spent in let s3 = S.down in
          let g1 = g.more in let g2 = g.spent in let g3 = g.down in let T = g.held.vars.table in
          let K = stands_then rows_stands Z s1 in (
            record { scheme = g.held; bound = g.term; scope = scope_kept R.ready.scope K.low (omega arith) T; rows = g.late; few = g.most; more = omega arith; down = omega arith; spent = omega arith },
            λ ce A. then_done _ l' (rows_then ce) (g.is ce (rows_known ce A)) ∙ rw (env_kept R.ready.scope K.low),
          )
      rows_answer w₂ bs₂ (Refused q t' l') Z g = λ ce A. refuse_on (rows_then ce) (g ce (rows_known ce A)) swept.more swept.down

      -- Its answer is the answer.
      pub rows_gives : {w₂ bs₂ : List ℕ} {r : Generalized} → GivesGeneralized ns cl w₁ w₂ il ev od bs₁ bs₂ t₂ l₂ (sp - 2 * k) m t e r → GivesG (rows_of cl) rows_whole ns w w₂ ev od bs bs₂ top left sp k m tv dv r
      rows_gives {w₂} {bs₂} {r} F = record { stands = stands_then rows_stands F.stands swept.more; long = F.long ∙ wide; answer = rows_answer w₂ bs₂ r F.stands F.answer }
