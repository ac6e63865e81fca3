-- The ways out of `binding` and `let_mid`.
use mathlib.Core.Path.{◌≡◌, refl, ◌∙◌}
use mathlib.Core.List.{List}
use Prim.Native.Nat.{ℕ, ◌+◌, ◌*◌, ◌-◌, ◌≤◌}
use native.Mathlib.Omega.{arith}
use lib.ListN.{length}
use Rattle.meaning.specs.Ast.{Expr}
use Rattle.meaning.specs.Budget.{Out, done, after}
use Rattle.meaning.specs.Subst.{Subst, apply_preds_pending}
use Rattle.meaning.specs.Classes.{ClassEnv}
use Rattle.meaning.specs.Infer as M
use Rattle.theorems.proofs.Made.{MadePending, MadeSubst, MadeScheme, pending_made}
use Rattle.theorems.proofs.MadeSchemes.{apply_schemes_made}
use Rattle.theorems.proofs.MadeGeneralized.{generalize_made}
use Rattle.theorems.proofs.Twins.{alone, both_then}
use Rattle.theorems.proofs.InferMade.{Making, MadeInferred, made_then, made_lift, made_lifted, ask_made}
use Rattle.names.specs.Names.{name_of}
use Rattle.errors.specs.declared.Refusal.{Refusal}
use Rattle.pairs.specs.Pairs.{sub_at}
use Rattle.pairs.proofs.Frames.{stands_up, sub_stands}
use Rattle.apply.proofs.Hand.{Then, then_done}
use Rattle.cores.specs.Terms.{core}
use Rattle.supers.specs.Rows.{binders_in}
use Rattle.subst.specs.Schemes.{scheme_of_word}
use Rattle.instances.proofs.Held.{heads_kept}
use Rattle.inferred.specs.Parts.{let_general, let_mid, let_body}
use Rattle.inferred.specs.Closing.{answer_of}
use Rattle.inferred.specs.Inferring.{state_of, ReadyI, GivesI}
use Rattle.inferred.specs.Inferred.{Inferred}
use Rattle.inferred.specs.Inferred.{Done, Refused}
use Rattle.inferred.proofs.Ends.{region_later}
use Rattle.infer.specs.Runs.{inferred_then}
use Rattle.binding.specs.General.{ReadyMid, AskedGeneral, GrownG, GivesG}
use Rattle.infer.specs.Asking.{Asked, AskedLet, AskedMid, AskedBody, ReadyBody}
use Rattle.generalize.specs.Generalized.{Generalized}
use Rattle.generalize.specs.Generalized.{Done as G-Done, Refused as G-Refused}
use Rattle.infer.proofs.Handing.{Via, handed, lost_on, got, lost}
use Rattle.binding.proofs.AfterEnv.{says_done}
use Rattle.infer.proofs.Standing.{still_kept, inferred_fit}

-- ## binding

module _ {ns w ev od il bs : List ℕ} {top left sp tv dv : ℕ} (R : ReadyI 8 0 1 ns w ev od il bs top left sp tv dv) (r : ℕ) where
  -- What the binding's inference asks.
  pub bound_asks : ReadyI 0 0 0 ns w ev od il bs top left sp tv dv
  bound_asks = let a = R.room in let b = R.rows in let c = R.tvs in record {
    names = R.names;
    built = R.built;
    table = R.table;
    scope = R.scope;
    all = R.all;
    heads = R.heads;
    room = omega arith;
    fits = R.fits;
    long = R.long;
    rows = omega arith;
    tvs = omega arith;
    dvs = R.dvs;
  }

  module _ (depth j : ℕ) {bytes ix cl mt : List ℕ} {i : ℕ} {w₁ ev₁ bs₁ : List ℕ} {q : Inferred}
      (G : GivesI (Asked bytes ns ix w cl mt il ev od top i) (λ p. M.infer_in depth p.0 p.1 (state_of ns w ev od tv dv) left) 0 0 0 ns w w₁ ev₁ od bs bs₁ top left sp tv dv q) where
    -- The outcome.
    abbrev whole : ClassEnv × Expr × Expr → Out (M.Inferred × M.State)
    whole p = inferred_then (M.infer_in depth p.0 p.1) (λ r₁. let_mid p.0 (λ u. M.infer_in depth p.0 u) (name_of ns r) r₁ p.2) (state_of ns w ev od tv dv) left

    -- The binding is refused.
    pub bound_lost : {e : Refusal} {t l : ℕ} → q ≡ Refused e t l → GivesI (AskedLet bytes ns ix w cl mt il ev od top r i j) whole 8 0 1 ns w w₁ ev₁ od bs bs₁ top left sp tv dv (Refused e t l)
    bound_lost h = lost_on (λ p A. record { at = (p.0, p.1); holds = A.two.first; rest = λ x. let_mid p.0 (λ u. M.infer_in depth p.0 u) (name_of ns r) x.0 p.2 x.1; is = record { is = refl } }) G.stands G.long (omega arith) (omega arith) (lost G h)

    module _ {t e k m t₂ l₂ tv₂ dv₂ : ℕ} (h : q ≡ Done t e k m t₂ l₂ tv₂ dv₂) (len : length w₁ ≡ length w) where
      -- The table did not shrink.
      pub bound_more : top ≤ t₂
      bound_more = (got G h).0.more

      -- What the rest asks.
      pub bound_mid : ReadyMid ns w₁ ev₁ od il bs₁ t₂ l₂ sp tv₂ dv₂ t e k m
      bound_mid =
          let g = (got G h).0 in let g1 = g.more in let g2 = g.down in let g3 = g.spent in let g4 = g.rows in let g5 = g.tvs in let g6 = g.dvs in
          let a = R.room in let b = R.rows in let c = R.tvs in let d = R.dvs in let f = R.fits in let y = R.long in let z = G.long in
          record {
            ready = record {
              names = R.names;
              built = R.built;
              table = g.words.ty.table;
              scope = g.scope;
              all = R.all;
              heads = heads_kept G.stands.low g.words.ty.table g.more R.heads;
              room = omega arith;
              fits = omega arith;
              long = omega arith;
              rows = omega arith;
              tvs = omega arith;
              dvs = omega arith;
            };
            words = g.words;
          }

      -- The outcome is the rest's.
      bound_via : (p : ClassEnv × Expr × Expr) → AskedLet bytes ns ix w cl mt il ev od top r i j p
          → Via (AskedMid bytes ns ix w₁ cl mt il ev₁ od t₂ r j (answer_of ns w₁ bs₁ sp t e k m) (state_of ns w₁ ev₁ od tv₂ dv₂))
          (λ p. let_mid p.0 (λ u. M.infer_in depth p.0 u) (name_of ns r) (answer_of ns w₁ bs₁ sp t e k m) p.1 (state_of ns w₁ ev₁ od tv₂ dv₂) l₂) (whole p)
      unfolding after
      bound_via p A =
          let g = (got G h).0 in
          let E = (got G h).1 (p.0, p.1) A.two.first in
          let F = inferred_fit depth p.0 p.1 (state_of ns w ev od tv dv) left A.two.first.made E in
          record {
            at = (p.0, p.2);
            holds = record {
              asked = record { still = still_kept G.stands.low g.words.ty.table g.more A.two.first.still; right = A.two.first.right; written = A.two.second; made = F.env };
              small = A.small;
              fit = F;
            };
            is = rw E;
          }

      -- Its answer is the answer.
      pub bound_gives : {w₂ ev₂ bs₂ : List ℕ} {c : Inferred}
          → GivesI (AskedMid bytes ns ix w₁ cl mt il ev₁ od t₂ r j (answer_of ns w₁ bs₁ sp t e k m) (state_of ns w₁ ev₁ od tv₂ dv₂))
          (λ p. let_mid p.0 (λ u. M.infer_in depth p.0 u) (name_of ns r) (answer_of ns w₁ bs₁ sp t e k m) p.1 (state_of ns w₁ ev₁ od tv₂ dv₂) l₂) (2 * k + 8) 0 m ns w₁ w₂ ev₂ od bs₁ bs₂ t₂ l₂ sp tv₂ dv₂ c
          → GivesI (AskedLet bytes ns ix w cl mt il ev od top r i j) whole 8 0 1 ns w w₂ ev₂ od bs bs₂ top left sp tv dv c
      bound_gives F =
          let g = (got G h).0 in let g1 = g.more in let g2 = g.down in let g3 = g.spent in let g4 = g.rows in let g5 = g.tvs in let g6 = g.dvs in
          handed (record { more = omega arith; fewer = omega arith; words = omega arith; rows = omega arith; tvs = omega arith; dvs = omega arith }) bound_via G.stands G.long F

-- ## let_mid

-- Applying a substitution over made variables to the environment.
env_applied : (s : Subst) → MadeSubst s → Making (λ x. Unit {0}) (M.apply_env s) (M.apply_env s)
unfolding M.apply_env M.with_env
env_applied s h st n w =
    both_then _ _ (M.apply_schemes s st.env n) _ _ _ (alone (apply_schemes_made s st.env n h)) λ env k m.
    alone (record { answers = tt; leaves = λ x. k x (w x) })

-- What generalizing gives has made variables alone.
general_made : (ce : ClassEnv) (r : M.Inferred) → MadeInferred r → Making (λ g. MadeScheme g.0 × MadePending g.2) (let_general ce r) (let_general ce r)
unfolding let_general
general_made ce r m =
    made_then _ _ (M.apply_env r.0) _ _ _ (env_applied r.0 m.0) λ _ z.
    made_lifted MadePending _ (apply_preds_pending r.0 r.2) _ _ (λ n. pending_made r.0 r.2 n m.0 m.2) λ ps k.
    made_then _ _ M.ask_env _ _ _ ask_made λ env w.
    made_lift _ _ _ (λ n. alone (generalize_made ce env r.1 ps r.3 n m.1 k))

module _ {ns w ev od il bs : List ℕ} {top left sp tv dv t e k m : ℕ} (R : ReadyMid ns w ev od il bs top left sp tv dv t e k m) (r : ℕ) where
  module _ (bytes ix cl mt : List ℕ) (depth j : ℕ) {w₁ ev₁ bs₁ : List ℕ} {g : Generalized}
      (G : GivesG (AskedGeneral ns cl w il top (answer_of ns w bs sp t e k m) (state_of ns w ev od tv dv)) (λ ce. let_general ce (answer_of ns w bs sp t e k m) (state_of ns w ev od tv dv) left) ns w w₁ ev₁ od bs bs₁ top left sp k m tv dv g) where
    -- The outcome.
    abbrev mid_whole : ClassEnv × Expr → Out (M.Inferred × M.State)
    mid_whole p = let_mid p.0 (λ u. M.infer_in depth p.0 u) (name_of ns r) (answer_of ns w bs sp t e k m) p.1 (state_of ns w ev od tv dv) left

    -- It goes on after generalizing.
    mid_then : (p : ClassEnv × Expr) → Then (mid_whole p) (let_general p.0 (answer_of ns w bs sp t e k m) (state_of ns w ev od tv dv) left) (λ x. let_body (λ u. M.infer_in depth p.0 u) (name_of ns r) (sub_at ns w (sp - 2 * k) k) x.0 p.1 x.1)
    unfolding let_mid
    mid_then p = record { is = refl }

    -- What generalizing is asked for.
    mid_asked : (p : ClassEnv × Expr) → AskedMid bytes ns ix w cl mt il ev od top r j (answer_of ns w bs sp t e k m) (state_of ns w ev od tv dv) p
        → AskedGeneral ns cl w il top (answer_of ns w bs sp t e k m) (state_of ns w ev od tv dv) p.0
    mid_asked p A = record { declared = A.asked.still.declared; fit = A.fit }

    -- It is refused.
    pub mid_lost : {q : Refusal} {t₂ l₂ : ℕ} → g ≡ G-Refused q t₂ l₂
        → GivesI (AskedMid bytes ns ix w cl mt il ev od top r j (answer_of ns w bs sp t e k m) (state_of ns w ev od tv dv)) mid_whole (2 * k + 8) 0 m ns w w₁ ev₁ od bs bs₁ top left sp tv dv (Refused q t₂ l₂)
    mid_lost h = lost_on (λ p A. record { at = p.0; holds = mid_asked p A; rest = λ x. let_body (λ u. M.infer_in depth p.0 u) (name_of ns r) (sub_at ns w (sp - 2 * k) k) x.0 p.1 x.1; is = mid_then p })
        (stands_up G.stands (omega arith)) G.long (omega arith) (omega arith) (rw h at G.answer)

    module _ {vs ps u c nd t₂ l₂ : ℕ} (h : g ≡ G-Done vs ps u c nd t₂ l₂) (len : length w₁ ≡ length w) where
      -- The scheme, the term and the deferred rows.
      mid_got : GrownG ns w₁ ev₁ od bs₁ top left m vs ps u c nd t₂ l₂ × ((ce : ClassEnv) → AskedGeneral ns cl w il top (answer_of ns w bs sp t e k m) (state_of ns w ev od tv dv) ce
          → let_general ce (answer_of ns w bs sp t e k m) (state_of ns w ev od tv dv) left ≡ done ((scheme_of_word ns w₁ vs ps u, core ns w₁ c, binders_in ns w₁ bs₁ 0 nd), state_of ns w₁ ev₁ od tv dv) l₂)
      mid_got = rw h at G.answer

      -- The table did not shrink.
      pub mid_more : top ≤ t₂
      mid_more = mid_got.0.more

      -- What the body asks.
      pub mid_body : ReadyBody ns w₁ ev₁ od il bs₁ t₂ l₂ sp tv dv k vs ps u c nd
      mid_body =
          let a = mid_got.0 in let a1 = a.more in let a2 = a.down in let a3 = a.spent in let a4 = a.few in let Q = R.ready in
          let q1 = Q.room in let q2 = Q.fits in let q3 = Q.long in let q4 = Q.rows in let q5 = Q.tvs in let q6 = Q.dvs in let z = G.long in
          record {
            ready = record {
              names = Q.names;
              built = Q.built;
              table = a.bound.table;
              scope = a.scope;
              all = Q.all;
              heads = heads_kept G.stands.low a.bound.table a1 Q.heads;
              room = omega arith;
              fits = omega arith;
              long = omega arith;
              rows = omega arith;
              tvs = omega arith;
              dvs = omega arith;
            };
            region = region_later Q.table G.stands (omega arith) a1 (omega arith) R.words.region;
            rows = a.rows;
            scheme = a.scheme;
            bound = a.bound;
          }

      -- The outcome is the body's.
      mid_via : (p : ClassEnv × Expr) → AskedMid bytes ns ix w cl mt il ev od top r j (answer_of ns w bs sp t e k m) (state_of ns w ev od tv dv) p
          → Via (AskedBody bytes ns ix w₁ cl mt il ev₁ od t₂ r j (scheme_of_word ns w₁ vs ps u))
          (λ p. let_body (λ u. M.infer_in depth p.0 u) (name_of ns r) (sub_at ns w₁ (sp - 2 * k) k) (scheme_of_word ns w₁ vs ps u, core ns w₁ c, binders_in ns w₁ bs₁ 0 nd) p.1 (state_of ns w₁ ev₁ od tv dv) l₂) (mid_whole p)
      mid_via p A =
          let a = mid_got.0 in
          let E = mid_got.1 p.0 (mid_asked p A) in
          let S = says_done _ ((scheme_of_word ns w₁ vs ps u, core ns w₁ c, binders_in ns w₁ bs₁ 0 nd), state_of ns w₁ ev₁ od tv dv) l₂ E
          (general_made p.0 (answer_of ns w bs sp t e k m) A.fit.made (state_of ns w ev od tv dv) left A.fit.env).says in
          record {
            at = p;
            holds = record {
              asked = record { still = still_kept G.stands.low a.bound.table a.more A.asked.still; right = A.asked.right; written = A.asked.written; made = S.leaves };
              small = A.small;
              scheme = S.answers.0;
            };
            is = then_done _ l₂ (mid_then p) E ∙ rw (sub_stands ns R.ready.table G.stands R.words.region.sub (omega arith));
          }

      -- Its answer is the answer.
      pub mid_gives : {w₂ ev₂ bs₂ : List ℕ} {q : Inferred}
          → GivesI (AskedBody bytes ns ix w₁ cl mt il ev₁ od t₂ r j (scheme_of_word ns w₁ vs ps u))
          (λ p. let_body (λ u. M.infer_in depth p.0 u) (name_of ns r) (sub_at ns w₁ (sp - 2 * k) k) (scheme_of_word ns w₁ vs ps u, core ns w₁ c, binders_in ns w₁ bs₁ 0 nd) p.1 (state_of ns w₁ ev₁ od tv dv) l₂)
          (2 * k + 4) 0 nd ns w₁ w₂ ev₂ od bs₁ bs₂ t₂ l₂ sp tv dv q
          → GivesI (AskedMid bytes ns ix w cl mt il ev od top r j (answer_of ns w bs sp t e k m) (state_of ns w ev od tv dv)) mid_whole (2 * k + 8) 0 m ns w w₂ ev₂ od bs bs₂ top left sp tv dv q
      mid_gives F =
          let a = mid_got.0 in let a1 = a.more in let a2 = a.down in let a3 = a.spent in let a4 = a.few in
          handed (record { more = omega arith; fewer = omega arith; words = omega arith; rows = omega arith; tvs = omega arith; dvs = omega arith }) mid_via (stands_up G.stands (omega arith)) G.long F
