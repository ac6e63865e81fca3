-- The ways out of `general`: the environment first, and then the rest.
use mathlib.Core.Path.{◌≡◌, refl, ◌∙◌}
use mathlib.Core.List.{List}
use Prim.Native.Nat.{ℕ, ◌+◌, ◌*◌, ◌-◌, ◌≤◌}
use native.Mathlib.Omega.{arith}
use lib.ListN.{length}
use Rattle.meaning.specs.Ast.{Scheme, Core}
use Rattle.meaning.specs.Budget.{Out, done}
use Rattle.meaning.specs.Classes.{ClassEnv}
use Rattle.meaning.specs.Generalize.{Pending}
use Rattle.meaning.specs.Infer as M
use Rattle.theorems.proofs.Says.{Says, Any}
use Rattle.theorems.proofs.Made.{MadeSubst, MadeEnv}
use Rattle.theorems.proofs.MadeSchemes.{apply_schemes_made}
use Rattle.ast.proofs.Laws.{kept_tree, node_more}
use Rattle.errors.specs.declared.Refusal.{Refusal}
use Rattle.pairs.specs.Pairs.{sub_at, Stands}
use Rattle.pairs.proofs.Frames.{stands_then, stands_up, sub_stands}
use Rattle.apply.proofs.Hand.{Then, then_done, refuse_on, refuse_same}
use Rattle.cores.proofs.TermLaws.{kept_core}
use Rattle.instances.proofs.Held.{heads_kept}
use Rattle.resolve.proofs.Goals.{declared_kept}
use Rattle.scope.specs.Scope.{env_of}
use Rattle.scope.specs.Sweeps.{ReadyEnv, EnvDone, GivesEnv}
use Rattle.scope.specs.Swept.{Swept}
use Rattle.scope.specs.Swept.{Done as S-Done, Refused as S-Refused}
use Rattle.scope.proofs.States.{scope_applies, scope_refuses}
use Rattle.generalize.specs.Generalized.{Generalized}
use Rattle.generalize.specs.Generalized.{Done, Refused}
use Rattle.inferred.specs.Parts.{let_general}
use Rattle.inferred.specs.Closing.{answer_of}
use Rattle.inferred.specs.Inferring.{state_of}
use Rattle.inferred.proofs.Ends.{rows_later, rows_same, region_later}
use Rattle.binding.specs.General.{ReadyMid, AskedGeneral, AnswerG, GivesG}
use Rattle.binding.specs.Rest.{general_rest}

-- What holds of an outcome that is an answer.
pub says_done : {A : Type 0} (P : A → Type 0) {o : Out A} (a : A) (n : ℕ) → o ≡ done a n → Says P Any o → P a
says_done P a n e h = rw e at h

-- An answer for a caller that began with no larger table, no fewer steps and no fewer words, and that is asked no more.
pub general_answer : (Of Of' : ClassEnv → Type 0) (o o' : ClassEnv → Out ((Scheme × Core × Pending) × M.State)) (ns w ev od bs : List ℕ) (top left t l m tv dv : ℕ) (r : Generalized)
    → ((ce : ClassEnv) → Of ce → Of' ce) → ((ce : ClassEnv) → Of ce → o ce ≡ o' ce) → top ≤ t → l ≤ left → 4 * t + 8 * l ≤ 4 * top + 8 * left
    → AnswerG Of' o' ns w ev od bs t l m tv dv r → AnswerG Of o ns w ev od bs top left m tv dv r
general_answer Of Of' o o' ns w ev od bs top left t l m tv dv (Done vs ps u c nd t' l') f e more down less a =
    let g = a.0 in let x = g.more in let y = g.down in let z = g.spent in
    (record { scheme = g.scheme; bound = g.bound; scope = g.scope; rows = g.rows; few = g.few; more = omega arith; down = omega arith; spent = omega arith }, λ ce A. e ce A ∙ a.1 ce (f ce A))
general_answer Of Of' o o' ns w ev od bs top left t l m tv dv (Refused q t' l') f e more down less a = λ ce A. refuse_same (e ce A) (a ce (f ce A)) more down

module _ {ns w ev od il bs : List ℕ} {top left sp tv dv t e k m : ℕ} (R : ReadyMid ns w ev od il bs top left sp tv dv t e k m) where
  -- What `apply_env` asks.
  pub env_asks : ReadyEnv ns w ev od top left (sp - 2 * k) k
  env_asks = let z = R.ready.room in record { names = R.ready.names; table = R.ready.table; room = omega arith; sub = R.words.region.sub; scope = R.ready.scope }

  -- The class environments that are asked for.
  abbrev EnvOf : List ℕ → ClassEnv → Type 0
  EnvOf cl = AskedGeneral ns cl w il top (answer_of ns w bs sp t e k m) (state_of ns w ev od tv dv)

  -- The outcome.
  abbrev env_whole : ClassEnv → Out ((Scheme × Core × Pending) × M.State)
  env_whole ce = let_general ce (answer_of ns w bs sp t e k m) (state_of ns w ev od tv dv) left

  module _ (cl : List ℕ) {w₁ ev₁ : List ℕ} {s : Swept} (G : GivesEnv ns w w₁ ev ev₁ od top left (M.apply_schemes (sub_at ns w (sp - 2 * k) k) (env_of ns w ev od) left) s) where
    -- The environment first.
    env_first : (ce : ClassEnv) → Then (env_whole ce) (M.apply_env (sub_at ns w (sp - 2 * k) k) (state_of ns w ev od tv dv) left) (λ x. general_rest ce (answer_of ns w bs sp t e k m) x.1)
    unfolding let_general general_rest
    env_first ce = record { is = refl }

    -- It is refused.
    pub env_lost : {q : Refusal} {t' l' : ℕ} → s ≡ S-Refused q t' l' → GivesG (EnvOf cl) env_whole ns w w₁ ev₁ od bs bs top left sp k m tv dv (Refused q t' l')
    env_lost h = let z = R.ready.room in record {
      stands = stands_up G.stands (omega arith);
      long = refl;
      answer = λ ce A. refuse_on (env_first ce) (scope_refuses (sub_at ns w (sp - 2 * k) k) G (state_of ns w ev od tv dv) refl h) (omega arith) (omega arith);
    }

    module _ {t₂ l₂ : ℕ} (h : s ≡ S-Done t₂ l₂) (len : length w₁ ≡ length w) where
      -- The environment's rows.
      env_done : EnvDone ns w₁ ev₁ od top left (M.apply_schemes (sub_at ns w (sp - 2 * k) k) (env_of ns w ev od) left) t₂ l₂
      env_done = rw h at G.answer

      -- The table did not shrink.
      pub env_more : top ≤ t₂
      env_more = env_done.more

      -- What was older stands.
      env_stands : Stands w w₁ top (sp - 2 * k)
      env_stands = let z = R.ready.room in stands_up G.stands (omega arith)

      -- What the rest asks.
      pub env_ready : ReadyMid ns w₁ ev₁ od il bs t₂ l₂ sp tv dv t e k m
      env_ready =
          let D = env_done in let d1 = D.more in let d2 = D.spent in let d3 = D.down in let Q = R.ready in let W = R.words in
          let q1 = Q.room in let q2 = Q.fits in let q3 = Q.long in let q4 = Q.rows in let q5 = Q.tvs in let q6 = Q.dvs in
          record {
            ready = record {
              names = Q.names;
              built = Q.built;
              table = D.table;
              scope = D.scope;
              all = Q.all;
              heads = heads_kept G.stands.low D.table d1 Q.heads;
              room = omega arith;
              fits = omega arith;
              long = omega arith;
              rows = omega arith;
              tvs = omega arith;
              dvs = omega arith;
            };
            words = record {
              ty = node_more D.table d1 W.ty;
              term = node_more D.table d1 W.term;
              region = region_later Q.table env_stands (omega arith) d1 (omega arith) W.region;
              pending = rows_later D.table d1 W.pending;
            };
          }

      -- What was inferred is the same.
      env_same : answer_of ns w₁ bs sp t e k m ≡ answer_of ns w bs sp t e k m
      env_same = let K = env_stands in let W = R.words in
          rw (sub_stands ns R.ready.table K W.region.sub (omega arith), kept_tree ns K.low W.ty, kept_core ns K.low W.term, rows_same ns K.low W.pending 0 m (omega arith))

      -- The environment has made variables alone, as before.
      env_made : MadeSubst (sub_at ns w (sp - 2 * k) k) → MadeEnv (env_of ns w ev od) → MadeEnv (env_of ns w₁ ev₁ od)
      env_made ms me x = says_done _ (env_of ns w₁ ev₁ od) l₂ env_done.is (apply_schemes_made (sub_at ns w (sp - 2 * k) k) (env_of ns w ev od) left ms) x (me x)

      -- So what was asked is asked of the rest.
      env_asked : (ce : ClassEnv) → EnvOf cl ce → AskedGeneral ns cl w₁ il t₂ (answer_of ns w₁ bs sp t e k m) (state_of ns w₁ ev₁ od tv dv) ce
      env_asked ce A = let D = env_done in let F = A.fit in record {
        declared = declared_kept G.stands.low D.table D.more A.declared;
        fit = rw env_same (record { made = F.made; env = env_made F.made.0 F.env; lo = F.lo; hi = F.hi; named = F.named });
      }

      -- The outcome is that of the rest.
      env_then : (ce : ClassEnv) → env_whole ce ≡ general_rest ce (answer_of ns w₁ bs sp t e k m) (state_of ns w₁ ev₁ od tv dv) l₂
      unfolding M.with_env
      env_then ce = then_done _ l₂ (env_first ce) (scope_applies (sub_at ns w (sp - 2 * k) k) G (state_of ns w ev od tv dv) refl h) ∙ rw env_same

      -- Its answer is the answer.
      pub env_gives : {w₂ bs₂ : List ℕ} {r : Generalized}
          → GivesG (AskedGeneral ns cl w₁ il t₂ (answer_of ns w₁ bs sp t e k m) (state_of ns w₁ ev₁ od tv dv)) (λ ce. general_rest ce (answer_of ns w₁ bs sp t e k m) (state_of ns w₁ ev₁ od tv dv) l₂) ns w₁ w₂ ev₁ od bs bs₂ t₂ l₂ sp k m tv dv r
          → GivesG (EnvOf cl) env_whole ns w w₂ ev₁ od bs bs₂ top left sp k m tv dv r
      env_gives {w₂} {bs₂} {r} F = let D = env_done in let d1 = D.more in let d2 = D.spent in let d3 = D.down in record {
        stands = stands_then env_stands F.stands d1;
        long = F.long;
        answer = general_answer _ _ _ _ ns w₂ ev₁ od bs₂ top left t₂ l₂ m tv dv r env_asked (λ ce A. env_then ce) d1 d3 d2 F.answer;
      }
