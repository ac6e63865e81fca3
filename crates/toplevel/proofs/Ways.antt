-- The ways out of `let_general`, `let_typed`, `let_after` and `process_let`.
use mathlib.Core.Path.{◌≡◌, refl, ◌∙◌}
use mathlib.Core.List.{List}
use Prim.Native.Nat.{ℕ, ◌+◌, ◌*◌, ◌-◌, ◌<◌, ◌≤◌}
use native.Mathlib.Omega.{arith}
use lib.ListN.{length}
use Rattle.meaning.specs.Ast.{Expr}
use Rattle.meaning.specs.Budget.{done, after}
use Rattle.meaning.specs.Subst.{apply_type, apply_preds_pending}
use Rattle.meaning.specs.Classes.{ClassEnv}
use Rattle.meaning.specs.Generalize.{generalize_binding}
use Rattle.meaning.specs.Infer as M
use Rattle.meaning.specs.Declare.{process_let_decl}
use Rattle.names.specs.Names.{name_of}
use Rattle.ast.specs.Table.{tree}
use Rattle.ast.proofs.Laws.{kept_tree}
use Rattle.errors.specs.declared.Refusal.{Refusal}
use Rattle.pairs.specs.Pairs.{sub_at}
use Rattle.pairs.proofs.Frames.{stands_up}
use Rattle.apply.specs.Region.{Gives}
use Rattle.apply.specs.Applied.{Applied}
use Rattle.apply.specs.Applied.{Done as A-Done, Refused as A-Refused}
use Rattle.apply.proofs.Hand.{Then, then_done, refuse_on}
use Rattle.cores.specs.Terms.{core}
use Rattle.supers.specs.Rows.{binders_in}
use Rattle.instances.proofs.Held.{heads_kept}
use Rattle.subst.specs.Schemes.{scheme_of_word}
use Rattle.scope.specs.Scope.{env_of}
use Rattle.scope.proofs.Laws.{scope_kept, env_kept}
use Rattle.pending.specs.Swept.{GivesRows}
use Rattle.pending.specs.Swept.{Swept}
use Rattle.pending.specs.Swept.{Done as S-Done, Refused as S-Refused}
use Rattle.generalize.specs.Generalizes.{ReadyGeneralize, Known, Generalizes, GivesGeneralized}
use Rattle.generalize.specs.Generalized.{Generalized}
use Rattle.generalize.specs.Generalized.{Done as G-Done, Refused as G-Refused}
use Rattle.inferred.specs.Closing.{answer_of}
use Rattle.inferred.specs.Inferring.{state_of, ReadyI, GrownI, GivesI}
use Rattle.inferred.specs.Inferred.{Inferred}
use Rattle.inferred.specs.Inferred.{Done as I-Done, Refused as I-Refused}
use Rattle.compose.proofs.Hand.{after-after}
use Rattle.inferred.proofs.Ends.{rows_same}
use Rattle.binding.specs.General.{AskedGeneral}
use Rattle.infer.specs.Asking.{Asked}
use Rattle.resolve.proofs.Goals.{declared_kept}
use Rattle.toplevel.specs.Parts.{let_put, let_end, let_general, let_typed, let_after}
use Rattle.toplevel.specs.Tops.{Nothing, ReadyRest, ReadyEnd, EndsB, GivesB}
use Rattle.toplevel.specs.Bound.{Bound}
use Rattle.toplevel.specs.Bound.{Refused}
use Rattle.infer.proofs.Standing.{inferred_fit}
use Rattle.toplevel.proofs.Moves.{swept, rows_moved, typed, type_moved}
use Rattle.toplevel.proofs.Puts.{bound_handed, bound_ended}

-- ## let_general, let_typed, let_after

module _ {ns w ev od il bs : List ℕ} {top left sp tv dv t e k m : ℕ} (R : ReadyRest ns w ev od il bs top left sp tv dv t e k m) (x : ℕ) (there : x < length od) (cl : List ℕ) where
  -- The class environments that are asked for.
  abbrev rest_of : ClassEnv → Type 0
  rest_of = AskedGeneral ns cl w il top (answer_of ns w bs sp t e k m) (state_of ns w ev od tv dv)

  -- What `generalize` asks.
  pub general_asks : ReadyGeneralize ns w il ev od bs top left (sp - 2 * k) m t e
  general_asks = let Q = R.ready in let q1 = Q.room in let q2 = Q.fits in record {
    settle = record { names = Q.names; scope = Q.scope; heads = Q.heads; rows = R.words.pending; type = R.words.ty; term = R.words.term; room = omega arith; fits = omega arith };
    built = Q.built;
  }

  -- What it is asked for.
  general_known : (ce : ClassEnv) → rest_of ce → Known ns cl w top il (binders_in ns w bs 0 m) (tree ns w t) (core ns w e) (env_of ns w ev od) ce
  general_known ce A = let F = A.fit in record {
    asked = record { declared = A.declared; lo = F.lo; hi = F.hi; named = F.named };
    type = F.made.1;
    pending = F.made.2;
    schemes = F.env;
  }

  -- It comes first.
  general_first : (ce : ClassEnv) → Then (let_general ce (name_of ns x) (answer_of ns w bs sp t e k m) (state_of ns w ev od tv dv) left)
      (generalize_binding ce (env_of ns w ev od) (tree ns w t) (binders_in ns w bs 0 m) (core ns w e) left) (λ g. let_end (name_of ns x) g.0 g.2 (state_of ns w ev od tv dv))
  unfolding let_general after
  general_first ce = record { is = after-after (generalize_binding ce (env_of ns w ev od) (tree ns w t) (binders_in ns w bs 0 m) (core ns w e) left) _ _ }

  module _ {w₁ bs₁ : List ℕ} {g : Generalized} (G : GivesGeneralized ns cl w w₁ il ev od bs bs₁ top left (sp - 2 * k) m t e g) where
    -- It is refused.
    pub general_lost : {q : Refusal} {t₂ l₂ : ℕ} → g ≡ G-Refused q t₂ l₂
        → GivesB rest_of (λ ce. let_general ce (name_of ns x) (answer_of ns w bs sp t e k m) (state_of ns w ev od tv dv) left) ns w w₁ ev od bs bs₁ top left sp tv dv (Refused q t₂ l₂)
    general_lost h = record { stands = stands_up G.stands (omega arith); long = G.long; answer = λ ce A. refuse_on (general_first ce) ((rw h at G.answer) ce (general_known ce A)) (omega arith) (omega arith) }

    module _ {vs ps u c nd t₂ l₂ : ℕ} (h : g ≡ G-Done vs ps u c nd t₂ l₂) where
      -- What it gave.
      general_got : Generalizes ns cl w w₁ il ev od bs bs₁ top left m t e vs ps u c nd t₂ l₂
      general_got = rw h at G.answer

      -- What the end asks.
      pub general_ends : ReadyEnd ns w₁ ev od bs₁ t₂ x vs ps u nd
      general_ends = let g = general_got in record {
        put = record { names = R.ready.names; scope = scope_kept R.ready.scope G.stands.low g.more g.held.vars.table; held = g.held; there = there };
        rows = g.late;
      }

      -- Its answer is the answer.
      pub general_gives : {ev' : List ℕ} {r : Bound} → EndsB Nothing (λ _. let_end (name_of ns x) (scheme_of_word ns w₁ vs ps u) (binders_in ns w₁ bs₁ 0 nd) (state_of ns w₁ ev od tv dv) l₂) ns w₁ ev' od t₂ l₂ tv dv r
          → GivesB rest_of (λ ce. let_general ce (name_of ns x) (answer_of ns w bs sp t e k m) (state_of ns w ev od tv dv) left) ns w w₁ ev' od bs bs₁ top left sp tv dv r
      general_gives F = let g = general_got in let g1 = g.more in let g2 = g.down in let g3 = g.spent in
          bound_ended (record { more = omega arith; fewer = omega arith; words = omega arith; tvs = omega arith; dvs = omega arith })
          (λ ce A. record { at = tt {0}; holds = tt {0}; is = then_done _ l₂ (general_first ce) (g.is ce (general_known ce A)) ∙ rw (env_kept R.ready.scope G.stands.low) })
          (stands_up G.stands (omega arith)) G.long F

  -- The type comes first.
  typed_first : (ce : ClassEnv) → Then (let_typed ce (name_of ns x) (answer_of ns w bs sp t e k m) (state_of ns w ev od tv dv) left) (apply_type (sub_at ns w (sp - 2 * k) k) (tree ns w t) left)
      (λ u. let_general ce (name_of ns x) (sub_at ns w (sp - 2 * k) k, u, binders_in ns w bs 0 m, core ns w e) (state_of ns w ev od tv dv))
  unfolding let_typed after
  typed_first ce = record { is = after-after (apply_type (sub_at ns w (sp - 2 * k) k) (tree ns w t) left) _ _ }

  module _ {w₁ : List ℕ} {a : Applied} (G : Gives (tree ns w₁) (4 * top + 8 * left - 4) ns w w₁ top left (apply_type (sub_at ns w (sp - 2 * k) k) (tree ns w t) left) a) where
    -- It is refused.
    pub typed_lost : {q : Refusal} {t₂ l₂ : ℕ} → a ≡ A-Refused q t₂ l₂
        → GivesB rest_of (λ ce. let_typed ce (name_of ns x) (answer_of ns w bs sp t e k m) (state_of ns w ev od tv dv) left) ns w w₁ ev od bs bs top left sp tv dv (Refused q t₂ l₂)
    typed_lost h = let z = R.ready.room in record { stands = stands_up G.stands (omega arith); long = refl; answer = λ ce A. refuse_on (typed_first ce) (rw h at G.answer) (omega arith) (omega arith) }

    -- The rest's answer is the answer.
    pub typed_gives : {u t₂ l₂ : ℕ} → a ≡ A-Done u t₂ l₂ → length w₁ ≡ length w → {w₂ ev₂ bs₂ : List ℕ} {r : Bound}
        → GivesB (AskedGeneral ns cl w₁ il t₂ (answer_of ns w₁ bs sp u e k m) (state_of ns w₁ ev od tv dv)) (λ ce. let_general ce (name_of ns x) (answer_of ns w₁ bs sp u e k m) (state_of ns w₁ ev od tv dv) l₂) ns w₁ w₂ ev₂ od bs bs₂ t₂ l₂ sp tv dv r
        → GivesB rest_of (λ ce. let_typed ce (name_of ns x) (answer_of ns w bs sp t e k m) (state_of ns w ev od tv dv) left) ns w w₂ ev₂ od bs bs₂ top left sp tv dv r
    typed_gives {l₂ = l₂} h len F = let Z = type_moved R G h len in let v1 = Z.more in let v2 = Z.down in let v3 = Z.spent in
        bound_handed (record { more = v1; fewer = v2; words = v3; tvs = omega arith; dvs = omega arith })
        (λ ce A. record { at = ce; holds = Z.asked cl ce A; is = then_done _ l₂ (typed_first ce) (typed R G h len).0 ∙ rw (Z.sub, Z.term, Z.env, rows_same ns Z.stands.low R.words.pending 0 m (omega arith)) })
        Z.stands Z.wide F

  -- The rows come first.
  after_first : (ce : ClassEnv) → Then (let_after ce (name_of ns x) (answer_of ns w bs sp t e k m) (state_of ns w ev od tv dv) left) (apply_preds_pending (sub_at ns w (sp - 2 * k) k) (binders_in ns w bs 0 m) left)
      (λ ps. let_typed ce (name_of ns x) (sub_at ns w (sp - 2 * k) k, tree ns w t, ps, core ns w e) (state_of ns w ev od tv dv))
  unfolding let_after after
  after_first ce = record { is = after-after (apply_preds_pending (sub_at ns w (sp - 2 * k) k) (binders_in ns w bs 0 m) left) _ _ }

  module _ {w₁ bs₁ : List ℕ} {s : Swept} (G : GivesRows ns w w₁ bs bs₁ top left (sp - 2 * k) k m s) (wide : length bs₁ ≡ length bs) where
    -- They are refused.
    pub after_lost : {q : Refusal} {t₂ l₂ : ℕ} → s ≡ S-Refused q t₂ l₂
        → GivesB rest_of (λ ce. let_after ce (name_of ns x) (answer_of ns w bs sp t e k m) (state_of ns w ev od tv dv) left) ns w w₁ ev od bs bs₁ top left sp tv dv (Refused q t₂ l₂)
    after_lost h = let z = R.ready.room in record { stands = stands_up G.gives.stands (omega arith); long = wide; answer = λ ce A. refuse_on (after_first ce) (rw h at G.gives.answer) (omega arith) (omega arith) }

    -- The rest's answer is the answer.
    pub after_gives : {t₂ l₂ : ℕ} → s ≡ S-Done t₂ l₂ → length w₁ ≡ length w → {w₂ ev₂ bs₂ : List ℕ} {r : Bound}
        → GivesB (AskedGeneral ns cl w₁ il t₂ (answer_of ns w₁ bs₁ sp t e k m) (state_of ns w₁ ev od tv dv)) (λ ce. let_typed ce (name_of ns x) (answer_of ns w₁ bs₁ sp t e k m) (state_of ns w₁ ev od tv dv) l₂) ns w₁ w₂ ev₂ od bs₁ bs₂ t₂ l₂ sp tv dv r
        → GivesB rest_of (λ ce. let_after ce (name_of ns x) (answer_of ns w bs sp t e k m) (state_of ns w ev od tv dv) left) ns w w₂ ev₂ od bs bs₂ top left sp tv dv r
    after_gives {l₂ = l₂} h len F = let Z = rows_moved R G wide h len in let v1 = Z.more in let v2 = Z.down in let v3 = Z.spent in
        bound_handed (record { more = v1; fewer = v2; words = v3; tvs = omega arith; dvs = omega arith })
        (λ ce A. record { at = ce; holds = Z.asked cl ce A; is = then_done _ l₂ (after_first ce) (swept R G wide h len).is ∙ rw (Z.sub, Z.term, Z.env, kept_tree ns Z.stands.low R.words.ty) })
        Z.stands Z.wide F

-- ## process_let

module _ {ns w ev od il bs : List ℕ} {top left sp tv dv : ℕ} (R : ReadyI 0 0 0 ns w ev od il bs top left sp tv dv) (x : ℕ) {bytes ix cl mt : List ℕ} {i : ℕ} {w₁ ev₁ bs₁ : List ℕ} {q : Inferred}
    (G : GivesI (Asked bytes ns ix w cl mt il ev od top i) (λ p. M.infer_in 256 p.0 p.1 (state_of ns w ev od tv dv) left) 0 0 0 ns w w₁ ev₁ od bs bs₁ top left sp tv dv q) where
  -- The inference comes first.
  let_first : (p : ClassEnv × Expr) → Then (process_let_decl p.0 (name_of ns x) p.1 (state_of ns w ev od tv dv) left) (M.infer_in 256 p.0 p.1 (state_of ns w ev od tv dv) left) (λ r. let_after p.0 (name_of ns x) r.0 r.1)
  unfolding process_let_decl let_after let_typed let_general let_end let_put
  let_first p = record { is = refl }

  -- It is refused.
  pub let_lost : {y : Refusal} {t₂ l₂ : ℕ} → q ≡ I-Refused y t₂ l₂
      → GivesB (Asked bytes ns ix w cl mt il ev od top i) (λ p. process_let_decl p.0 (name_of ns x) p.1 (state_of ns w ev od tv dv) left) ns w w₁ ev₁ od bs bs₁ top left sp tv dv (Refused y t₂ l₂)
  let_lost h = record { stands = G.stands; long = G.long; answer = λ p A. refuse_on (let_first p) ((rw h at G.answer) p A) (omega arith) (omega arith) }

  module _ {t e k m t₂ l₂ tv₂ dv₂ : ℕ} (h : q ≡ I-Done t e k m t₂ l₂ tv₂ dv₂) where
    -- What was inferred.
    pub let_got : GrownI 0 0 0 ns w₁ ev₁ od bs₁ top left sp tv dv t e k m t₂ l₂ tv₂ dv₂
        × ((p : ClassEnv × Expr) → Asked bytes ns ix w cl mt il ev od top i p → M.infer_in 256 p.0 p.1 (state_of ns w ev od tv dv) left ≡ done (answer_of ns w₁ bs₁ sp t e k m, state_of ns w₁ ev₁ od tv₂ dv₂) l₂)
    let_got = rw h at G.answer

    -- What the rest asks.
    pub let_rest : length w₁ ≡ length w → ReadyRest ns w₁ ev₁ od il bs₁ t₂ l₂ sp tv₂ dv₂ t e k m
    let_rest len =
        let g = let_got.0 in let g1 = g.more in let g2 = g.down in let g3 = g.spent in let g4 = g.rows in let g5 = g.tvs in let g6 = g.dvs in
        let a = R.room in let b = R.rows in let c = R.tvs in let d = R.dvs in let f = R.fits in let y = R.long in let z = G.long in
        record {
          ready = record {
            names = R.names;
            built = R.built;
            table = g.words.ty.table;
            scope = g.scope;
            all = R.all;
            heads = heads_kept G.stands.low g.words.ty.table g1 R.heads;
            room = omega arith;
            fits = omega arith;
            long = omega arith;
            rows = omega arith;
            tvs = omega arith;
            dvs = omega arith;
          };
          words = g.words;
        }

    -- A name of the file has a row.
    pub let_there : x < 1_059 → x < length od
    let_there s = let a = R.all in omega arith

    -- The table did not shrink.
    pub let_more : top ≤ t₂
    let_more = let_got.0.more

    -- What is asked of the rest.
    pub let_asked : (p : ClassEnv × Expr) → Asked bytes ns ix w cl mt il ev od top i p → AskedGeneral ns cl w₁ il t₂ (answer_of ns w₁ bs₁ sp t e k m) (state_of ns w₁ ev₁ od tv₂ dv₂) p.0
    let_asked p A = let g = let_got.0 in record {
      declared = declared_kept G.stands.low g.words.ty.table g.more A.still.declared;
      fit = inferred_fit 256 p.0 p.1 (state_of ns w ev od tv dv) left A.made (let_got.1 p A);
    }

    -- The rest's answer is the answer.
    pub let_gives : {w₂ ev₂ bs₂ : List ℕ} {r : Bound}
        → GivesB (AskedGeneral ns cl w₁ il t₂ (answer_of ns w₁ bs₁ sp t e k m) (state_of ns w₁ ev₁ od tv₂ dv₂)) (λ ce. let_after ce (name_of ns x) (answer_of ns w₁ bs₁ sp t e k m) (state_of ns w₁ ev₁ od tv₂ dv₂) l₂) ns w₁ w₂ ev₂ od bs₁ bs₂ t₂ l₂ sp tv₂ dv₂ r
        → GivesB (Asked bytes ns ix w cl mt il ev od top i) (λ p. process_let_decl p.0 (name_of ns x) p.1 (state_of ns w ev od tv dv) left) ns w w₂ ev₂ od bs bs₂ top left sp tv dv r
    let_gives F =
        let g = let_got.0 in let g1 = g.more in let g2 = g.down in let g3 = g.spent in let g5 = g.tvs in let g6 = g.dvs in
        bound_handed (record { more = omega arith; fewer = omega arith; words = omega arith; tvs = omega arith; dvs = omega arith })
        (λ p A. record { at = p.0; holds = let_asked p A; is = then_done _ l₂ (let_first p) (let_got.1 p A) }) G.stands G.long F
