-- The ways out of `app` and `app_arg`.
use mathlib.Core.Path.{◌≡◌, refl, ◌∙◌}
use mathlib.Core.List.{List}
use Prim.Native.Nat.{ℕ, ◌+◌, ◌*◌, ◌-◌, ◌≤◌}
use native.Mathlib.Omega.{arith}
use lib.ListN.{length, drop, length-drop}
use Rattle.meaning.specs.Ast.{Expr}
use Rattle.meaning.specs.Budget.{Out, after}
use Rattle.meaning.specs.Classes.{ClassEnv}
use Rattle.meaning.specs.Infer as M
use Rattle.theorems.proofs.Made.{MadeSubst, MadeEnv}
use Rattle.theorems.proofs.MadeSchemes.{apply_schemes_made}
use Rattle.names.specs.Names.{first_fresh, tyvar_of}
use Rattle.ast.proofs.Laws.{kept_tree, node_more}
use Rattle.errors.specs.declared.Refusal.{Refusal}
use Rattle.pairs.specs.Pairs.{sub_at, Stands}
use Rattle.pairs.proofs.Frames.{stands_then, stands_up, sub_stands}
use Rattle.apply.proofs.Hand.{Then, then_done}
use Rattle.cores.proofs.TermLaws.{kept_core}
use Rattle.instances.proofs.Held.{heads_kept}
use Rattle.scope.specs.Scope.{env_of}
use Rattle.scope.specs.Sweeps.{ReadyEnv, EnvDone, GivesEnv}
use Rattle.scope.specs.Swept.{Swept}
use Rattle.scope.specs.Swept.{Done as S-Done, Refused as S-Refused}
use Rattle.scope.proofs.States.{scope_applies, scope_refuses}
use Rattle.pending.specs.Rows.{PendingRows}
use Rattle.inferred.specs.Parts.{app_arg}
use Rattle.inferred.specs.Closing.{answer_of, answer_from}
use Rattle.inferred.specs.Inferring.{state_of, GrownI, ReadyI, GivesI}
use Rattle.inferred.specs.Inferred.{Inferred}
use Rattle.inferred.specs.Inferred.{Done, Refused}
use Rattle.inferred.proofs.Ends.{rows_same, region_later}
use Rattle.infer.specs.Runs.{Nothing, inferred_then, closed_app}
use Rattle.infer.specs.Asking.{Asked, AskedTwo, AskedAfter, ReadyArg, ReadyAppEnd, GivesO}
use Rattle.infer.proofs.Handing.{Via, handed, lost_on, got, lost}
use Rattle.binding.proofs.AfterEnv.{says_done}
use Rattle.infer.proofs.Standing.{still_kept, inferred_fit, rows_from, rows_both, rows_stand}

-- ## app

module _ {ns w ev od il bs : List ℕ} {top left sp tv dv : ℕ} (R : ReadyI 8 1 1 ns w ev od il bs top left sp tv dv) where
  -- What the function's inference asks.
  pub first_asks : ReadyI 0 0 0 ns w ev od il bs top left sp (tv + 1) dv
  first_asks = let a = R.room in let b = R.rows in let c = R.tvs in record {
    names = R.names;
    built = R.built;
    table = R.table;
    scope = R.scope;
    all = R.all;
    heads = R.heads;
    room = omega arith;
    fits = R.fits;
    long = R.long;
    rows = omega arith;
    tvs = omega arith;
    dvs = R.dvs;
  }

  module _ (depth j : ℕ) {bytes ix cl mt : List ℕ} {i : ℕ} {w₁ ev₁ bs₁ : List ℕ} {q : Inferred}
      (G : GivesI (Asked bytes ns ix w cl mt il ev od top i) (λ p. M.infer_in depth p.0 p.1 (state_of ns w ev od (tv + 1) dv) left) 0 0 0 ns w w₁ ev₁ od bs bs₁ top left sp (tv + 1) dv q) where
    -- The outcome.
    abbrev app_whole : ClassEnv × Expr × Expr → Out (M.Inferred × M.State)
    app_whole p = inferred_then (M.infer_in depth p.0 p.1) (λ r. app_arg (λ u. M.infer_in depth p.0 u) (tyvar_of ns (first_fresh + tv)) r p.2) (state_of ns w ev od (tv + 1) dv) left

    -- The function is refused.
    pub app_lost : {e : Refusal} {t l : ℕ} → q ≡ Refused e t l → GivesI (AskedTwo bytes ns ix w cl mt il ev od top i j) app_whole 8 1 1 ns w w₁ ev₁ od bs bs₁ top left sp tv dv (Refused e t l)
    app_lost h = lost_on (λ p A. record { at = (p.0, p.1); holds = A.first; rest = λ x. app_arg (λ u. M.infer_in depth p.0 u) (tyvar_of ns (first_fresh + tv)) x.0 p.2 x.1; is = record { is = refl } }) G.stands G.long (omega arith) (omega arith) (lost G h)

    module _ {t e k m t₂ l₂ tv₂ dv₂ : ℕ} (h : q ≡ Done t e k m t₂ l₂ tv₂ dv₂) (len : length w₁ ≡ length w) where
      -- The table did not shrink.
      pub app_more : top ≤ t₂
      app_more = (got G h).0.more

      -- What the argument asks.
      pub app_asks : ReadyArg ns w₁ ev₁ od il bs₁ t₂ l₂ sp tv₂ dv₂ t e k m (first_fresh + tv)
      app_asks =
          let g = (got G h).0 in let g1 = g.more in let g2 = g.down in let g3 = g.spent in let g4 = g.rows in let g5 = g.tvs in let g6 = g.dvs in
          let a = R.room in let b = R.rows in let c = R.tvs in let d = R.dvs in let f = R.fits in let y = R.long in let z = G.long in
          record {
            ready = record {
              names = R.names;
              built = R.built;
              table = g.words.ty.table;
              scope = g.scope;
              all = R.all;
              heads = heads_kept G.stands.low g.words.ty.table g.more R.heads;
              room = omega arith;
              fits = omega arith;
              long = omega arith;
              rows = omega arith;
              tvs = omega arith;
              dvs = omega arith;
            };
            words = g.words;
            variable = omega arith;
          }

      -- The outcome is the argument's.
      app_via : (p : ClassEnv × Expr × Expr) → AskedTwo bytes ns ix w cl mt il ev od top i j p
          → Via (AskedAfter bytes ns ix w₁ cl mt il ev₁ od t₂ j (sub_at ns w₁ (sp - 2 * k) k))
          (λ p. app_arg (λ u. M.infer_in depth p.0 u) (tyvar_of ns (first_fresh + tv)) (answer_of ns w₁ bs₁ sp t e k m) p.1 (state_of ns w₁ ev₁ od tv₂ dv₂) l₂) (app_whole p)
      unfolding after
      app_via p A =
          let g = (got G h).0 in
          let E = (got G h).1 (p.0, p.1) A.first in
          let F = inferred_fit depth p.0 p.1 (state_of ns w ev od (tv + 1) dv) left A.first.made E in
          record {
            at = (p.0, p.2);
            holds = record {
              asked = record { still = still_kept G.stands.low g.words.ty.table g.more A.first.still; right = A.first.right; written = A.second; made = F.env };
              sub = F.made.0;
            };
            is = rw E;
          }

      -- Its answer is the answer.
      pub app_gives : {w₂ ev₂ bs₂ : List ℕ} {c : Inferred}
          → GivesI (AskedAfter bytes ns ix w₁ cl mt il ev₁ od t₂ j (sub_at ns w₁ (sp - 2 * k) k))
          (λ p. app_arg (λ u. M.infer_in depth p.0 u) (tyvar_of ns (first_fresh + tv)) (answer_of ns w₁ bs₁ sp t e k m) p.1 (state_of ns w₁ ev₁ od tv₂ dv₂) l₂) (2 * k + 8) 0 m ns w₁ w₂ ev₂ od bs₁ bs₂ t₂ l₂ sp tv₂ dv₂ c
          → GivesI (AskedTwo bytes ns ix w cl mt il ev od top i j) app_whole 8 1 1 ns w w₂ ev₂ od bs bs₂ top left sp tv dv c
      app_gives F =
          let g = (got G h).0 in let g1 = g.more in let g2 = g.down in let g3 = g.spent in let g4 = g.rows in let g5 = g.tvs in let g6 = g.dvs in
          handed (record { more = omega arith; fewer = omega arith; words = omega arith; rows = omega arith; tvs = omega arith; dvs = omega arith }) app_via G.stands G.long F

-- ## app_arg

module _ {ns w ev od il bs : List ℕ} {top left sp tv dv tf f k m a : ℕ} (R : ReadyArg ns w ev od il bs top left sp tv dv tf f k m a) where
  -- What applying to the environment asks.
  pub arg_env : ReadyEnv ns w ev od top left (sp - 2 * k) k
  arg_env = let z = R.ready.room in record { names = R.ready.names; table = R.ready.table; room = omega arith; sub = R.words.region.sub; scope = R.ready.scope }

  module _ (bytes ix cl mt : List ℕ) (depth i : ℕ) {w₁ ev₁ : List ℕ} {s : Swept} (G : GivesEnv ns w w₁ ev ev₁ od top left (M.apply_schemes (sub_at ns w (sp - 2 * k) k) (env_of ns w ev od) left) s) where
    -- The outcome.
    abbrev arg_whole : ClassEnv × Expr → Out (M.Inferred × M.State)
    arg_whole p = app_arg (λ u. M.infer_in depth p.0 u) (tyvar_of ns a) (answer_of ns w bs sp tf f k m) p.1 (state_of ns w ev od tv dv) left

    -- The environment first.
    env_first : (p : ClassEnv × Expr) → Then (arg_whole p) (M.apply_env (sub_at ns w (sp - 2 * k) k) (state_of ns w ev od tv dv) left)
        (λ x l. after (M.infer_in depth p.0 p.1 x.1 l) (λ y. closed_app (tyvar_of ns a) (answer_of ns w bs sp tf f k m) y.0 y.1))
    unfolding app_arg
    env_first p = record { is = refl }

    -- It is refused.
    pub arg_lost : {q : Refusal} {t l : ℕ} → s ≡ S-Refused q t l → GivesI (AskedAfter bytes ns ix w cl mt il ev od top i (sub_at ns w (sp - 2 * k) k)) arg_whole (2 * k + 8) 0 m ns w w₁ ev₁ od bs bs top left sp tv dv (Refused q t l)
    arg_lost h = let z = R.ready.room in lost_on {E = Unit {0}} {Of = Nothing} {o = λ _. M.apply_env (sub_at ns w (sp - 2 * k) k) (state_of ns w ev od tv dv) left}
        (λ p A. record { at = tt {0}; holds = tt {0}; rest = λ x l. after (M.infer_in depth p.0 p.1 x.1 l) (λ y. closed_app (tyvar_of ns a) (answer_of ns w bs sp tf f k m) y.0 y.1); is = env_first p })
        (stands_up G.stands (omega arith)) refl (omega arith) (omega arith) (λ x y. scope_refuses (sub_at ns w (sp - 2 * k) k) G (state_of ns w ev od tv dv) refl h)

    module _ {t₂ l₂ : ℕ} (h : s ≡ S-Done t₂ l₂) (len : length w₁ ≡ length w) where
      -- The environment's rows.
      env_done : EnvDone ns w₁ ev₁ od top left (M.apply_schemes (sub_at ns w (sp - 2 * k) k) (env_of ns w ev od) left) t₂ l₂
      env_done = rw h at G.answer

      -- What the argument's inference asks.
      pub arg_asks : (top ≤ t₂) × ((3 * m ≤ length bs) × ReadyI 0 0 0 ns w₁ ev₁ od il (drop (3 * m) bs) t₂ l₂ (sp - 2 * k) tv dv)
      arg_asks =
          let D = env_done in let d1 = D.more in let d2 = D.spent in let d3 = D.down in let Q = R.ready in
          let q1 = Q.room in let q2 = Q.fits in let q3 = Q.long in let q4 = Q.rows in let q5 = Q.tvs in let q6 = Q.dvs in let z = length-drop (3 * m) bs in (
            d1,
            (
              omega arith,
              record {
                names = Q.names;
                built = Q.built;
                table = D.table;
                scope = D.scope;
                all = Q.all;
                heads = heads_kept G.stands.low D.table d1 Q.heads;
                room = omega arith;
                fits = omega arith;
                long = omega arith;
                rows = omega arith;
                tvs = omega arith;
                dvs = omega arith;
              },
            ),
          )

      -- The environment with the substitution applied has made variables alone.
      env_made : MadeSubst (sub_at ns w (sp - 2 * k) k) → MadeEnv (env_of ns w ev od) → MadeEnv (env_of ns w₁ ev₁ od)
      env_made ms me x = says_done _ (env_of ns w₁ ev₁ od) l₂ env_done.is (apply_schemes_made (sub_at ns w (sp - 2 * k) k) (env_of ns w ev od) left ms) x (me x)

      -- What the argument is asked for.
      arg_asked : (p : ClassEnv × Expr) → AskedAfter bytes ns ix w cl mt il ev od top i (sub_at ns w (sp - 2 * k) k) p → Asked bytes ns ix w₁ cl mt il ev₁ od t₂ i p
      arg_asked p A = let D = env_done in record { still = still_kept G.stands.low D.table D.more A.asked.still; right = A.asked.right; written = A.asked.written; made = env_made A.sub A.asked.made }

      -- Then the argument.
      arg_then : (p : ClassEnv × Expr) → Then (arg_whole p) (M.infer_in depth p.0 p.1 (state_of ns w₁ ev₁ od tv dv) l₂) (λ y. closed_app (tyvar_of ns a) (answer_of ns w bs sp tf f k m) y.0 y.1)
      unfolding M.with_env
      arg_then p = record { is = then_done _ l₂ (env_first p) (scope_applies (sub_at ns w (sp - 2 * k) k) G (state_of ns w ev od tv dv) refl h) }

      module _ {w₂ ev₂ bs₂ : List ℕ} {q : Inferred}
          (O : GivesO (Asked bytes ns ix w₁ cl mt il ev₁ od t₂ i) (λ p. M.infer_in depth p.0 p.1 (state_of ns w₁ ev₁ od tv dv) l₂) ns w₁ w₂ ev₂ od bs bs₂ t₂ l₂ (sp - 2 * k) tv dv m q) where
        -- Table and stack stand over both.
        both_stand : Stands w w₂ top (sp - 2 * k)
        both_stand = let z = R.ready.room in stands_then (stands_up G.stands (omega arith)) O.gives.stands env_done.more

        -- The argument is refused.
        pub second_lost : {e : Refusal} {t l : ℕ} → q ≡ Refused e t l → GivesI (AskedAfter bytes ns ix w cl mt il ev od top i (sub_at ns w (sp - 2 * k) k)) arg_whole (2 * k + 8) 0 m ns w w₂ ev₂ od bs bs₂ top left sp tv dv (Refused e t l)
        second_lost y = lost_on (λ p A. record { at = p; holds = arg_asked p A; rest = λ x. closed_app (tyvar_of ns a) (answer_of ns w bs sp tf f k m) x.0 x.1; is = arg_then p })
            (stands_up both_stand (omega arith)) O.wide env_done.more env_done.down (lost O.gives y)

        module _ {tx e k₂ m₂ t₃ l₃ tv₃ dv₃ : ℕ} (y : q ≡ Done tx e k₂ m₂ t₃ l₃ tv₃ dv₃) (len₂ : length w₂ ≡ length w₁) where
          -- The argument's answer.
          second : GrownI 0 0 0 ns w₂ ev₂ od (drop (3 * m) bs₂) t₂ l₂ (sp - 2 * k) tv dv tx e k₂ m₂ t₃ l₃ tv₃ dv₃
          second = (got O.gives y).0

          -- The table did not shrink, and the rows have numbers.
          pub second_more : (top ≤ t₃) × (3 * (m + m₂) ≤ length bs₂)
          second_more = let g = second in let g1 = g.more in let d1 = env_done.more in let f = g.words.pending.fits in let z = length-drop (3 * m) bs₂ in let o = O.wide in let r = R.words.pending.fits in (omega arith, omega arith)

          -- The rows of both.
          second_rows : PendingRows w₂ bs₂ t₃ (m + m₂)
          second_rows = let g = second in rows_both w top g.words.ty.table second_more.0 O.before R.words.pending g.words.pending second_more.1

          -- What the end asks.
          pub second_ends : ReadyAppEnd ns w₂ ev₂ od bs₂ t₃ l₃ sp tf f k tx e k₂ m (m + m₂) a
          second_ends =
              let g = second in let T = g.words.ty.table in let u = second_more.0 in
              let g3 = g.spent in let d2 = env_done.spent in let q1 = R.ready.room in let q2 = R.ready.fits in
              record {
                close = record {
                  names = R.ready.names;
                  function = node_more T u R.words.ty;
                  function_term = node_more T u R.words.term;
                  argument = g.words.ty;
                  argument_term = g.words.term;
                  self = g.words.region;
                  other = region_later R.ready.table both_stand (omega arith) u (omega arith) R.words.region;
                  pending = second_rows;
                  few = omega arith;
                  variable = R.variable;
                  room = omega arith;
                  fits = omega arith;
                };
                scope = g.scope;
              }

          -- What the parts' answers are for the end.
          same_answers : (answer_of ns w bs sp tf f k m ≡ answer_of ns w₂ bs₂ sp tf f k m) × (answer_of ns w₂ (drop (3 * m) bs₂) (sp - 2 * k) tx e k₂ m₂ ≡ answer_from ns w₂ bs₂ (sp - 2 * k) tx e k₂ m (m + m₂))
          same_answers =
              let K = both_stand in let W = R.words in (
                rw (sub_stands ns R.ready.table K W.region.sub (omega arith), kept_tree ns K.low W.ty, kept_core ns K.low W.term, rows_stand bs bs₂ m ns w₂ O.before, rows_same ns K.low W.pending 0 m (omega arith)),
                rw (rows_from ns w₂ bs₂ m m₂),
              )

          -- Its answer is the answer.
          pub second_gives : {w₃ ev₃ bs₃ : List ℕ} {c : Inferred}
              → GivesI Nothing (λ _. closed_app (tyvar_of ns a) (answer_of ns w₂ bs₂ sp tf f k m) (answer_from ns w₂ bs₂ (sp - 2 * k) tx e k₂ m (m + m₂)) (state_of ns w₂ ev₂ od tv₃ dv₃) l₃) (2 * k + 2 * k₂ + 8) 0 (m + m₂) ns w₂ w₃ ev₃ od bs₂ bs₃ t₃ l₃ sp tv₃ dv₃ c
              → GivesI (AskedAfter bytes ns ix w cl mt il ev od top i (sub_at ns w (sp - 2 * k) k)) arg_whole (2 * k + 8) 0 m ns w w₃ ev₃ od bs bs₃ top left sp tv dv c
          second_gives F =
              let g = second in let g1 = g.more in let g2 = g.down in let g3 = g.spent in let g4 = g.rows in let g5 = g.tvs in let g6 = g.dvs in
              let D = env_done in let d1 = D.more in let d2 = D.spent in let d3 = D.down in
              handed (record { more = omega arith; fewer = omega arith; words = omega arith; rows = omega arith; tvs = omega arith; dvs = omega arith })
              (λ p A. record { at = tt {0}; holds = tt {0}; is = then_done _ l₃ (arg_then p) ((got O.gives y).1 p (arg_asked p A)) ∙ rw (same_answers.0, same_answers.1) })
              (stands_up both_stand (omega arith)) O.wide F
