-- The ways out of `let_body` and `let_rest`.
use mathlib.Core.Path.{◌≡◌, refl, ◌∙◌}
use mathlib.Core.List.{List}
use Prim.Native.Nat.{ℕ, ◌+◌, ◌*◌, ◌-◌, ◌<◌, ◌≤◌}
use native.Mathlib.Omega.{arith}
use lib.ListN.{length, drop, length-drop}
use Rattle.meaning.specs.Ast.{Scheme, Expr}
use Rattle.meaning.specs.Budget.{Out, after}
use Rattle.meaning.specs.Classes.{ClassEnv}
use Rattle.meaning.specs.Infer as M
use Rattle.theorems.proofs.MadeSchemes.{insert_made}
use Rattle.names.specs.Names.{name_of}
use Rattle.ast.proofs.Laws.{node_more}
use Rattle.errors.specs.declared.Refusal.{Refusal}
use Rattle.pairs.specs.Pairs.{sub_at}
use Rattle.pairs.proofs.Frames.{stands_refl, stands_up, sub_stands}
use Rattle.apply.proofs.Hand.{Then, then_done}
use Rattle.cores.specs.Terms.{core}
use Rattle.cores.proofs.TermLaws.{kept_core}
use Rattle.supers.specs.Rows.{binders_in}
use Rattle.subst.specs.Schemes.{scheme_of_word}
use Rattle.scope.specs.Scope.{local_entry, entry_of, with_entry, scheme_in, env_of}
use Rattle.scope.specs.declared.Entry.{Entry}
use Rattle.scope.proofs.Laws.{scope_row, scope_put, scope_with}
use Rattle.scope.proofs.Fines.{entry_kept, scheme_kept}
use Rattle.scope.proofs.States.{scope_inserts}
use Rattle.inferred.specs.Parts.{let_body, let_rest}
use Rattle.inferred.specs.Closing.{answer_of, answer_from}
use Rattle.inferred.specs.Inferring.{state_of, GrownI, ReadyI, GivesI}
use Rattle.inferred.specs.Inferred.{Inferred}
use Rattle.inferred.specs.Inferred.{Done, Refused}
use Rattle.inferred.proofs.Ends.{rows_same, region_later}
use Rattle.infer.specs.Runs.{Nothing, restored_let}
use Rattle.infer.specs.Asking.{Asked, AskedBody, Hidden, ReadyBody, ReadyLetEnd, GivesO}
use Rattle.infer.proofs.Handing.{Via, handed, lost_on, got, lost}
use Rattle.infer.proofs.Standing.{rows_from, rows_both, rows_stand}

-- ## let_body

-- A file's name has a row.
pub let_there : {ns w ev od il bs : List ℕ} {top left sp tv dv k vs ps u c nd : ℕ} {bytes ix cl mt : List ℕ} {r i : ℕ} {z : Scheme} {p : ClassEnv × Expr} → ReadyBody ns w ev od il bs top left sp tv dv k vs ps u c nd
    → length od ≤ r → AskedBody bytes ns ix w cl mt il ev od top r i z p → ⊥
let_there R h A = let s = A.small in let a = R.ready.all in omega arith

module _ {ns w ev od il bs : List ℕ} {top left sp tv dv k vs ps u c nd : ℕ} (R : ReadyBody ns w ev od il bs top left sp tv dv k vs ps u c nd) (r : ℕ) (h : r < length od) where
  -- The row is there.
  pub let_row : 4 * r + 4 ≤ length ev
  let_row = scope_row R.ready.scope r h

  module _ {ev₁ : List ℕ} (e : ev₁ ≡ with_entry ev r (local_entry vs ps u)) where
    -- What the rest asks.
    pub let_asks : ReadyBody ns w ev₁ od il bs top left sp tv dv k vs ps u c nd
    let_asks = let Q = R.ready in record {
      ready = record {
        names = Q.names;
        built = Q.built;
        table = Q.table;
        scope = rw e (scope_with Q.scope r (local_entry vs ps u) h R.scheme);
        all = Q.all;
        heads = Q.heads;
        room = Q.room;
        fits = Q.fits;
        long = Q.long;
        rows = Q.rows;
        tvs = Q.tvs;
        dvs = Q.dvs;
      };
      region = R.region;
      rows = R.rows;
      scheme = R.scheme;
      bound = R.bound;
    }

    -- The row that is hidden.
    pub let_hidden : {old : Entry} → old ≡ entry_of ev r → Hidden ns w od top r old
    let_hidden f = record { there = h; entry = rw f (R.ready.scope.entries r h) }

    module _ (bytes ix cl mt : List ℕ) (depth i : ℕ) {old : Entry} (f : old ≡ entry_of ev r) where
      -- The outcome.
      abbrev body_whole : ClassEnv × Expr → Out (M.Inferred × M.State)
      body_whole p = let_body (λ u. M.infer_in depth p.0 u) (name_of ns r) (sub_at ns w (sp - 2 * k) k) (scheme_of_word ns w vs ps u, core ns w c, binders_in ns w bs 0 nd) p.1 (state_of ns w ev od tv dv) left

      -- It is the rest's.
      body_via : (p : ClassEnv × Expr) → AskedBody bytes ns ix w cl mt il ev od top r i (scheme_of_word ns w vs ps u) p
          → Via (Asked bytes ns ix w cl mt il ev₁ od top i) (λ p. let_rest (λ u. M.infer_in depth p.0 u) (name_of ns r) (sub_at ns w (sp - 2 * k) k) (core ns w c) (binders_in ns w bs 0 nd) (scheme_in ns w old) p.1 (state_of ns w ev₁ od tv dv) left) (body_whole p)
      unfolding let_body let_rest after M.with_env
      body_via p A = record {
        at = p;
        holds = record {
          still = A.asked.still;
          right = A.asked.right;
          written = A.asked.written;
          made = rw (e, scope_put R.ready.scope r h (local_entry vs ps u) _ refl) (insert_made (name_of ns r) (scheme_of_word ns w vs ps u) (env_of ns w ev od) A.scheme A.asked.made);
        };
        is = rw (scope_inserts R.ready.scope (state_of ns w ev od tv dv) refl r h left (local_entry vs ps u) _ refl, f, e);
      }

      -- Its answer is the answer.
      pub let_gives : {w' ev' bs' : List ℕ} {q : Inferred}
          → GivesI (Asked bytes ns ix w cl mt il ev₁ od top i) (λ p. let_rest (λ u. M.infer_in depth p.0 u) (name_of ns r) (sub_at ns w (sp - 2 * k) k) (core ns w c) (binders_in ns w bs 0 nd) (scheme_in ns w old) p.1 (state_of ns w ev₁ od tv dv) left)
          (2 * k + 4) 0 nd ns w w' ev' od bs bs' top left sp tv dv q
          → GivesI (AskedBody bytes ns ix w cl mt il ev od top r i (scheme_of_word ns w vs ps u)) body_whole (2 * k + 4) 0 nd ns w w' ev' od bs bs' top left sp tv dv q
      let_gives G = handed (record { more = omega arith; fewer = omega arith; words = omega arith; rows = omega arith; tvs = omega arith; dvs = omega arith }) body_via (stands_refl _ _ _) refl G

-- ## let_rest

module _ {ns w ev od il bs : List ℕ} {top left sp tv dv k vs ps u c nd r : ℕ} {old : Entry} (R : ReadyBody ns w ev od il bs top left sp tv dv k vs ps u c nd) (H : Hidden ns w od top r old) where
  -- What the body's inference asks.
  pub rest_asks : (3 * nd ≤ length bs) × ReadyI 0 0 0 ns w ev od il (drop (3 * nd) bs) top left (sp - 2 * k) tv dv
  rest_asks =
      let Q = R.ready in let q1 = Q.room in let q2 = Q.fits in let q4 = Q.rows in let q5 = Q.tvs in let z = length-drop (3 * nd) bs in (
        omega arith,
        record {
          names = Q.names;
          built = Q.built;
          table = Q.table;
          scope = Q.scope;
          all = Q.all;
          heads = Q.heads;
          room = omega arith;
          fits = omega arith;
          long = Q.long;
          rows = omega arith;
          tvs = omega arith;
          dvs = Q.dvs;
        },
      )

  module _ (depth : ℕ) {bytes ix cl mt : List ℕ} {i : ℕ} {w₁ ev₁ bs₁ : List ℕ} {q : Inferred}
      (O : GivesO (Asked bytes ns ix w cl mt il ev od top i) (λ p. M.infer_in depth p.0 p.1 (state_of ns w ev od tv dv) left) ns w w₁ ev₁ od bs bs₁ top left (sp - 2 * k) tv dv nd q) where
    -- The outcome.
    abbrev rest_whole : ClassEnv × Expr → Out (M.Inferred × M.State)
    rest_whole p = let_rest (λ u. M.infer_in depth p.0 u) (name_of ns r) (sub_at ns w (sp - 2 * k) k) (core ns w c) (binders_in ns w bs 0 nd) (scheme_in ns w old) p.1 (state_of ns w ev od tv dv) left

    -- It goes on after the body.
    rest_then : (p : ClassEnv × Expr) → Then (rest_whole p) (M.infer_in depth p.0 p.1 (state_of ns w ev od tv dv) left) (λ x. restored_let (name_of ns r) (sub_at ns w (sp - 2 * k) k) (core ns w c) (binders_in ns w bs 0 nd) (scheme_in ns w old) x.0 x.1)
    unfolding let_rest restored_let
    rest_then p = record { is = refl }

    -- The body is refused.
    pub rest_lost : {e : Refusal} {t l : ℕ} → q ≡ Refused e t l → GivesI (Asked bytes ns ix w cl mt il ev od top i) rest_whole (2 * k + 4) 0 nd ns w w₁ ev₁ od bs bs₁ top left sp tv dv (Refused e t l)
    rest_lost h = lost_on (λ p A. record { at = p; holds = A; rest = λ x. restored_let (name_of ns r) (sub_at ns w (sp - 2 * k) k) (core ns w c) (binders_in ns w bs 0 nd) (scheme_in ns w old) x.0 x.1; is = rest_then p })
        (stands_up O.gives.stands (omega arith)) O.wide (omega arith) (omega arith) (lost O.gives h)

    module _ {t e k₂ m₂ t₂ l₂ tv₂ dv₂ : ℕ} (h : q ≡ Done t e k₂ m₂ t₂ l₂ tv₂ dv₂) (len : length w₁ ≡ length w) where
      -- The body's answer.
      rest_got : GrownI 0 0 0 ns w₁ ev₁ od (drop (3 * nd) bs₁) top left (sp - 2 * k) tv dv t e k₂ m₂ t₂ l₂ tv₂ dv₂
      rest_got = (got O.gives h).0

      -- The table did not shrink, and the rows have numbers.
      pub rest_more : (top ≤ t₂) × (3 * (nd + m₂) ≤ length bs₁)
      rest_more = let g = rest_got in let f = g.words.pending.fits in let z = length-drop (3 * nd) bs₁ in let o = O.wide in let y = R.rows.fits in (g.more, omega arith)

      -- What the end asks.
      pub rest_ends : ReadyLetEnd ns w₁ ev₁ od bs₁ t₂ l₂ sp k c t e k₂ nd (nd + m₂) r old
      rest_ends =
          let g = rest_got in let T = g.words.ty.table in let m = g.more in let g3 = g.spent in let q1 = R.ready.room in let q2 = R.ready.fits in
          record {
            close = record {
              names = R.ready.names;
              bound = node_more T m R.bound;
              ty = g.words.ty;
              term = g.words.term;
              self = g.words.region;
              other = region_later R.ready.table O.gives.stands (omega arith) m (omega arith) R.region;
              pending = rows_both w top T m O.before R.rows g.words.pending rest_more.1;
              few = omega arith;
              room = omega arith;
              fits = omega arith;
            };
            scope = g.scope;
            hidden = record { there = H.there; entry = entry_kept ns old O.gives.stands.low T m H.entry };
          }

      -- The end's words say what those before said.
      rest_same : (x : M.Inferred) (st : M.State) (n : ℕ) → x ≡ answer_of ns w₁ (drop (3 * nd) bs₁) (sp - 2 * k) t e k₂ m₂
          → restored_let (name_of ns r) (sub_at ns w (sp - 2 * k) k) (core ns w c) (binders_in ns w bs 0 nd) (scheme_in ns w old) x st n
          ≡ restored_let (name_of ns r) (sub_at ns w₁ (sp - 2 * k) k) (core ns w₁ c) (binders_in ns w₁ bs₁ 0 nd) (scheme_in ns w₁ old) (answer_from ns w₁ bs₁ (sp - 2 * k) t e k₂ nd (nd + m₂)) st n
      rest_same x st n y =
          let S = O.gives.stands in
          rw (y, rows_from ns w₁ bs₁ nd m₂, sub_stands ns R.ready.table S R.region.sub (omega arith), kept_core ns S.low R.bound, rows_stand bs bs₁ nd ns w₁ O.before, rows_same ns S.low R.rows 0 nd (omega arith), scheme_kept ns old S.low H.entry)

      -- Its answer is the answer.
      pub rest_gives : {w₂ ev₂ bs₂ : List ℕ} {z : Inferred}
          → GivesI Nothing (λ _. restored_let (name_of ns r) (sub_at ns w₁ (sp - 2 * k) k) (core ns w₁ c) (binders_in ns w₁ bs₁ 0 nd) (scheme_in ns w₁ old) (answer_from ns w₁ bs₁ (sp - 2 * k) t e k₂ nd (nd + m₂)) (state_of ns w₁ ev₁ od tv₂ dv₂) l₂)
          (2 * k + 2 * k₂ + 4) 0 (nd + m₂) ns w₁ w₂ ev₂ od bs₁ bs₂ t₂ l₂ sp tv₂ dv₂ z
          → GivesI (Asked bytes ns ix w cl mt il ev od top i) rest_whole (2 * k + 4) 0 nd ns w w₂ ev₂ od bs bs₂ top left sp tv dv z
      rest_gives F =
          let g = rest_got in let g1 = g.more in let g2 = g.down in let g3 = g.spent in let g4 = g.rows in let g5 = g.tvs in let g6 = g.dvs in
          handed (record { more = omega arith; fewer = omega arith; words = omega arith; rows = omega arith; tvs = omega arith; dvs = omega arith })
          (λ p A. record { at = tt {0}; holds = tt {0}; is = then_done _ l₂ (rest_then p) ((got O.gives h).1 p A) ∙ rest_same _ (state_of ns w₁ ev₁ od tv₂ dv₂) l₂ refl })
          (stands_up O.gives.stands (omega arith)) O.wide F
