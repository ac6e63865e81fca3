-- The ways out of `abs` and `abs_rest`.
use mathlib.Core.Path.{◌≡◌, refl, ap, ◌∙◌}
use mathlib.Core.List.{List}
use mathlib.Core.Option.{some}
use Prim.Native.Nat.{ℕ, ◌+◌, ◌*◌, ◌-◌, ◌<◌, ◌≤◌}
use native.Mathlib.Omega.{arith}
use lib.ListN.{length}
use Rattle.meaning.specs.Ast.{fresh, var, Expr}
use Rattle.meaning.specs.Budget.{Out, after}
use Rattle.meaning.specs.Classes.{ClassEnv}
use Rattle.meaning.specs.Infer as M
use Rattle.theorems.proofs.Made.{IsMade, MadeEnv, made_var}
use Rattle.theorems.proofs.MadeSchemes.{mono_made, insert_made}
use Rattle.names.specs.Names.{first_fresh, first_nullary, name_of, tyvar_of}
use Rattle.names.proofs.Where.{is_fresh}
use Rattle.ast.proofs.Laws.{low_node, low_var}
use Rattle.errors.specs.declared.Refusal.{Refusal}
use Rattle.pairs.proofs.Frames.{stands_refl}
use Rattle.apply.proofs.Hand.{Then, then_done}
use Rattle.scope.specs.Scope.{local_entry, entry_of, with_entry, scheme_in, env_of, EntryIn}
use Rattle.scope.specs.declared.Entry.{Entry}
use Rattle.scope.proofs.Laws.{scope_row, scope_put, scope_with}
use Rattle.scope.proofs.Fines.{mono_is, mono_held, entry_kept, scheme_kept}
use Rattle.scope.proofs.States.{scope_inserts}
use Rattle.inferred.specs.Parts.{abs_body, abs_rest}
use Rattle.inferred.specs.Closing.{answer_of}
use Rattle.inferred.specs.Inferring.{state_of, ReadyI, GivesI}
use Rattle.inferred.specs.Inferred.{Inferred}
use Rattle.inferred.specs.Inferred.{Done, Refused}
use Rattle.infer.specs.Runs.{Nothing, restored_abs}
use Rattle.infer.specs.Asking.{Asked, AskedNamed, Hidden, ReadyAbsEnd}
use Rattle.infer.proofs.Handing.{Via, handed, lost_on, got, lost}

-- A made variable's word.
pub fresh_word : (ns : List ℕ) (k : ℕ) → k < first_fresh → tyvar_of ns (first_fresh + k) ≡ fresh k
unfolding tyvar_of
fresh_word ns k h = let z : first_fresh + k - first_fresh ≡ k = omega arith in rw (is_fresh (first_fresh + k) (omega arith) (omega arith), z)

-- It was made.
pub made_word : (ns : List ℕ) (k : ℕ) → k < first_fresh → IsMade (tyvar_of ns (first_fresh + k))
made_word ns k h = rw (fresh_word ns k h) tt

module _ {ns w ev od il bs : List ℕ} {top left sp tv dv : ℕ} (R : ReadyI 8 1 1 ns w ev od il bs top left sp tv dv) where
  -- The parameter's entry.
  abbrev own : Entry
  own = local_entry 0 0 (first_fresh + tv)

  -- A file's name has a row.
  pub abs_there : {bytes ix cl mt : List ℕ} {r i : ℕ} {p : ClassEnv × Expr} → length od ≤ r → AskedNamed bytes ns ix w cl mt il ev od top r i p → ⊥
  abs_there h A = let s = A.small in let a = R.all in omega arith

  -- Its words.
  own_held : EntryIn ns w top own
  own_held = let a = R.tvs in mono_held ns (low_node R.table (omega arith))

  -- Its scheme.
  own_scheme : scheme_in ns w own ≡ some (M.mono (var (tyvar_of ns (first_fresh + tv))))
  own_scheme = let a = R.tvs in ap some (mono_is ns w (first_fresh + tv) ∙ ap M.mono (low_var ns w (first_fresh + tv) (omega arith)))

  module _ (r : ℕ) (h : r < length od) where
    -- The row is there.
    pub abs_row : 4 * r + 4 ≤ length ev
    abs_row = scope_row R.scope r h

    module _ {ev₁ : List ℕ} (e : ev₁ ≡ with_entry ev r own) where
      -- What the rest asks.
      pub abs_asks : ReadyI 8 0 1 ns w ev₁ od il bs top left sp (tv + 1) dv
      abs_asks = let a = R.tvs in record {
        names = R.names;
        built = R.built;
        table = R.table;
        scope = rw e (scope_with R.scope r own h own_held);
        all = R.all;
        heads = R.heads;
        room = R.room;
        fits = R.fits;
        long = R.long;
        rows = R.rows;
        tvs = omega arith;
        dvs = R.dvs;
      }

      -- The row that is hidden.
      pub abs_hidden : {old : Entry} → old ≡ entry_of ev r → Hidden ns w od top r old
      abs_hidden f = record { there = h; entry = rw f (R.scope.entries r h) }

      -- The environment with the parameter has made variables alone.
      own_made : MadeEnv (env_of ns w ev od) → MadeEnv (env_of ns w ev₁ od)
      own_made m = rw (e, scope_put R.scope r h own _ own_scheme) (insert_made (name_of ns r) (M.mono (var (tyvar_of ns (first_fresh + tv)))) (env_of ns w ev od)
          (mono_made (var (tyvar_of ns (first_fresh + tv))) (made_var (tyvar_of ns (first_fresh + tv)) (let a = R.tvs in made_word ns tv (omega arith)))) m)

      module _ (bytes ix cl mt : List ℕ) (depth b : ℕ) {old : Entry} (f : old ≡ entry_of ev r) where
        -- The outcome is the rest's.
        abs_via : (p : ClassEnv × Expr) → AskedNamed bytes ns ix w cl mt il ev od top r b p
            → Via (Asked bytes ns ix w cl mt il ev₁ od top b) (λ p. abs_rest (λ u. M.infer_in depth p.0 u) (name_of ns r) (tyvar_of ns (first_fresh + tv)) (scheme_in ns w old) p.1 (state_of ns w ev₁ od (tv + 1) dv) left)
            (abs_body (λ u. M.infer_in depth p.0 u) (name_of ns r) (tyvar_of ns (first_fresh + tv)) p.1 (state_of ns w ev od (tv + 1) dv) left)
        unfolding abs_body abs_rest after M.with_env
        abs_via p A = record {
          at = p;
          holds = record { still = A.asked.still; right = A.asked.right; written = A.asked.written; made = own_made A.asked.made };
          is = rw (scope_inserts R.scope (state_of ns w ev od (tv + 1) dv) refl r h left own _ own_scheme, f, e);
        }

        -- Its answer is the answer.
        pub abs_gives : {w' ev' bs' : List ℕ} {q : Inferred}
            → GivesI (Asked bytes ns ix w cl mt il ev₁ od top b) (λ p. abs_rest (λ u. M.infer_in depth p.0 u) (name_of ns r) (tyvar_of ns (first_fresh + tv)) (scheme_in ns w old) p.1 (state_of ns w ev₁ od (tv + 1) dv) left)
            8 0 1 ns w w' ev' od bs bs' top left sp (tv + 1) dv q
            → GivesI (AskedNamed bytes ns ix w cl mt il ev od top r b) (λ p. abs_body (λ u. M.infer_in depth p.0 u) (name_of ns r) (tyvar_of ns (first_fresh + tv)) p.1 (state_of ns w ev od (tv + 1) dv) left)
            8 1 1 ns w w' ev' od bs bs' top left sp tv dv q
        abs_gives G = handed (record { more = omega arith; fewer = omega arith; words = omega arith; rows = omega arith; tvs = omega arith; dvs = omega arith }) abs_via (stands_refl _ _ _) refl G

-- ## abs_rest

module _ {ns w ev od il bs : List ℕ} {top left sp tv dv r : ℕ} {old : Entry} (R : ReadyI 8 0 1 ns w ev od il bs top left sp tv dv) (a : ℕ) (H : Hidden ns w od top r old) (va : a < first_nullary) where
  -- What the body's inference asks.
  pub body_asks : ReadyI 0 0 0 ns w ev od il bs top left sp tv dv
  body_asks = let a = R.room in let b = R.rows in let c = R.tvs in record {
    names = R.names;
    built = R.built;
    table = R.table;
    scope = R.scope;
    all = R.all;
    heads = R.heads;
    room = omega arith;
    fits = R.fits;
    long = R.long;
    rows = omega arith;
    tvs = omega arith;
    dvs = R.dvs;
  }

  module _ (depth : ℕ) {bytes ix cl mt : List ℕ} {b : ℕ} {w₁ ev₁ bs₁ : List ℕ} {q : Inferred}
      (G : GivesI (Asked bytes ns ix w cl mt il ev od top b) (λ p. M.infer_in depth p.0 p.1 (state_of ns w ev od tv dv) left) 0 0 0 ns w w₁ ev₁ od bs bs₁ top left sp tv dv q) where
    -- The outcome.
    abbrev whole : ClassEnv × Expr → Out (M.Inferred × M.State)
    whole p = abs_rest (λ u. M.infer_in depth p.0 u) (name_of ns r) (tyvar_of ns a) (scheme_in ns w old) p.1 (state_of ns w ev od tv dv) left

    -- It goes on after the body.
    goes : (p : ClassEnv × Expr) → Then (whole p) (M.infer_in depth p.0 p.1 (state_of ns w ev od tv dv) left) (λ x. restored_abs (name_of ns r) (tyvar_of ns a) (scheme_in ns w old) x.0 x.1)
    unfolding abs_rest restored_abs
    goes p = record { is = refl }

    -- The body is refused.
    pub body_lost : {e : Refusal} {t l : ℕ} → q ≡ Refused e t l → GivesI (Asked bytes ns ix w cl mt il ev od top b) whole 8 0 1 ns w w₁ ev₁ od bs bs₁ top left sp tv dv (Refused e t l)
    body_lost h = lost_on (λ p A. record { at = p; holds = A; rest = λ x. restored_abs (name_of ns r) (tyvar_of ns a) (scheme_in ns w old) x.0 x.1; is = goes p }) G.stands G.long (omega arith) (omega arith) (lost G h)

    module _ {t e k m t₂ l₂ tv₂ dv₂ : ℕ} (h : q ≡ Done t e k m t₂ l₂ tv₂ dv₂) (len : length w₁ ≡ length w) where
      -- The table did not shrink.
      pub body_more : top ≤ t₂
      body_more = (got G h).0.more

      -- What the end asks.
      pub body_ends : ReadyAbsEnd ns w₁ ev₁ od bs₁ t₂ l₂ sp t e k m a r old
      body_ends =
          let g = (got G h).0 in let s = g.spent in let z = R.room in let y = R.fits in
          record {
            close = record { names = R.names; body = g.words; variable = va; room = omega arith; fits = omega arith };
            scope = g.scope;
            hidden = record { there = H.there; entry = entry_kept ns old G.stands.low g.words.ty.table g.more H.entry };
          }

      -- Its answer is the answer.
      pub body_gives : {w₂ ev₂ bs₂ : List ℕ} {c : Inferred}
          → GivesI Nothing (λ _. restored_abs (name_of ns r) (tyvar_of ns a) (scheme_in ns w₁ old) (answer_of ns w₁ bs₁ sp t e k m) (state_of ns w₁ ev₁ od tv₂ dv₂) l₂) (2 * k + 8) 0 m ns w₁ w₂ ev₂ od bs₁ bs₂ t₂ l₂ sp tv₂ dv₂ c
          → GivesI (Asked bytes ns ix w cl mt il ev od top b) whole 8 0 1 ns w w₂ ev₂ od bs bs₂ top left sp tv dv c
      body_gives F =
          let g = (got G h).0 in let g1 = g.more in let g2 = g.down in let g3 = g.spent in let g4 = g.rows in let g5 = g.tvs in let g6 = g.dvs in
          handed (record { more = omega arith; fewer = omega arith; words = omega arith; rows = omega arith; tvs = omega arith; dvs = omega arith })
          (λ p A. record { at = tt {0}; holds = tt {0}; is = then_done _ l₂ (goes p) ((got G h).1 p A) ∙ rw (scheme_kept ns old G.stands.low H.entry) })
          G.stands G.long F
