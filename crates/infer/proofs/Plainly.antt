-- The ways out of the functions that infer no part: literals, ends, names.
use mathlib.Core.Path.{◌≡◌, refl, ◌∙◌}
use mathlib.Core.List.{List}
use Prim.Native.Nat.{ℕ, ◌+◌, ◌*◌, ◌-◌, ◌<◌, ◌≤◌}
use native.Mathlib.Omega.{arith}
use lib.ListN.{length}
use Rattle.meaning.specs.Budget.{Out, done, after}
use Rattle.meaning.specs.Classes.{ClassEnv}
use Rattle.meaning.specs.Infer as M
use Rattle.names.specs.Names.{name_of, tyvar_of}
use Rattle.errors.specs.declared.Refusal.{Refusal}
use Rattle.pairs.specs.Pairs.{sub_at}
use Rattle.cores.specs.Terms.{core}
use Rattle.supers.specs.Rows.{row_at, binders_in}
use Rattle.scope.specs.Scope.{with_entry, scheme_in, env_of}
use Rattle.scope.specs.declared.Entry.{Entry}
use Rattle.scope.proofs.Laws.{scope_with, scope_row, scope_kept, env_kept}
use Rattle.scope.proofs.States.{scope_restores}
use Rattle.pending.specs.Rows.{PendingRow}
use Rattle.instantiate.specs.Instance.{Waits}
use Rattle.instantiate.specs.Looks.{ReadyLook, Same, Looks, GivesLooked}
use Rattle.instantiate.specs.Looked.{Looked}
use Rattle.instantiate.specs.Looked.{Done as L-Done, Refused as L-Refused}
use Rattle.inferred.specs.Parts.{abs_close, let_close}
use Rattle.inferred.specs.Closing.{answer_of, answer_from, ReadyLiteral, GivesC}
use Rattle.inferred.specs.Inferring.{state_of, with_state, ReadyI, GivesI}
use Rattle.inferred.specs.Closed.{Closed}
use Rattle.inferred.specs.Inferred.{Inferred}
use Rattle.inferred.specs.Inferred.{Done, Refused}
use Rattle.inferred.proofs.Literals.{no_region}
use Rattle.infer.specs.Runs.{Nothing, literal, restored_abs, restored_let}
use Rattle.infer.specs.Asking.{AskedName, ReadyAbsEnd, ReadyAppEnd, ReadyLetEnd}
use Rattle.infer.proofs.Handing.{with_state_gives}

-- ## What ReadyI has

module _ {x y z : ℕ} {ns w ev od il bs : List ℕ} {top left sp tv dv : ℕ} (R : ReadyI x y z ns w ev od il bs top left sp tv dv) where
  -- What a literal asks.
  pub literal_asks : 8 ≤ x → ReadyLiteral ns w bs top left sp
  literal_asks h = let r = R.room in record { built = R.built; table = R.table; room = omega arith; fits = R.fits }

  -- What a literal gave.
  pub literal_gives : {w' : List ℕ} {c : Closed} {r : Inferred} {a : M.Inferred} → r ≡ with_state c 0 tv dv → GivesC (done a left) 8 ns w w' bs bs top left sp 0 c
      → GivesI Nothing (λ _. literal a (state_of ns w ev od tv dv) left) 8 0 0 ns w w' ev od bs bs top left sp tv dv r
  unfolding after
  literal_gives e G = with_state_gives e R.scope refl G

-- ## abs_end

module _ {ns w ev od bs : List ℕ} {top left sp t e k m a r : ℕ} {old : Entry} (R : ReadyAbsEnd ns w ev od bs top left sp t e k m a r old) where
  -- The row is there.
  pub abs_end_row : 4 * r + 4 ≤ length ev
  abs_end_row = scope_row R.scope r R.hidden.there

  -- The end's answer, the row put back.
  pub abs_end_gives : {ev₁ w' bs' : List ℕ} {tv dv : ℕ} {c : Closed} {q : Inferred} → ev₁ ≡ with_entry ev r old → q ≡ with_state c m tv dv
      → GivesC (abs_close (name_of ns r) (tyvar_of ns a) (answer_of ns w bs sp t e k m) left) (2 * k + 8) ns w w' bs bs' top left sp m c
      → GivesI Nothing (λ _. restored_abs (name_of ns r) (tyvar_of ns a) (scheme_in ns w old) (answer_of ns w bs sp t e k m) (state_of ns w ev od tv dv) left) (2 * k + 8) 0 m ns w w' ev₁ od bs bs' top left sp tv dv q
  unfolding restored_abs after M.with_env
  abs_end_gives {tv = tv} {dv = dv} f e G = rw f (with_state_gives e (scope_with R.scope r old R.hidden.there R.hidden.entry)
      (rw (scope_restores R.scope (state_of ns w ev od tv dv) refl r R.hidden.there left old)) G)

-- ## app_end

module _ {ns w ev od bs : List ℕ} {top left sp tf f k₁ tx e k₂ m₁ m a : ℕ} (R : ReadyAppEnd ns w ev od bs top left sp tf f k₁ tx e k₂ m₁ m a) where
  -- The end's answer.
  pub app_end_gives : {w' bs' : List ℕ} {x tv dv : ℕ} {c : Closed} {q : Inferred} {o : Out M.Inferred} → q ≡ with_state c m tv dv → GivesC o x ns w w' bs bs' top left sp m c
      → GivesI Nothing (λ _. after {A = M.Inferred} {B = M.Inferred × M.State} o (λ a. done (a, state_of ns w ev od tv dv))) x 0 m ns w w' ev od bs bs' top left sp tv dv q
  app_end_gives e G = with_state_gives e R.scope refl G

-- ## let_end

module _ {ns w ev od bs : List ℕ} {top left sp k₁ c t e k₂ nd m r : ℕ} {old : Entry} (R : ReadyLetEnd ns w ev od bs top left sp k₁ c t e k₂ nd m r old) where
  -- The row is there.
  pub let_end_row : 4 * r + 4 ≤ length ev
  let_end_row = scope_row R.scope r R.hidden.there

  -- The end's answer, the row put back.
  pub let_end_gives : {ev₁ w' bs' : List ℕ} {tv dv : ℕ} {c₂ : Closed} {q : Inferred} → ev₁ ≡ with_entry ev r old → q ≡ with_state c₂ m tv dv
      → GivesC (let_close (name_of ns r) (sub_at ns w (sp - 2 * k₁) k₁) (core ns w c) (binders_in ns w bs 0 nd) (answer_from ns w bs (sp - 2 * k₁) t e k₂ nd m) left) (2 * k₁ + 2 * k₂ + 4) ns w w' bs bs' top left sp m c₂
      → GivesI Nothing (λ _. restored_let (name_of ns r) (sub_at ns w (sp - 2 * k₁) k₁) (core ns w c) (binders_in ns w bs 0 nd) (scheme_in ns w old) (answer_from ns w bs (sp - 2 * k₁) t e k₂ nd m) (state_of ns w ev od tv dv) left)
      (2 * k₁ + 2 * k₂ + 4) 0 m ns w w' ev₁ od bs bs' top left sp tv dv q
  unfolding restored_let after M.with_env
  let_end_gives {tv = tv} {dv = dv} f e G = rw f (with_state_gives e (scope_with R.scope r old R.hidden.there R.hidden.entry)
      (rw (scope_restores R.scope (state_of ns w ev od tv dv) refl r R.hidden.there left old)) G)

-- ## name

-- A row that waits is pending.
row_waits : {w bs : List ℕ} {top i d : ℕ} → d < 17_592_186_044_416 → Waits w bs top i d → PendingRow w top (row_at bs i)
row_waits h W = rw W.row (h, (W.small, W.node))

module _ {ns w ev od il bs : List ℕ} {top left sp tv dv : ℕ} (R : ReadyI 0 0 0 ns w ev od il bs top left sp tv dv) (cl mt : List ℕ) (x : ℕ) where
  -- The outcome.
  abbrev whole : ClassEnv → Out (M.Inferred × M.State)
  whole ce = M.infer_var ce (name_of ns x) (state_of ns w ev od tv dv) left

  -- A file's name has a row.
  pub name_there : length od ≤ x → (ce : ClassEnv) → AskedName ns w cl mt il top x ce → ⊥
  name_there h ce A = let s = A.small in let a = R.all in omega arith

  module _ (h : x < length od) where
    -- What looking it up asks.
    pub name_asks : ReadyLook ns w ev od bs top left sp tv dv x
    name_asks = let r = R.room in let a = R.all in let b = R.rows in let c = R.tvs in let d = R.dvs in record {
      names = R.names;
      table = R.table;
      scope = R.scope;
      there = h;
      name = omega arith;
      room = omega arith;
      fits = R.fits;
      big = R.long;
      rows = omega arith;
      made = omega arith;
      named = omega arith;
    }

    module _ {w' bs' : List ℕ} {q : Looked} (G : GivesLooked (Same (env_of ns w ev od)) ns w w' bs' mt top left sp tv dv x q) (len : length w' ≡ length w) (wide : length bs' ≡ length bs) where
      -- It is refused.
      pub name_lost : {e : Refusal} {t l : ℕ} → q ≡ L-Refused e t l → GivesI (AskedName ns w cl mt il top x) whole 0 0 0 ns w w' ev od bs bs' top left sp tv dv (Refused e t l)
      name_lost k = record { stands = G.stands; long = wide; answer = λ ce A. (rw k at G.answer) (env_of ns w ev od) (record { is = refl }) ce A.still.methods A.right }

      -- Its instance.
      pub name_gives : {u e m t l tv' dv' : ℕ} → q ≡ L-Done u e m t l tv' dv' → GivesI (AskedName ns w cl mt il top x) whole 0 0 0 ns w w' ev od bs bs' top left sp tv dv (Done u e 0 m t l tv' dv')
      unfolding sub_at
      name_gives {u} {e} {m} {t} {l} {tv'} {dv'} k =
          let L : Looks (Same (env_of ns w ev od)) ns w w' bs' mt top left tv dv x u e m t l tv' dv' = rw k at G.answer in
          let s = L.steps in let a = L.spent in let b = L.made in let c = L.named in let d = R.rows in let f = R.fits in let g = R.dvs in
          record {
            stands = G.stands;
            long = wide;
            answer = (
              record {
                words = record {
                  ty = L.node;
                  term = L.term;
                  region = no_region ns w' t sp (omega arith);
                  pending = record { fits = omega arith; each = λ i h. row_waits (omega arith) (L.rows.at i h) };
                };
                scope = scope_kept R.scope G.stands.low L.more L.node.table;
                more = L.more;
                down = omega arith;
                spent = omega arith;
                rows = omega arith;
                tvs = omega arith;
                dvs = omega arith;
              },
              λ ce A. L.is (env_of ns w ev od) (record { is = refl }) ce A.still.methods A.right ∙ rw (env_kept R.scope G.stands.low),
            );
          }
