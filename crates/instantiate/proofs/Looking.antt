-- The ways out of `of_scheme` and `infer_var`.
use mathlib.Core.Path.{◌≡◌, refl, ap, sym, ◌∙◌}
use mathlib.Core.List.{List}
use mathlib.Core.Logic.{◌⊎◌, inl, inr}
use mathlib.Core.Option.{none, some}
use Prim.Native.Nat.{ℕ, ◌+◌, ◌*◌, ◌-◌, ◌<◌, ◌≤◌}
use native.Mathlib.Omega.{arith}
use lib.ListN.{length}
use Rattle.meaning.specs.Ast.{Name, Ty, Scheme, Core}
use Rattle.meaning.specs.Errors as E
use Rattle.meaning.specs.Budget.{Out, done, refused, after, or_refuse}
use Rattle.meaning.specs.Map.{names, get}
use Rattle.meaning.specs.Subst.{empty}
use Rattle.meaning.specs.Generalize.{Pending, Env}
use Rattle.meaning.specs.Classes.{ClassEnv, lookup_method}
use Rattle.meaning.specs.Infer.{State, Inferred, instantiate, var_core, infer_var}
use Rattle.names.specs.Names.{first_fresh, name_of}
use Rattle.ast.specs.Table.{tree}
use Rattle.ast.proofs.Laws.{node_more, kept_tree}
use Rattle.errors.specs.declared.Refusal.{Refusal}
use Rattle.errors.specs.declared.Refusal.TheVariants.{UnboundVariable, UnknownMethod}
use Rattle.pairs.specs.Pairs.{Stands}
use Rattle.pairs.proofs.Frames.{stands_refl, stands_then, stands_up}
use Rattle.apply.proofs.Hand.{Then, then_done, refuse_on, refuse_here}
use Rattle.subst.specs.declared.Scheme.{Scheme as Held-Scheme}
use Rattle.subst.specs.Schemes.{scheme_of_word}
use Rattle.supers.specs.Rows.{binders_in}
use Rattle.supers.proofs.RowLaws.{kept_rows}
use Rattle.scope.specs.Scope.{closed_entry, local_entry, entry_of, scheme_in, env_of, Held}
use Rattle.scope.specs.declared.Entry.{Entry}
use Rattle.scope.specs.declared.Entry.TheVariants.{Nothing, Closed, Local}
use Rattle.scope.proofs.Laws.{scope_get}
use Rattle.instantiate.specs.Instance.{state, ReadyInstance, Instantiates, GivesInstance}
use Rattle.instantiate.specs.Looks.{ReadyCore, Builds, GivesCored, ReadyLook, Same, HasScheme, LookedAs, GivesLooked}
use Rattle.instantiate.specs.Opened.{Instance}
use Rattle.instantiate.specs.Opened.{Done as Got, Refused as Ungot}
use Rattle.instantiate.specs.Cored.{Cored}
use Rattle.instantiate.specs.Cored.{Made, Unmade}
use Rattle.instantiate.specs.Looked.{Looked}
use Rattle.instantiate.specs.Looked.{Done, Refused}
use Rattle.instantiate.proofs.RowWords.{waits_type}

-- ## Of the meaning

-- After the instance comes the term.
look_step : (ce : ClassEnv) (x : Name) (env : Env) (tv dv n : ℕ) (c : Scheme) → get names x env ≡ some c
    → Then (infer_var ce x (state env tv dv) n) (instantiate c (state env tv dv) n)
    (λ r k. after (var_core x r.0.1 (lookup_method ce x) k) (λ e j. done ((empty, r.0.0, r.0.1, e), r.1) j))
unfolding infer_var or_refuse after
look_step ce x env tv dv n c h = record { is = rw h (go (instantiate c (state env tv dv) n)) }
  where
    one : (r : (Ty × Pending) × State) (o : Out Core) → after {A = Core × State} {B = Inferred × State} (after o (λ a j. done (a, r.1) j)) (λ q j. done ((empty, r.0.0, r.0.1, q.0), q.1) j)
        ≡ after o (λ e j. done ((empty, r.0.0, r.0.1, e), r.1) j)
    one r (done e j) = refl
    one r (refused e j) = refl

    go : (o : Out ((Ty × Pending) × State))
        → after o (λ r k. after {A = Core × State} {B = Inferred × State} (after (var_core x r.0.1 (lookup_method ce x) k) (λ a j. done (a, r.1) j)) (λ q j. done ((empty, r.0.0, r.0.1, q.0), q.1) j))
        ≡ after o (λ r k. after (var_core x r.0.1 (lookup_method ce x) k) (λ e j. done ((empty, r.0.0, r.0.1, e), r.1) j))
    go (done r k) = one r (var_core x r.0.1 (lookup_method ce x) k)
    go (refused e k) = refl

-- Where the name has no scheme.
look_none : (ce : ClassEnv) (x : Name) (env : Env) (tv dv n : ℕ) → get names x env ≡ none → infer_var ce x (state env tv dv) n ≡ refused (E.unbound_variable x) n
unfolding infer_var or_refuse after
look_none ce x env tv dv n h = rw h

-- ## With a scheme

module _ {ns w bs : List ℕ} {top left sp tv dv vs ps t x : ℕ} (R : ReadyInstance ns w bs top left sp tv dv vs ps t) (xs : x < first_fresh)
    {w₁ bs₁ : List ℕ} {r : Instance} (G : GivesInstance ns w w₁ bs₁ top left sp tv dv vs ps t r) where
  -- The instance is refused.
  pub inst_refused : {mt : List ℕ} {q : Refusal} {t₂ l₂ : ℕ} → r ≡ Ungot q t₂ l₂ → GivesLooked (HasScheme (name_of ns x) (scheme_of_word ns w vs ps t)) ns w w₁ bs₁ mt top left sp tv dv x (Refused q t₂ l₂)
  inst_refused h = record {
    stands = G.stands;
    answer = λ env E ce M N. refuse_on (look_step ce (name_of ns x) env tv dv left (scheme_of_word ns w vs ps t) E.is) ((rw h at G.answer) env) (omega arith) (omega arith);
  }

  module _ {u m t₂ l₂ tv₂ dv₂ : ℕ} (h : r ≡ Got u m t₂ l₂ tv₂ dv₂) where
    -- What it gave.
    got : Instantiates ns w w₁ bs₁ top left tv dv vs ps t u m t₂ l₂ tv₂ dv₂
    got = rw h at G.answer

    -- Its term is next.
    pub core_ready : length w₁ ≡ length w → length bs₁ ≡ length bs → (top ≤ t₂) × ReadyCore ns w₁ bs₁ t₂ dv m x
    core_ready lw lb =
        let g = got in let sp₁ = g.spent in let st = g.steps in let rm = R.room in let ft = R.fits in let rs = R.rows in let nm = R.named in let bg = R.big in (
          g.more,
          record {
            names = R.names;
            table = g.node.table;
            rows = g.rows;
            fits = omega arith;
            named = omega arith;
            room = omega arith;
            big = omega arith;
            name = xs;
          },
        )

    -- After that.
    module _ {w₂ mt : List ℕ} {q : Cored} (H : GivesCored ns w₁ w₂ bs₁ mt t₂ m x q) where
      -- What stands.
      look_stands : Stands w w₂ top sp
      look_stands = let g = got in let a = g.spent in let rm = R.room in stands_then G.stands (stands_up H.stands (omega arith)) g.more

      -- The outcome goes on after that of the term.
      core_then : (env : Env) → get names (name_of ns x) env ≡ some (scheme_of_word ns w vs ps t) → (ce : ClassEnv)
          → Then (infer_var ce (name_of ns x) (state env tv dv) left) (var_core (name_of ns x) (binders_in ns w₁ bs₁ 0 m) (lookup_method ce (name_of ns x)) l₂)
          (λ e j. done ((empty, tree ns w₁ u, binders_in ns w₁ bs₁ 0 m, e), state env tv₂ dv₂) j)
      core_then env E ce = record { is = then_done _ _ (look_step ce (name_of ns x) env tv dv left (scheme_of_word ns w vs ps t) E) (got.is env) }

      -- There is no row for a method.
      pub core_refused : q ≡ Unmade → GivesLooked (HasScheme (name_of ns x) (scheme_of_word ns w vs ps t)) ns w w₂ bs₁ mt top left sp tv dv x (Refused (UnknownMethod x) t₂ l₂)
      core_refused i = let g = got in let st = g.steps in record {
        stands = look_stands;
        answer = λ env E ce M N. refuse_on (core_then env E.is ce) (refuse_here {top = t₂} {left = l₂} ((rw i at H.answer) w top ce M N l₂) tt (omega arith)) g.more (omega arith);
      }

      -- A type, rows and a term.
      pub look_done : {e t₃ : ℕ} → q ≡ Made e t₃ → GivesLooked (HasScheme (name_of ns x) (scheme_of_word ns w vs ps t)) ns w w₂ bs₁ mt top left sp tv dv x (Done u e m t₃ l₂ tv₂ dv₂)
      look_done {e} {t₃} i =
          let g = got in let st = g.steps in let sp₁ = g.spent in let gm = g.more in
          let b : Builds ns w₁ w₂ bs₁ mt t₂ m x e t₃ = rw i at H.answer in let bm = b.more in let bt = b.most in
          record {
            stands = look_stands;
            answer = record {
              node = node_more b.node.table bm g.node;
              term = b.node;
              more = omega arith;
              rows = record { at = λ j l. let W = g.rows.at j l in record { class = W.class; type = W.type; row = W.row; small = W.small; node = node_more b.node.table bm W.node } };
              dicts = g.dicts;
              made = g.made;
              named = g.named;
              steps = g.steps;
              spent = omega arith;
              is = λ env E ce M N. then_done _ _ (core_then env E.is ce) (b.is w top ce M N l₂)
                  ∙ rw (kept_tree ns H.stands.low g.node, kept_rows ns bs₁ H.stands.low 0 (m - 0) (λ j p z. waits_type (g.rows.at j (omega arith)))) refl;
            };
          }

-- An answer for fewer environments.
looked_less : (Of Of' : Env → Type 0) (ns w w' bs' mt : List ℕ) (top left tv dv x : ℕ) (r : Looked) → ((env : Env) → Of' env → Of env)
    → LookedAs Of ns w w' bs' mt top left tv dv x r → LookedAs Of' ns w w' bs' mt top left tv dv x r
looked_less Of Of' ns w w' bs' mt top left tv dv x (Done u e m top' left' tv' dv') f a = record {
  node = a.node;
  term = a.term;
  more = a.more;
  rows = a.rows;
  dicts = a.dicts;
  made = a.made;
  named = a.named;
  steps = a.steps;
  spent = a.spent;
  is = λ env E ce M N. a.is env (f env E) ce M N;
}
looked_less Of Of' ns w w' bs' mt top left tv dv x (Refused q top' left') f a = λ env E ce M N. a env (f env E) ce M N

-- ## With an environment: e is what `row_at` returned

module _ {ns w ev od bs : List ℕ} {top left sp tv dv x : ℕ} (R : ReadyLook ns w ev od bs top left sp tv dv x) where
  -- The row may be read.
  pub look_room : 4 * x + 4 ≤ length ev
  look_room = let f = R.scope.fits in let h = R.there in omega arith

  module _ {e : Entry} (k : e ≡ entry_of ev x) where
    -- What the environment has for the name.
    scheme_is : {s : Entry} → e ≡ s → (env : Env) → Same (env_of ns w ev od) env → get names (name_of ns x) env ≡ scheme_in ns w s
    scheme_is h env S = ap (get names (name_of ns x)) S.is ∙ scope_get R.scope x R.there ∙ ap (scheme_in ns w) (sym k ∙ h)

    -- It has nothing.
    pub unbound : {mt : List ℕ} → e ≡ Nothing → GivesLooked (Same (env_of ns w ev od)) ns w w bs mt top left sp tv dv x (Refused (UnboundVariable x) top left)
    unbound h = record {
      stands = stands_refl _ _ _;
      answer = λ env S ce M N. refuse_here (look_none ce (name_of ns x) env tv dv left (scheme_is h env S)) tt (omega arith);
    }

    -- A scheme's words.
    scheme_ready : {vs ps t : ℕ} → Held ns w top vs ps t → ReadyInstance ns w bs top left sp tv dv vs ps t
    scheme_ready H = record { names = R.names; held = H; room = R.room; fits = R.fits; big = R.big; rows = R.rows; made = R.made; named = R.named }

    module _ {vs ps t : ℕ} where
      -- Of a row that is closed.
      closed_ready : e ≡ closed_entry vs ps t → ReadyInstance ns w bs top left sp tv dv vs ps t
      closed_ready h = scheme_ready (rw (sym k ∙ h) at (R.scope.entries x R.there)).held

      -- Of any other.
      local_ready : e ≡ local_entry vs ps t → ReadyInstance ns w bs top left sp tv dv vs ps t
      local_ready h = scheme_ready (rw (sym k ∙ h) at (R.scope.entries x R.there))

      -- What is given for a scheme is given for the environment.
      module _ {w' bs' mt : List ℕ} {r : Looked} (G : GivesLooked (HasScheme (name_of ns x) (scheme_of_word ns w vs ps t)) ns w w' bs' mt top left sp tv dv x r) where
        -- Of a row that is closed.
        closed_done : e ≡ closed_entry vs ps t → GivesLooked (Same (env_of ns w ev od)) ns w w' bs' mt top left sp tv dv x r
        closed_done h = record { stands = G.stands; answer = looked_less _ _ _ _ _ _ _ _ _ _ _ _ r (λ env S. record { is = scheme_is h env S }) G.answer }

        -- Of any other.
        local_done : e ≡ local_entry vs ps t → GivesLooked (Same (env_of ns w ev od)) ns w w' bs' mt top left sp tv dv x r
        local_done h = record { stands = G.stands; answer = looked_less _ _ _ _ _ _ _ _ _ _ _ _ r (λ env S. record { is = scheme_is h env S }) G.answer }

    module _ {s : Held-Scheme} where
      -- Of either.
      pub bound_ready : (e ≡ Closed s) ⊎ (e ≡ Local s) → ReadyInstance ns w bs top left sp tv dv s.vars s.preds s.ty
      bound_ready (inl h) = closed_ready h
      bound_ready (inr h) = local_ready h

      -- The same of what is given.
      pub bound_done : {w' bs' mt : List ℕ} {r : Looked} → GivesLooked (HasScheme (name_of ns x) (scheme_of_word ns w s.vars s.preds s.ty)) ns w w' bs' mt top left sp tv dv x r
          → (e ≡ Closed s) ⊎ (e ≡ Local s) → GivesLooked (Same (env_of ns w ev od)) ns w w' bs' mt top left sp tv dv x r
      bound_done G (inl h) = closed_done G h
      bound_done G (inr h) = local_done G h
