-- Handing a let's answers on, and the ways out of `let_put` and `let_end`.
use mathlib.Core.Path.{◌≡◌, refl, ap, sym, ◌∙◌, subst}
use mathlib.Core.Bool.{true}
use mathlib.Core.List.{List, ◌∷◌}
use Prim.Native.Nat.{ℕ, zero, suc, ◌+◌, ◌*◌, ◌-◌, ◌≤◌}
use native.Mathlib.Omega.{arith}
use lib.ListN.{length}
use Rattle.meaning.specs.Base.{null}
use Rattle.meaning.specs.Ast.{Name, Scheme, dvar, pred, Binder}
use Rattle.meaning.specs.Errors as E
use Rattle.meaning.specs.Budget.{Out, done, refused, after}
use Rattle.meaning.specs.Subst.{ftv_scheme}
use Rattle.meaning.specs.Infer as M
use Rattle.meaning.specs.Declare.{all_discharged, none_deferred}
use Rattle.names.specs.Names.{name_of}
use Rattle.ast.specs.Table.{tree}
use Rattle.errors.specs.declared.Refusal.TheVariants.{NoInstance}
use Rattle.pairs.specs.Pairs.{Stands}
use Rattle.pairs.proofs.Frames.{stands_then}
use Rattle.apply.proofs.Hand.{refuse_same, refuse_here}
use Rattle.supers.specs.Rows.{row_at, with_row, binders_from, binders_in}
use Rattle.supers.specs.declared.rows.Row.{Row}
use Rattle.supers.specs.declared.rows.Row.TheVariants.{Pending, Replaced}
use Rattle.subst.specs.Schemes.{scheme_of_word}
use Rattle.scope.specs.Scope.{closed_entry, local_entry, entry_of, with_entry, scheme_in, env_of, EntryIn}
use Rattle.scope.specs.declared.Entry.{Entry}
use Rattle.scope.proofs.Laws.{scope_row, scope_with}
use Rattle.scope.proofs.States.{scope_inserts}
use Rattle.pending.specs.Rows.{PendingRow}
use Rattle.inferred.specs.Inferring.{state_of}
use Rattle.toplevel.specs.Parts.{let_put, let_end}
use Rattle.toplevel.specs.Tops.{Nothing, ReadyPut, ReadyEnd, AnswerB, EndsB, GivesB}
use Rattle.toplevel.specs.Bound.{Bound}
use Rattle.toplevel.specs.Bound.{Done, Refused}

-- ## Handing on

-- A call that began with top₁ nodes, left₁ steps and these counters, and its caller: no more of anything.
pub record Under (top₁ left₁ tv₁ dv₁ top left tv dv : ℕ) : Type 0 where
  pub more : top ≤ top₁
  pub fewer : left₁ ≤ left
  pub words : 4 * top₁ + 8 * left₁ ≤ 4 * top + 8 * left
  pub tvs : tv₁ + left₁ ≤ tv + left
  pub dvs : dv₁ + left₁ ≤ dv + left

-- The outcome is that of a call, for one of the things that the call's promise is about.
pub record Via {E A : Type 0} (Of : E → Type 0) (o : E → Out A) (out : Out A) : Type 0 where
  pub at : E
  pub holds : Of at
  pub is : out ≡ o at

module _ {E E' : Type 0} {Of : E → Type 0} {o : E → Out (Scheme × M.State)} {Of' : E' → Type 0} {o' : E' → Out (Scheme × M.State)}
    {top₁ left₁ tv₁ dv₁ top left tv dv : ℕ} (U : Under top₁ left₁ tv₁ dv₁ top left tv dv) (via : (p : E') → Of' p → Via Of o (o' p)) where
  -- An answer for the caller.
  bound_on : (ns w ev od : List ℕ) (r : Bound) → AnswerB Of o ns w ev od top₁ left₁ tv₁ dv₁ r → AnswerB Of' o' ns w ev od top left tv dv r
  bound_on ns w ev od (Done vs ps t t' l' tv' dv') a =
      let g = a.0 in let u1 = U.more in let u2 = U.fewer in let u3 = U.words in let u5 = U.tvs in let u6 = U.dvs in
      let g1 = g.more in let g2 = g.down in let g3 = g.spent in let g5 = g.tvs in let g6 = g.dvs in
      (record { held = g.held; scope = g.scope; more = omega arith; down = omega arith; spent = omega arith; tvs = omega arith; dvs = omega arith }, λ p h. let v = via p h in v.is ∙ a.1 v.at v.holds)
  bound_on ns w ev od (Refused q t' l') a = λ p h. let v = via p h in refuse_same v.is (a v.at v.holds) U.more U.fewer

  -- What the call gave, for the caller.
  pub bound_handed : {ns w w₁ w' ev' od bs bs₁ bs' : List ℕ} {sp : ℕ} {r : Bound} → Stands w w₁ top sp → length bs₁ ≡ length bs
      → GivesB Of o ns w₁ w' ev' od bs₁ bs' top₁ left₁ sp tv₁ dv₁ r → GivesB Of' o' ns w w' ev' od bs bs' top left sp tv dv r
  bound_handed {ns} {w} {w₁} {w'} {ev'} {od} {bs} {bs₁} {bs'} {sp} {r} S l G =
      record { stands = stands_then S G.stands U.more; long = G.long ∙ l; answer = bound_on ns w' ev' od r G.answer }

  -- The same of a call that writes no words.
  pub bound_ended : {ns w w₁ ev' od bs bs₁ : List ℕ} {sp : ℕ} {r : Bound} → Stands w w₁ top sp → length bs₁ ≡ length bs
      → EndsB Of o ns w₁ ev' od top₁ left₁ tv₁ dv₁ r → GivesB Of' o' ns w w₁ ev' od bs bs₁ top left sp tv dv r
  bound_ended {ns} {w} {w₁} {ev'} {od} {bs} {bs₁} {sp} {r} S l G = record { stands = S; long = l; answer = bound_on ns w₁ ev' od r G.answer }

-- ## let_put

module _ {ns w ev od : List ℕ} {top x vs ps t : ℕ} (R : ReadyPut ns w ev od top x vs ps t) (left tv dv : ℕ) where
  -- The row is there.
  pub put_row_lem : 4 * x + 4 ≤ length ev
  put_row_lem = scope_row R.scope x R.there

  -- An entry for the scheme is written.
  put_entry : {ev₁ : List ℕ} (e : Entry) → EntryIn ns w top e → (M.env_insert (name_of ns x) (scheme_of_word ns w vs ps t) (state_of ns w ev od tv dv) left ≡ done (scheme_in ns w (entry_of ev x), M.with_env (env_of ns w (with_entry ev x e) od) (state_of ns w ev od tv dv)) left) → ev₁ ≡ with_entry ev x e
      → EndsB Nothing (λ _. let_put (name_of ns x) (scheme_of_word ns w vs ps t) (state_of ns w ev od tv dv) left) ns w ev₁ od top left tv dv (Done vs ps t top left tv dv)
  unfolding let_put after M.with_env
  put_entry e E i h = rw h (record {
    answer = (
      record { held = R.held; scope = scope_with R.scope x e R.there E; more = omega arith; down = omega arith; spent = omega arith; tvs = omega arith; dvs = omega arith },
      λ _ _. rw i,
    );
  })

  -- It is closed.
  pub put_closed : {ev₁ : List ℕ} → true ≡ null (ftv_scheme (scheme_of_word ns w vs ps t)) → ev₁ ≡ with_entry ev x (closed_entry vs ps t)
      → EndsB Nothing (λ _. let_put (name_of ns x) (scheme_of_word ns w vs ps t) (state_of ns w ev od tv dv) left) ns w ev₁ od top left tv dv (Done vs ps t top left tv dv)
  put_closed c h = put_entry (closed_entry vs ps t) (record { held = R.held; closed = sym c }) (scope_inserts R.scope (state_of ns w ev od tv dv) refl x R.there left (closed_entry vs ps t) _ refl) h

  -- It may not be.
  pub put_local : {ev₁ : List ℕ} → ev₁ ≡ with_entry ev x (local_entry vs ps t)
      → EndsB Nothing (λ _. let_put (name_of ns x) (scheme_of_word ns w vs ps t) (state_of ns w ev od tv dv) left) ns w ev₁ od top left tv dv (Done vs ps t top left tv dv)
  put_local h = put_entry (local_entry vs ps t) R.held (scope_inserts R.scope (state_of ns w ev od tv dv) refl x R.there left (local_entry vs ps t) _ refl) h

-- ## let_end

-- With no row nothing is deferred.
none_late : (x : Name) (c : Scheme) (ns w bs : List ℕ) (st : M.State) (n nd : ℕ) → nd ≡ 0 → let_end x c (binders_in ns w bs 0 nd) st n ≡ let_put x c st n
unfolding let_end none_deferred all_discharged binders_from after
none_late x c ns w bs st n nd h = rw h

-- The first row's binder comes first.
row_first : (ns w bs : List ℕ) (nd d k u : ℕ) → Pending d k u ≡ row_at bs 0 → binders_from ns w bs 0 (suc nd) ≡ (dvar d, pred (name_of ns k) (tree ns w u)) ∷ binders_from ns w bs 1 nd
unfolding binders_from
row_first ns w bs nd d k u h = ap (λ (r : Row). with_row ns w r (binders_from ns w bs 1 nd)) (sym h)

-- A first binder is refused.
one_late : (x : Name) (c : Scheme) (b : Binder) (ds : List Binder) (st : M.State) (n : ℕ) → let_end x c (b ∷ ds) st n ≡ refused (E.no_instance b.1) n
unfolding let_end none_deferred all_discharged after
one_late x c b ds st n = refl

-- So the first row is.
first_late : (x : Name) (c : Scheme) (ns w bs : List ℕ) (st : M.State) (n nd d k u : ℕ) → (nd ≡ 0 → ⊥) → Pending d k u ≡ row_at bs 0
    → let_end x c (binders_in ns w bs 0 nd) st n ≡ refused (E.no_instance (pred (name_of ns k) (tree ns w u))) n
first_late x c ns w bs st n zero d k u z h = absurd (z refl)
first_late x c ns w bs st n (suc nd) d k u z h =
    let j : suc nd - 0 ≡ suc nd = omega arith in
    ap (λ (i : ℕ). let_end x c (binders_from ns w bs 0 i) st n) j ∙ ap (λ (ds : List Binder). let_end x c ds st n) (row_first ns w bs nd d k u h) ∙ one_late x c (dvar d, pred (name_of ns k) (tree ns w u)) (binders_from ns w bs 1 nd) st n

module _ {ns w ev od bs : List ℕ} {top x vs ps t nd : ℕ} (R : ReadyEnd ns w ev od bs top x vs ps t nd) (left tv dv : ℕ) where
  -- No row is there.
  pub end_put : {ev₁ : List ℕ} {r : Bound} → nd ≡ 0
      → EndsB Nothing (λ _. let_put (name_of ns x) (scheme_of_word ns w vs ps t) (state_of ns w ev od tv dv) left) ns w ev₁ od top left tv dv r
      → EndsB Nothing (λ _. let_end (name_of ns x) (scheme_of_word ns w vs ps t) (binders_in ns w bs 0 nd) (state_of ns w ev od tv dv) left) ns w ev₁ od top left tv dv r
  end_put {ev₁} {r} h G = record {
    answer = bound_on (record { more = omega arith; fewer = omega arith; words = omega arith; tvs = omega arith; dvs = omega arith })
        (λ p k. record { at = tt {0}; holds = tt {0}; is = none_late (name_of ns x) (scheme_of_word ns w vs ps t) ns w bs (state_of ns w ev od tv dv) left nd h }) ns w ev₁ od r G.answer;
  }

  -- There is a first row.
  pub end_row : (nd ≡ 0 → ⊥) → 3 * 0 + 3 ≤ length bs
  end_row z = let f = R.rows.fits in omega (arith, z)

  -- It is refused.
  pub end_late : {ev₁ : List ℕ} {d c u : ℕ} → (nd ≡ 0 → ⊥) → Pending d c u ≡ row_at bs 0
      → EndsB Nothing (λ _. let_end (name_of ns x) (scheme_of_word ns w vs ps t) (binders_in ns w bs 0 nd) (state_of ns w ev od tv dv) left) ns w ev₁ od top left tv dv (Refused (NoInstance c u) top left)
  end_late {d = d} {c = c} {u = u} z h =
      let P = subst (λ (r : Row). PendingRow w top r) (sym h) (R.rows.each 0 (omega (arith, z))) in
      record { answer = λ p k. refuse_here (first_late (name_of ns x) (scheme_of_word ns w vs ps t) ns w bs (state_of ns w ev od tv dv) left nd d c u z h) P.1.1 (omega arith) }

  -- No row was replaced.
  pub end_not : {d y : ℕ} → (nd ≡ 0 → ⊥) → Replaced d y ≡ row_at bs 0 → ⊥
  end_not z h = subst (λ (r : Row). PendingRow w top r) (sym h) (R.rows.each 0 (omega (arith, z)))
