-- `finalize_expr`: canonical names without an environment, and its ways out.
use mathlib.Core.Path.{◌≡◌, refl, ap, sym, ◌∙◌, subst}
use mathlib.Core.List.{List, []}
use Prim.Native.Nat.{ℕ, ◌*◌, ◌-◌}
use native.Mathlib.Omega.{arith}
use lib.ListN.{length, take, drop}
use Rattle.meaning.specs.Ast.{TyVar, tyvar_before, Ty, Qual, qual, Scheme, forall, Core, Binder}
use Rattle.meaning.specs.Budget.{Out, done, refused, Steps, after}
use Rattle.meaning.specs.Subst.{apply_qual, ftv_type, ftv_qual}
use Rattle.meaning.specs.Classes.{ClassEnv}
use Rattle.meaning.specs.Cores.{sort_by, images, canonical_renamer, as_subst, apply_subst_to_core, canonical_scheme_and_core, canonicalize_pair}
use Rattle.meaning.specs.Generalize.{Env, env_ftv, preds_of, abstracted, is_own}
use Rattle.theorems.proofs.Made.{MadeQual, MadeEnv, made_qual}
use Rattle.ast.specs.Table.{tree}
use Rattle.ast.proofs.Laws.{kept_tree}
use Rattle.errors.specs.declared.Refusal.{Refusal}
use Rattle.pairs.proofs.Frames.{stands_then}
use Rattle.apply.proofs.Hand.{Then, then_done, refuse_on}
use Rattle.subst.specs.Schemes.{scheme_of_word}
use Rattle.cores.specs.Terms.{core}
use Rattle.supers.specs.Rows.{binders_in}
use Rattle.scope.specs.Scope.{env_of}
use Rattle.scope.proofs.Empties.{no_env}
use Rattle.canonical.specs.Named.{bound}
use Rattle.canonical.proofs.Fewer.{bound_all}
use Rattle.settle.specs.Settles.{finalized}
use Rattle.settle.specs.Answers.{settled_out, SettledIn, GivesSettled}
use Rattle.settle.specs.Settled.{Settled}
use Rattle.settle.specs.Settled.{Done as Settled-Done, Refused as Settled-Refused}
use Rattle.settle.proofs.Halves.{finalize_is}
use Rattle.settle.proofs.Uses.{settled_out_alone}
use Rattle.generalize.specs.Named.{Named}
use Rattle.generalize.specs.Named.{Done as Named-Done, Refused as Named-Refused}
use Rattle.generalize.specs.Finalized.{Done as Finalized-Done, Refused as Finalized-Refused}
use Rattle.generalize.specs.Naming.{Unnamed, GivesNamed, GivesNames}
use Rattle.generalize.specs.Generalizes.{ReadyFrom, GivesNamesFrom, ReadyGeneralize, Known, finalized_out, GivesFinalized}
use Rattle.generalize.proofs.Kept.{fit_made, kept_fit}
use Rattle.generalize.proofs.FromWays.{part_binders}

-- ## a part of the rows
-- What the names of the part give for all rows.
pub names_given : {ns w w' ev od bs : List ℕ} {top left sp nd n t : ℕ} {r : Named} (e : ℕ) → ReadyFrom ns w ev od bs top left sp nd n t
    → GivesNames ns w w' ev od (take (length bs - 3 * nd) (drop (3 * nd) bs)) top left sp (n - nd) t e r → GivesNamesFrom ns w w' ev od bs top left sp nd n t e r
names_given {ns} {w} {w'} {ev} {od} {bs} {top} {left} {sp} {nd} {n} {t} {r} e R G =
    record {
      gives = subst (λ (os : List Binder). GivesNamed (Unnamed ns (qual (preds_of os) (tree ns w t)) (env_of ns w ev od)) ns w w' top left sp
          (canonical_scheme_and_core (bound (qual (preds_of os) (tree ns w t)) (env_of ns w ev od)) (qual (preds_of os) (tree ns w t)) (abstracted os (core ns w e)) left) r)
          (part_binders ns w bs nd n R.most R.there) G;
    }

-- ## the meaning
-- A qualified type without its scheme's variables.
pair_from : (vs : List TyVar) (o : Out Qual) (c : Steps Core)
    → after {B = Qual × Core} o (λ q k. after {B = Qual × Core} (c k) (λ e. done (q, e)))
    ≡ after {B = Qual × Core} (after {B = Scheme × Core} o (λ q k. after {B = Scheme × Core} (c k) (λ e. done (forall vs q, e)))) (λ (r : Scheme × Core). done (r.0.qual, r.1))
unfolding after
pair_from vs (done q k) c = go (c k)
  where
    go : (o : Out Core) → after {B = Qual × Core} o (λ e. done (q, e)) ≡ after {B = Qual × Core} (after {B = Scheme × Core} o (λ e. done (forall vs q, e))) (λ (r : Scheme × Core). done (r.0.qual, r.1))
    go (done e l) = refl
    go (refused x l) = refl
pair_from vs (refused x k) c = refl

-- Without an environment it is the canonical scheme but for its list of variables.
pair_is : (q : Qual) (c : Core) (n : ℕ) → canonicalize_pair q c n ≡ after {B = Qual × Core} (canonical_scheme_and_core (bound q []) q c n) (λ (r : Scheme × Core). done (r.0.qual, r.1))
unfolding canonicalize_pair canonical_scheme_and_core
pair_is q c n = rw (bound_all q) (pair_from (sort_by tyvar_before (images (canonical_renamer (ftv_qual q)))) (apply_qual (as_subst (canonical_renamer (ftv_qual q))) q n)
    (apply_subst_to_core (as_subst (canonical_renamer (ftv_qual q))) c))

-- ## the ways
module _ {ns cl w w₁ il bs bs₁ : List ℕ} {top left sp n t e : ℕ} {r₁ : Settled} (R : ReadyGeneralize ns w il [] [] bs top left sp n t e)
    (G : GivesSettled ns cl w w₁ il [] [] bs bs₁ top left sp n t e r₁) where
  -- After what is settled comes the second half.
  halves : (ce : ClassEnv) → Then (finalized_out ns w bs n t e left ce) (settled_out ns w [] [] bs n t e left ce) (finalized (tree ns w t))
  halves ce = record {
    is = finalize_is ce (tree ns w t) (binders_in ns w bs 0 n) (core ns w e) left
        ∙ ap (λ (o : Out (List Binder × Core × List Binder)). after o (finalized (tree ns w t))) (sym (settled_out_alone ns w bs n t e left ce));
  }

  -- Settling refuses.
  pub final_refused : {x : Refusal} {m l : ℕ} → r₁ ≡ Settled-Refused x m l → GivesFinalized ns cl w w₁ il bs bs₁ top left sp n t e (Finalized-Refused x m l)
  final_refused h = let g = rw h at G.answer in
      record { stands = G.stands; long = G.long; answer = λ ce K. refuse_on (halves ce) (g ce K.asked) (omega arith) (omega arith) }

  module _ {f nd m l : ℕ} (h : r₁ ≡ Settled-Done f nd m l) where
    -- What is settled.
    rows_settled : SettledIn ns cl w w₁ il [] [] bs bs₁ top left n t e f nd m l
    rows_settled = rw h at G.answer

    -- The type is the same.
    same_type : tree ns w₁ t ≡ tree ns w t
    same_type = kept_tree ns G.stands.low R.settle.type

    module _ (ce : ClassEnv) (K : Known ns cl w top il (binders_in ns w bs 0 n) (tree ns w t) (core ns w e) [] ce) where
      -- The second half after what was settled.
      second : Then (finalized_out ns w bs n t e left ce)
          (canonical_scheme_and_core (bound (qual (preds_of (binders_in ns w₁ bs₁ nd n)) (tree ns w₁ t)) (env_of ns w₁ [] [])) (qual (preds_of (binders_in ns w₁ bs₁ nd n)) (tree ns w₁ t))
          (abstracted (binders_in ns w₁ bs₁ nd n) (core ns w₁ f)) l)
          (λ (r : Scheme × Core). done (r.0.qual, r.1))
      unfolding finalized
      second = record {
        is = then_done _ l (halves ce) (rows_settled.is ce K.asked)
            ∙ ap (λ (a : Ty). canonicalize_pair (qual (preds_of (binders_in ns w₁ bs₁ nd n)) a) (abstracted (binders_in ns w₁ bs₁ nd n) (core ns w₁ f)) l) (sym same_type)
            ∙ pair_is (qual (preds_of (binders_in ns w₁ bs₁ nd n)) (tree ns w₁ t)) (abstracted (binders_in ns w₁ bs₁ nd n) (core ns w₁ f)) l
            ∙ ap (λ (a : Env). after {B = Qual × Core} (canonical_scheme_and_core (bound (qual (preds_of (binders_in ns w₁ bs₁ nd n)) (tree ns w₁ t)) a) (qual (preds_of (binders_in ns w₁ bs₁ nd n)) (tree ns w₁ t))
            (abstracted (binders_in ns w₁ bs₁ nd n) (core ns w₁ f)) l) (λ (r : Scheme × Core). done (r.0.qual, r.1))) (sym (no_env ns w₁));
      }

      -- What is left was made.
      left_over : Unnamed ns (qual (preds_of (binders_in ns w₁ bs₁ nd n)) (tree ns w₁ t)) (env_of ns w₁ [] [])
      left_over =
          let k = kept_fit ce (is_own (ftv_type (tree ns w t) []) (env_ftv (env_of ns w [] []))) (binders_in ns w bs 0 n) (core ns w e) left l (binders_in ns w₁ bs₁ nd n) (binders_in ns w₁ bs₁ 0 nd) (core ns w₁ f) K.pending
          (rows_settled.is ce K.asked) in
          record {
            built = R.built;
            type = subst (λ (a : Ty). MadeQual (qual (preds_of (binders_in ns w₁ bs₁ nd n)) a)) (sym same_type)
                (made_qual (preds_of (binders_in ns w₁ bs₁ nd n)) (tree ns w t) (fit_made (preds_of (binders_in ns w₁ bs₁ nd n)) k) K.type);
            schemes = subst (λ (a : Env). MadeEnv a) (sym (no_env ns w₁)) K.schemes;
          }

    module _ {w₂ bs₂ : List ℕ} {r₂ : Named} (C : GivesNamesFrom ns w₁ w₂ [] [] bs₁ m l sp nd n t f r₂) (wide : length bs₂ ≡ length bs₁) where
      -- The second half refuses.
      pub names_stop : {x : Refusal} {m₂ l₂ : ℕ} → r₂ ≡ Named-Refused x m₂ l₂ → GivesFinalized ns cl w w₂ il bs bs₂ top left sp n t e (Finalized-Refused x m₂ l₂)
      names_stop i = let g = rw i at C.gives.answer in
          record {
            stands = stands_then G.stands C.gives.stands rows_settled.more;
            long = wide ∙ G.long;
            answer = λ ce K. refuse_on (second ce K) (g (left_over ce K)) rows_settled.more rows_settled.down;
          }

      -- All of it.
      pub names_done : {vs ps u g m₂ l₂ : ℕ} → r₂ ≡ Named-Done vs ps u g m₂ l₂ → GivesFinalized ns cl w w₂ il bs bs₂ top left sp n t e (Finalized-Done ps u g m₂ l₂)
      names_done {vs} {ps} {u} {g} {m₂} {l₂} i =
          let A = rw i at C.gives.answer in
          let S = rows_settled in
          let a = S.more in
          let b = A.more in
          let c = S.spent in
          let d = A.spent in
          let y = S.down in
          let z = A.down in
          record {
            stands = stands_then G.stands C.gives.stands a;
            long = wide ∙ G.long;
            answer = record {
              preds = A.held.preds;
              type = A.held.type;
              term = A.term;
              small = A.held.fine.small;
              more = omega arith;
              spent = omega arith;
              down = omega arith;
              is = λ ce K. then_done (scheme_of_word ns w₂ vs ps u, core ns w₂ g) l₂ (second ce K) (A.is (left_over ce K));
            };
          }
