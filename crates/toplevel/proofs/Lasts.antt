-- The ways out of the functions of an expression.
use mathlib.Core.Path.{◌≡◌, refl, ◌∙◌}
use mathlib.Core.List.{List, []}
use Prim.Native.Nat.{ℕ, ◌+◌, ◌*◌, ◌-◌, ◌<◌}
use native.Mathlib.Omega.{arith}
use lib.ListN.{length}
use Rattle.meaning.specs.Ast.{Qual, Core, Expr}
use Rattle.meaning.specs.Budget.{Out, done, after}
use Rattle.meaning.specs.Map.{get}
use Rattle.meaning.specs.Subst.{apply_type, apply_preds_pending}
use Rattle.meaning.specs.Classes.{ClassEnv}
use Rattle.meaning.specs.Generalize.{finalize_expr}
use Rattle.meaning.specs.Infer as M
use Rattle.meaning.specs.Declare.{check_expr}
use Rattle.theorems.proofs.Made.{MadeEnv}
use Rattle.ast.specs.Table.{tree}
use Rattle.ast.proofs.Laws.{kept_tree}
use Rattle.errors.specs.declared.Refusal.{Refusal}
use Rattle.pairs.specs.Pairs.{sub_at, Stands}
use Rattle.pairs.proofs.Frames.{stands_then, stands_up}
use Rattle.apply.specs.Region.{Gives}
use Rattle.apply.specs.Applied.{Applied}
use Rattle.apply.specs.Applied.{Done as A-Done, Refused as A-Refused}
use Rattle.apply.proofs.Hand.{Then, then_done, refuse_on, refuse_same}
use Rattle.cores.specs.Terms.{core}
use Rattle.supers.specs.Rows.{binders_in}
use Rattle.scope.specs.Scope.{Scope}
use Rattle.scope.proofs.Laws.{scope_kept, env_kept}
use Rattle.pending.specs.Swept.{GivesRows}
use Rattle.pending.specs.Swept.{Swept}
use Rattle.pending.specs.Swept.{Done as S-Done, Refused as S-Refused}
use Rattle.generalize.specs.Generalizes.{ReadyGeneralize, Known, Finalizes, GivesFinalized}
use Rattle.generalize.specs.Finalized.{Finalized}
use Rattle.generalize.specs.Finalized.{Done as F-Done, Refused as F-Refused}
use Rattle.inferred.specs.Closing.{answer_of}
use Rattle.inferred.specs.Inferring.{state_of, ReadyI, GivesI}
use Rattle.inferred.specs.Inferred.{Inferred}
use Rattle.inferred.specs.Inferred.{Done as I-Done, Refused as I-Refused}
use Rattle.compose.proofs.Hand.{after-after}
use Rattle.inferred.proofs.Ends.{rows_same}
use Rattle.binding.specs.General.{AskedGeneral}
use Rattle.infer.specs.Asking.{Asked}
use Rattle.toplevel.specs.Parts.{check_end, check_rows, check_after}
use Rattle.toplevel.specs.Tops.{ReadyRest, AnswerK, GivesK}
use Rattle.toplevel.specs.Checked.{Checked}
use Rattle.toplevel.specs.Checked.{Done, Refused}
use Rattle.toplevel.proofs.Moves.{swept, rows_moved, typed, type_moved}
use Rattle.toplevel.proofs.Puts.{Under, Via}
use Rattle.toplevel.proofs.Ways.{let_got, let_asked}

module _ {E E' : Type 0} {Of : E → Type 0} {o : E → Out ((Qual × Core) × M.State)} {Of' : E' → Type 0} {o' : E' → Out ((Qual × Core) × M.State)}
    {top₁ left₁ tv₁ dv₁ top left tv dv : ℕ} (U : Under top₁ left₁ tv₁ dv₁ top left tv dv) (via : (p : E') → Of' p → Via Of o (o' p)) where
  -- An answer for the caller.
  checked_on : (ns w ev od : List ℕ) (r : Checked) → AnswerK Of o ns w ev od top₁ left₁ tv₁ dv₁ r → AnswerK Of' o' ns w ev od top left tv dv r
  checked_on ns w ev od (Done ps t e t' l' tv' dv') a =
      let g = a.0 in let u1 = U.more in let u2 = U.fewer in let u3 = U.words in let u5 = U.tvs in let u6 = U.dvs in
      let g1 = g.more in let g2 = g.down in let g3 = g.spent in let g5 = g.tvs in let g6 = g.dvs in
      (record { preds = g.preds; type = g.type; term = g.term; small = g.small; scope = g.scope; more = omega arith; down = omega arith; spent = omega arith; tvs = omega arith; dvs = omega arith }, λ p h. let v = via p h in v.is ∙ a.1 v.at v.holds)
  checked_on ns w ev od (Refused q t' l') a = λ p h. let v = via p h in refuse_same v.is (a v.at v.holds) U.more U.fewer

  -- What the call gave, for the caller.
  pub checked_handed : {ns w w₁ w' ev' od bs bs₁ bs' : List ℕ} {sp : ℕ} {r : Checked} → Stands w w₁ top sp → length bs₁ ≡ length bs
      → GivesK Of o ns w₁ w' ev' od bs₁ bs' top₁ left₁ sp tv₁ dv₁ r → GivesK Of' o' ns w w' ev' od bs bs' top left sp tv dv r
  checked_handed {ns} {w} {w₁} {w'} {ev'} {od} {bs} {bs₁} {bs'} {sp} {r} S l G =
      record { stands = stands_then S G.stands U.more; long = G.long ∙ l; answer = checked_on ns w' ev' od r G.answer }

-- No number is below none.
none_less : (n : ℕ) → n < 0 → ⊥
none_less n h = omega (arith, h)

-- No names make an environment too.
empty_scope : (ns w : List ℕ) (top : ℕ) → Scope ns w [] [] top
empty_scope ns w top = record {
  order = record { below = λ i h. absurd (none_less _ h); rises = λ i h. absurd (none_less _ h); covers = λ r h. absurd (none_less _ h) };
  fits = refl;
  entries = λ r h. absurd (none_less _ h);
}

-- It has made variables alone.
empty_made : MadeEnv []
unfolding get
empty_made x = tt

-- ## check_end, check_rows, check_after

module _ {ns w ev od il bs : List ℕ} {top left sp tv dv t e k m : ℕ} (R : ReadyRest ns w ev od il bs top left sp tv dv t e k m) (cl : List ℕ) where
  -- The class environments that are asked for.
  abbrev rest_of : ClassEnv → Type 0
  rest_of = AskedGeneral ns cl w il top (answer_of ns w bs sp t e k m) (state_of ns w ev od tv dv)

  -- What `finalize` asks.
  pub last_asks : ReadyGeneralize ns w il [] [] bs top left (sp - 2 * k) m t e
  last_asks = let Q = R.ready in let q1 = Q.room in let q2 = Q.fits in record {
    settle = record { names = Q.names; scope = empty_scope ns w top; heads = Q.heads; rows = R.words.pending; type = R.words.ty; term = R.words.term; room = omega arith; fits = omega arith };
    built = Q.built;
  }

  -- What it is asked for.
  last_known : (ce : ClassEnv) → rest_of ce → Known ns cl w top il (binders_in ns w bs 0 m) (tree ns w t) (core ns w e) [] ce
  last_known ce A = let F = A.fit in record {
    asked = record { declared = A.declared; lo = F.lo; hi = F.hi; named = F.named };
    type = F.made.1;
    pending = F.made.2;
    schemes = empty_made;
  }

  -- It is all.
  last_first : (ce : ClassEnv) → Then (check_end ce (answer_of ns w bs sp t e k m) (state_of ns w ev od tv dv) left) (finalize_expr ce (tree ns w t) (binders_in ns w bs 0 m) (core ns w e) left) (λ q. done (q, state_of ns w ev od tv dv))
  unfolding check_end
  last_first ce = record { is = refl }

  module _ {w₁ bs₁ : List ℕ} {f : Finalized} (G : GivesFinalized ns cl w w₁ il bs bs₁ top left (sp - 2 * k) m t e f) where
    -- It is refused.
    pub last_lost : {q : Refusal} {t₂ l₂ : ℕ} → f ≡ F-Refused q t₂ l₂
        → GivesK rest_of (λ ce. check_end ce (answer_of ns w bs sp t e k m) (state_of ns w ev od tv dv) left) ns w w₁ ev od bs bs₁ top left sp tv dv (Refused q t₂ l₂)
    last_lost h = record { stands = stands_up G.stands (omega arith); long = G.long; answer = λ ce A. refuse_on (last_first ce) ((rw h at G.answer) ce (last_known ce A)) (omega arith) (omega arith) }

    -- Its answer is the answer.
    pub last_gives : {ps u c t₂ l₂ : ℕ} → f ≡ F-Done ps u c t₂ l₂
        → GivesK rest_of (λ ce. check_end ce (answer_of ns w bs sp t e k m) (state_of ns w ev od tv dv) left) ns w w₁ ev od bs bs₁ top left sp tv dv (Done ps u c t₂ l₂ tv dv)
    last_gives {ps} {u} {c} {t₂} {l₂} h =
        let g : Finalizes ns cl w w₁ il bs top left m t e ps u c t₂ l₂ = rw h at G.answer in
        let g1 = g.more in let g2 = g.down in let g3 = g.spent in record {
          stands = stands_up G.stands (omega arith);
          long = G.long;
          answer = (
            record { preds = g.preds; type = g.type; term = g.term; small = g.small; scope = scope_kept R.ready.scope G.stands.low g1 g.type.table; more = g1; down = g2; spent = g3; tvs = omega arith; dvs = omega arith },
            λ ce A. then_done _ l₂ (last_first ce) (g.is ce (last_known ce A)) ∙ rw (env_kept R.ready.scope G.stands.low),
          );
        }

  -- The rows come first.
  rows_first : (ce : ClassEnv) → Then (check_rows ce (answer_of ns w bs sp t e k m) (state_of ns w ev od tv dv) left) (apply_preds_pending (sub_at ns w (sp - 2 * k) k) (binders_in ns w bs 0 m) left)
      (λ ps. check_end ce (sub_at ns w (sp - 2 * k) k, tree ns w t, ps, core ns w e) (state_of ns w ev od tv dv))
  unfolding check_rows after
  rows_first ce = record { is = after-after (apply_preds_pending (sub_at ns w (sp - 2 * k) k) (binders_in ns w bs 0 m) left) _ _ }

  module _ {w₁ bs₁ : List ℕ} {s : Swept} (G : GivesRows ns w w₁ bs bs₁ top left (sp - 2 * k) k m s) (wide : length bs₁ ≡ length bs) where
    -- They are refused.
    pub rows_lost : {q : Refusal} {t₂ l₂ : ℕ} → s ≡ S-Refused q t₂ l₂
        → GivesK rest_of (λ ce. check_rows ce (answer_of ns w bs sp t e k m) (state_of ns w ev od tv dv) left) ns w w₁ ev od bs bs₁ top left sp tv dv (Refused q t₂ l₂)
    rows_lost h = let z = R.ready.room in record { stands = stands_up G.gives.stands (omega arith); long = wide; answer = λ ce A. refuse_on (rows_first ce) (rw h at G.gives.answer) (omega arith) (omega arith) }

    -- The rest's answer is the answer.
    pub rows_gives : {t₂ l₂ : ℕ} → s ≡ S-Done t₂ l₂ → length w₁ ≡ length w → {w₂ bs₂ : List ℕ} {r : Checked}
        → GivesK (AskedGeneral ns cl w₁ il t₂ (answer_of ns w₁ bs₁ sp t e k m) (state_of ns w₁ ev od tv dv)) (λ ce. check_end ce (answer_of ns w₁ bs₁ sp t e k m) (state_of ns w₁ ev od tv dv) l₂) ns w₁ w₂ ev od bs₁ bs₂ t₂ l₂ sp tv dv r
        → GivesK rest_of (λ ce. check_rows ce (answer_of ns w bs sp t e k m) (state_of ns w ev od tv dv) left) ns w w₂ ev od bs bs₂ top left sp tv dv r
    rows_gives {l₂ = l₂} h len F = let Z = rows_moved R G wide h len in let v1 = Z.more in let v2 = Z.down in let v3 = Z.spent in
        checked_handed (record { more = v1; fewer = v2; words = v3; tvs = omega arith; dvs = omega arith })
        (λ ce A. record { at = ce; holds = Z.asked cl ce A; is = then_done _ l₂ (rows_first ce) (swept R G wide h len).is ∙ rw (Z.sub, Z.term, Z.env, kept_tree ns Z.stands.low R.words.ty) })
        Z.stands Z.wide F

  -- The type comes first.
  type_first : (ce : ClassEnv) → Then (check_after ce (answer_of ns w bs sp t e k m) (state_of ns w ev od tv dv) left) (apply_type (sub_at ns w (sp - 2 * k) k) (tree ns w t) left)
      (λ u. check_rows ce (sub_at ns w (sp - 2 * k) k, u, binders_in ns w bs 0 m, core ns w e) (state_of ns w ev od tv dv))
  unfolding check_after after
  type_first ce = record { is = after-after (apply_type (sub_at ns w (sp - 2 * k) k) (tree ns w t) left) _ _ }

  module _ {w₁ : List ℕ} {a : Applied} (G : Gives (tree ns w₁) (4 * top + 8 * left - 4) ns w w₁ top left (apply_type (sub_at ns w (sp - 2 * k) k) (tree ns w t) left) a) where
    -- It is refused.
    pub type_lost : {q : Refusal} {t₂ l₂ : ℕ} → a ≡ A-Refused q t₂ l₂
        → GivesK rest_of (λ ce. check_after ce (answer_of ns w bs sp t e k m) (state_of ns w ev od tv dv) left) ns w w₁ ev od bs bs top left sp tv dv (Refused q t₂ l₂)
    type_lost h = let z = R.ready.room in record { stands = stands_up G.stands (omega arith); long = refl; answer = λ ce A. refuse_on (type_first ce) (rw h at G.answer) (omega arith) (omega arith) }

    -- The rest's answer is the answer.
    pub type_gives : {u t₂ l₂ : ℕ} → a ≡ A-Done u t₂ l₂ → length w₁ ≡ length w → {w₂ bs₂ : List ℕ} {r : Checked}
        → GivesK (AskedGeneral ns cl w₁ il t₂ (answer_of ns w₁ bs sp u e k m) (state_of ns w₁ ev od tv dv)) (λ ce. check_rows ce (answer_of ns w₁ bs sp u e k m) (state_of ns w₁ ev od tv dv) l₂) ns w₁ w₂ ev od bs bs₂ t₂ l₂ sp tv dv r
        → GivesK rest_of (λ ce. check_after ce (answer_of ns w bs sp t e k m) (state_of ns w ev od tv dv) left) ns w w₂ ev od bs bs₂ top left sp tv dv r
    type_gives {l₂ = l₂} h len F = let Z = type_moved R G h len in let v1 = Z.more in let v2 = Z.down in let v3 = Z.spent in
        checked_handed (record { more = v1; fewer = v2; words = v3; tvs = omega arith; dvs = omega arith })
        (λ ce A. record { at = ce; holds = Z.asked cl ce A; is = then_done _ l₂ (type_first ce) (typed R G h len).0 ∙ rw (Z.sub, Z.term, Z.env, rows_same ns Z.stands.low R.words.pending 0 m (omega arith)) })
        Z.stands Z.wide F

-- ## check

module _ {ns w ev od il bs : List ℕ} {top left sp tv dv : ℕ} (R : ReadyI 0 0 0 ns w ev od il bs top left sp tv dv) {bytes ix cl mt : List ℕ} {i : ℕ} {w₁ ev₁ bs₁ : List ℕ} {q : Inferred}
    (G : GivesI (Asked bytes ns ix w cl mt il ev od top i) (λ p. M.infer_in 256 p.0 p.1 (state_of ns w ev od tv dv) left) 0 0 0 ns w w₁ ev₁ od bs bs₁ top left sp tv dv q) where
  -- The inference comes first.
  check_first : (p : ClassEnv × Expr) → Then (check_expr p.0 p.1 (state_of ns w ev od tv dv) left) (M.infer_in 256 p.0 p.1 (state_of ns w ev od tv dv) left) (λ r. check_after p.0 r.0 r.1)
  unfolding check_expr check_after check_rows check_end
  check_first p = record { is = refl }

  -- It is refused.
  pub check_lost : {y : Refusal} {t₂ l₂ : ℕ} → q ≡ I-Refused y t₂ l₂
      → GivesK (Asked bytes ns ix w cl mt il ev od top i) (λ p. check_expr p.0 p.1 (state_of ns w ev od tv dv) left) ns w w₁ ev₁ od bs bs₁ top left sp tv dv (Refused y t₂ l₂)
  check_lost h = record { stands = G.stands; long = G.long; answer = λ p A. refuse_on (check_first p) ((rw h at G.answer) p A) (omega arith) (omega arith) }

  -- The rest's answer is the answer.
  pub check_gives : {t e k m t₂ l₂ tv₂ dv₂ : ℕ} → q ≡ I-Done t e k m t₂ l₂ tv₂ dv₂ → {w₂ bs₂ : List ℕ} {r : Checked}
      → GivesK (AskedGeneral ns cl w₁ il t₂ (answer_of ns w₁ bs₁ sp t e k m) (state_of ns w₁ ev₁ od tv₂ dv₂)) (λ ce. check_after ce (answer_of ns w₁ bs₁ sp t e k m) (state_of ns w₁ ev₁ od tv₂ dv₂) l₂) ns w₁ w₂ ev₁ od bs₁ bs₂ t₂ l₂ sp tv₂ dv₂ r
      → GivesK (Asked bytes ns ix w cl mt il ev od top i) (λ p. check_expr p.0 p.1 (state_of ns w ev od tv dv) left) ns w w₂ ev₁ od bs bs₂ top left sp tv dv r
  check_gives {l₂ = l₂} h F =
      let g = (let_got R 0 G h).0 in let g1 = g.more in let g2 = g.down in let g3 = g.spent in let g5 = g.tvs in let g6 = g.dvs in
      checked_handed (record { more = omega arith; fewer = omega arith; words = omega arith; tvs = omega arith; dvs = omega arith })
      (λ p A. record { at = p.0; holds = let_asked R 0 G h p A; is = then_done _ l₂ (check_first p) ((let_got R 0 G h).1 p A) }) G.stands G.long F
