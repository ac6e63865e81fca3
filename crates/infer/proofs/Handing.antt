-- Handing answers and refusals of inference on to a caller, and ends with the state.
use mathlib.Core.Path.{◌≡◌, refl, ◌∙◌}
use mathlib.Core.List.{List}
use Prim.Native.Nat.{ℕ, ◌+◌, ◌*◌, ◌≤◌}
use native.Mathlib.Omega.{arith}
use lib.ListN.{length}
use Rattle.meaning.specs.Budget.{Out, done, refused, Steps, after}
use Rattle.meaning.specs.Infer as M
use Rattle.errors.specs.Refusals.{refusal_of, InTable, Refuses}
use Rattle.errors.specs.declared.Refusal.{Refusal}
use Rattle.pairs.specs.Pairs.{Stands}
use Rattle.pairs.proofs.Frames.{stands_refl, stands_then}
use Rattle.apply.proofs.Hand.{Then, then_done, refuse_on, refuse_same, refuse_here}
use Rattle.scope.specs.Scope.{Scope}
use Rattle.scope.proofs.Laws.{scope_kept, env_kept}
use Rattle.inferred.specs.Closing.{answer_of, AnswerC, GivesC}
use Rattle.inferred.specs.Inferring.{state_of, with_state, GrownI, AnswerI, GivesI}
use Rattle.inferred.specs.Closed.{Closed}
use Rattle.inferred.specs.Closed.{Done as C-Done, Refused as C-Refused}
use Rattle.inferred.specs.Inferred.{Inferred}
use Rattle.inferred.specs.Inferred.{Done, Refused}
use Rattle.infer.specs.Runs.{Nothing}

-- The outcome is that of a call, for one of the things that the call's promise is about.
pub record Via {E : Type 0} (Of : E → Type 0) (o : E → Out (M.Inferred × M.State)) (out : Out (M.Inferred × M.State)) : Type 0 where
  pub at : E
  pub holds : Of at
  pub is : out ≡ o at

-- The outcome goes on after that of a call.
pub record Leads {E A : Type 0} (Of : E → Type 0) (o : E → Out A) (out : Out (M.Inferred × M.State)) : Type 0 where
  pub at : E
  pub holds : Of at
  pub rest : A → Steps (M.Inferred × M.State)
  pub is : Then out (o at) rest

-- A call that began with top₁ nodes, left₁ steps and these counters, and its caller: no more of anything.
pub record Under (x₁ y₁ z₁ top₁ left₁ tv₁ dv₁ x y z top left tv dv : ℕ) : Type 0 where
  pub more : top ≤ top₁
  pub fewer : left₁ ≤ left
  pub words : 4 * top₁ + 8 * left₁ + x₁ ≤ 4 * top + 8 * left + x
  pub rows : left₁ + z₁ ≤ left + z
  pub tvs : tv₁ + left₁ + y₁ ≤ tv + left + y
  pub dvs : dv₁ + left₁ ≤ dv + left

module _ {E E' : Type 0} {Of : E → Type 0} {o : E → Out (M.Inferred × M.State)} {Of' : E' → Type 0} {o' : E' → Out (M.Inferred × M.State)}
    {x₁ y₁ z₁ top₁ left₁ tv₁ dv₁ x y z top left tv dv : ℕ} (U : Under x₁ y₁ z₁ top₁ left₁ tv₁ dv₁ x y z top left tv dv) (via : (p : E') → Of' p → Via Of o (o' p)) where
  -- An answer for the caller.
  answer_on : (ns w' ev' od bs' : List ℕ) (sp : ℕ) (r : Inferred) → AnswerI Of o x₁ y₁ z₁ ns w' ev' od bs' top₁ left₁ sp tv₁ dv₁ r → AnswerI Of' o' x y z ns w' ev' od bs' top left sp tv dv r
  answer_on ns w' ev' od bs' sp (Done t e k m t' l' tv' dv') a =
      let g = a.0 in
      let u1 = U.more in let u2 = U.fewer in let u3 = U.words in let u4 = U.rows in let u5 = U.tvs in let u6 = U.dvs in
      let g1 = g.more in let g2 = g.down in let g3 = g.spent in let g4 = g.rows in let g5 = g.tvs in let g6 = g.dvs in (
        record { words = g.words; scope = g.scope; more = omega arith; down = omega arith; spent = omega arith; rows = omega arith; tvs = omega arith; dvs = omega arith },
        λ p h. let v = via p h in v.is ∙ a.1 v.at v.holds,
      )
  answer_on ns w' ev' od bs' sp (Refused e t' l') a = λ p h. let v = via p h in refuse_same v.is (a v.at v.holds) U.more U.fewer

  -- What the call gave, for the caller.
  pub handed : {ns w w₁ w' ev' od bs bs₁ bs' : List ℕ} {sp : ℕ} {r : Inferred} → Stands w w₁ top sp → length bs₁ ≡ length bs
      → GivesI Of o x₁ y₁ z₁ ns w₁ w' ev' od bs₁ bs' top₁ left₁ sp tv₁ dv₁ r → GivesI Of' o' x y z ns w w' ev' od bs bs' top left sp tv dv r
  handed {ns} {w} {w₁} {w'} {ev'} {od} {bs} {bs₁} {bs'} {sp} {r} S l G =
      record { stands = stands_then S G.stands U.more; long = G.long ∙ l; answer = answer_on ns w' ev' od bs' sp r G.answer }

-- A refusal of a call is the caller's.
pub lost_on : {E E' A : Type 0} {Of : E → Type 0} {o : E → Out A} {Of' : E' → Type 0} {o' : E' → Out (M.Inferred × M.State)}
    {x y z : ℕ} {ns w w' ev' od bs bs' : List ℕ} {top left top₁ left₁ sp tv dv t l : ℕ} {q : Refusal} → ((p : E') → Of' p → Leads Of o (o' p))
    → Stands w w' top sp → length bs' ≡ length bs → top ≤ top₁ → left₁ ≤ left → ((e : E) → Of e → Refuses ns w' top₁ left₁ (o e) q t l)
    → GivesI Of' o' x y z ns w w' ev' od bs bs' top left sp tv dv (Refused q t l)
lost_on via S b m f R = record { stands = S; long = b; answer = λ p h. let v = via p h in refuse_on v.is (R v.at v.holds) m f }

-- A refusal of one's own: nothing was written.
pub refused_here : {E : Type 0} {Of : E → Type 0} {o : E → Out (M.Inferred × M.State)} {x y z : ℕ} {ns w ev' od bs : List ℕ} {top left sp tv dv l : ℕ} {q : Refusal}
    → InTable w top q → l ≤ left → ((p : E) → Of p → o p ≡ refused (refusal_of ns w q) l) → GivesI Of o x y z ns w w ev' od bs bs top left sp tv dv (Refused q top l)
refused_here t h e = record { stands = stands_refl _ _ _; long = refl; answer = λ p k. refuse_here (e p k) t h }

-- ## Ends

-- An end's answer with the state, by its cases.
state-answer : (o : Out M.Inferred) (x : ℕ) (ns w w' ev od bs' : List ℕ) (top left sp m tv dv : ℕ) (c : Closed) (out : Out (M.Inferred × M.State)) → Scope ns w ev od top → Stands w w' top sp
    → out ≡ after {A = M.Inferred} {B = M.Inferred × M.State} o (λ a. done (a, state_of ns w ev od tv dv)) → AnswerC o x ns w' bs' top left sp m c → AnswerI Nothing (λ _. out) x 0 m ns w' ev od bs' top left sp tv dv (with_state c m tv dv)
state-answer o x ns w w' ev od bs' top left sp m tv dv (C-Done t e k t' l') out S F h a =
    let g = a.0 in
    let g1 = g.more in let g2 = g.down in let g3 = g.spent in
    let T : Then out o (λ a. done (a, state_of ns w ev od tv dv)) = record { is = h } in (
      record {
        words = g.words;
        scope = scope_kept S F.low g.more g.words.ty.table;
        more = g.more;
        down = g.down;
        spent = omega arith;
        rows = omega arith;
        tvs = omega arith;
        dvs = omega arith;
      },
      λ p y. then_done _ l' T a.1 ∙ rw (env_kept S F.low),
    )
state-answer o x ns w w' ev od bs' top left sp m tv dv (C-Refused e t' l') out S F h a =
    let T : Then out o (λ a. done (a, state_of ns w ev od tv dv)) = record { is = h } in
    λ p y. refuse_on T a (omega arith) (omega arith)

-- An end's answer with the state.
pub with_state_gives : {o : Out M.Inferred} {x : ℕ} {ns w w' ev od bs bs' : List ℕ} {top left sp m tv dv : ℕ} {c : Closed} {out : Out (M.Inferred × M.State)} {r : Inferred}
    → r ≡ with_state c m tv dv → Scope ns w ev od top → out ≡ after {A = M.Inferred} {B = M.Inferred × M.State} o (λ a. done (a, state_of ns w ev od tv dv))
    → GivesC o x ns w w' bs bs' top left sp m c → GivesI Nothing (λ _. out) x 0 m ns w w' ev od bs bs' top left sp tv dv r
with_state_gives {o} {x} {ns} {w} {w'} {ev} {od} {bs} {bs'} {top} {left} {sp} {m} {tv} {dv} {c} {out} {r} e S h G =
    rw e (record { stands = G.stands; long = G.long; answer = state-answer o x ns w w' ev od bs' top left sp m tv dv c out S G.stands h G.answer })

-- What an answer says, by the arm of the match.
module _ {E : Type 0} {Of : E → Type 0} {o : E → Out (M.Inferred × M.State)} {x y z : ℕ} {ns w w' ev' od bs bs' : List ℕ} {top left sp tv dv : ℕ} {r : Inferred}
    (G : GivesI Of o x y z ns w w' ev' od bs bs' top left sp tv dv r) where
  -- An answer.
  pub got : {t e k m t' l' tv' dv' : ℕ} → r ≡ Done t e k m t' l' tv' dv' → GrownI x y z ns w' ev' od bs' top left sp tv dv t e k m t' l' tv' dv'
      × ((i : E) → Of i → o i ≡ done (answer_of ns w' bs' sp t e k m, state_of ns w' ev' od tv' dv') l')
  got h = rw h at G.answer

  -- A refusal.
  pub lost : {q : Refusal} {t l : ℕ} → r ≡ Refused q t l → (i : E) → Of i → Refuses ns w' top left (o i) q t l
  lost h = rw h at G.answer
