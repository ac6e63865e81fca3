-- What the code's unification means: an answer is a most general unifier, in order; a refusal that is neither 6 nor 7 says
-- that there is none.
use mathlib.Core.List.{List}
use mathlib.Core.Logic.{◌≢◌}
use Prim.Native.Nat.{ℕ, ◌*◌, ◌-◌}
use Rattle.meaning.specs.Ast.{Ty}
use Rattle.meaning.specs.Errors.{number}
use Rattle.meaning.specs.Map.{tyvars}
use Rattle.meaning.specs.Unify.{unify}
use Rattle.meaning.specs.Plain.{Fill, sub}
use Rattle.theorems.proofs.Unified.{Mgu}
use Rattle.theorems.proofs.Ordered.{Sorted}
use Rattle.theorems.proofs.Theorems.{unify_sound, unify_general, unify_complete, unify_in_order}
use Rattle.errors.specs.Refusals.{refusal_of}
use Rattle.pairs.specs.Pairs.{sub_at}
use Rattle.apply.specs.Applied.{Applied}
use Rattle.apply.specs.Applied.{Done, Refused}
use Rattle.compose.specs.Answers.{GivesU}

abbrev pub Unifies : List ℕ → List ℕ → Ty → Ty → ℕ → Applied → Type 0
Unifies ns w' a b sp (Done k top left) = Mgu a b (sub_at ns w' (sp - 2 * k) k) × Sorted tyvars (sub_at ns w' (sp - 2 * k) k)
Unifies ns w' a b sp (Refused e top left) = number (refusal_of ns w' e) ≢ 6 → number (refusal_of ns w' e) ≢ 7 → (θ : Fill) → sub θ a ≢ sub θ b

pub unify_means : (ns w w' : List ℕ) (top left sp : ℕ) (a b : Ty) (r : Applied) → GivesU 1 0 ns w w' top left sp (unify a b left) r → Unifies ns w' a b sp r
unify_means ns w w' top left sp a b (Done k top' left') g =
    let s = sub_at ns w' (sp - 2 * k) k in
    let e = g.answer.0 in
    (record { unifies = unify_sound a b left s left' e; general = unify_general a b left s left' e }, unify_in_order a b left s left' e)
unify_means ns w w' top left sp a b (Refused e top' left') g = (unify_complete a b left (refusal_of ns w' e) left' g.answer.is).1
