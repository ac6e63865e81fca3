-- Handing answers and refusals on to a caller.
use Prim.Native.Nat.{ℕ, ◌+◌, ◌*◌, ◌-◌, ◌≤◌}
use native.Mathlib.Omega.{arith}
use mathlib.Core.Path.{◌≡◌, refl, ◌∙◌}
use mathlib.Core.List.{List}
use Rattle.meaning.specs.Budget.{Out, done, refused, Steps, after}
use Rattle.meaning.specs.Map.{tyvars}
use Rattle.meaning.specs.Subst.{Subst}
use Rattle.theorems.proofs.Ordered.{Sorted}
use Rattle.ast.specs.Table.{Table}
use Rattle.errors.specs.Refusals.{refusal_of, Refuses}
use Rattle.errors.specs.declared.Refusal.{Refusal}
use Rattle.pairs.specs.Pairs.{sub_at, Sub, Stands}
use Rattle.apply.specs.Applied.{Applied}
use Rattle.apply.specs.Applied.{Done, Refused}
use Rattle.compose.specs.Answers.{GrownU, AnswerU, GivesU}
use Rattle.pairs.proofs.Frames.{stands_refl, stands_then}

-- What follows an answer and then another follows both.
pub after-after : {A B C : Type 0} (o : Out A) (f : A → Steps B) (g : B → Steps C) → after (after o f) g ≡ after o (λ a n. after (f a n) g)
unfolding after
after-after (done a n) f g = refl
after-after (refused r n) f g = refl

-- An answer of t nodes and l steps, to one who had top nodes and left steps.
answer_on : (slack slack₂ x x₂ : ℕ) (ns w : List ℕ) (top left t l hi : ℕ) (o o' : Out Subst) (r : Applied) → o ≡ o' → top ≤ t
    → 4 * t + 8 * l + x₂ + 6 * slack ≤ 4 * top + 8 * left + x + 6 * slack₂ → l + slack ≤ left + slack₂ → l ≤ left
    → AnswerU slack₂ x₂ ns w t l hi o' r → AnswerU slack x ns w top left hi o r
answer_on slack slack₂ x x₂ ns w top left t l hi o o' (Done k t' l') e more less down fewer a =
    let u = a.1.more in
    let y = a.1.spent in
    let z = a.1.down in
    (e ∙ a.0, record { table = a.1.table; sub = a.1.sub; sorted = a.1.sorted; more = omega arith; spent = omega arith; down = omega arith })
answer_on slack slack₂ x x₂ ns w top left t l hi o o' (Refused u t' l') e more less down fewer a =
    let m = a.more in
    let d = a.down in
    record { is = e ∙ a.is; types = a.types; more = omega arith; down = omega arith }

-- What is done after the table grew to t and the stack stood.
pub on : {slack slack₂ x x₂ : ℕ} {ns w w₁ w₂ : List ℕ} {top left t l hi : ℕ} {o o' : Out Subst} {r : Applied} → Stands w w₁ top hi → top ≤ t → o ≡ o'
    → 4 * t + 8 * l + x₂ + 6 * slack ≤ 4 * top + 8 * left + x + 6 * slack₂ → l + slack ≤ left + slack₂ → l ≤ left
    → GivesU slack₂ x₂ ns w₁ w₂ t l hi o' r → GivesU slack x ns w w₂ top left hi o r
on {slack} {slack₂} {x} {x₂} {ns} {w₂ = w₂} {top} {left} {t} {l} {hi} {o} {o'} {r} S more e less down fewer G =
    record { stands = stands_then S G.stands more; answer = answer_on slack slack₂ x x₂ ns w₂ top left t l hi o o' r e more less down fewer G.answer }

-- A refusal is handed on as it is, where the caller's outcome is the same refusal.
pub because : {slack x : ℕ} {ns w w₁ : List ℕ} {top left t l hi t' l' : ℕ} {o o' : Out Subst} {e : Refusal} → Stands w w₁ top hi → top ≤ t → l ≤ left
    → o ≡ refused (refusal_of ns w₁ e) l' → Refuses ns w₁ t l o' e t' l' → GivesU slack x ns w w₁ top left hi o (Refused e t' l')
because S more fewer e R =
    let m = R.more in
    let d = R.down in
    record { stands = S; answer = record { is = e; types = R.types; more = omega arith; down = omega arith } }

-- What an answer says, by the arm of the match.
module _ {slack x : ℕ} {ns w w₁ : List ℕ} {top left hi : ℕ} {o : Out Subst} {r : Applied} (G : GivesU slack x ns w w₁ top left hi o r) where
  -- A region.
  pub got : {k t l : ℕ} → r ≡ Done k t l → (o ≡ done (sub_at ns w₁ (hi - 2 * k) k) l) × GrownU slack x ns w₁ top left hi t l k
  got h = rw h at G.answer

  -- A refusal.
  pub lost : {e : Refusal} {t l : ℕ} → r ≡ Refused e t l → Refuses ns w₁ top left o e t l
  lost h = rw h at G.answer

-- The k pairs stay as they are.
pub stays : {ns w : List ℕ} {top left hi k : ℕ} {o : Out Subst} → Table w top → Sub w top (hi - 2 * k) k → Sorted tyvars (sub_at ns w (hi - 2 * k) k)
    → o ≡ done (sub_at ns w (hi - 2 * k) k) left → GivesU 0 (2 * k) ns w w top left hi o (Done k top left)
stays T S s e = record {
  stands = stands_refl _ _ _;
  answer = (e, record { table = T; sub = S; sorted = s; more = omega arith; spent = omega arith; down = omega arith });
}
