-- Handing answers on.
use Prim.Native.Nat.{ℕ, ◌+◌, ◌*◌, ◌≤◌}
use native.Mathlib.Omega.{arith}
use mathlib.Core.Path.{◌≡◌}
use mathlib.Core.List.{List}
use Rattle.meaning.specs.Budget.{Out, refused}
use Rattle.meaning.specs.Subst.{Subst}
use Rattle.errors.specs.Refusals.{refusal_of, InTable, Refuses}
use Rattle.errors.specs.declared.Refusal.{Refusal}
use Rattle.pairs.specs.Pairs.{Stands}
use Rattle.apply.specs.Applied.{Applied}
use Rattle.apply.specs.Applied.{Refused}
use Rattle.compose.specs.Answers.{GivesU}
use Rattle.pairs.proofs.Frames.{stands_refl}
use Rattle.compose.proofs.Hand.{on as handed}

-- A refusal of a later part is one of the whole.
pub refuses_on : {A B : Type 0} {ns w : List ℕ} {top left t l t₁ l₁ : ℕ} {o : Out A} {o₁ : Out B} {e : Refusal} → Refuses ns w t l o₁ e t₁ l₁
    → o ≡ refused (refusal_of ns w e) l₁ → top ≤ t → l ≤ left → Refuses ns w top left o e t₁ l₁
refuses_on R i m d = let a = R.more in let b = R.down in record { is = i; types = R.types; more = omega arith; down = omega arith }

-- What is done after the table grew to t while the stack stood.
pub on : {slack slack₂ x x₂ : ℕ} {ns w w₁ w₂ : List ℕ} {top left t l hi : ℕ} {o o₁ : Out Subst} {r : Applied} → Stands w w₁ top hi → top ≤ t → o ≡ o₁
    → 4 * t + 8 * l + x₂ + 6 * slack ≤ 4 * top + 8 * left + x + 6 * slack₂ → l + slack ≤ left → GivesU slack₂ x₂ ns w₁ w₂ t l hi o₁ r → GivesU slack x ns w w₂ top left hi o r
on S more e less down G = handed S more e less (omega arith) (omega arith) G

-- A refusal over words that have been written.
pub because : {slack x : ℕ} {ns w w₁ : List ℕ} {top left hi t l : ℕ} {o : Out Subst} {e : Refusal} → Stands w w₁ top hi → Refuses ns w₁ top left o e t l
    → GivesU slack x ns w w₁ top left hi o (Refused e t l)
because S R = record { stands = S; answer = R }

-- A refusal where nothing was written.
pub refuses : {slack x : ℕ} {ns w : List ℕ} {top left hi l : ℕ} {o : Out Subst} (e : Refusal) → o ≡ refused (refusal_of ns w e) l → InTable w top e → l ≤ left
    → GivesU slack x ns w w top left hi o (Refused e top l)
refuses e i n d = because (stands_refl _ _ _) (record { is = i; types = n; more = omega arith; down = d })
