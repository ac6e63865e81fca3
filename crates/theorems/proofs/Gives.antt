-- What holds of an answer and of the steps that it leaves.
use mathlib.Core.Path.{◌≡◌, refl}
use Prim.Native.Nat.{ℕ, ◌+◌, ◌-◌, ◌≤◌}
use mathlib.Core.Bool.{Bool, true, false}
use native.Mathlib.Omega.{arith}
use Rattle.meaning.specs.Base.{if, ltb}
use Rattle.meaning.specs.Errors.{Refusal, out_of_steps}
use Rattle.meaning.specs.Budget.{Out, done, refused, Steps, after, spend}
use Rattle.meaning.specs.Infer.{State}
use Rattle.theorems.proofs.Tests.{ltb_false}
use Rattle.theorems.proofs.MatchCost.{Leaves}
use Rattle.theorems.proofs.Spends.{Falls}

-- P of each answer and of the steps that it leaves. A record, so that the outcome is read off the goal.
pub record Gives {A : Type 0} (P : A → ℕ → Type 0) (o : Out A) : Type 0 where
  pub given : (a : A) (left : ℕ) → o ≡ done a left → P a left

-- An answer.
pub gives : {A : Type 0} {P : A → ℕ → Type 0} (a : A) (left : ℕ) → P a left → Gives P (done a left)
gives {P = P} a left h = record { given = λ b m e. let p : a ≡ b = cc in let q : left ≡ m = cc in rw (p, q) at h }

-- A refusal is no answer.
pub gives_none : {A : Type 0} {P : A → ℕ → Type 0} {r : Refusal} {left : ℕ} → Gives P (refused r left)
gives_none {r = r} {left = left} = record { given = λ b m e. absurd (let z : ◌≡◌ {A = ℕ} 0 1 = cc in omega arith) }

-- One computation after another.
pub then_gives : {A B : Type 0} {P : A → ℕ → Type 0} {Q : B → ℕ → Type 0} {o : Out A} {f : A → Steps B}
    → Gives P o → ((a : A) (left : ℕ) → P a left → Gives Q (f a left)) → Gives Q (after o f)
unfolding after
then_gives {o = done a left} h k = k a left (h.given a left refl)
then_gives {o = refused r left} h k = gives_none

-- One fact in place of another.
pub gives_more : {A : Type 0} {P Q : A → ℕ → Type 0} {o : Out A} → Gives P o → ((a : A) (left : ℕ) → P a left → Q a left) → Gives Q o
gives_more h k = record { given = λ a left e. k a left (h.given a left e) }

-- A computation that gives no step back.
pub falls_gives : {A : Type 0} {m : Steps A} (n : ℕ) → Falls m → Gives (λ a left. left ≤ n) (m n)
falls_gives {A = A} {m = m} n h = go (m n) (h.down n)
  where
    go : (o : Out A) → Leaves (λ left. left ≤ n) o → Gives (λ a left. left ≤ n) o
    go (done a left) k = gives a left k
    go (refused r left) k = gives_none

-- A computation that changes no state.
pub lift_gives : {A : Type 0} {P : A → ℕ → Type 0} {o : Out A} (st : State) → Gives P o → Gives {A = A × State} (λ r left. P r.0 left) (after o (λ a. done (a, st)))
lift_gives st h = then_gives h λ a left p. gives (a, st) left p

-- And the state that it gives back is the same.
pub lift_keeps : {A : Type 0} {P : A → ℕ → Type 0} {o : Out A} (st : State) → Gives P o → Gives {A = A × State} (λ r left. (r.1 ≡ st) × P r.0 left) (after o (λ a. done (a, st)))
lift_keeps st h = then_gives h λ a left p. gives (a, st) left (refl, p)

-- Steps that are spent at once are exactly those that are missing.
pub spend_gives : (k n : ℕ) → Gives (λ _ left. left + k ≡ n) (spend k n)
unfolding spend
spend_gives k n = go (ltb n k) refl
  where
    go : (b : Bool) → ltb n k ≡ b → Gives {A = Unit {0}} (λ _ left. left + k ≡ n) (if b (refused out_of_steps 0) (done tt (n - k)))
    go true e = gives_none
    go false e = let h = ltb_false n k e in gives tt (n - k) (omega arith)
