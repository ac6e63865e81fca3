-- The logic of computations that also change the state: P of the answer, whatever the state becomes, and nothing of a
-- refusal.
use mathlib.Core.Path.{◌≡◌, refl}
use mathlib.Core.Bool.{Bool, true, false}
use mathlib.Core.Option.{Option, none, some}
use Prim.Native.Nat.{ℕ}
use Rattle.meaning.specs.Base.{if}
use Rattle.meaning.specs.Errors.{Refusal}
use Rattle.meaning.specs.Budget.{Out, done, refused, after, or_refuse}
use Rattle.meaning.specs.Infer.{State, Run}
use Rattle.theorems.proofs.Says.{Says, Any, and_then, past}

abbrev pub RunSays : {A : Type 0} → (A → Type 0) → Out (A × State) → Type 0
RunSays P o = Says (λ r. P r.0) Any o

-- Nothing is said of an answer.
abbrev pub Nothing : {A : Type 0} → A → Type 0
Nothing a = Unit {0}

-- One computation after another.
pub run_then : {A B : Type 0} (P : A → Type 0) (Q : B → Type 0) (o : Out (A × State)) (f : A → Run B)
    → RunSays P o → ((a : A) → P a → (st : State) (n : ℕ) → RunSays Q (f a st n)) → RunSays Q (after o (λ r. f r.0 r.1))
run_then P Q o f h k = and_then (λ r. P r.0) Any (λ r. Q r.0) o (λ r. f r.0 r.1) h λ r x n. k r.0 x r.1 n

-- The same of computations that change the state.
pub run_past : {A B : Type 0} (Q : B → Type 0) (o : Out (A × State)) (f : A → Run B)
    → ((a : A) (st : State) (n : ℕ) → RunSays Q (f a st n)) → RunSays Q (after o (λ r. f r.0 r.1))
run_past Q o f k = past (λ r. Q r.0) o (λ r. f r.0 r.1) λ r n. k r.0 r.1 n

-- A computation that leaves the state.
pub lift_says : {A : Type 0} (P : A → Type 0) (o : Out A) (st : State) → Says P Any o → RunSays P (after o (λ a. done (a, st)))
lift_says P o st h = and_then P Any (λ r. P r.0) o (λ a. done (a, st)) h λ a x n. x

-- What is not refused was there.
pub or_refuse_says : {A : Type 0} (q : Refusal) (o : Option A) (n : ℕ) → Says (λ a. o ≡ some a) Any (or_refuse q o n)
unfolding or_refuse
or_refuse_says q none n = tt
or_refuse_says q (some a) n = refl

-- Either branch of a test.
pub either_run : {A : Type 0} (P : A → Type 0) (b : Bool) (m m' : Run A) (st : State) (n : ℕ)
    → (b ≡ true → RunSays P (m st n)) → (b ≡ false → RunSays P (m' st n)) → RunSays P (if b m m' st n)
either_run P true m m' st n h k = h refl
either_run P false m m' st n h k = k refl

-- Less may be said.
pub weaken_run : {A : Type 0} (P Q : A → Type 0) (o : Out (A × State)) → RunSays P o → ((a : A) → P a → Q a) → RunSays Q o
weaken_run P Q (done r n) h f = f r.0 h
weaken_run P Q (refused r n) h f = tt
