-- Computations that never give a step back, and the ways to put them together.
use mathlib.Core.Bool.{Bool, true, false}
use mathlib.Core.Option.{Option, none, some}
use Prim.Native.Nat.{ℕ, suc, zero, ◌-◌, ◌≤◌}
use native.Mathlib.Omega.{arith}
use Rattle.meaning.specs.Base.{if, ltb}
use Rattle.meaning.specs.Errors.{Refusal, out_of_steps, added}
use Rattle.meaning.specs.Budget.{Out, done, refused, Steps, after, step, spend, settled, or_refuse}
use Rattle.meaning.specs.Infer.{State, Run, ◌>>=◌, lift}
use Rattle.theorems.proofs.MatchCost.{Leaves}

-- No more steps are left than there were, after an answer and after a refusal. A record, so that the computation is
-- read off the goal.
pub record Falls {A : Type 0} (m : Steps A) : Type 0 where
  pub down : (n : ℕ) → Leaves (λ left. left ≤ n) (m n)

-- The same of a computation that changes the state.
abbrev pub RunFalls : {A : Type 0} → Run A → Type 0
RunFalls m = (st : State) → Falls (m st)

-- An answer costs nothing.
pub pure_falls : {A : Type 0} {a : A} → Falls (λ n. done a n)
pure_falls = record { down = λ n. omega arith }

-- Nor does a refusal.
pub refuse_falls : {A : Type 0} {r : Refusal} → Falls {A = A} (λ n. refused r n)
refuse_falls = record { down = λ n. omega arith }

lower : {A : Type 0} (o : Out A) (m n : ℕ) → m ≤ n → Leaves (λ left. left ≤ m) o → Leaves (λ left. left ≤ n) o
lower (done a left) m n h k = omega arith
lower (refused r left) m n h k = omega arith

after_down : {A B : Type 0} (o : Out A) (f : A → Steps B) (n : ℕ) → Leaves (λ left. left ≤ n) o → ((a : A) → Falls (f a)) → Leaves (λ left. left ≤ n) (after o f)
unfolding after
after_down (done a left) f n h k = lower (f a left) left n h ((k a).down left)
after_down (refused r left) f n h k = h

-- One computation after another, whether or not they change the state.
pub then_falls : {A B : Type 0} {m : Steps A} {f : A → Steps B} → Falls m → ((a : A) → Falls (f a)) → Falls (λ n. after (m n) f)
then_falls {m = m} {f = f} h k = record { down = λ n. after_down (m n) f n (h.down n) k }

-- The same, said of computations that change the state.
pub run_then_falls : {A B : Type 0} {m : Run A} {f : A → Run B} → RunFalls m → ((a : A) → RunFalls (f a)) → RunFalls (◌>>=◌ m f)
run_then_falls h k st = then_falls (h st) λ r. k r.0 r.1

-- A computation that changes no state.
pub lift_falls : {A : Type 0} {m : Steps A} (st : State) → Falls m → Falls (lift m st)
lift_falls st h = then_falls h (λ a. pure_falls)

-- A step that may be missing.
pub step_falls : {A : Type 0} {m : Steps A} → Falls m → Falls (step m)
unfolding step
step_falls {m = m} h = record { down = go }
  where
    go : (n : ℕ) → Leaves (λ left. left ≤ n) (step m n)
    go zero = omega arith
    go (suc n) = lower (m n) n (suc n) (omega arith) (h.down n)

-- Many steps at once.
pub spend_falls : (k : ℕ) → Falls (spend k)
unfolding spend
spend_falls k = record { down = λ n. go n (ltb n k) }
  where
    go : (n : ℕ) (b : Bool) → Leaves {A = Unit {0}} (λ left. left ≤ n) (if b (refused out_of_steps 0) (done tt (n - k)))
    go n true = omega arith
    go n false = omega arith

-- Either branch of a test.
pub if_falls : {A : Type 0} {m m' : Steps A} (b : Bool) → Falls m → Falls m' → Falls (if b m m')
if_falls true h h' = h
if_falls false h h' = h'

-- The same of computations that change the state.
pub if_run_falls : {A : Type 0} {m m' : Run A} (b : Bool) → RunFalls m → RunFalls m' → RunFalls (if b m m')
if_run_falls true h h' st = h st
if_run_falls false h h' st = h' st

settled_down : {A : Type 0} (o : Out A) (n : ℕ) → Leaves (λ left. left ≤ n) o → Leaves (λ left. left ≤ n) (settled o)
unfolding settled
settled_down (done a left) n h = h
settled_down {A = A} (refused r left) n h = go (added r)
  where
    go : (b : Bool) → Leaves {A = Option A} (λ left. left ≤ n) (if b (refused r left) (done none left))
    go true = h
    go false = h

-- A refusal that is taken for no answer.
pub attempt_falls : {A : Type 0} {m : Steps A} → Falls m → Falls (λ n. settled (m n))
attempt_falls {m = m} h = record { down = λ n. settled_down (m n) n (h.down n) }

-- An answer that may be missing.
pub or_refuse_falls : {A : Type 0} (r : Refusal) (o : Option A) → Falls (or_refuse r o)
unfolding or_refuse
or_refuse_falls r none = refuse_falls
or_refuse_falls r (some a) = pure_falls
