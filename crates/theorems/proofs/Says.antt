-- The logic of computations that spend steps: P of an answer, R of a refusal. A proof over a `do` block is the block
-- again, line for line.
use mathlib.Core.Path.{◌≡◌, refl, subst}
use mathlib.Core.Bool.{Bool, true, false}
use Prim.Native.Nat.{ℕ, suc, zero}
use Rattle.meaning.specs.Base.{if}
use Rattle.meaning.specs.Errors.{Refusal, format, limit, reserved, redeclared, room, out_of_steps, too_deep, output, unbound_variable, unification_failure, occurs_check, con_mismatch, arity_mismatch, no_instance, ambiguous, duplicate_instance, unknown_class, unknown_method, missing_superclass, missing_method}
use Rattle.meaning.specs.Budget.{Out, done, refused, Steps, after, step}

-- P of the answer, or R of the refusal.
abbrev pub Says : {A : Type 0} → (A → Type 0) → (Refusal → Type 0) → Out A → Type 0
Says P R (done a n) = P a
Says P R (refused r n) = R r

-- A refusal of the Rust: 11 to 22, and none of 1 to 8.
abbrev pub Definite : Refusal → Type 0
Definite (format k) = ⊥
Definite (limit k) = ⊥
Definite (reserved k) = ⊥
Definite redeclared = ⊥
Definite room = ⊥
Definite out_of_steps = ⊥
Definite too_deep = ⊥
Definite output = ⊥
Definite (unbound_variable x) = Unit {0}
Definite (unification_failure a b) = Unit {0}
Definite (occurs_check v t) = Unit {0}
Definite (con_mismatch c d) = Unit {0}
Definite (arity_mismatch c m n) = Unit {0}
Definite (no_instance p) = Unit {0}
Definite (ambiguous p) = Unit {0}
Definite (duplicate_instance p) = Unit {0}
Definite (unknown_class c) = Unit {0}
Definite (unknown_method m) = Unit {0}
Definite (missing_superclass c s) = Unit {0}
Definite (missing_method c a m) = Unit {0}

abbrev pub Limit : Refusal → Type 0
Limit r = ¬ Definite r

-- Nothing is said of a refusal.
abbrev pub Any : Refusal → Type 0
Any r = Unit {0}

-- One computation after another.
pub after_says : {A B : Type 0} (P : A → Type 0) (R : Refusal → Type 0) (Q : B → Type 0) (S : Refusal → Type 0) (o : Out A) (f : A → Steps B)
    → Says P R o → ((r : Refusal) → R r → S r) → ((a : A) → P a → (n : ℕ) → Says Q S (f a n)) → Says Q S (after o f)
unfolding after
after_says P R Q S (done a n) f h w k = k a h n
after_says P R Q S (refused r n) f h w k = w r h

-- The same, where both refuse alike.
pub and_then : {A B : Type 0} (P : A → Type 0) (R : Refusal → Type 0) (Q : B → Type 0) (o : Out A) (f : A → Steps B)
    → Says P R o → ((a : A) → P a → (n : ℕ) → Says Q R (f a n)) → Says Q R (after o f)
and_then P R Q o f h k = after_says P R Q R o f h (λ r x. x) k

-- A step that may be missing.
pub step_says : {A : Type 0} (P : A → Type 0) (R : Refusal → Type 0) (m : Steps A) → R out_of_steps → ((n : ℕ) → Says P R (m n)) → (n : ℕ) → Says P R (step m n)
unfolding step
step_says P R m h k zero = h
step_says P R m h k (suc n) = k n

-- Either branch of a test.
pub if_says : {A : Type 0} (P : A → Type 0) (R : Refusal → Type 0) (b : Bool) (m m' : Steps A) (n : ℕ)
    → (b ≡ true → Says P R (m n)) → (b ≡ false → Says P R (m' n)) → Says P R (if b m m' n)
if_says P R true m m' n h k = h refl
if_says P R false m m' n h k = k refl

pub weaken : {A : Type 0} (P : A → Type 0) (R : Refusal → Type 0) (Q : A → Type 0) (S : Refusal → Type 0) (o : Out A)
    → Says P R o → ((a : A) → P a → Q a) → ((r : Refusal) → R r → S r) → Says Q S o
weaken P R Q S (done a n) h f g = f a h
weaken P R Q S (refused r n) h f g = g r h

pub both_say : {A : Type 0} (P : A → Type 0) (R : Refusal → Type 0) (Q : A → Type 0) (S : Refusal → Type 0) (o : Out A)
    → Says P R o → Says Q S o → Says (λ a. P a × Q a) (λ r. R r × S r) o
both_say P R Q S (done a n) h k = (h, k)
both_say P R Q S (refused r n) h k = (h, k)

-- Nothing is said of an outcome.
pub anything : {A : Type 0} (o : Out A) → Says (λ a. Unit {0}) Any o
anything (done a n) = tt
anything (refused r n) = tt

-- What follows a computation of which nothing is said.
pub past : {A B : Type 0} (Q : B → Type 0) (o : Out A) (f : A → Steps B) → ((a : A) (n : ℕ) → Says Q Any (f a n)) → Says Q Any (after o f)
past Q o f h = and_then (λ a. Unit {0}) Any Q o f (anything o) (λ a _. h a)

pub of_done : {A : Type 0} (P : A → Type 0) (R : Refusal → Type 0) (o : Out A) (a : A) (n : ℕ) → Says P R o → o ≡ done a n → P a
of_done P R o a n h e = subst (λ (o : Out _). Says P R o) e h

pub of_refused : {A : Type 0} (P : A → Type 0) (R : Refusal → Type 0) (o : Out A) (r : Refusal) (n : ℕ) → Says P R o → o ≡ refused r n → R r
of_refused P R o r n h e = subst (λ (o : Out _). Says P R o) e h
