-- Tests as facts.
use mathlib.Core.Path.{◌≡◌, refl}
use mathlib.Core.Bool.{Bool, true, false, ◌||◌, ◌&&◌, true≢false, false≢true}
use mathlib.Core.Option.{Option, none, some}
use mathlib.Core.Logic.{◌≢◌}
use Prim.Native.Nat.{ℕ, ◌<◌, ◌≤◌}
use native.Mathlib.Decide.{dec_lt, ℕ_discrete}
use native.Mathlib.Omega.{arith}
use Rattle.meaning.specs.Base.{is_yes, eqb, ltb}

pub is_yes_true : {P : Type 0} (d : Dec P) → is_yes d ≡ true → P
is_yes_true (yes p) e = p
is_yes_true (no h) e = absurd (false≢true e)

pub is_yes_false : {P : Type 0} (d : Dec P) → is_yes d ≡ false → ¬ P
is_yes_false (yes p) e = absurd (true≢false e)
is_yes_false (no h) e = h

pub is_yes_of : {P : Type 0} (d : Dec P) → P → is_yes d ≡ true
is_yes_of (yes p) h = refl
is_yes_of (no n) h = absurd (n h)

pub is_no_of : {P : Type 0} (d : Dec P) → ¬ P → is_yes d ≡ false
is_no_of (yes p) h = absurd (h p)
is_no_of (no n) h = refl

pub eqb_true : (m n : ℕ) → eqb m n ≡ true → m ≡ n
unfolding eqb
eqb_true m n e = is_yes_true (ℕ_discrete m n) e

pub eqb_false : (m n : ℕ) → eqb m n ≡ false → m ≢ n
unfolding eqb
eqb_false m n e = is_yes_false (ℕ_discrete m n) e

pub eqb_of : (m n : ℕ) → m ≡ n → eqb m n ≡ true
unfolding eqb
eqb_of m n e = is_yes_of (ℕ_discrete m n) e

pub ltb_true : (m n : ℕ) → ltb m n ≡ true → m < n
unfolding ltb
ltb_true m n e = is_yes_true (dec_lt m n) e

pub ltb_false : (m n : ℕ) → ltb m n ≡ false → n ≤ m
unfolding ltb
ltb_false m n e = let h = is_yes_false (dec_lt m n) e in omega arith

pub ltb_of : (m n : ℕ) → m < n → ltb m n ≡ true
unfolding ltb
ltb_of m n h = is_yes_of (dec_lt m n) h

pub or_cases : (a b : Bool) → (a || b) ≡ true → (P : Type 0) → (a ≡ true → P) → (b ≡ true → P) → P
or_cases true b e P f g = f e
or_cases false b e P f g = g e

pub or_left : (a b : Bool) → a ≡ true → (a || b) ≡ true
or_left true b e = refl
or_left false b e = absurd (false≢true e)

pub or_right : (a b : Bool) → b ≡ true → (a || b) ≡ true
or_right true b e = refl
or_right false b e = e

pub or_false_left : (a b : Bool) → (a || b) ≡ false → a ≡ false
or_false_left true b e = e
or_false_left false b e = refl

pub or_false_right : (a b : Bool) → (a || b) ≡ false → b ≡ false
or_false_right true true e = e
or_false_right true false e = refl
or_false_right false b e = e

pub and_left : (a b : Bool) → (a && b) ≡ true → a ≡ true
and_left true b e = refl
and_left false b e = e

pub and_right : (a b : Bool) → (a && b) ≡ true → b ≡ true
and_right true b e = e
and_right false true e = refl
and_right false false e = e

pub some_inj : {A : Type 0} (a b : A) → some a ≡ some b → a ≡ b
some_inj a b e = cc

pub none_some : {A : Type 0} (a : A) → ◌≡◌ {A = Option A} none (some a) → ⊥
none_some a e = let z : ◌≡◌ {A = ℕ} 0 1 = cc in omega arith
