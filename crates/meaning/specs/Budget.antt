-- Computations that spend steps and may refuse: Rust's `Result` and `?`, with document 01's budget.
use Rattle.std.specs.Prelude.{ℕ, suc, zero, ◌-◌}
use Rattle.std.proofs.Math.Option.{Option, none, some}
use Rattle.meaning.specs.Base.{if, ltb}
use Rattle.meaning.specs.Errors.{Refusal, out_of_steps, added}

-- An answer or a refusal, and the steps that are left.
pub data Out (A : Type 0) : Type 0 where
  done : A → ℕ → Out A
  refused : Refusal → ℕ → Out A

-- From the steps that are left to what comes of it.
abbrev pub Steps : Type 0 → Type 0
Steps A = ℕ → Out A

-- What follows an answer; a refusal is handed on (`?`).
unfoldable pub after : {A B : Type 0} → Out A → (A → Steps B) → Out B
after (done a n) f = f a n
after (refused r n) f = refused r n

-- Two computations one after the other.
abbrev pub ◌>>=◌ : {A B : Type 0} → Steps A → (A → Steps B) → Steps B
◌>>=◌ m f = λ n. after (m n) f

-- `Ok`.
abbrev pub pure : {A : Type 0} → A → Steps A
pure a = λ n. done a n

-- `Err`.
abbrev pub refuse : {A : Type 0} → Refusal → Steps A
refuse r = λ n. refused r n

-- One step, then the rest; 6 where none is left. A walk writes `refuse too-deep` at depth 0 before it asks for the
-- step, so DEPTH comes before STEPS.
unfoldable pub step : {A : Type 0} → Steps A → Steps A
step m zero = refused out_of_steps zero
step m (suc n) = m n

-- How deep a walk may go: depth 256 passes, 257 gives 7.
abbrev pub depth : ℕ
depth = 256

-- So many steps at once, outside of any walk; 6 spends the whole budget.
unfoldable pub spend : ℕ → Steps (Unit {0})
spend k n = if (ltb n k) (refused out_of_steps 0) (done tt (n - k))

-- `.ok()`: an error of the Rust is `none`; a refusal that the port adds stays one.
unfoldable pub settled : {A : Type 0} → Out A → Out (Option A)
settled (done a n) = done (some a) n
settled (refused r n) = if (added r) (refused r n) (done none n)

-- The same of a computation.
abbrev pub attempt : {A : Type 0} → Steps A → Steps (Option A)
attempt m = λ n. settled (m n)

-- `ok_or_else`.
unfoldable pub or_refuse : {A : Type 0} → Refusal → Option A → Steps A
or_refuse r none = refuse r
or_refuse r (some a) = pure a
