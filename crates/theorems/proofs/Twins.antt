-- Two computations that do the same, and what holds of their answer. A proof over two `do` blocks is the block again.
use mathlib.Core.Path.{◌≡◌, refl, sym, subst}
use Prim.Native.Nat.{ℕ}
use Rattle.meaning.specs.Budget.{Out, done, refused, Steps, after}
use Rattle.theorems.proofs.Says.{Says, Any, anything}
use Rattle.theorems.proofs.Runs.{Nothing}

-- The second outcome is the first one, and P holds of its answer.
pub record Both {A : Type 0} (P : A → Type 0) (o o₁ : Out A) : Type 0 where
  pub same : o₁ ≡ o
  pub says : Says P Any o

-- A computation beside itself.
pub alone : {A : Type 0} {P : A → Type 0} {o : Out A} → Says P Any o → Both P o o
alone h = record { same = refl; says = h }

-- Nothing is said of its answer.
pub alone_any : {A : Type 0} (o : Out A) → Both Nothing o o
alone_any o = alone (anything o)

-- One after another, beside one after another.
pub both_then : {A B : Type 0} (P : A → Type 0) (Q : B → Type 0) (o o₁ : Out A) (f f₁ : A → Steps B)
    → Both P o o₁ → ((a : A) → P a → (n : ℕ) → Both Q (f a n) (f₁ a n)) → Both Q (after o f) (after o₁ f₁)
unfolding after
both_then P Q o o₁ f f₁ h k = subst (λ (x : Out _). Both Q (after o f) (after x f₁)) (sym h.same) (go o h.says)
  where
    go : (o : Out _) → Says P Any o → Both Q (after o f) (after o f₁)
    go (done a n) i = k a i n
    go (refused r n) i = record { same = refl; says = tt }
