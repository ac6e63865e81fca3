-- Laws of outcomes: what follows an answer or a refusal, and unification one pair at a time.
use Prim.Native.Nat.{ℕ, zero, suc, ◌-◌, ◌<◌}
use native.Mathlib.Omega.{arith}
use native.Mathlib.Numerals.{sub-one}
use mathlib.Core.Path.{◌≡◌, refl, ◌∙◌}
use mathlib.Core.Bool.{true, false}
use Rattle.meaning.specs.Base.{is_yes}
use Rattle.meaning.specs.Ast.{Ty, Tys, nil, ◌◂◌}
use Rattle.meaning.specs.Errors.{too_deep, out_of_steps}
use Rattle.meaning.specs.Budget.{Out, done, refused, Steps, after, step}
use Rattle.meaning.specs.Subst.{Subst, apply_in, compose}
use Rattle.meaning.specs.Unify.{unify_zip, unify_arrow, unify_node, unify_in}
use Rattle.compose.proofs.Hand.{after-after}
use Rattle.unify.specs.Unify.{apply_two, unify_one}

-- A decision whose fact holds.
pub holds : {P : Type 0} (d : Dec P) → P → is_yes d ≡ true
holds (yes p) h = refl
holds (no n) h = absurd (n h)

-- A decision whose fact fails.
pub fails : {P : Type 0} (d : Dec P) → (P → ⊥) → is_yes d ≡ false
fails (yes p) h = absurd (h p)
fails (no n) h = refl

-- Applying a substitution takes a step.
pub apply_spends : (d l : ℕ) (s : Subst) (t : Ty) {u : Ty} {m : ℕ} → apply_in d s t l ≡ done u m → 0 < l
unfolding apply_in step
apply_spends zero l s t e = let z : ◌≡◌ {A = ℕ} 0 1 = cc in absurd (omega arith)
apply_spends (suc d) zero s t e = let z : ◌≡◌ {A = ℕ} 0 1 = cc in absurd (omega arith)
apply_spends (suc d) (suc l) s t e = omega arith

-- Two computations, whose answers are a pair.
abbrev paired : {A B : Type 0} → Out A → Steps B → Out (A × B)
paired {A} {B} o q = after {B = A × B} o (λ a n. after {B = A × B} (q n) (λ b m. done (a, b) m))

-- What follows both follows the pair.
pair_then : {A B C : Type 0} (o : Out A) (q : Steps B) (f : A → B → Steps C) → after o (λ a n. after (q n) (λ b. f a b)) ≡ after (paired o q) (λ p. f p.0 p.1)
unfolding after
pair_then (refused r n) q f = refl
pair_then {A} {B} (done a n) q f = second (q n)
  where
    second : (o : Out B) → after o (λ b. f a b) ≡ after (after {B = A × B} o (λ b m. done (a, b) m)) (λ p. f p.0 p.1)
    second (refused r m) = refl
    second (done b m) = refl

-- One pair, written out.
one_is : (u : Ty → Ty → Steps Subst) (s : Subst) (x y : Ty) (n : ℕ)
    → after (apply_in 256 s x n) (λ a n₁. after (apply_in 256 s y n₁) (λ b n₂. after (u a b n₂) (λ s₁. compose s₁ s))) ≡ unify_one u s x y n
unfolding unify_one apply_two
one_is u s x y n = pair_then (apply_in 256 s x n) (apply_in 256 s y) (λ a b n₂. after (u a b n₂) (λ s₁. compose s₁ s))

-- Two lists: the first pair, then the rest.
pub zip_one : (u : Ty → Ty → Steps Subst) (s : Subst) (x y : Ty) (xs ys : Tys) (n : ℕ)
    → unify_zip u (x ◂ xs) (y ◂ ys) s n ≡ after (unify_one u s x y n) (λ s₁. unify_zip u xs ys s₁)
unfolding unify_zip unify_one apply_two
zip_one u s x y xs ys n =
    pair_then (apply_in 256 s x n) (apply_in 256 s y) (λ a b n₂. after (u a b n₂) (λ s₁ n₃. after (compose s₁ s n₃) (λ s₂. unify_zip u xs ys s₂)))
    ∙ simp after-after

-- Two arrows whose left sides are unified: the right sides after that.
pub arrow_one : (u : Ty → Ty → Steps Subst) (s : Subst) (a b c d : Ty) (n m : ℕ) → u a c n ≡ done s m → unify_arrow u a b c d n ≡ unify_one u s b d m
unfolding unify_arrow after
arrow_one u s a b c d n m e = rw e (one_is u s b d m)

-- Lists of which the first has ended.
pub zip_nil : (u : Ty → Ty → Steps Subst) (ts : Tys) (s : Subst) (n : ℕ) → unify_zip u nil ts s n ≡ done s n
unfolding unify_zip
zip_nil u nil s n = refl
zip_nil u (t ◂ ts) s n = refl

-- Where there is depth and a step, `unify` looks at the two types.
pub unify_step : (d l : ℕ) (a b : Ty) → (d ≡ 0 → ⊥) → (l ≡ 0 → ⊥) → unify_in d a b l ≡ unify_node (λ x y. unify_in (d - 1) x y) a b (l - 1)
unfolding unify_in step
unify_step zero l a b p q = absurd (p refl)
unify_step (suc d) zero a b p q = absurd (q refl)
unify_step (suc d) (suc l) a b p q = simp sub-one

-- Without depth it refuses.
pub unify_deep : (d l : ℕ) (a b : Ty) → d ≡ 0 → unify_in d a b l ≡ refused too_deep l
unfolding unify_in
unify_deep d l a b e = rw e

-- And so it does without a step.
pub unify_spent : (d l : ℕ) (a b : Ty) → (d ≡ 0 → ⊥) → l ≡ 0 → unify_in d a b l ≡ refused out_of_steps 0
unfolding unify_in step
unify_spent zero l a b p e = absurd (p refl)
unify_spent (suc d) l a b p e = rw e
