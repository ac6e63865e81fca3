-- Verdicts on readers one after the other: the first bad item decides, and its refusal is handed on.
use mathlib.Core.Path.{◌≡◌, refl, sym, ap, ◌∙◌, subst}
use mathlib.Core.List.{List}
use Prim.Native.Nat.{ℕ}
use Rattle.meaning.specs.Reader.{Read, got, bad, Reader, onward, from, pair}
use Rattle.std.specs.Prelude.{Result, Ok, Err}
use Rattle.errors.specs.declared.Refusal.{Refusal}
use Rattle.reader.specs.Verdicts.{Passes, Verdict}

-- This value was read, and what follows it has the verdict.
pub goes_with : {A B : Type 0} (bytes : List ℕ) (o : Read A) (f : A → Reader B) (a : A) (p : ℕ) (r : Result ℕ Refusal) → o ≡ got a p (from p bytes)
    → Verdict bytes (f a p (from p bytes)) r → Verdict bytes (onward o f) r
unfolding onward
goes_with bytes o f a p r e h = subst (λ q. Verdict bytes (onward q f) r) (sym e) h

-- A value was read, and what follows it has the verdict.
pub goes : {A B : Type 0} (bytes : List ℕ) (o : Read A) (f : A → Reader B) (p : ℕ) (r : Result ℕ Refusal) → Passes bytes o p
    → ((a : A) → Verdict bytes (f a p (from p bytes)) r) → Verdict bytes (onward o f) r
goes bytes o f p r g h = goes_with bytes o f g.value p r g.is (h g.value)

-- The first reader refuses.
pub stops : {A B : Type 0} (o : Read A) (f : A → Reader B) (x : _) → o ≡ bad x → onward o f ≡ bad x
unfolding onward
stops o f x e = ap (λ q. onward q f) e

-- What was read is put into a larger thing.
pub ends : {A B : Type 0} (bytes : List ℕ) (o : Read A) (f : A → B) (r : Result ℕ Refusal) → Verdict bytes o r → Verdict bytes (onward o (λ a at bs. got (f a) at bs)) r
unfolding onward
ends bytes o f (Ok p) g = record { value = f g.value; is = ap (λ q. onward q (λ a at bs. got (f a) at bs)) g.is; within = g.within }
ends bytes o f (Err e) g = stops o (λ a at bs. got (f a) at bs) _ g

-- ## Things read as pairs, and put together in another way
onward_put : {A B C : Type 0} (o : Read A) (f : A → B) (g : B → C) → onward (onward o (λ a at bs. got (f a) at bs)) (λ b at bs. got (g b) at bs) ≡ onward o (λ a at bs. got (g (f a)) at bs)
unfolding onward
onward_put (got a next rest) f g = refl
onward_put (bad x) f g = refl

flat_two : {A B C : Type 0} (f : A → B → C) (r : Reader A) (s : Reader B) (at : ℕ) (bs : List ℕ)
    → onward (pair r s at bs) (λ (x : A × B) at₂ bs₂. got (f x.0 x.1) at₂ bs₂) ≡ onward (r at bs) (λ a at₁ bs₁. onward (s at₁ bs₁) (λ b at₂ bs₂. got (f a b) at₂ bs₂))
unfolding pair onward
flat_two {A = A} {B = B} {C = C} f r s at bs = go (r at bs)
  where
    go : (o : Read A) → ◌≡◌ {A = Read C} (onward (onward o (λ a at₁ bs₁. onward (s at₁ bs₁) (λ b at₂ bs₂. got (a, b) at₂ bs₂))) (λ (x : A × B) at₂ bs₂. got (f x.0 x.1) at₂ bs₂))
        (onward o (λ a at₁ bs₁. onward (s at₁ bs₁) (λ b at₂ bs₂. got (f a b) at₂ bs₂)))
    go (got a next rest) = onward_put (s next rest) (λ b. (a, b)) (λ (x : A × B). f x.0 x.1)
    go (bad x) = refl

flat_three : {A B C D : Type 0} (f : A → B → C → D) (r : Reader A) (s : Reader B) (t : Reader C) (at : ℕ) (bs : List ℕ)
    → onward (pair r (pair s t) at bs) (λ (x : A × (B × C)) at₂ bs₂. got (f x.0 x.1.0 x.1.1) at₂ bs₂)
    ≡ onward (r at bs) (λ a at₁ bs₁. onward (s at₁ bs₁) (λ b at₂ bs₂. onward (t at₂ bs₂) (λ c at₃ bs₃. got (f a b c) at₃ bs₃)))
unfolding pair onward
flat_three {A = A} {B = B} {C = C} {D = D} f r s t at bs = go (r at bs)
  where
    go : (o : Read A) → ◌≡◌ {A = Read D} (onward (onward o (λ a at₁ bs₁. onward (pair s t at₁ bs₁) (λ b at₂ bs₂. got (a, b) at₂ bs₂))) (λ (x : A × (B × C)) at₂ bs₂. got (f x.0 x.1.0 x.1.1) at₂ bs₂))
        (onward o (λ a at₁ bs₁. onward (s at₁ bs₁) (λ b at₂ bs₂. onward (t at₂ bs₂) (λ c at₃ bs₃. got (f a b c) at₃ bs₃))))
    go (got a next rest) = onward_put (pair s t next rest) (λ y. (a, y)) (λ (x : A × (B × C)). f x.0 x.1.0 x.1.1) ∙ flat_two (f a) s t next rest
    go (bad x) = refl

flat_four : {A B C D E : Type 0} (f : A → B → C → D → E) (r : Reader A) (s : Reader B) (t : Reader C) (u : Reader D) (at : ℕ) (bs : List ℕ)
    → onward (pair r (pair s (pair t u)) at bs) (λ (x : A × (B × (C × D))) at₂ bs₂. got (f x.0 x.1.0 x.1.1.0 x.1.1.1) at₂ bs₂)
    ≡ onward (r at bs) (λ a at₁ bs₁. onward (s at₁ bs₁) (λ b at₂ bs₂. onward (t at₂ bs₂) (λ c at₃ bs₃. onward (u at₃ bs₃) (λ d at₄ bs₄. got (f a b c d) at₄ bs₄))))
unfolding pair onward
flat_four {A = A} {B = B} {C = C} {D = D} {E = E} f r s t u at bs = go (r at bs)
  where
    go : (o : Read A) → ◌≡◌ {A = Read E} (onward (onward o (λ a at₁ bs₁. onward (pair s (pair t u) at₁ bs₁) (λ b at₂ bs₂. got (a, b) at₂ bs₂))) (λ (x : A × (B × (C × D))) at₂ bs₂. got (f x.0 x.1.0 x.1.1.0 x.1.1.1) at₂ bs₂))
        (onward o (λ a at₁ bs₁. onward (s at₁ bs₁) (λ b at₂ bs₂. onward (t at₂ bs₂) (λ c at₃ bs₃. onward (u at₃ bs₃) (λ d at₄ bs₄. got (f a b c d) at₄ bs₄)))))
    go (got a next rest) = onward_put (pair s (pair t u) next rest) (λ y. (a, y)) (λ (x : A × (B × (C × D))). f x.0 x.1.0 x.1.1.0 x.1.1.1) ∙ flat_three (f a) s t u next rest
    go (bad x) = refl

-- The verdict on a pair is that on its parts put together.
pub paired : {A B C : Type 0} (bytes : List ℕ) (r : Reader A) (s : Reader B) (f : A → B → C) (at : ℕ) (bs : List ℕ) (q : Result ℕ Refusal)
    → Verdict bytes (pair r s at bs) q → Verdict bytes (onward (r at bs) (λ a at₁ bs₁. onward (s at₁ bs₁) (λ b at₂ bs₂. got (f a b) at₂ bs₂))) q
paired {A = A} {B = B} bytes r s f at bs q v =
    subst (λ o. Verdict bytes o q) (flat_two f r s at bs) (ends bytes (pair r s at bs) (λ (x : A × B). f x.0 x.1) q v)

-- The same of three and of four parts.
pub three_paired : {A B C D : Type 0} (bytes : List ℕ) (r : Reader A) (s : Reader B) (t : Reader C) (f : A → B → C → D) (at : ℕ) (bs : List ℕ) (q : Result ℕ Refusal) → Verdict bytes (pair r (pair s t) at bs) q
    → Verdict bytes (onward (r at bs) (λ a at₁ bs₁. onward (s at₁ bs₁) (λ b at₂ bs₂. onward (t at₂ bs₂) (λ c at₃ bs₃. got (f a b c) at₃ bs₃)))) q
three_paired {A = A} {B = B} {C = C} bytes r s t f at bs q v =
    subst (λ o. Verdict bytes o q) (flat_three f r s t at bs) (ends bytes (pair r (pair s t) at bs) (λ (x : A × (B × C)). f x.0 x.1.0 x.1.1) q v)

pub four_paired : {A B C D E : Type 0} (bytes : List ℕ) (r : Reader A) (s : Reader B) (t : Reader C) (u : Reader D) (f : A → B → C → D → E) (at : ℕ) (bs : List ℕ) (q : Result ℕ Refusal)
    → Verdict bytes (pair r (pair s (pair t u)) at bs) q
    → Verdict bytes (onward (r at bs) (λ a at₁ bs₁. onward (s at₁ bs₁) (λ b at₂ bs₂. onward (t at₂ bs₂) (λ c at₃ bs₃. onward (u at₃ bs₃) (λ d at₄ bs₄. got (f a b c d) at₄ bs₄))))) q
four_paired {A = A} {B = B} {C = C} {D = D} bytes r s t u f at bs q v =
    subst (λ o. Verdict bytes o q) (flat_four f r s t u at bs) (ends bytes (pair r (pair s (pair t u)) at bs) (λ (x : A × (B × (C × D))). f x.0 x.1.0 x.1.1.0 x.1.1.1) q v)
