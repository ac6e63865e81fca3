-- What matching costs: a step for each pair entered, and no more pairs than the pattern has nodes.
use mathlib.Core.Path.{◌≡◌, refl}
use mathlib.Core.Bool.{Bool, true, false, ◌&&◌}
use mathlib.Core.List.{[], ◌∷◌}
use mathlib.Core.Option.{Option, none, some}
use Prim.Native.Nat.{ℕ, suc, zero, ◌+◌, ◌≤◌}
use native.Mathlib.Omega.{arith}
use Rattle.meaning.specs.Base.{is_yes, if, eqb}
use Rattle.meaning.specs.Ast.{same_name, Ty, Tys, var, con, arrow, nil, ◌◂◌, count_tys, same_ty, size, sizes}
use Rattle.meaning.specs.Errors.{Refusal, out_of_steps, too_deep, unification_failure}
use Rattle.meaning.specs.Budget.{Out, done, refused, Steps, after, pure, refuse, step}
use Rattle.meaning.specs.Map.{tyvars, get}
use Rattle.meaning.specs.Subst.{Subst, agree_at, agree, merge}
use Rattle.meaning.specs.Unify.{match_zip, match_node, match_in}
use Rattle.theorems.proofs.Says.{Says}

-- P of the steps that are left, after an answer and after a refusal.
abbrev pub Leaves : {A : Type 0} → (ℕ → Type 0) → Out A → Type 0
Leaves P (done a left) = P left
Leaves P (refused r left) = P left

-- P of the steps that an answer leaves, R of a refusal and of the steps that it leaves.
abbrev Ends : {A : Type 0} → (ℕ → Type 0) → (Refusal → ℕ → Type 0) → Out A → Type 0
Ends P R (done a left) = P left
Ends P R (refused r left) = R r left

after_ends : {A B : Type 0} (P : ℕ → Type 0) (R : Refusal → ℕ → Type 0) (Q : ℕ → Type 0) (S : Refusal → ℕ → Type 0) (o : Out A) (f : A → Steps B)
    → Ends P R o → ((r : Refusal) (left : ℕ) → R r left → S r left) → ((a : A) (left : ℕ) → P left → Ends Q S (f a left)) → Ends Q S (after o f)
unfolding after
after_ends P R Q S (done a left) f h w k = k a left h
after_ends P R Q S (refused r left) f h w k = w r left h

weaken_ends : {A : Type 0} (P : ℕ → Type 0) (R : Refusal → ℕ → Type 0) (Q : ℕ → Type 0) (S : Refusal → ℕ → Type 0) (o : Out A)
    → Ends P R o → ((left : ℕ) → P left → Q left) → ((r : Refusal) (left : ℕ) → R r left → S r left) → Ends Q S o
weaken_ends P R Q S (done a left) h f g = f left h
weaken_ends P R Q S (refused r left) h f g = g r left h

-- Of n steps no more than k are spent, and none is given back.
record Spent (k n left : ℕ) : Type 0 where
  most : n ≤ left + k
  down : left ≤ n

-- A refusal after no more than k of n steps, and not for want of steps where there were k.
record Stopped (k n : ℕ) (r : Refusal) (left : ℕ) : Type 0 where
  most : n ≤ left + k
  down : left ≤ n
  enough : k ≤ n → r ≡ out_of_steps → ⊥

unification_not_steps : (a b : Ty) → unification_failure a b ≡ out_of_steps → ⊥
unification_not_steps a b e = let z : ◌≡◌ {A = ℕ} 0 1 = cc in omega arith

depth_not_steps : too_deep ≡ out_of_steps → ⊥
depth_not_steps e = let z : ◌≡◌ {A = ℕ} 0 1 = cc in omega arith

-- Two types that do not fit: nothing is spent.
clash : (k n : ℕ) (a b : Ty) → Stopped k n (unification_failure a b) n
clash k n a b = record { most = omega arith; down = omega arith; enough = λ _. unification_not_steps a b }

agree_at_free : (v : Ty) (o : Option Ty) (n : ℕ) → Ends (Spent 0 n) (Stopped 0 n) (agree_at v o n)
unfolding agree_at
agree_at_free v none n = record { most = omega arith; down = omega arith }
agree_at_free v (some w) n = go (same_ty v w)
  where
    go : (c : Dec (v ≡ w)) → Ends (Spent 0 n) (Stopped 0 n) (if (is_yes c) (pure (tt {0})) (refuse (unification_failure v w)) n)
    go (yes e) = record { most = omega arith; down = omega arith }
    go (no h) = clash 0 n v w

-- One computation after another: what both spend.
spent_both : (k₁ k₂ k n n₁ : ℕ) → k₁ + k₂ ≤ k → Spent k₁ n n₁ → (left : ℕ) → Spent k₂ n₁ left → Spent k n left
spent_both k₁ k₂ k n n₁ h a left b = let a₁ = a.most in let a₂ = a.down in let b₁ = b.most in let b₂ = b.down in record { most = omega arith; down = omega arith }

stopped_later : (k₁ k₂ k n n₁ : ℕ) → k₁ + k₂ ≤ k → Spent k₁ n n₁ → (r : Refusal) (left : ℕ) → Stopped k₂ n₁ r left → Stopped k n r left
stopped_later k₁ k₂ k n n₁ h a r left b =
    let a₁ = a.most in let a₂ = a.down in let b₁ = b.most in let b₂ = b.down in
    record { most = omega arith; down = omega arith; enough = λ c. b.enough (omega (arith, c)) }

stopped_first : (k₁ k n : ℕ) → k₁ ≤ k → (r : Refusal) (left : ℕ) → Stopped k₁ n r left → Stopped k n r left
stopped_first k₁ k n h r left b =
    let b₁ = b.most in let b₂ = b.down in
    record { most = omega arith; down = b₂; enough = λ c. b.enough (omega (arith, c)) }

-- A bound on each of two computations bounds both.
then_ends : {A B : Type 0} (k₁ k₂ k n : ℕ) (o : Out A) (f : A → Steps B) → k₁ + k₂ ≤ k
    → Ends (Spent k₁ n) (Stopped k₁ n) o → ((a : A) (left : ℕ) → Ends (Spent k₂ left) (Stopped k₂ left) (f a left)) → Ends (Spent k n) (Stopped k n) (after o f)
then_ends k₁ k₂ k n o f h a b =
    after_ends _ _ _ _ o f a (stopped_first k₁ k n (omega arith)) λ u left s.
    weaken_ends _ _ _ _ (f u left) (b u left) (spent_both k₁ k₂ k n left h s) (stopped_later k₁ k₂ k n left h s)

agree_free : (s other : Subst) (n : ℕ) → Ends (Spent 0 n) (Stopped 0 n) (agree s other n)
unfolding agree
agree_free [] other n = record { most = omega arith; down = omega arith }
agree_free (p ∷ s) other n = then_ends 0 0 0 n (agree_at p.1 (get tyvars p.0 other) n) _ (omega arith) (agree_at_free p.1 (get tyvars p.0 other) n) λ _ m. agree_free s other m

merge_free : (s other : Subst) (n : ℕ) → Ends (Spent 0 n) (Stopped 0 n) (merge s other n)
unfolding merge
merge_free s other n = then_ends 0 0 0 n (agree s other n) _ (omega arith) (agree_free s other n) λ _ m. record { most = omega arith; down = omega arith }

-- A matcher that spends no more than a step for each node of the pattern.
abbrev Frugal : (Ty → Ty → Steps Subst) → Type 0
Frugal m = (p t : Ty) (n : ℕ) → Ends (Spent (size p) n) (Stopped (size p) n) (m p t n)

zip_frugal : (m : Ty → Ty → Steps Subst) → Frugal m → (xs ys : Tys) (s : Subst) (n : ℕ) → Ends (Spent (sizes xs) n) (Stopped (sizes xs) n) (match_zip m xs ys s n)
unfolding match_zip size
zip_frugal m h nil nil s n = record { most = omega arith; down = omega arith }
zip_frugal m h nil (y ◂ ys) s n = record { most = omega arith; down = omega arith }
zip_frugal m h (x ◂ xs) nil s n = record { most = omega arith; down = omega arith }
zip_frugal m h (x ◂ xs) (y ◂ ys) s n =
    then_ends (size x) (sizes xs) _ n (m x y n) _ (omega arith) (h x y n) λ s₁ n₁.
    then_ends 0 (sizes xs) _ n₁ (merge s s₁ n₁) _ (omega arith) (merge_free s s₁ n₁) λ s₂ n₂.
    zip_frugal m h xs ys s₂ n₂

-- The nodes of a type but the first.
abbrev below : Ty → ℕ
below (var x) = 0
below (con c ts) = sizes ts
below (arrow a b) = size a + size b

size_below : (p : Ty) → size p ≡ suc (below p)
unfolding size
size_below (var x) = refl
size_below (con c ts) = refl
size_below (arrow a b) = refl

node_frugal : (m : Ty → Ty → Steps Subst) → Frugal m → (p t : Ty) (n : ℕ) → Ends (Spent (below p) n) (Stopped (below p) n) (match_node m p t n)
unfolding match_node
node_frugal m h (var v) t n = record { most = omega arith; down = omega arith }
node_frugal m h (con c xs) (var v) n = clash _ n _ _
node_frugal m h (con c xs) (con e ys) n = go (is_yes (same_name c e) && eqb (count_tys xs) (count_tys ys))
  where
    go : (b : Bool) → Ends (Spent (sizes xs) n) (Stopped (sizes xs) n) (if b (match_zip m xs ys []) (refuse (unification_failure (con c xs) (con e ys))) n)
    go true = zip_frugal m h xs ys [] n
    go false = clash _ n _ _
node_frugal m h (con c xs) (arrow a b) n = clash _ n _ _
node_frugal m h (arrow a b) (var v) n = clash _ n _ _
node_frugal m h (arrow a b) (con c xs) n = clash _ n _ _
node_frugal m h (arrow a b) (arrow c d) n =
    then_ends (size a) (size b) _ n (m a c n) _ (omega arith) (h a c n) λ s₁ n₁.
    then_ends (size b) 0 _ n₁ (m b d n₁) _ (omega arith) (h b d n₁) λ s₂ n₂.
    merge_free s₁ s₂ n₂

-- A pair: the step that was taken to enter it, and what is below.
entered : (k k' n : ℕ) (o : Out Subst) → k' ≡ suc k → Ends (Spent k n) (Stopped k n) o → Ends (Spent k' (suc n)) (Stopped k' (suc n)) o
entered k k' n o i h = weaken_ends _ _ _ _ o h
    (λ left a. let a₁ = a.most in let a₂ = a.down in record { most = omega arith; down = omega arith })
    (λ r left a. let a₁ = a.most in let a₂ = a.down in record { most = omega arith; down = omega arith; enough = λ c. a.enough (omega (arith, c)) })

match_frugal : (d : ℕ) → Frugal (λ p t. match_in d p t)
unfolding match_in step
match_frugal zero p t n = record { most = omega arith; down = omega arith; enough = λ _. depth_not_steps }
match_frugal (suc d) p t zero = record { most = omega arith; down = omega arith; enough = λ c e. omega (arith, size_below p, c) }
match_frugal (suc d) p t (suc n) = entered (below p) (size p) n (match_node (λ x y. match_in d x y) p t n) (size_below p) (node_frugal (λ x y. match_in d x y) (λ x y k. match_frugal d x y k) p t n)

leaves : {A : Type 0} (P : ℕ → Type 0) (Q : ℕ → Type 0) (R : Refusal → ℕ → Type 0) (o : Out A) → Ends Q R o → ((left : ℕ) → Q left → P left) → ((r : Refusal) (left : ℕ) → R r left → P left) → Leaves P o
leaves P Q R (done a left) h f g = f left h
leaves P Q R (refused r left) h f g = g r left h

-- Matching enters no more pairs than the pattern has nodes, whether it answers or refuses.
pub match_cost : (d : ℕ) (p t : Ty) (n : ℕ) → Leaves (λ left. n ≤ left + size p) (match_in d p t n)
match_cost d p t n = leaves _ _ _ (match_in d p t n) (match_frugal d p t n) (λ left a. a.most) (λ r left a. a.most)

-- It gives no step back.
pub match_down : (d : ℕ) (p t : Ty) (n : ℕ) → Leaves (λ left. left ≤ n) (match_in d p t n)
match_down d p t n = leaves _ _ _ (match_in d p t n) (match_frugal d p t n) (λ left a. a.down) (λ r left a. a.down)

-- A step for each node of the pattern is enough: it is not for want of steps that matching refuses then.
pub match_enough : (d : ℕ) (p t : Ty) (n : ℕ) → size p ≤ n → Says (λ s. Unit {0}) (λ r. r ≡ out_of_steps → ⊥) (match_in d p t n)
match_enough d p t n h = go (match_in d p t n) (match_frugal d p t n)
  where
    go : (o : Out Subst) → Ends (Spent (size p) n) (Stopped (size p) n) o → Says (λ s. Unit {0}) (λ r. r ≡ out_of_steps → ⊥) o
    go (done s left) a = tt
    go (refused r left) a = a.enough h
