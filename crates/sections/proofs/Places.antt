-- The places of a section's items: one more item, and its word in the index.
use mathlib.Core.Path.{◌≡◌, refl, sym, ap, ◌∙◌, subst}
use mathlib.Core.List.{List, [], ◌∷◌, ◌++◌}
use mathlib.Core.Option.{some}
use mathlib.Core.Logic.{◌⊎◌, inl, inr}
use mathlib.Core.Bool.{Bool}
use Prim.Native.Nat.{ℕ, zero, suc, ◌+◌, ◌<◌, ◌≤◌}
use native.Mathlib.Omega.{arith}
use native.Mathlib.Decide.{ℕ_discrete}
use lib.ListN.{get_or}
use Rattle.meaning.specs.Base.{if, eqb, count, nth}
use Rattle.meaning.specs.Reader.{got, Reader, from}
use Rattle.theorems.proofs.Tests.{is_yes_of, is_no_of}
use Rattle.theorems.proofs.Grown.{nth_below, nth_last}
use Rattle.reader.specs.Placing.{upto, Placed}

pub count_snoc : {A : Type 0} (xs : List A) (x : A) → count (xs ++ x ∷ []) ≡ suc (count xs)
unfolding count
count_snoc [] x = refl
count_snoc (y ∷ xs) x = ap suc (count_snoc xs x)

-- The items before one that is there stay when another is added.
upto_snoc : {A : Type 0} (i : ℕ) (xs : List A) (x : A) → i ≤ count xs → upto i (xs ++ x ∷ []) ≡ upto i xs
unfolding upto count
upto_snoc zero xs x h = refl
upto_snoc (suc i) [] x h = absurd (omega arith)
upto_snoc (suc i) (y ∷ xs) x h = ap (λ zs. y ∷ zs) (upto_snoc i xs x (omega arith))

upto_all : {A : Type 0} (xs : List A) → upto (count xs) xs ≡ xs
unfolding upto count
upto_all [] = refl
upto_all (x ∷ xs) = ap (λ zs. x ∷ zs) (upto_all xs)

-- Where items begin once the last of them ends at q.
ends_at : ℕ → ℕ → (ℕ → ℕ) → ℕ → ℕ
ends_at i q begins j = if (eqb j (suc i)) q (begins j)

ends_last : (i q : ℕ) (begins : ℕ → ℕ) (j : ℕ) → j ≡ suc i → ends_at i q begins j ≡ q
unfolding ends_at eqb
ends_last i q begins j e = ap (λ (b : Bool). if b q (begins j)) (is_yes_of (ℕ_discrete j (suc i)) e)

ends_other : (i q : ℕ) (begins : ℕ → ℕ) (j : ℕ) → (j ≡ suc i → ⊥) → ends_at i q begins j ≡ begins j
unfolding ends_at eqb
ends_other i q begins j h = ap (λ (b : Bool). if b q (begins j)) (is_no_of (ℕ_discrete j (suc i)) h)

pub placed_none : {A : Type 0} (bytes ix : List ℕ) (base : ℕ) (r : List A → Reader A) (at : ℕ) → Placed bytes ix base r [] at at
unfolding count nth
placed_none bytes ix base r at = record { begins = λ i. at; first = refl; last = refl; word = λ i h. absurd (omega arith); item = λ i x e. absurd (let z : ◌≡◌ {A = ℕ} 0 1 = cc in omega arith) }

-- Reading at another place, with another list before it.
moved : {A : Type 0} (bytes : List ℕ) (r : List A → Reader A) (x : A) (xs ys : List A) (p p' q q' : ℕ) → xs ≡ ys → p ≡ p' → q ≡ q'
    → r xs p (from p bytes) ≡ got x q (from q bytes) → r ys p' (from p' bytes) ≡ got x q' (from q' bytes)
moved bytes r x xs ys p p' q q' a b c e =
    subst (λ zs. r zs p' (from p' bytes) ≡ got x q' (from q' bytes)) a
    (subst (λ n. r xs n (from n bytes) ≡ got x q' (from q' bytes)) b
    (subst (λ n. r xs p (from p bytes) ≡ got x n (from n bytes)) c e))

-- One more item: x, read at p up to q, in a new index that has p as its word.
pub placed_more : {A : Type 0} (bytes ix ix' : List ℕ) (base : ℕ) (r : List A → Reader A) (xs : List A) (x : A) (at p q : ℕ)
    → Placed bytes ix base r xs at p → ((j : ℕ) → j < count xs → get_or ix' (base + j) 0 ≡ get_or ix (base + j) 0) → get_or ix' (base + count xs) 0 ≡ p
    → r xs p (from p bytes) ≡ got x q (from q bytes) → Placed bytes ix' base r (xs ++ x ∷ []) at q
placed_more bytes ix ix' base r xs x at p q h old new e = record {
  begins = ends_at n q h.begins;
  first = ends_other n q h.begins 0 (λ i. omega (arith, i)) ∙ h.first;
  last = ends_last n q h.begins (count (xs ++ x ∷ [])) (count_snoc xs x);
  word = λ j l. word_at j (ℕ_discrete j n) (subst (λ m. j < m) (count_snoc xs x) l);
  item = λ j y i. item_at j y (nth_last xs x j y i);
}
  where
    n : ℕ
    n = count xs

    before : (j : ℕ) → j < suc n → ends_at n q h.begins j ≡ h.begins j
    before j l = ends_other n q h.begins j (λ i. omega (arith, l, i))

    word_at : (j : ℕ) → Dec (j ≡ n) → j < suc n → get_or ix' (base + j) 0 ≡ ends_at n q h.begins j
    word_at j (yes i) l = ap (λ m. get_or ix' (base + m) 0) i ∙ new ∙ sym h.last ∙ ap h.begins (sym i) ∙ sym (before j l)
    word_at j (no i) l = let k : j < n = omega (arith, l, i) in old j k ∙ h.word j k ∙ sym (before j l)

    item_at : (j : ℕ) (y : _) → (nth xs j ≡ some y) ⊎ ((j ≡ count xs) × (y ≡ x))
        → r (upto j (xs ++ x ∷ [])) (ends_at n q h.begins j) (from (ends_at n q h.begins j) bytes) ≡ got y (ends_at n q h.begins (suc j)) (from (ends_at n q h.begins (suc j)) bytes)
    item_at j y (inl i) = let k = nth_below xs j y i in
        moved bytes r y (upto j xs) (upto j (xs ++ x ∷ [])) _ _ _ _ (sym (upto_snoc j xs x (omega arith))) (sym (before j (omega arith))) (sym (before (suc j) (omega arith))) (h.item j y i)
    item_at j y (inr i) =
        subst (λ z. r (upto j (xs ++ x ∷ [])) (ends_at n q h.begins j) (from (ends_at n q h.begins j) bytes) ≡ got z (ends_at n q h.begins (suc j)) (from (ends_at n q h.begins (suc j)) bytes)) (sym i.1)
        (moved bytes r x xs (upto j (xs ++ x ∷ [])) p _ q _
        (sym (upto_all xs) ∙ ap (λ m. upto m xs) (sym i.0) ∙ sym (upto_snoc j xs x (omega (arith, i.0))))
        (sym h.last ∙ ap h.begins (sym i.0) ∙ sym (before j (omega (arith, i.0)))) (sym (ends_last n q h.begins (suc j) (ap suc i.0))) e)

-- The same items in an index that has the same words for them.
pub placed_kept : {A : Type 0} (bytes ix ix' : List ℕ) (base : ℕ) (r : List A → Reader A) (xs : List A) (at end : ℕ) → ((j : ℕ) → j < count xs → get_or ix' (base + j) 0 ≡ get_or ix (base + j) 0)
    → Placed bytes ix base r xs at end → Placed bytes ix' base r xs at end
placed_kept bytes ix ix' base r xs at end h p = record { begins = p.begins; first = p.first; last = p.last; word = λ i l. h i l ∙ p.word i l; item = p.item }
