-- Lists that grow at their end: their members, and predicates that stand in them once.
use mathlib.Core.Path.{◌≡◌, sym, subst}
use mathlib.Core.Bool.{true, false, false≢true, true≢false}
use mathlib.Core.List.Memᴰ
use mathlib.Core.List.{List, [], ◌∷◌, ◌++◌, Memᴰ}
use mathlib.Core.Logic.{◌⊎◌, inl, inr}
use Rattle.meaning.specs.Base.{is_yes, if, any}
use Rattle.meaning.specs.Ast.{Pred, same_pred}
use Rattle.meaning.specs.Reduce.{contains}

-- No predicate stands twice.
abbrev pub Distinct : List Pred → Type 0
Distinct [] = Unit {0}
Distinct (q ∷ qs) = (¬ Memᴰ q qs) × Distinct qs

-- What `contains` finds is a member.
pub contains_true : (qs : List Pred) (p : Pred) → contains qs p ≡ true → Memᴰ p qs
unfolding contains any
contains_true [] p e = absurd (false≢true e)
contains_true (q ∷ qs) p e = go (same_pred q p) e (contains_true qs p)
  where
    go : (c : Dec (q ≡ p)) → if (is_yes c) true (any (λ q. is_yes (same_pred q p)) qs) ≡ true → (contains qs p ≡ true → Memᴰ p qs) → Memᴰ p (q ∷ qs)
    go (yes i) e ih = Memᴰ.head (sym i)
    go (no n) e ih = Memᴰ.tail (ih e)

-- And what it does not find is none.
pub contains_false : (qs : List Pred) (p : Pred) → contains qs p ≡ false → ¬ Memᴰ p qs
unfolding contains any
contains_false [] p e m = Memᴰ.not-nil m
contains_false (q ∷ qs) p e m = go (same_pred q p) e (Memᴰ.cases_cons m) (contains_false qs p)
  where
    go : (c : Dec (q ≡ p)) → if (is_yes c) true (any (λ q. is_yes (same_pred q p)) qs) ≡ false → (p ≡ q) ⊎ Memᴰ p qs → (contains qs p ≡ false → ¬ Memᴰ p qs) → ⊥
    go (yes i) e m ih = true≢false e
    go (no n) e (inl i) ih = n (sym i)
    go (no n) e (inr m) ih = ih e m

-- With one more at the end that was not there, still none stands twice.
pub distinct_snoc : (qs : List Pred) (p : Pred) → Distinct qs → ¬ Memᴰ p qs → Distinct (qs ++ (p ∷ []))
distinct_snoc [] p d n = (Memᴰ.not-nil, tt)
distinct_snoc (q ∷ qs) p d n = (λ m. go (Memᴰ.append_cases qs m), distinct_snoc qs p d.1 (λ m. n (Memᴰ.tail m)))
  where
    go : Memᴰ q qs ⊎ Memᴰ q (p ∷ []) → ⊥
    go (inl m) = d.0 m
    go (inr m) = n (Memᴰ.head (sym (Memᴰ.eq_of_singleton m)))

-- What holds of each member and of one more holds of each member of the list with that one at its end.
pub snoc_cases : {A : Type 0} (P : A → Type 0) (xs : List A) (x : A) → ((y : A) → Memᴰ y xs → P y) → P x → (y : A) → Memᴰ y (xs ++ (x ∷ [])) → P y
snoc_cases P xs x old new y m = go (Memᴰ.append_cases xs m)
  where
    go : Memᴰ y xs ⊎ Memᴰ y (x ∷ []) → P y
    go (inl i) = old y i
    go (inr i) = subst P (sym (Memᴰ.eq_of_singleton i)) new
