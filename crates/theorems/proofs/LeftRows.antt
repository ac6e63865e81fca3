-- What `reduce` leaves: exactly the variable-typed predicates, each once; and how lists of pending ones grow at their end.
use mathlib.Core.Path.{◌≡◌, refl, ap, sym, ◌∙◌, subst}
use mathlib.Core.Bool.{Bool, true, false}
use mathlib.Core.List.Memᴰ
use mathlib.Core.List.{List, [], ◌∷◌, ◌++◌, append-nil, append_assoc, Memᴰ}
use mathlib.Core.Logic.{◌⊎◌, inl, inr}
use Rattle.meaning.specs.Base.{if, keep}
use Rattle.meaning.specs.Ast.{Pred, same_pred, Binder}
use Rattle.meaning.specs.Reduce.{is_head_normal}
use Rattle.meaning.specs.Generalize.{Pending, preds_of}
use Rattle.theorems.proofs.Members.{Distinct}
use Rattle.theorems.proofs.Residuals.{is_new, left_of, firsts}
use Rattle.theorems.proofs.FirstRows.{new_facts, new_of, not_snoc, firsts_preds, firsts_distinct}

-- ## which predicates are left
-- Each one that is variable-typed and new.
pub left_in : (rs ps : List Pred) (p : Pred) → Memᴰ p ps → is_head_normal p.ty ≡ true → ¬ Memᴰ p rs → Memᴰ p (left_of rs ps)
unfolding left_of
left_in rs [] p m h n = absurd (Memᴰ.not-nil m)
left_in rs (q ∷ ps) p m h n = go (same_pred p q) (Memᴰ.cases_cons m) (λ qs k j. left_in qs ps p k h j)
  where
    here : p ≡ q → Memᴰ p (if (is_new rs q) (q ∷ left_of (rs ++ (q ∷ [])) ps) (left_of rs ps))
    here e =
        let t : is_new rs q ≡ true = new_of rs q (ap (λ (z : Pred). is_head_normal z.ty) (sym e) ∙ h) (λ k. n (Memᴰ.cast e k)) in
        rw t (Memᴰ.head e)

    next : (c : Bool) → ¬ (p ≡ q) → Memᴰ p ps → ((qs : List Pred) → Memᴰ p ps → ¬ Memᴰ p qs → Memᴰ p (left_of qs ps))
        → Memᴰ p (if c (q ∷ left_of (rs ++ (q ∷ [])) ps) (left_of rs ps))
    next true x k ih = Memᴰ.tail (ih (rs ++ (q ∷ [])) k (not_snoc rs q p n x))
    next false x k ih = ih rs k n

    go : Dec (p ≡ q) → (p ≡ q) ⊎ Memᴰ p ps → ((qs : List Pred) → Memᴰ p ps → ¬ Memᴰ p qs → Memᴰ p (left_of qs ps))
        → Memᴰ p (if (is_new rs q) (q ∷ left_of (rs ++ (q ∷ [])) ps) (left_of rs ps))
    go (yes e) m ih = here e
    go (no x) (inl e) ih = here e
    go (no x) (inr k) ih = next (is_new rs q) x k ih

-- And no other.
pub left_out : (rs ps : List Pred) (p : Pred) → Memᴰ p (left_of rs ps) → Memᴰ p ps × (is_head_normal p.ty ≡ true) × (¬ Memᴰ p rs)
unfolding left_of
left_out rs [] p m = absurd (Memᴰ.not-nil m)
left_out rs (q ∷ ps) p m = go (is_new rs q) refl m (left_out (rs ++ (q ∷ [])) ps p) (left_out rs ps p)
  where
    go : (c : Bool) → is_new rs q ≡ c → Memᴰ p (if c (q ∷ left_of (rs ++ (q ∷ [])) ps) (left_of rs ps))
        → (Memᴰ p (left_of (rs ++ (q ∷ [])) ps) → Memᴰ p ps × (is_head_normal p.ty ≡ true) × (¬ Memᴰ p (rs ++ (q ∷ []))))
        → (Memᴰ p (left_of rs ps) → Memᴰ p ps × (is_head_normal p.ty ≡ true) × (¬ Memᴰ p rs))
        → Memᴰ p (q ∷ ps) × (is_head_normal p.ty ≡ true) × (¬ Memᴰ p rs)
    go true t m ih jh = next (Memᴰ.cases_cons m)
      where
        next : (p ≡ q) ⊎ Memᴰ p (left_of (rs ++ (q ∷ [])) ps) → Memᴰ p (q ∷ ps) × (is_head_normal p.ty ≡ true) × (¬ Memᴰ p rs)
        next (inl e) = let f = new_facts rs q t in (Memᴰ.head e, ap (λ (z : Pred). is_head_normal z.ty) e ∙ f.0, λ k. f.1 (Memᴰ.cast (sym e) k))
        next (inr k) = let r = ih k in (Memᴰ.tail r.0, r.1, λ x. r.2 (Memᴰ.append_left (q ∷ []) x))
    go false t m ih jh = let r = jh m in (Memᴰ.tail r.0, r.1, r.2)

-- Each once.
pub left_distinct : (rs : List Pred) (ps : Pending) → Distinct (left_of rs (preds_of ps))
left_distinct rs ps = subst Distinct (firsts_preds rs ps) (firsts_distinct rs ps)

-- ## one list after another
-- What two lists leave: what the first leaves, then what the second adds.
pub left_append : (rs ps qs : List Pred) → left_of rs (ps ++ qs) ≡ left_of rs ps ++ left_of (rs ++ left_of rs ps) qs
unfolding left_of
left_append rs [] qs = ap (λ (l : List Pred). left_of l qs) (sym (append-nil rs))
left_append rs (p ∷ ps) qs = go (is_new rs p) (left_append (rs ++ (p ∷ [])) ps qs) (left_append rs ps qs)
  where
    go : (c : Bool) → left_of (rs ++ (p ∷ [])) (ps ++ qs) ≡ left_of (rs ++ (p ∷ [])) ps ++ left_of ((rs ++ (p ∷ [])) ++ left_of (rs ++ (p ∷ [])) ps) qs
        → left_of rs (ps ++ qs) ≡ left_of rs ps ++ left_of (rs ++ left_of rs ps) qs
        → if c (p ∷ left_of (rs ++ (p ∷ [])) (ps ++ qs)) (left_of rs (ps ++ qs))
        ≡ (if c (p ∷ left_of (rs ++ (p ∷ [])) ps) (left_of rs ps)) ++ left_of (rs ++ if c (p ∷ left_of (rs ++ (p ∷ [])) ps) (left_of rs ps)) qs
    go true i j = ap (λ (l : List Pred). p ∷ l) (i ∙ ap (λ (l : List Pred). left_of (rs ++ (p ∷ [])) ps ++ left_of l qs) (append_assoc rs (p ∷ []) (left_of (rs ++ (p ∷ [])) ps)))
    go false i j = j

-- The first binders of two lists: those of the first, then those of predicates that the first has not.
pub firsts-append : (rs : List Pred) (ps qs : Pending) → firsts rs (ps ++ qs) ≡ firsts rs ps ++ firsts (rs ++ preds_of (firsts rs ps)) qs
unfolding firsts
firsts-append rs [] qs = ap (λ (l : List Pred). firsts l qs) (sym (append-nil rs))
firsts-append rs (b ∷ ps) qs = go (is_new rs b.1) (firsts-append (rs ++ (b.1 ∷ [])) ps qs) (firsts-append rs ps qs)
  where
    go : (c : Bool) → firsts (rs ++ (b.1 ∷ [])) (ps ++ qs) ≡ firsts (rs ++ (b.1 ∷ [])) ps ++ firsts ((rs ++ (b.1 ∷ [])) ++ preds_of (firsts (rs ++ (b.1 ∷ [])) ps)) qs
        → firsts rs (ps ++ qs) ≡ firsts rs ps ++ firsts (rs ++ preds_of (firsts rs ps)) qs
        → if c (b ∷ firsts (rs ++ (b.1 ∷ [])) (ps ++ qs)) (firsts rs (ps ++ qs))
        ≡ (if c (b ∷ firsts (rs ++ (b.1 ∷ [])) ps) (firsts rs ps)) ++ firsts (rs ++ preds_of (if c (b ∷ firsts (rs ++ (b.1 ∷ [])) ps) (firsts rs ps))) qs
    go true i j = ap (λ (l : Pending). b ∷ l) (i ∙ ap (λ (l : List Pred). firsts (rs ++ (b.1 ∷ [])) ps ++ firsts l qs) (append_assoc rs (b.1 ∷ []) (preds_of (firsts (rs ++ (b.1 ∷ [])) ps))))
    go false i j = j

-- A test that always holds keeps all.
pub keep_all : (bs : Pending) → keep (λ (b : Binder). true) bs ≡ bs
unfolding keep
keep_all [] = refl
keep_all (b ∷ bs) = ap (λ (l : Pending). b ∷ l) (keep_all bs)
