-- The first pending binders of the variable-typed predicates: which ones they are, and that no predicate has two.
use mathlib.Core.Path.{◌≡◌, refl, ap, sym, ◌∙◌}
use mathlib.Core.Bool.{Bool, true, false, not, ◌&&◌, true≢false, false≢true}
use mathlib.Core.List.Memᴰ
use mathlib.Core.List.{List, [], ◌∷◌, ◌++◌, Memᴰ}
use mathlib.Core.Option.{some}
use mathlib.Core.Logic.{◌≢◌, ◌⊎◌, inl, inr}
use Prim.Native.Nat.{ℕ, suc, zero, ◌<◌}
use native.Mathlib.Omega.{arith}
use Rattle.meaning.specs.Base.{if, nth, keep}
use Rattle.meaning.specs.Ast.{Pred, Binder}
use Rattle.meaning.specs.Reduce.{is_head_normal, contains}
use Rattle.meaning.specs.Generalize.{Pending, preds_of}
use Rattle.theorems.proofs.Tests.{some_inj, none_some}
use Rattle.theorems.proofs.Members.{Distinct, contains_true, contains_false}
use Rattle.theorems.proofs.Residuals.{is_new, left_of, firsts}

-- The test of a new predicate, as facts.
pub new_facts : (rs : List Pred) (p : Pred) → is_new rs p ≡ true → (is_head_normal p.ty ≡ true) × (¬ Memᴰ p rs)
new_facts rs p = go (is_head_normal p.ty) (contains rs p) refl
  where
    go : (a b : Bool) → contains rs p ≡ b → (a && not b) ≡ true → (a ≡ true) × (¬ Memᴰ p rs)
    go true true i e = absurd (false≢true e)
    go true false i e = (refl, contains_false rs p i)
    go false b i e = absurd (false≢true e)

-- And back.
pub new_of : (rs : List Pred) (p : Pred) → is_head_normal p.ty ≡ true → (¬ Memᴰ p rs) → is_new rs p ≡ true
new_of rs p h n = rw h (go (contains rs p) refl)
  where
    go : (b : Bool) → contains rs p ≡ b → not b ≡ true
    go true i = absurd (n (contains_true rs p i))
    go false i = refl

-- Their predicates are what `reduce` leaves.
pub firsts_preds : (rs : List Pred) (ps : Pending) → preds_of (firsts rs ps) ≡ left_of rs (preds_of ps)
unfolding firsts left_of
firsts_preds rs [] = refl
firsts_preds rs (b ∷ ps) = go (is_new rs b.1) (firsts_preds (rs ++ (b.1 ∷ [])) ps) (firsts_preds rs ps)
  where
    go : (c : Bool) → preds_of (firsts (rs ++ (b.1 ∷ [])) ps) ≡ left_of (rs ++ (b.1 ∷ [])) (preds_of ps) → preds_of (firsts rs ps) ≡ left_of rs (preds_of ps)
        → preds_of (if c (b ∷ firsts (rs ++ (b.1 ∷ [])) ps) (firsts rs ps)) ≡ if c (b.1 ∷ left_of (rs ++ (b.1 ∷ [])) (preds_of ps)) (left_of rs (preds_of ps))
    go true i j = ap (λ (l : List Pred). b.1 ∷ l) i
    go false i j = j

-- No binder before number i has the predicate.
abbrev pub NoneBefore : Pending → ℕ → Pred → Type 0
NoneBefore ps i p = (j : ℕ) (c : Binder) → j < i → nth ps j ≡ some c → c.1 ≢ p

-- A first one: it stands at a number, its predicate is variable-typed and new, and none before it has that predicate.
pub record FirstAt (rs : List Pred) (ps : Pending) (b : Binder) : Type 0 where
  pub number : ℕ
  pub stands : nth ps number ≡ some b
  pub variable_typed : is_head_normal b.1.ty ≡ true
  pub not_before : ¬ Memᴰ b.1 rs
  pub first : NoneBefore ps number b.1

-- What stands in the list with one more at its end, or not.
pub not_snoc : (rs : List Pred) (q p : Pred) → ¬ Memᴰ p rs → p ≢ q → ¬ Memᴰ p (rs ++ (q ∷ []))
not_snoc rs q p h n m = go (Memᴰ.append_cases rs m)
  where
    go : Memᴰ p rs ⊎ Memᴰ p (q ∷ []) → ⊥
    go (inl k) = h k
    go (inr k) = n (Memᴰ.eq_of_singleton k)

-- The binder at a number is one of them, if its predicate is variable-typed and new.
pub firsts_in : (rs : List Pred) (ps : Pending) (i : ℕ) (b : Binder) → nth ps i ≡ some b → is_head_normal b.1.ty ≡ true → ¬ Memᴰ b.1 rs → NoneBefore ps i b.1
    → Memᴰ b (firsts rs ps)
unfolding firsts nth
firsts_in rs [] i b e h n w = absurd (none_some b e)
firsts_in rs (a ∷ ps) zero b e h n w =
    let j : a ≡ b = some_inj a b e in
    let t : is_new rs a.1 ≡ true = new_of rs a.1 (ap (λ (z : Binder). is_head_normal z.1.ty) j ∙ h) (λ m. n (Memᴰ.cast (ap (λ (z : Binder). z.1) (sym j)) m)) in
    rw t (Memᴰ.head (sym j))
firsts_in rs (a ∷ ps) (suc i) b e h n w = go (is_new rs a.1) (λ qs k. firsts_in qs ps i b e h k (λ j c l f. w (suc j) c (omega arith) f))
  where
    other : b.1 ≢ a.1
    other x = w zero a (omega arith) refl (sym x)

    go : (c : Bool) → ((qs : List Pred) → ¬ Memᴰ b.1 qs → Memᴰ b (firsts qs ps)) → Memᴰ b (if c (a ∷ firsts (rs ++ (a.1 ∷ [])) ps) (firsts rs ps))
    go true ih = Memᴰ.tail (ih (rs ++ (a.1 ∷ [])) (not_snoc rs a.1 b.1 n other))
    go false ih = ih rs n

-- One binder further on.
later : (rs qs : List Pred) (a : Binder) (ps : Pending) (b : Binder) → FirstAt qs ps b → ¬ Memᴰ b.1 rs → a.1 ≢ b.1 → FirstAt rs (a ∷ ps) b
unfolding nth
later rs qs a ps b f n w = record { number = suc f.number; stands = f.stands; variable_typed = f.variable_typed; not_before = n; first = go }
  where
    go : (j : ℕ) (c : Binder) → j < suc f.number → nth (a ∷ ps) j ≡ some c → c.1 ≢ b.1
    go zero c l e i = w (ap (λ (z : Binder). z.1) (some_inj a c e) ∙ i)
    go (suc j) c l e i = f.first j c (omega arith) e i

-- Each of them is one of those.
pub firsts_out : (rs : List Pred) (ps : Pending) (b : Binder) → Memᴰ b (firsts rs ps) → FirstAt rs ps b
unfolding firsts nth
firsts_out rs [] b m = absurd (Memᴰ.not-nil m)
firsts_out rs (a ∷ ps) b m = go (is_new rs a.1) refl m (firsts_out (rs ++ (a.1 ∷ [])) ps b) (firsts_out rs ps b)
  where
    here : is_new rs a.1 ≡ true → b ≡ a → FirstAt rs (a ∷ ps) b
    here t e =
        let f = new_facts rs a.1 t in
        record {
          number = zero;
          stands = ap some (sym e);
          variable_typed = ap (λ (z : Binder). is_head_normal z.1.ty) e ∙ f.0;
          not_before = λ k. f.1 (Memᴰ.cast (ap (λ (z : Binder). z.1) (sym e)) k);
          first = λ j c l x. absurd (omega (arith, l));
        }

    further : FirstAt (rs ++ (a.1 ∷ [])) ps b → FirstAt rs (a ∷ ps) b
    further f = later rs (rs ++ (a.1 ∷ [])) a ps b f (λ k. f.not_before (Memᴰ.append_left (a.1 ∷ []) k)) (λ e. f.not_before (Memᴰ.append_right rs (Memᴰ.head (sym e))))

    again : is_new rs a.1 ≡ false → FirstAt rs ps b → FirstAt rs (a ∷ ps) b
    again t f = later rs rs a ps b f f.not_before (λ e. true≢false (sym (new_of rs b.1 f.variable_typed f.not_before) ∙ ap (is_new rs) (sym e) ∙ t))

    go : (c : Bool) → is_new rs a.1 ≡ c → Memᴰ b (if c (a ∷ firsts (rs ++ (a.1 ∷ [])) ps) (firsts rs ps))
        → (Memᴰ b (firsts (rs ++ (a.1 ∷ [])) ps) → FirstAt (rs ++ (a.1 ∷ [])) ps b) → (Memᴰ b (firsts rs ps) → FirstAt rs ps b) → FirstAt rs (a ∷ ps) b
    go true t m ih jh = next (Memᴰ.cases_cons m)
      where
        next : (b ≡ a) ⊎ Memᴰ b (firsts (rs ++ (a.1 ∷ [])) ps) → FirstAt rs (a ∷ ps) b
        next (inl e) = here t e
        next (inr k) = further (ih k)
    go false t m ih jh = again t (jh m)

-- No predicate has two of them.
pub firsts_distinct : (rs : List Pred) (ps : Pending) → Distinct (preds_of (firsts rs ps))
unfolding firsts
firsts_distinct rs [] = tt
firsts_distinct rs (a ∷ ps) = go (is_new rs a.1) (firsts_distinct (rs ++ (a.1 ∷ [])) ps) (firsts_distinct rs ps)
  where
    no_more : Memᴰ a.1 (preds_of (firsts (rs ++ (a.1 ∷ [])) ps)) → ⊥
    no_more m =
        let r = Memᴰ.of_map (λ (z : Binder). z.1) (firsts (rs ++ (a.1 ∷ [])) ps) m in
        (firsts_out (rs ++ (a.1 ∷ [])) ps r.0 r.1).not_before (Memᴰ.append_right rs (Memᴰ.head r.2))

    go : (c : Bool) → Distinct (preds_of (firsts (rs ++ (a.1 ∷ [])) ps)) → Distinct (preds_of (firsts rs ps)) → Distinct (preds_of (if c (a ∷ firsts (rs ++ (a.1 ∷ [])) ps) (firsts rs ps)))
    go true h k = (no_more, h)
    go false h k = k

-- ## those of them that pass a test
-- Each of those is one of all, and passes the test.
pub keep_out : (f : Binder → Bool) (bs : Pending) (b : Binder) → Memᴰ b (keep f bs) → Memᴰ b bs × (f b ≡ true)
unfolding keep
keep_out f [] b m = absurd (Memᴰ.not-nil m)
keep_out f (a ∷ bs) b m = go (f a) refl m (keep_out f bs b)
  where
    go : (c : Bool) → f a ≡ c → Memᴰ b (if c (a ∷ keep f bs) (keep f bs)) → (Memᴰ b (keep f bs) → Memᴰ b bs × (f b ≡ true)) → Memᴰ b (a ∷ bs) × (f b ≡ true)
    go true t m ih = next (Memᴰ.cases_cons m)
      where
        next : (b ≡ a) ⊎ Memᴰ b (keep f bs) → Memᴰ b (a ∷ bs) × (f b ≡ true)
        next (inl e) = (Memᴰ.head e, ap f e ∙ t)
        next (inr k) = let r = ih k in (Memᴰ.tail r.0, r.1)
    go false t m ih = let r = ih m in (Memᴰ.tail r.0, r.1)

-- And back.
pub keep_in : (f : Binder → Bool) (bs : Pending) (b : Binder) → Memᴰ b bs → f b ≡ true → Memᴰ b (keep f bs)
unfolding keep
keep_in f [] b m h = absurd (Memᴰ.not-nil m)
keep_in f (a ∷ bs) b m h = next (Memᴰ.cases_cons m) (λ k. keep_in f bs b k h)
  where
    later : (c : Bool) → Memᴰ b (keep f bs) → Memᴰ b (if c (a ∷ keep f bs) (keep f bs))
    later true k = Memᴰ.tail k
    later false k = k

    next : (b ≡ a) ⊎ Memᴰ b bs → (Memᴰ b bs → Memᴰ b (keep f bs)) → Memᴰ b (if (f a) (a ∷ keep f bs) (keep f bs))
    next (inl e) ih = rw (ap f (sym e) ∙ h) (Memᴰ.head e)
    next (inr k) ih = later (f a) (ih k)

-- Distinct predicates stay distinct.
pub keep_distinct : (f : Binder → Bool) (bs : Pending) → Distinct (preds_of bs) → Distinct (preds_of (keep f bs))
unfolding keep
keep_distinct f [] h = tt
keep_distinct f (a ∷ bs) h = go (f a) (keep_distinct f bs h.1)
  where
    none_of : Memᴰ a.1 (preds_of (keep f bs)) → ⊥
    none_of m =
        let r = Memᴰ.of_map (λ (z : Binder). z.1) (keep f bs) m in
        h.0 (Memᴰ.cast (sym r.2) (Memᴰ.map (λ (z : Binder). z.1) (keep_out f bs r.0 r.1).0))

    go : (c : Bool) → Distinct (preds_of (keep f bs)) → Distinct (preds_of (if c (a ∷ keep f bs) (keep f bs)))
    go true k = (none_of, k)
    go false k = k
