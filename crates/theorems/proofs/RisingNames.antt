-- Lists of dictionary names whose numbers rise within bounds.
use mathlib.Core.Path.{◌≡◌, sym, ◌∙◌}
use mathlib.Core.Bool.{Bool, true, false, not}
use mathlib.Core.List.Memᴰ
use mathlib.Core.List.{List, [], ◌∷◌, ◌++◌, Memᴰ}
use mathlib.Core.Logic.{◌⊎◌, inl, inr}
use Prim.Native.Nat.{ℕ, suc, ◌<◌, ◌≤◌}
use native.Mathlib.Omega.{arith}
use Rattle.meaning.specs.Base.{if, keep}
use Rattle.meaning.specs.Ast.{DictName, dvar, Pred, Binder}
use Rattle.meaning.specs.Generalize.{Pending}
use Rattle.theorems.proofs.Bound.{names_of}
use Rattle.theorems.proofs.Residuals.{is_new, firsts}

-- The name is `d` and a number from `lo` on, below `hi`.
pub record Within (lo hi : ℕ) (d : DictName) : Type 0 where
  pub number : ℕ
  pub is : d ≡ dvar number
  pub from : lo ≤ number
  pub below : number < hi

-- Names `d` and a number, and the numbers rise from `lo` on, all below `hi`.
abbrev pub Rising : ℕ → ℕ → List DictName → Type 0
Rising lo hi [] = lo ≤ hi
Rising lo hi (d ∷ ds) = (i : ℕ) × (d ≡ dvar i) × (lo ≤ i) × Rising (suc i) hi ds

-- The name is not in the list.
abbrev pub NotIn : DictName → List DictName → Type 0
NotIn d ds = Memᴰ d ds → ⊥

-- The bounds are in order.
pub rising_bounds : (lo hi : ℕ) (ds : List DictName) → Rising lo hi ds → lo ≤ hi
rising_bounds lo hi [] h = h
rising_bounds lo hi (d ∷ ds) (i, e, l, r) = let k = rising_bounds (suc i) hi ds r in omega arith

-- A smaller bound below.
pub rising_from : (lo lo' hi : ℕ) (ds : List DictName) → lo ≤ lo' → Rising lo' hi ds → Rising lo hi ds
rising_from lo lo' hi [] k h = let j : lo' ≤ hi = h in omega arith
rising_from lo lo' hi (d ∷ ds) k (i, e, l, r) = (i, e, omega arith, r)

-- Each name is within the bounds.
pub rising_within : (lo hi : ℕ) (ds : List DictName) → Rising lo hi ds → (d : DictName) → Memᴰ d ds → Within lo hi d
rising_within lo hi [] h d m = absurd (Memᴰ.not-nil m)
rising_within lo hi (c ∷ ds) (i, e, l, r) d m = go (Memᴰ.cases_cons m) (rising_within (suc i) hi ds r d)
  where
    go : (d ≡ c) ⊎ Memᴰ d ds → (Memᴰ d ds → Within (suc i) hi d) → Within lo hi d
    go (inl j) ih = let k = rising_bounds (suc i) hi ds r in record { number = i; is = j ∙ e; from = l; below = omega arith }
    go (inr j) ih = let w = ih j in let f = w.from in record { number = w.number; is = w.is; from = omega arith; below = w.below }

-- One list after another.
pub rising_append : (lo mid hi : ℕ) (ds es : List DictName) → Rising lo mid ds → Rising mid hi es → Rising lo hi (ds ++ es)
rising_append lo mid hi [] es h k = rising_from lo mid hi es h k
rising_append lo mid hi (d ∷ ds) es (i, e, l, r) k = (i, e, l, rising_append (suc i) mid hi ds es r k)

-- Bounds that lie apart.
pub within_apart : (lo mid hi : ℕ) (d : DictName) → Within lo mid d → Within mid hi d → ⊥
within_apart lo mid hi d w v =
    let a = w.is in let b = v.is in let c : w.number ≡ v.number = dvar_inj w.number v.number (sym a ∙ b) in
    let f = w.below in let g = v.from in omega arith
  where
    dvar_inj : (i j : ℕ) → dvar i ≡ dvar j → i ≡ j
    dvar_inj i j e = cc

-- Wider bounds.
pub within_wider : (lo lo' hi hi' : ℕ) (d : DictName) → lo ≤ lo' → hi' ≤ hi → Within lo' hi' d → Within lo hi d
within_wider lo lo' hi hi' d h k w = let f = w.from in let g = w.below in record { number = w.number; is = w.is; from = omega arith; below = omega arith }

-- ## some of the binders
-- One may be left out.
rising_skip : (lo hi i : ℕ) (ds : List DictName) → lo ≤ i → Rising (suc i) hi ds → Rising lo hi ds
rising_skip lo hi i ds h r = let k : lo ≤ suc i = omega arith in rising_from lo (suc i) hi ds k r

-- Those that pass a test.
pub rising_keep : (lo hi : ℕ) (f : Binder → Bool) (bs : Pending) → Rising lo hi (names_of bs) → Rising lo hi (names_of (keep f bs))
unfolding keep
rising_keep lo hi f [] h = h
rising_keep lo hi f (b ∷ bs) (i, e, l, r) = go (f b) (rising_keep (suc i) hi f bs r)
  where
    go : (c : Bool) → Rising (suc i) hi (names_of (keep f bs)) → Rising lo hi (names_of (if c (b ∷ keep f bs) (keep f bs)))
    go true k = (i, e, l, k)
    go false k = rising_skip lo hi i (names_of (keep f bs)) l k

-- The first ones of their predicates.
pub rising_firsts : (lo hi : ℕ) (rs : List Pred) (bs : Pending) → Rising lo hi (names_of bs) → Rising lo hi (names_of (firsts rs bs))
unfolding firsts
rising_firsts lo hi rs [] h = h
rising_firsts lo hi rs (b ∷ bs) (i, e, l, r) = go (is_new rs b.1) (rising_firsts (suc i) hi (rs ++ (b.1 ∷ [])) bs r) (rising_firsts (suc i) hi rs bs r)
  where
    go : (c : Bool) → Rising (suc i) hi (names_of (firsts (rs ++ (b.1 ∷ [])) bs)) → Rising (suc i) hi (names_of (firsts rs bs))
        → Rising lo hi (names_of (if c (b ∷ firsts (rs ++ (b.1 ∷ [])) bs) (firsts rs bs)))
    go true k j = (i, e, l, k)
    go false k j = rising_skip lo hi i (names_of (firsts rs bs)) l j

-- A name of those that pass a test is a name of all.
pub keep_name : (f : Binder → Bool) (bs : Pending) (d : DictName) → Memᴰ d (names_of (keep f bs)) → Memᴰ d (names_of bs)
unfolding keep
keep_name f [] d m = m
keep_name f (b ∷ bs) d m = go (f b) m (keep_name f bs d)
  where
    go : (c : Bool) → Memᴰ d (names_of (if c (b ∷ keep f bs) (keep f bs))) → (Memᴰ d (names_of (keep f bs)) → Memᴰ d (names_of bs)) → Memᴰ d (names_of (b ∷ bs))
    go true m ih = next (Memᴰ.cases_cons m)
      where
        next : (d ≡ b.0) ⊎ Memᴰ d (names_of (keep f bs)) → Memᴰ d (names_of (b ∷ bs))
        next (inl j) = Memᴰ.head j
        next (inr j) = Memᴰ.tail (ih j)
    go false m ih = Memᴰ.tail (ih m)

-- So is a name of the first ones.
pub firsts_name : (rs : List Pred) (bs : Pending) (d : DictName) → Memᴰ d (names_of (firsts rs bs)) → Memᴰ d (names_of bs)
unfolding firsts
firsts_name rs [] d m = m
firsts_name rs (b ∷ bs) d m = go (is_new rs b.1) m (firsts_name (rs ++ (b.1 ∷ [])) bs d) (firsts_name rs bs d)
  where
    go : (c : Bool) → Memᴰ d (names_of (if c (b ∷ firsts (rs ++ (b.1 ∷ [])) bs) (firsts rs bs)))
        → (Memᴰ d (names_of (firsts (rs ++ (b.1 ∷ [])) bs)) → Memᴰ d (names_of bs)) → (Memᴰ d (names_of (firsts rs bs)) → Memᴰ d (names_of bs))
        → Memᴰ d (names_of (b ∷ bs))
    go true m ih jh = next (Memᴰ.cases_cons m)
      where
        next : (d ≡ b.0) ⊎ Memᴰ d (names_of (firsts (rs ++ (b.1 ∷ [])) bs)) → Memᴰ d (names_of (b ∷ bs))
        next (inl j) = Memᴰ.head j
        next (inr j) = Memᴰ.tail (ih j)
    go false m ih jh = Memᴰ.tail (jh m)

-- A name that stands before rising ones is none of them.
head_apart : (i hi : ℕ) (ds : List DictName) (d : DictName) → Rising (suc i) hi ds → d ≡ dvar i → NotIn d ds
head_apart i hi ds d r e m =
    let w : Within i (suc i) d = record { number = i; is = e; from = omega arith; below = omega arith } in
    within_apart i (suc i) hi d w (rising_within (suc i) hi ds r d m)

-- Those that pass a test and those that do not have no name in common.
pub keep_apart : (lo hi : ℕ) (f : Binder → Bool) (bs : Pending) → Rising lo hi (names_of bs)
    → (d : DictName) → Memᴰ d (names_of (keep f bs)) → Memᴰ d (names_of (keep (λ b. not (f b)) bs)) → ⊥
unfolding keep
keep_apart lo hi f [] h d m k = Memᴰ.not-nil m
keep_apart lo hi f (b ∷ bs) (i, e, l, r) d m k = go (f b) m k (keep_apart (suc i) hi f bs r d)
  where
    late : d ≡ b.0 → (g : Binder → Bool) → Memᴰ d (names_of (keep g bs)) → ⊥
    late j g x = head_apart i hi (names_of bs) d r (j ∙ e) (keep_name g bs d x)

    go : (c : Bool) → Memᴰ d (names_of (if c (b ∷ keep f bs) (keep f bs))) → Memᴰ d (names_of (if (not c) (b ∷ keep (λ b. not (f b)) bs) (keep (λ b. not (f b)) bs)))
        → (Memᴰ d (names_of (keep f bs)) → Memᴰ d (names_of (keep (λ b. not (f b)) bs)) → ⊥) → ⊥
    go true m k ih = next (Memᴰ.cases_cons m)
      where
        next : (d ≡ b.0) ⊎ Memᴰ d (names_of (keep f bs)) → ⊥
        next (inl j) = late j (λ b. not (f b)) k
        next (inr j) = ih j k
    go false m k ih = next (Memᴰ.cases_cons k)
      where
        next : (d ≡ b.0) ⊎ Memᴰ d (names_of (keep (λ b. not (f b)) bs)) → ⊥
        next (inl j) = late j f m
        next (inr j) = ih m j

-- ## distinct names
-- No name stands twice.
abbrev pub DistinctNames : List DictName → Type 0
DistinctNames [] = Unit {0}
DistinctNames (d ∷ ds) = NotIn d ds × DistinctNames ds

-- Rising names are distinct.
pub rising_distinct : (lo hi : ℕ) (ds : List DictName) → Rising lo hi ds → DistinctNames ds
rising_distinct lo hi [] h = tt
rising_distinct lo hi (d ∷ ds) (i, e, l, r) = (head_apart i hi ds d r e, rising_distinct (suc i) hi ds r)
