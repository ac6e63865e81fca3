-- What stands for a pending name in `sub_map` of generalize_binding, where `reduce` discharged its predicate.
use mathlib.Core.Path.{◌≡◌, refl, ap, sym, ◌∙◌, subst}
use mathlib.Core.Bool.{Bool, true, false, true≢false}
use mathlib.Core.List.Memᴰ
use mathlib.Core.List.{List, [], ◌∷◌, Memᴰ}
use mathlib.Core.Option.{Option, none, some}
use mathlib.Core.Logic.{◌≢◌, ◌⊎◌, inl, inr}
use Prim.Native.Nat.{ℕ, suc, zero}
use Rattle.meaning.specs.Base.{is_yes, if, nth}
use Rattle.meaning.specs.Ast.{DictName, Pred, same_pred, Core, Binder}
use Rattle.meaning.specs.Budget.{depth}
use Rattle.meaning.specs.Map.{Map, dicts, get, insert}
use Rattle.meaning.specs.Classes.{ClassEnv, resolve}
use Rattle.meaning.specs.Reduce.{Discharged, is_head_normal}
use Rattle.meaning.specs.Generalize.{Pending, preds_of, fill_equal, fill_discharged}
use Rattle.theorems.proofs.Maps.{get_insert_same, get_insert_other}
use Rattle.theorems.proofs.Tests.{is_no_of, some_inj, none_some}
use Rattle.theorems.proofs.Bound.{names_of}
use Rattle.theorems.proofs.Residuals.{Gave, Answers, no_more, stays, resolves}
use Rattle.theorems.proofs.ResolveSteady.{resolve_once}
use Rattle.theorems.proofs.RisingNames.{NotIn, DistinctNames}

-- No two pending binders have one name.
abbrev pub NamesDiffer : Pending → Type 0
NamesDiffer ps = DistinctNames (names_of ps)

-- ## members by their number
-- What stands at a number is a member.
pub nth_member : {A : Type 0} (xs : List A) (i : ℕ) (x : A) → nth xs i ≡ some x → Memᴰ x xs
unfolding nth
nth_member [] i x e = absurd (none_some x e)
nth_member (y ∷ xs) zero x e = Memᴰ.head (sym (some_inj y x e))
nth_member (y ∷ xs) (suc i) x e = Memᴰ.tail (nth_member xs i x e)

-- A member's name.
pub member_name : (ps : Pending) (b : Binder) → Memᴰ b ps → Memᴰ b.0 (names_of ps)
member_name ps b m = Memᴰ.map (λ (b : Binder). b.0) m

-- A name leads to one binder.
pub one_binder : (ps : Pending) → NamesDiffer ps → (b c : Binder) → Memᴰ b ps → Memᴰ c ps → b.0 ≡ c.0 → b ≡ c
one_binder [] h b c m k e = absurd (Memᴰ.not-nil m)
one_binder (a ∷ ps) h b c m k e = go (Memᴰ.cases_cons m) (Memᴰ.cases_cons k) (one_binder ps h.1 b c)
  where
    late : (x y : Binder) → x ≡ a → Memᴰ y ps → x.0 ≡ y.0 → ⊥
    late x y i n j = h.0 (Memᴰ.cast (ap (λ (z : Binder). z.0) (sym i) ∙ j) (member_name ps y n))

    go : (b ≡ a) ⊎ Memᴰ b ps → (c ≡ a) ⊎ Memᴰ c ps → (Memᴰ b ps → Memᴰ c ps → b.0 ≡ c.0 → b ≡ c) → b ≡ c
    go (inl i) (inl j) ih = i ∙ sym j
    go (inl i) (inr j) ih = absurd (late b c i j e)
    go (inr i) (inl j) ih = absurd (late c b j i (sym e))
    go (inr i) (inr j) ih = ih i j e

-- ## one term for all pending names that pass a test
-- The names that pass the test get the term.
unfoldable pub fill_by : (Binder → Bool) → Core → Pending → Map DictName Core → Map DictName Core
fill_by t v [] m = m
fill_by t v (c ∷ cs) m = fill_by t v cs (if (t c) (insert dicts (c.0, v) m) m)

module _ (t : Binder → Bool) (v : Core) where
  -- Another name is found as before.
  pub fill_absent : (ps : Pending) (m : Map DictName Core) (d : DictName) → NotIn d (names_of ps) → get dicts d (fill_by t v ps m) ≡ get dicts d m
  unfolding fill_by
  fill_absent [] m d h = refl
  fill_absent (c ∷ cs) m d h = fill_absent cs _ d (λ n. h (Memᴰ.tail n)) ∙ go (t c)
    where
      go : (b : Bool) → get dicts d (if b (insert dicts (c.0, v) m) m) ≡ get dicts d m
      go true = get_insert_other dicts d (c.0, v) m (λ e. h (Memᴰ.head e))
      go false = refl

  -- A pending name gets the term if its binder passes the test.
  pub fill_at : (ps : Pending) (m : Map DictName Core) → NamesDiffer ps → (b : Binder) → Memᴰ b ps
      → get dicts b.0 (fill_by t v ps m) ≡ if (t b) (some v) (get dicts b.0 m)
  unfolding fill_by
  fill_at [] m h b k = absurd (Memᴰ.not-nil k)
  fill_at (c ∷ cs) m h b k = go (Memᴰ.cases_cons k) (fill_at cs (if (t c) (insert dicts (c.0, v) m) m) h.1 b)
    where
      put : (x : Bool) → get dicts c.0 (if x (insert dicts (c.0, v) m) m) ≡ if x (some v) (get dicts c.0 m)
      put true = get_insert_same dicts c.0 v m
      put false = refl

      leave : (x : Bool) → b.0 ≢ c.0 → get dicts b.0 (if x (insert dicts (c.0, v) m) m) ≡ get dicts b.0 m
      leave true n = get_insert_other dicts b.0 (c.0, v) m n
      leave false n = refl

      go : (b ≡ c) ⊎ Memᴰ b cs
          → (Memᴰ b cs → get dicts b.0 (fill_by t v cs (if (t c) (insert dicts (c.0, v) m) m)) ≡ if (t b) (some v) (get dicts b.0 (if (t c) (insert dicts (c.0, v) m) m)))
          → get dicts b.0 (fill_by t v cs (if (t c) (insert dicts (c.0, v) m) m)) ≡ if (t b) (some v) (get dicts b.0 m)
      go (inl e) ih = rw e (fill_absent cs (if (t c) (insert dicts (c.0, v) m) m) c.0 h.0 ∙ put (t c))
      go (inr n) ih = ih n ∙ ap (λ (o : Option Core). if (t b) (some v) o) (leave (t c) (λ e. h.0 (Memᴰ.cast (sym e) (member_name cs b n))))

equal_is : (o : Discharged) (ps : Pending) (m : Map DictName Core) → fill_equal o ps m ≡ fill_by (λ b. is_yes (same_pred b.1 o.0)) o.1 ps m
unfolding fill_equal fill_by
equal_is o [] m = refl
equal_is o (b ∷ ps) m = equal_is o ps _

-- ## what `reduce` discharged
-- Each pair of the list that is about this predicate has this term.
abbrev Same : List Discharged → Pred → Core → Type 0
Same os p e = (o : Discharged) → Memᴰ o os → o.0 ≡ p → o.1 ≡ e

module _ (ps : Pending) where
  -- Another name is found as before.
  pub discharged_absent : (os : List Discharged) (m : Map DictName Core) (d : DictName) → NotIn d (names_of ps) → get dicts d (fill_discharged os ps m) ≡ get dicts d m
  unfolding fill_discharged
  discharged_absent [] m d h = refl
  discharged_absent (o ∷ os) m d h = discharged_absent os (fill_equal o ps m) d h ∙ ap (get dicts d) (equal_is o ps m) ∙ fill_absent _ o.1 ps m d h

  module _ (differ : NamesDiffer ps) (b : Binder) (member : Memᴰ b ps) where
    equal_at : (o : Discharged) (m : Map DictName Core) → get dicts b.0 (fill_equal o ps m) ≡ if (is_yes (same_pred b.1 o.0)) (some o.1) (get dicts b.0 m)
    equal_at o m = ap (get dicts b.0) (equal_is o ps m) ∙ fill_at (λ c. is_yes (same_pred c.1 o.0)) o.1 ps m differ b member

    -- A predicate that is not discharged: its names are found as before.
    pub discharged_not : (os : List Discharged) (m : Map DictName Core) → ((o : Discharged) → Memᴰ o os → o.0 ≢ b.1)
        → get dicts b.0 (fill_discharged os ps m) ≡ get dicts b.0 m
    unfolding fill_discharged
    discharged_not [] m h = refl
    discharged_not (o ∷ os) m h =
        discharged_not os (fill_equal o ps m) (λ a k. h a (Memᴰ.tail k)) ∙ equal_at o m ∙ rw (is_no_of (same_pred b.1 o.0) (λ e. h o (Memᴰ.head refl) (sym e))) refl

    -- One that is, always by the same term: its names get that term.
    pub discharged_by : (os : List Discharged) (m : Map DictName Core) (e : Core) → Same os b.1 e
        → ((o : Discharged) × Memᴰ o os × (o.0 ≡ b.1)) ⊎ (get dicts b.0 m ≡ some e) → get dicts b.0 (fill_discharged os ps m) ≡ some e
    unfolding fill_discharged
    discharged_by [] m e h (inl (o, k, i)) = absurd (Memᴰ.not-nil k)
    discharged_by [] m e h (inr i) = i
    discharged_by (o ∷ os) m e h w = discharged_by os (fill_equal o ps m) e (λ a k. h a (Memᴰ.tail k)) (go (same_pred b.1 o.0) (equal_at o m) w)
      where
        go : (c : Dec (b.1 ≡ o.0)) → get dicts b.0 (fill_equal o ps m) ≡ if (is_yes c) (some o.1) (get dicts b.0 m)
            → ((a : Discharged) × Memᴰ a (o ∷ os) × (a.0 ≡ b.1)) ⊎ (get dicts b.0 m ≡ some e)
            → ((a : Discharged) × Memᴰ a os × (a.0 ≡ b.1)) ⊎ (get dicts b.0 (fill_equal o ps m) ≡ some e)
        go (yes i) j w = inr (j ∙ ap some (h o (Memᴰ.head refl) (sym i)))
        go (no n) j (inr i) = inr (j ∙ i)
        go (no n) j (inl (a, k, i)) = next (Memᴰ.cases_cons k)
          where
            next : (a ≡ o) ⊎ Memᴰ a os → ((a : Discharged) × Memᴰ a os × (a.0 ≡ b.1)) ⊎ (get dicts b.0 (fill_equal o ps m) ≡ some e)
            next (inl x) = absurd (n (sym i ∙ ap (λ (z : Discharged). z.0) x))
            next (inr x) = inl (a, x, i)

-- Each pair of the answers: the predicate is not variable-typed, and a resolution gave the term.
pub answers_resolved : {ce : ClassEnv} {ps : List Pred} {ds : List Discharged} → Answers ce ps ds → (o : Discharged) → Memᴰ o ds
    → (is_head_normal o.0.ty ≡ false) × Gave (resolve ce [] o.0) o.1
answers_resolved no_more o m = absurd (Memᴰ.not-nil m)
answers_resolved (stays h a) o m = answers_resolved a o m
answers_resolved {ce} (resolves {p} {ps} {ds} {e} h g a) o m = go (Memᴰ.cases_cons m) (answers_resolved a o)
  where
    go : (o ≡ (p, e)) ⊎ Memᴰ o ds → (Memᴰ o ds → (is_head_normal o.0.ty ≡ false) × Gave (resolve ce [] o.0) o.1) → (is_head_normal o.0.ty ≡ false) × Gave (resolve ce [] o.0) o.1
    go (inl i) ih = subst (λ (o : Discharged). (is_head_normal o.0.ty ≡ false) × Gave (resolve ce [] o.0) o.1) (sym i) (h, g)
    go (inr i) ih = ih i

-- Each predicate that is not variable-typed has its pair.
pub answers_all : {ce : ClassEnv} {ps : List Pred} {ds : List Discharged} → Answers ce ps ds → (p : Pred) → Memᴰ p ps → is_head_normal p.ty ≡ false → (e : Core) × Memᴰ (p, e) ds
answers_all no_more p m h = absurd (Memᴰ.not-nil m)
answers_all (stays {p = q} {ps = ps} {ds = ds} t a) p m h = go (Memᴰ.cases_cons m) (answers_all a p)
  where
    go : (p ≡ q) ⊎ Memᴰ p ps → (Memᴰ p ps → is_head_normal p.ty ≡ false → (e : Core) × Memᴰ (p, e) ds) → (e : Core) × Memᴰ (p, e) ds
    go (inl i) ih = absurd (true≢false (sym t ∙ ap (λ (z : Pred). is_head_normal z.ty) (sym i) ∙ h))
    go (inr i) ih = ih i h
answers_all (resolves {p = q} {ps = ps} {ds = ds} {e = f} t g a) p m h = go (Memᴰ.cases_cons m) (answers_all a p)
  where
    go : (p ≡ q) ⊎ Memᴰ p ps → (Memᴰ p ps → is_head_normal p.ty ≡ false → (e : Core) × Memᴰ (p, e) ds) → (e : Core) × Memᴰ (p, e) ((q, f) ∷ ds)
    go (inl i) ih = (f, Memᴰ.head (ap (λ (z : Pred). (z, f)) i))
    go (inr i) ih = let r = ih i h in (r.0, Memᴰ.tail r.1)

-- Two resolutions of equal predicates gave one term.
pub gave_once : (ce : ClassEnv) (p q : Pred) (e f : Core) → p ≡ q → Gave (resolve ce [] p) e → Gave (resolve ce [] q) f → e ≡ f
gave_once ce p q e f i g h = resolve_once depth ce [] q k.steps h.steps e f k.left h.left k.is h.is
  where
    k : Gave (resolve ce [] q) e
    k = subst (λ (z : Pred). Gave (resolve ce [] z) e) i g

module _ (ce : ClassEnv) (ps : Pending) (differ : NamesDiffer ps) (ds : List Discharged) (answers : Answers ce (preds_of ps) ds) (i : ℕ) (b : Binder) (at : nth ps i ≡ some b) where
  -- A pending name whose predicate is not variable-typed gets the term that a resolution of that predicate gives.
  pub fills_resolved : is_head_normal b.1.ty ≡ false → (e : Core) → Gave (resolve ce [] b.1) e → get dicts b.0 (fill_discharged ds ps []) ≡ some e
  fills_resolved h e g =
      let m = nth_member ps i b at in
      let r = answers_all answers b.1 (Memᴰ.map (λ (b : Binder). b.1) m) h in
      discharged_by ps differ b m ds [] e (λ o k j. gave_once ce o.0 b.1 o.1 e j (answers_resolved answers o k).1 g) (inl ((b.1, r.0), r.1, refl))

  -- There is such a term.
  pub is_resolved : is_head_normal b.1.ty ≡ false → (e : Core) × Gave (resolve ce [] b.1) e
  is_resolved h = let r = answers_all answers b.1 (Memᴰ.map (λ (b : Binder). b.1) (nth_member ps i b at)) h in (r.0, (answers_resolved answers (b.1, r.0) r.1).1)

  -- One whose predicate is variable-typed gets none.
  pub fills_not : is_head_normal b.1.ty ≡ true → get dicts b.0 (fill_discharged ds ps []) ≡ none
  unfolding get
  fills_not h = discharged_not ps differ b (nth_member ps i b at) ds []
      (λ o k j. true≢false (sym h ∙ ap (λ (z : Pred). is_head_normal z.ty) (sym j) ∙ (answers_resolved answers o k).0))
