-- The whole of `sub_map` of generalize_binding and finalize_expr: what stands for each pending name, row by row.
use mathlib.Core.Path.{◌≡◌, refl, ap, sym, ◌∙◌, subst}
use mathlib.Core.Bool.{Bool, true, false, true≢false, false≢true}
use mathlib.Core.List.Memᴰ
use mathlib.Core.List.{List, [], ◌∷◌, Memᴰ}
use mathlib.Core.Option.{none, some}
use mathlib.Core.Logic.{◌≢◌, ◌⊎◌, inl, inr}
use Prim.Native.Nat.{ℕ, suc, zero, ◌<◌}
use native.Mathlib.Omega.{arith}
use Rattle.meaning.specs.Base.{nth, keep}
use Rattle.meaning.specs.Ast.{TyVar, DictName, dvar, Pred, Core, cdict, Binder}
use Rattle.meaning.specs.Budget.{done}
use Rattle.meaning.specs.Map.{Map, dicts, get}
use Rattle.meaning.specs.Classes.{ClassEnv, resolve}
use Rattle.meaning.specs.Reduce.{Discharged, Removed, is_head_normal, reduce, simplify_context}
use Rattle.meaning.specs.Generalize.{Pending, preds_of, fill_discharged, binders_of, fill_aliases, fill_removed, is_own}
use Rattle.theorems.proofs.Says.{of_done}
use Rattle.theorems.proofs.Tests.{some_inj, none_some}
use Rattle.theorems.proofs.Members.{Distinct}
use Rattle.theorems.proofs.Simplified.{simplify_says}
use Rattle.theorems.proofs.Bound.{names_of, NoneBound}
use Rattle.theorems.proofs.Residuals.{Gave, Answers, left_of, reduce_splits, firsts, binders_are}
use Rattle.theorems.proofs.RisingNames.{Within, Rising, NotIn, DistinctNames, rising_within, rising_distinct}
use Rattle.theorems.proofs.Discharges.{NamesDiffer, nth_member, member_name, one_binder, discharged_absent, fills_resolved, fills_not}
use Rattle.theorems.proofs.Aliases.{aliases_absent, aliases_else, aliases_at, removed_names, removed_absent, removed_at, simplify_sorts}
use Rattle.theorems.proofs.FirstOf.{first_of, Leads, first_leads}
use Rattle.theorems.proofs.NamesGeneralized.{Named}
use Rattle.theorems.proofs.DictNames.{named_apart}
use Rattle.theorems.proofs.FirstRows.{NoneBefore, firsts_in, firsts_out, firsts_distinct, keep_out, keep_in, keep_distinct}

-- `sub_map`.
abbrev pub sub-map : List Removed → List Binder → List Discharged → Pending → Map DictName Core
sub-map rs bs ds ps = fill_removed rs (fill_aliases bs ps (fill_discharged ds ps []))

-- Binders that a binding may keep: pending ones of variable-typed predicates, no predicate twice.
pub record Keeping (ps : Pending) (bs : List Binder) : Type 0 where
  pub pending : (b : Binder) → Memᴰ b bs → Memᴰ b ps
  pub variable_typed : (b : Binder) → Memᴰ b bs → is_head_normal b.1.ty ≡ true
  pub distinct : Distinct (preds_of bs)

-- What simplify_context removed of them: no name twice, and each is the name of one of them.
pub record Removing (bs : List Binder) (rs : List Removed) : Type 0 where
  pub once : DistinctNames (removed_names rs)
  pub from : (r : Removed) → Memᴰ r rs → (p : Pred) × Memᴰ (r.0, p) bs

-- ## one binder a predicate, one number a name
one_of_pred : (bs : List Binder) → Distinct (preds_of bs) → (b c : Binder) → Memᴰ b bs → Memᴰ c bs → b.1 ≡ c.1 → b ≡ c
one_of_pred [] h b c m k e = absurd (Memᴰ.not-nil m)
one_of_pred (a ∷ bs) h b c m k e = go (Memᴰ.cases_cons m) (Memᴰ.cases_cons k) (one_of_pred bs h.1 b c)
  where
    late : (x y : Binder) → x ≡ a → Memᴰ y bs → x.1 ≡ y.1 → ⊥
    late x y i n j = h.0 (Memᴰ.cast (ap (λ (z : Binder). z.1) (sym i) ∙ j) (Memᴰ.map (λ (z : Binder). z.1) n))

    go : (b ≡ a) ⊎ Memᴰ b bs → (c ≡ a) ⊎ Memᴰ c bs → (Memᴰ b bs → Memᴰ c bs → b.1 ≡ c.1 → b ≡ c) → b ≡ c
    go (inl i) (inl j) ih = i ∙ sym j
    go (inl i) (inr j) ih = absurd (late b c i j e)
    go (inr i) (inl j) ih = absurd (late c b j i (sym e))
    go (inr i) (inr j) ih = ih i j e

-- Two rows of one name are one row.
pub one_number : (ps : Pending) → NamesDiffer ps → (i j : ℕ) (b c : Binder) → nth ps i ≡ some b → nth ps j ≡ some c → b.0 ≡ c.0 → i ≡ j
unfolding nth
one_number [] h i j b c e f x = absurd (none_some b e)
one_number (a ∷ ps) h zero zero b c e f x = refl
one_number (a ∷ ps) h zero (suc j) b c e f x = absurd (h.0 (Memᴰ.cast (ap (λ (z : Binder). z.0) (some_inj a b e) ∙ x) (member_name ps c (nth_member ps j c f))))
one_number (a ∷ ps) h (suc i) zero b c e f x = absurd (h.0 (Memᴰ.cast (ap (λ (z : Binder). z.0) (some_inj a c f) ∙ sym x) (member_name ps b (nth_member ps i b e))))
one_number (a ∷ ps) h (suc i) (suc j) b c e f x = ap suc (one_number ps h.1 i j b c e f x)

-- ## what stands for a name
module _ (ce : ClassEnv) (ps : Pending) (differ : NamesDiffer ps) (ds : List Discharged) (answers : Answers ce (preds_of ps) ds) (bs : List Binder) (keeps : Keeping ps bs)
    (rs : List Removed) (removes : Removing bs rs) where
  -- A name that was removed is the name of a binder that might be kept.
  removed_from_lem : (c : Binder) → Memᴰ c ps → Memᴰ c.0 (removed_names rs) → Memᴰ c bs
  removed_from_lem c m k =
      let r = Memᴰ.of_map (λ (r : Removed). r.0) rs k in
      let b = removes.from r.0 r.1 in
      Memᴰ.cast (one_binder ps differ c (r.0.0, b.0) m (keeps.pending (r.0.0, b.0) b.1) (sym r.2)) b.1

  -- A name that is not pending gets nothing.
  pub sub_absent : (d : DictName) → NotIn d (names_of ps) → get dicts d (sub-map rs bs ds ps) ≡ none
  unfolding get
  sub_absent d h = removed_absent rs _ d (λ k. h (go k)) ∙ aliases_absent ps bs _ d h ∙ discharged_absent ps ds [] d h
    where
      go : Memᴰ d (removed_names rs) → Memᴰ d (names_of ps)
      go k =
          let r = Memᴰ.of_map (λ (r : Removed). r.0) rs k in
          let b = removes.from r.0 r.1 in
          Memᴰ.cast (sym r.2) (member_name ps (r.0.0, b.0) (keeps.pending (r.0.0, b.0) b.1))

  -- A name that was removed gets its replacement.
  pub sub_removed : (r : Removed) → Memᴰ r rs → get dicts r.0 (sub-map rs bs ds ps) ≡ some r.1
  sub_removed r m = removed_at rs _ removes.once r m

  module _ (i : ℕ) (c : Binder) (at : nth ps i ≡ some c) where
    -- A name whose predicate is not variable-typed gets the term that a resolution of it gives.
    pub sub_resolved : is_head_normal c.1.ty ≡ false → (e : Core) → Gave (resolve ce [] c.1) e → get dicts c.0 (sub-map rs bs ds ps) ≡ some e
    sub_resolved h e g =
        removed_absent rs _ c.0 (λ k. true≢false (sym (keeps.variable_typed c (removed_from_lem c m k)) ∙ h))
        ∙ aliases_else ps differ c m bs _ (λ b k j. absurd (true≢false (sym (keeps.variable_typed b k) ∙ ap (λ (p : Pred). is_head_normal p.ty) (sym j) ∙ h)))
        ∙ fills_resolved ce ps differ ds answers i c at h e g
      where
        m : Memᴰ c ps
        m = nth_member ps i c at

    -- Another name of a binder's predicate gets the binder's name.
    pub sub_alias : (b : Binder) → Memᴰ b bs → c.1 ≡ b.1 → c.0 ≢ b.0 → get dicts c.0 (sub-map rs bs ds ps) ≡ some (cdict b.0)
    sub_alias b k e n =
        removed_absent rs _ c.0 (λ x. n (ap (λ (z : Binder). z.0) (one_of_pred bs keeps.distinct c b (removed_from_lem c m x) k e)))
        ∙ aliases_at ps differ c m bs _ keeps.distinct b k e n
      where
        m : Memᴰ c ps
        m = nth_member ps i c at

    -- A name of a variable-typed predicate that was not removed, and is no other name of a binder's predicate, gets nothing.
    pub sub_nothing : is_head_normal c.1.ty ≡ true → NotIn c.0 (removed_names rs) → ((b : Binder) → Memᴰ b bs → c.1 ≡ b.1 → c.0 ≡ b.0)
        → get dicts c.0 (sub-map rs bs ds ps) ≡ none
    sub_nothing h n w = removed_absent rs _ c.0 n ∙ aliases_else ps differ c (nth_member ps i c at) bs _ w ∙ fills_not ce ps differ ds answers i c at h

-- ## the binders that a test keeps
-- The first ones that pass a test.
pub keeping_firsts : (f : Binder → Bool) (ps : Pending) → Keeping ps (keep f (firsts [] ps))
keeping_firsts f ps = record {
  pending = λ b m. let a = firsts_out [] ps b (keep_out f (firsts [] ps) b m).0 in nth_member ps a.number b a.stands;
  variable_typed = λ b m. (firsts_out [] ps b (keep_out f (firsts [] ps) b m).0).variable_typed;
  distinct = keep_distinct f (firsts [] ps) (firsts_distinct [] ps);
}

-- Without a test.
pub keeping_all : (ps : Pending) → Keeping ps (firsts [] ps)
keeping_all ps = record {
  pending = λ b m. let a = firsts_out [] ps b m in nth_member ps a.number b a.stands;
  variable_typed = λ b m. (firsts_out [] ps b m).variable_typed;
  distinct = firsts_distinct [] ps;
}

-- A test that looks at the predicate alone.
abbrev pub OfPred : (Binder → Bool) → Type 0
OfPred f = (b c : Binder) → b.1 ≡ c.1 → f b ≡ f c

-- Whether a predicate stays with the binding is such a test.
pub own_of_pred : (us vs : List TyVar) → OfPred (is_own us vs)
unfolding is_own
own_of_pred us vs b c e = ap (λ (p : Pred). is_own us vs (b.0, p)) e

-- Row by row: the first rows that pass the test may be kept, later rows of their predicates get their names, and rows
-- that do not pass it get nothing.
module _ (ce : ClassEnv) (ps : Pending) (differ : NamesDiffer ps) (ds : List Discharged) (answers : Answers ce (preds_of ps) ds) (f : Binder → Bool) (of_pred : OfPred f)
    (rs : List Removed) (removes : Removing (keep f (firsts [] ps)) rs) (i : ℕ) (c : Binder) (at : nth ps i ≡ some c) (typed : is_head_normal c.1.ty ≡ true) where
  -- A later row.
  pub row_alias : f c ≡ true → (k : ℕ) (b : Binder) → nth ps k ≡ some b → NoneBefore ps k b.1 → c.1 ≡ b.1 → i ≢ k
      → get dicts c.0 (sub-map rs (keep f (firsts [] ps)) ds ps) ≡ some (cdict b.0)
  row_alias t k b stands before e n =
      sub_alias ce ps differ ds answers (keep f (firsts [] ps)) (keeping_firsts f ps) rs removes i c at b
      (keep_in f (firsts [] ps) b (firsts_in [] ps k b stands (ap (λ (p : Pred). is_head_normal p.ty) (sym e) ∙ typed) Memᴰ.not-nil before) (of_pred b c (sym e) ∙ t)) e
      (λ x. n (one_number ps differ i k c b at stands x))

  -- A first row that was not removed.
  pub row_first : NoneBefore ps i c.1 → NotIn c.0 (removed_names rs) → get dicts c.0 (sub-map rs (keep f (firsts [] ps)) ds ps) ≡ none
  row_first before n =
      sub_nothing ce ps differ ds answers (keep f (firsts [] ps)) (keeping_firsts f ps) rs removes i c at typed n
      (λ b k e. ap (λ (z : Binder). z.0) (one_of_pred (firsts [] ps) (firsts_distinct [] ps) c b (firsts_in [] ps i c at typed Memᴰ.not-nil before) (keep_out f (firsts [] ps) b k).0 e))

  -- A row that does not pass the test.
  pub row_deferred : f c ≡ false → get dicts c.0 (sub-map rs (keep f (firsts [] ps)) ds ps) ≡ none
  row_deferred t =
      sub_nothing ce ps differ ds answers (keep f (firsts [] ps)) (keeping_firsts f ps) rs removes i c at typed
      (λ k. false≢true (sym t ∙ (keep_out f (firsts [] ps) c (removed_from_lem ce ps differ ds answers (keep f (firsts [] ps)) (keeping_firsts f ps) rs removes c (nth_member ps i c at) k)).1))
      (λ b k e. absurd (false≢true (sym t ∙ of_pred c b e ∙ (keep_out f (firsts [] ps) b k).1)))

  -- The same, with the first binder of the predicate as a search finds it.
  pub found_alias : f c ≡ true → (b : Binder) → first_of ps c.1 ≡ some b → c.0 ≢ b.0 → get dicts c.0 (sub-map rs (keep f (firsts [] ps)) ds ps) ≡ some (cdict b.0)
  found_alias t b e n =
      let l = first_leads ps c.1 b e in
      row_alias t l.number b l.stands (subst (NoneBefore ps l.number) (sym l.has) l.leads) (sym l.has) (λ x. n (same l x))
    where
      same : (l : Leads ps c.1 b) → i ≡ l.number → c.0 ≡ b.0
      same l x = ap (λ (z : Binder). z.0) (some_inj c b (sym at ∙ ap (nth ps) x ∙ l.stands))

  -- And of the first one itself.
  pub found_first : first_of ps c.1 ≡ some c → NotIn c.0 (removed_names rs) → get dicts c.0 (sub-map rs (keep f (firsts [] ps)) ds ps) ≡ none
  found_first e n =
      let l = first_leads ps c.1 c e in
      row_first (subst (λ (k : ℕ). NoneBefore ps k c.1) (one_number ps differ l.number i c c l.stands at refl) l.leads) n

-- ## from what was computed
-- What `reduce` has given.
pub split_of : (ce : ClassEnv) (ps : Pending) (n m : ℕ) (o : List Discharged × List Pred) → reduce ce [] (preds_of ps) n ≡ done o m
    → Answers ce (preds_of ps) o.0 × (o.1 ≡ left_of [] (preds_of ps)) × (binders_of o.1 ps ≡ firsts [] ps)
split_of ce ps n m o e =
    let s = of_done _ _ _ o m (reduce_splits ce (preds_of ps) n) e in
    (s.answers, s.residual_is, ap (λ (l : List Pred). binders_of l ps) s.residual_is ∙ binders_are ps)

-- What simplify_context has given of binders with rising names.
pub removing_of : (ce : ClassEnv) (lo hi : ℕ) (bs : List Binder) (n m : ℕ) (o : List Binder × List Removed) → Rising lo hi (names_of bs) → simplify_context ce bs n ≡ done o m → Removing bs o.1
removing_of ce lo hi bs n m o h e =
    let s = of_done _ _ _ o m (simplify_says ce bs n) e in
    let t = of_done _ _ _ o m (simplify_sorts ce lo hi bs n h) e in
    record {
      once = rising_distinct lo hi (removed_names o.1) t.removed_rise;
      from = λ r k. let x = s.replaced r.0 r.1 k in (x.0, x.1);
    }

-- A kept binder's name was not removed.
pub kept_stays : (ce : ClassEnv) (lo hi : ℕ) (bs : List Binder) (n m : ℕ) (o : List Binder × List Removed) → Rising lo hi (names_of bs) → simplify_context ce bs n ≡ done o m
    → (b : Binder) → Memᴰ b o.0 → NotIn b.0 (removed_names o.1)
kept_stays ce lo hi bs n m o h e b k j = (of_done _ _ _ o m (simplify_sorts ce lo hi bs n h) e).apart b.0 (member_name o.0 b k) j

-- ## names
-- The name of a row is within the bounds.
pub name_at : (lo hi : ℕ) (ps : Pending) → Rising lo hi (names_of ps) → (i : ℕ) (b : Binder) → nth ps i ≡ some b → Within lo hi b.0
name_at lo hi ps h i b e = rising_within lo hi (names_of ps) h b.0 (member_name ps b (nth_member ps i b e))

-- A later row has a greater number.
pub names_order : (lo hi : ℕ) (ps : Pending) → Rising lo hi (names_of ps) → (i j : ℕ) (b c : Binder) → i < j → nth ps i ≡ some b → nth ps j ≡ some c
    → (m k : ℕ) → b.0 ≡ dvar m → c.0 ≡ dvar k → m < k
unfolding nth
names_order lo hi [] h i j b c l e f m k x y = absurd (none_some b e)
names_order lo hi (a ∷ ps) (n, d, g, r) i zero b c l e f m k x y = absurd (omega (arith, l))
names_order lo hi (a ∷ ps) (n, d, g, r) zero (suc j) b c l e f m k x y =
    let w = name_at (suc n) hi ps r j c f in
    let p : m ≡ n = dvar_one m n (sym x ∙ ap (λ (z : Binder). z.0) (sym (some_inj a b e)) ∙ d) in
    let q : k ≡ w.number = dvar_one k w.number (sym y ∙ w.is) in
    let s = w.from in omega arith
  where
    dvar_one : (u v : ℕ) → dvar u ≡ dvar v → u ≡ v
    dvar_one u v z = cc
names_order lo hi (a ∷ ps) (n, d, g, r) (suc i) (suc j) b c l e f m k x y = names_order (suc n) hi ps r i j b c (omega arith) e f m k x y

-- Pending names that rise differ.
pub rising_differ : (lo hi : ℕ) (ps : Pending) → Rising lo hi (names_of ps) → NamesDiffer ps
rising_differ lo hi ps h = rising_distinct lo hi (names_of ps) h

-- No abstraction inside the term binds a name that `sub_map` replaces.
pub sub_none_bound : (ce : ClassEnv) (lo hi : ℕ) (ps : Pending) (e : Core) → Named lo hi (names_of ps) e → (ds : List Discharged) → Answers ce (preds_of ps) ds
    → (bs : List Binder) → Keeping ps bs → (rs : List Removed) → Removing bs rs → NoneBound (sub-map rs bs ds ps) e
sub_none_bound ce lo hi ps e h ds a bs k rs r = named_apart lo hi (names_of ps) e h (sub-map rs bs ds ps) (sub_absent ce ps (rising_differ lo hi ps h.rises) ds a bs k rs r)
