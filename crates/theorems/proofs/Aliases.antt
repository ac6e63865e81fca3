-- What stands for a pending name in `sub_map` of generalize_binding, where it is another name of a binder's predicate, or
-- simplify_context removed it; and the whole of `sub_map`.
use mathlib.Core.Path.{◌≡◌, refl, ap, sym, ◌∙◌, subst}
use mathlib.Core.Bool.{Bool, true, false, not, ◌&&◌}
use mathlib.Core.List.Memᴰ
use mathlib.Core.List.{List, [], ◌∷◌, ◌++◌, map, Memᴰ}
use mathlib.Core.Option.{Option, none, some}
use mathlib.Core.Logic.{◌≢◌, ◌⊎◌, inl, inr}
use Prim.Native.Nat.{ℕ, suc, ◌≤◌}
use native.Mathlib.Omega.{arith}
use Rattle.meaning.specs.Base.{is_yes, if}
use Rattle.meaning.specs.Ast.{DictName, dvar, same_dict, same_pred, Core, cdict, Binder}
use Rattle.meaning.specs.Map.{Map, dicts, get, insert}
use Rattle.meaning.specs.Classes.{ClassEnv}
use Rattle.meaning.specs.Reduce.{Removed, find_super_proof, sorted_out, simplify_from, simplify_context}
use Rattle.meaning.specs.Generalize.{Pending, preds_of, fill_alias, fill_aliases, fill_removed}
use Rattle.theorems.proofs.Says.{Says, Any, past}
use Rattle.theorems.proofs.Maps.{get_insert_same, get_insert_other}
use Rattle.theorems.proofs.Tests.{is_yes_of, is_no_of}
use Rattle.theorems.proofs.Members.{Distinct}
use Rattle.theorems.proofs.Bound.{names_of}
use Rattle.theorems.proofs.RisingNames.{Within, Rising, NotIn, DistinctNames, rising_within, rising_append, within_apart}
use Rattle.theorems.proofs.Discharges.{NamesDiffer, fill_by, fill_absent, fill_at}

-- ## other names of a binder's predicate
-- The pending binder has the predicate of b, and another name.
abbrev pub other_name : Binder → Binder → Bool
other_name b c = is_yes (same_pred c.1 b.1) && not (is_yes (same_dict c.0 b.0))

alias_is : (b : Binder) (ps : Pending) (m : Map DictName Core) → fill_alias b ps m ≡ fill_by (other_name b) (cdict b.0) ps m
unfolding fill_alias fill_by
alias_is b [] m = refl
alias_is b (c ∷ ps) m = alias_is b ps _

-- The test, from what is known of both.
other_no : (b c : Binder) → (c.1 ≡ b.1 → c.0 ≡ b.0) → other_name b c ≡ false
other_no b c h = go (same_pred c.1 b.1) (same_dict c.0 b.0)
  where
    go : (p : Dec (c.1 ≡ b.1)) (d : Dec (c.0 ≡ b.0)) → (is_yes p && not (is_yes d)) ≡ false
    go (yes e) (yes f) = refl
    go (yes e) (no f) = absurd (f (h e))
    go (no n) (yes f) = refl
    go (no n) (no f) = refl

other_yes : (b c : Binder) → c.1 ≡ b.1 → c.0 ≢ b.0 → other_name b c ≡ true
other_yes b c e n = rw (is_yes_of (same_pred c.1 b.1) e, is_no_of (same_dict c.0 b.0) n) refl

module _ (ps : Pending) where
  -- Another name is found as before.
  pub aliases_absent : (bs : List Binder) (m : Map DictName Core) (d : DictName) → NotIn d (names_of ps) → get dicts d (fill_aliases bs ps m) ≡ get dicts d m
  unfolding fill_aliases
  aliases_absent [] m d h = refl
  aliases_absent (b ∷ bs) m d h = aliases_absent bs (fill_alias b ps m) d h ∙ ap (get dicts d) (alias_is b ps m) ∙ fill_absent (other_name b) (cdict b.0) ps m d h

  module _ (differ : NamesDiffer ps) (c : Binder) (member : Memᴰ c ps) where
    alias_at : (b : Binder) (m : Map DictName Core) → get dicts c.0 (fill_alias b ps m) ≡ if (other_name b c) (some (cdict b.0)) (get dicts c.0 m)
    alias_at b m = ap (get dicts c.0) (alias_is b ps m) ∙ fill_at (other_name b) (cdict b.0) ps m differ c member

    -- A name that no binder's predicate has but the binder's own is found as before.
    pub aliases_else : (bs : List Binder) (m : Map DictName Core) → ((b : Binder) → Memᴰ b bs → c.1 ≡ b.1 → c.0 ≡ b.0)
        → get dicts c.0 (fill_aliases bs ps m) ≡ get dicts c.0 m
    unfolding fill_aliases
    aliases_else [] m h = refl
    aliases_else (b ∷ bs) m h =
        aliases_else bs (fill_alias b ps m) (λ a k. h a (Memᴰ.tail k)) ∙ alias_at b m ∙ rw (other_no b c (h b (Memᴰ.head refl))) refl

    -- Another name of a binder's predicate becomes that binder's name, if no two binders have one predicate.
    pub aliases_at : (bs : List Binder) (m : Map DictName Core) → Distinct (preds_of bs) → (b : Binder) → Memᴰ b bs → c.1 ≡ b.1 → c.0 ≢ b.0
        → get dicts c.0 (fill_aliases bs ps m) ≡ some (cdict b.0)
    unfolding fill_aliases
    aliases_at [] m h b k e n = absurd (Memᴰ.not-nil k)
    aliases_at (a ∷ bs) m h b k e n = go (Memᴰ.cases_cons k) (λ j. aliases_at bs (fill_alias a ps m) h.1 b j e n)
      where
        alone : b ≡ a → (x : Binder) → Memᴰ x bs → c.1 ≡ x.1 → ⊥
        alone i x j f = h.0 (Memᴰ.cast (ap (λ (z : Binder). z.1) (sym i) ∙ sym e ∙ f) (Memᴰ.map (λ (z : Binder). z.1) j))

        go : (b ≡ a) ⊎ Memᴰ b bs → (Memᴰ b bs → get dicts c.0 (fill_aliases bs ps (fill_alias a ps m)) ≡ some (cdict b.0))
            → get dicts c.0 (fill_aliases bs ps (fill_alias a ps m)) ≡ some (cdict b.0)
        go (inl i) ih =
            aliases_else bs (fill_alias a ps m) (λ x j f. absurd (alone i x j f)) ∙ alias_at a m
            ∙ subst (λ (z : Binder). if (other_name z c) (some (cdict z.0)) (get dicts c.0 m) ≡ some (cdict b.0)) i (rw (other_yes b c e n) refl)
        go (inr j) ih = ih j

-- ## what simplify_context removed
-- The names of what was removed.
abbrev pub removed_names : List Removed → List DictName
removed_names rs = map (λ (r : Removed). r.0) rs

-- Another name is found as before.
pub removed_absent : (rs : List Removed) (m : Map DictName Core) (d : DictName) → NotIn d (removed_names rs) → get dicts d (fill_removed rs m) ≡ get dicts d m
unfolding fill_removed
removed_absent [] m d h = refl
removed_absent (r ∷ rs) m d h = removed_absent rs (insert dicts r m) d (λ k. h (Memᴰ.tail k)) ∙ get_insert_other dicts d r m (λ e. h (Memᴰ.head e))

-- A name that was removed gets its replacement, if no name was removed twice.
pub removed_at : (rs : List Removed) (m : Map DictName Core) → DistinctNames (removed_names rs) → (r : Removed) → Memᴰ r rs → get dicts r.0 (fill_removed rs m) ≡ some r.1
unfolding fill_removed
removed_at [] m h r k = absurd (Memᴰ.not-nil k)
removed_at (q ∷ rs) m h r k = go (Memᴰ.cases_cons k) (λ j. removed_at rs (insert dicts q m) h.1 r j)
  where
    go : (r ≡ q) ⊎ Memᴰ r rs → (Memᴰ r rs → get dicts r.0 (fill_removed rs (insert dicts q m)) ≡ some r.1) → get dicts r.0 (fill_removed rs (insert dicts q m)) ≡ some r.1
    go (inl e) ih = rw e (removed_absent rs (insert dicts q m) q.0 h.0 ∙ get_insert_same dicts q.0 q.1 m)
    go (inr j) ih = ih j

-- Rising names below a later bound.
rising_to : (lo mid hi : ℕ) (ds : List DictName) → Rising lo mid ds → mid ≤ hi → Rising lo hi ds
rising_to lo mid hi [] h k = let j : lo ≤ mid = h in omega arith
rising_to lo mid hi (d ∷ ds) (i, e, l, r) k = (i, e, l, rising_to (suc i) mid hi ds r k)

-- Kept names and removed names rise, and none is both.
pub record Sorted (lo hi : ℕ) (o : List Binder × List Removed) : Type 0 where
  pub kept_rise : Rising lo hi (names_of o.0)
  pub removed_rise : Rising lo hi (removed_names o.1)
  pub apart : (d : DictName) → Memᴰ d (names_of o.0) → Memᴰ d (removed_names o.1) → ⊥

names_snoc : (bs : List Binder) (b : Binder) → names_of (bs ++ (b ∷ [])) ≡ names_of bs ++ (b.0 ∷ [])
names_snoc [] b = refl
names_snoc (a ∷ bs) b = ap (λ (l : List DictName). a.0 ∷ l) (names_snoc bs b)

removed_snoc : (rs : List Removed) (r : Removed) → removed_names (rs ++ (r ∷ [])) ≡ removed_names rs ++ (r.0 ∷ [])
removed_snoc [] r = refl
removed_snoc (a ∷ rs) r = ap (λ (l : List DictName). a.0 ∷ l) (removed_snoc rs r)

-- One more name at the end.
rising_snoc : (lo mid i : ℕ) (ds : List DictName) (d : DictName) → Rising lo mid ds → d ≡ dvar i → mid ≤ i → Rising lo (suc i) (ds ++ (d ∷ []))
rising_snoc lo mid i ds d h e l = rising_append lo mid (suc i) ds (d ∷ []) h (i, e, l, omega arith)

-- A name within bounds is none that comes later.
later_apart : (lo mid i : ℕ) (d c : DictName) → Within lo mid d → c ≡ dvar i → mid ≤ i → d ≢ c
later_apart lo mid i d c w e l x = within_apart lo mid (suc i) d w (record { number = i; is = x ∙ e; from = l; below = omega arith })

sorted_turn : (lo mid i : ℕ) (b : Binder) (a : Option Core) (o : List Binder × List Removed) → Sorted lo mid o → b.0 ≡ dvar i → mid ≤ i → Sorted lo (suc i) (sorted_out b a o)
unfolding sorted_out
sorted_turn lo mid i b (some f) o h e l = record {
  kept_rise = rising_to lo mid (suc i) (names_of o.0) h.kept_rise (omega arith);
  removed_rise = rw (removed_snoc o.1 (b.0, f)) (rising_snoc lo mid i (removed_names o.1) b.0 h.removed_rise e l);
  apart = λ d m k. go d m (Memᴰ.append_cases (removed_names o.1) (rw (removed_snoc o.1 (b.0, f)) at k));
}
  where
    go : (d : DictName) → Memᴰ d (names_of o.0) → Memᴰ d (removed_names o.1) ⊎ Memᴰ d (b.0 ∷ []) → ⊥
    go d m (inl k) = h.apart d m k
    go d m (inr k) = later_apart lo mid i d b.0 (rising_within lo mid (names_of o.0) h.kept_rise d m) e l (Memᴰ.eq_of_singleton k)
sorted_turn lo mid i b none o h e l = record {
  kept_rise = rw (names_snoc o.0 b) (rising_snoc lo mid i (names_of o.0) b.0 h.kept_rise e l);
  removed_rise = rising_to lo mid (suc i) (removed_names o.1) h.removed_rise (omega arith);
  apart = λ d k m. go d m (Memᴰ.append_cases (names_of o.0) (rw (names_snoc o.0 b) at k));
}
  where
    go : (d : DictName) → Memᴰ d (removed_names o.1) → Memᴰ d (names_of o.0) ⊎ Memᴰ d (b.0 ∷ []) → ⊥
    go d m (inl k) = h.apart d k m
    go d m (inr k) = later_apart lo mid i d b.0 (rising_within lo mid (removed_names o.1) h.removed_rise d m) e l (Memᴰ.eq_of_singleton k)

sorted_from : (ce : ClassEnv) (lo mid hi : ℕ) (bs : List Binder) (o : List Binder × List Removed) (n : ℕ) → Sorted lo mid o → Rising mid hi (names_of bs)
    → Says (Sorted lo hi) Any (simplify_from ce bs o n)
unfolding simplify_from
sorted_from ce lo mid hi [] o n h r = record {
  kept_rise = rising_to lo mid hi (names_of o.0) h.kept_rise r;
  removed_rise = rising_to lo mid hi (removed_names o.1) h.removed_rise r;
  apart = h.apart;
}
sorted_from ce lo mid hi (b ∷ bs) o n h (i, e, l, r) =
    past _ (find_super_proof ce (o.0 ++ bs) b.1 n) _ λ a m. sorted_from ce lo (suc i) hi bs (sorted_out b a o) m (sorted_turn lo mid i b a o h e l) r

-- Of binders with rising names simplify_context keeps some and removes some, each in order.
pub simplify_sorts : (ce : ClassEnv) (lo hi : ℕ) (bs : List Binder) (n : ℕ) → Rising lo hi (names_of bs) → Says (Sorted lo hi) Any (simplify_context ce bs n)
simplify_sorts ce lo hi bs n h = sorted_from ce lo lo hi bs ([], []) n (record { kept_rise = omega arith; removed_rise = omega arith; apart = λ d m k. Memᴰ.not-nil m }) h
