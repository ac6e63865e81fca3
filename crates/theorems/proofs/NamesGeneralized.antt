-- Generalization and names: the names that the term binds are pending ones that are not deferred, and bound ones of before.
use mathlib.Core.Path.{◌≡◌, refl, sym, ◌∙◌, subst}
use mathlib.Core.Bool.{Bool, true, false, not, ◌&&◌}
use mathlib.Core.List.Memᴰ
use mathlib.Core.List.{List, [], ◌∷◌, Memᴰ}
use Prim.Native.Nat.{ℕ}
use Rattle.meaning.specs.Base.{is_yes, if, keep}
use Rattle.meaning.specs.Ast.{TyVar, DictName, same_dict, Ty, Pred, same_pred, Qual, qual, Core, cdict, Binder}
use Rattle.meaning.specs.Budget.{depth}
use Rattle.meaning.specs.Map.{Map, dicts, insert}
use Rattle.meaning.specs.Subst.{ftv_type}
use Rattle.meaning.specs.Classes.{ClassEnv}
use Rattle.meaning.specs.Reduce.{Discharged, Removed, reduce, simplify_context}
use Rattle.meaning.specs.Cores.{subst_core, apply_subst_to_core, canonical_renamer, as_subst, canonical_scheme_and_core}
use Rattle.meaning.specs.Generalize.{Pending, Env, env_ftv, preds_of, fill_equal, fill_discharged, binders_of, fill_alias, fill_aliases, fill_removed, abstracted, simplified, is_own, generalize_binding}
use Rattle.theorems.proofs.Says.{Says, Any, and_then, past, weaken, both_say}
use Rattle.theorems.proofs.Reduced.{reduce_says}
use Rattle.theorems.proofs.Simplified.{simplify_says}
use Rattle.theorems.proofs.Bound.{names_of, Each, Bound, Bare, bound_less, entry_bare, derives_bare, Values, insert_values, subst_bound, apply_core_bound}
use Rattle.theorems.proofs.Residuals.{left_of, reduce_splits, binders_are}
use Rattle.theorems.proofs.RisingNames.{Within, Rising, NotIn, rising_within, rising_keep, rising_firsts, keep_name, firsts_name, keep_apart}

-- A name within bounds that is none of a list.
abbrev pub Own : ℕ → ℕ → List DictName → DictName → Type 0
Own lo hi ds d = Within lo hi d × NotIn d ds

-- Pending names that rise within bounds, and a term that binds other names within these bounds alone.
pub record Named (lo hi : ℕ) (ds : List DictName) (e : Core) : Type 0 where
  pub rises : Rising lo hi ds
  pub apart : Bound (Own lo hi ds) e

-- A term that binds nothing.
pub bare_bound : (P : DictName → Type 0) (e : Core) → Bare e → Bound P e
bare_bound P e h = bound_less (λ d. ⊥) P (λ d z. absurd z) e h

-- What holds of each name of a list, from its members.
pub each_of : (P : DictName → Type 0) (ds : List DictName) → ((d : DictName) → Memᴰ d ds → P d) → Each P ds
each_of P [] h = tt
each_of P (d ∷ ds) h = (h d (Memᴰ.head refl), each_of P ds (λ c m. h c (Memᴰ.tail m)))

-- ## `sub_map`
module _ (P : DictName → Type 0) where
  equal_values : (o : Discharged) (ps : Pending) (m : Map DictName Core) → Bound P o.1 → Values P m → Values P (fill_equal o ps m)
  unfolding fill_equal
  equal_values o [] m k v = v
  equal_values o (b ∷ ps) m k v = equal_values o ps _ k (go (is_yes (same_pred b.1 o.0)))
    where
      go : (c : Bool) → Values P (if c (insert dicts (b.0, o.1) m) m)
      go true = insert_values P (b.0, o.1) m k v
      go false = v

  discharged_values : (os : List Discharged) (ps : Pending) (m : Map DictName Core) → ((o : Discharged) → Memᴰ o os → Bound P o.1) → Values P m → Values P (fill_discharged os ps m)
  unfolding fill_discharged
  discharged_values [] ps m k v = v
  discharged_values (o ∷ os) ps m k v = discharged_values os ps (fill_equal o ps m) (λ a i. k a (Memᴰ.tail i)) (equal_values o ps m (k o (Memᴰ.head refl)) v)

  alias_values : (b : Binder) (ps : Pending) (m : Map DictName Core) → Values P m → Values P (fill_alias b ps m)
  unfolding fill_alias
  alias_values b [] m v = v
  alias_values b (c ∷ ps) m v = alias_values b ps _ (go (is_yes (same_pred c.1 b.1) && not (is_yes (same_dict c.0 b.0))))
    where
      go : (t : Bool) → Values P (if t (insert dicts (c.0, cdict b.0) m) m)
      go true = insert_values P (c.0, cdict b.0) m tt v
      go false = v

  aliases_values : (bs : List Binder) (ps : Pending) (m : Map DictName Core) → Values P m → Values P (fill_aliases bs ps m)
  unfolding fill_aliases
  aliases_values [] ps m v = v
  aliases_values (b ∷ bs) ps m v = aliases_values bs ps (fill_alias b ps m) (alias_values b ps m v)

  removed_values : (rs : List Removed) (m : Map DictName Core) → ((r : Removed) → Memᴰ r rs → Bound P r.1) → Values P m → Values P (fill_removed rs m)
  unfolding fill_removed
  removed_values [] m k v = v
  removed_values (r ∷ rs) m k v = removed_values rs (insert dicts r m) (λ a i. k a (Memᴰ.tail i)) (insert_values P r m (k r (Memᴰ.head refl)) v)

  abstracted_bound : (bs : List Binder) (e : Core) → Each P (names_of bs) → Bound P e → Bound P (abstracted bs e)
  unfolding abstracted
  abstracted_bound [] e h k = k
  abstracted_bound (b ∷ bs) e h k = (h, k)

  -- The kept binders are bound, and nothing new inside.
  pub simplified_bound : (ce : ClassEnv) (ps : Pending) (e : Core) (bs : List Binder) (ds : List Discharged) (n : ℕ)
      → Bound P e → ((d : DictName) → Memᴰ d (names_of bs) → P d) → ((o : Discharged) → Memᴰ o ds → Bare o.1)
      → Says (λ r. Bound P r.1) Any (simplified ce ps e bs ds n)
  unfolding simplified
  simplified_bound ce ps e bs ds n h k bare =
      and_then _ _ _ (simplify_context ce bs n) _ (simplify_says ce bs n) λ r s m.
      let v = removed_values r.1 (fill_aliases bs ps (fill_discharged ds ps [])) (λ o i. bare_bound P o.1 (entry_bare (s.replaced o.0 o.1 i).2.2))
      (aliases_values bs ps (fill_discharged ds ps []) (discharged_values ds ps [] (λ o i. bare_bound P o.1 (bare o i)) tt)) in
      and_then _ _ _ (subst_core e (fill_removed r.1 (fill_aliases bs ps (fill_discharged ds ps []))) m) _
      (subst_bound P depth (fill_removed r.1 (fill_aliases bs ps (fill_discharged ds ps []))) e m v h) λ e₁ i l.
      abstracted_bound r.0 e₁ (each_of P (names_of r.0) (λ d x. kept r.0 (λ b y. s.kept_from b y) d x)) i
    where
      kept : (ks : List Binder) → ((b : Binder) → Memᴰ b ks → Memᴰ b bs) → (d : DictName) → Memᴰ d (names_of ks) → P d
      kept ks w d x = let b = Memᴰ.of_map (λ (b : Binder). b.0) ks x in k d (Memᴰ.cast (sym b.2) (Memᴰ.map (λ (b : Binder). b.0) (w b.0 b.1)))

  -- Canonical names change no dictionary's name.
  pub scheme_bound : (vs : List TyVar) (q : Qual) (e : Core) (n : ℕ) → Bound P e → Says (λ r. Bound P r.1) Any (canonical_scheme_and_core vs q e n)
  unfolding canonical_scheme_and_core
  scheme_bound vs q e n h = past _ _ _ λ q₁ m. and_then _ _ _ (apply_subst_to_core (as_subst (canonical_renamer vs)) e m) _ (apply_core_bound P depth (as_subst (canonical_renamer vs)) e m h) λ e₁ k l. k

-- ## generalization
module _ (lo hi : ℕ) (ps : Pending) (rises : Rising lo hi (names_of ps)) where
  -- What is deferred rises, and a kept name is none of it.
  found_rises : (residual : List Pred) → residual ≡ left_of [] (preds_of ps) → Rising lo hi (names_of (binders_of residual ps))
  found_rises residual e = subst (λ (l : Pending). Rising lo hi (names_of l)) (sym (binders_are ps) ∙ sym (λ i. binders_of (e i) ps)) (rising_firsts lo hi [] ps rises)

  found_name : (residual : List Pred) → residual ≡ left_of [] (preds_of ps) → (d : DictName) → Memᴰ d (names_of (binders_of residual ps)) → Memᴰ d (names_of ps)
  found_name residual e d m = firsts_name [] ps d (subst (λ (l : Pending). Memᴰ d (names_of l)) ((λ i. binders_of (e i) ps) ∙ binders_are ps) m)

  -- The terms that `reduce` finds bind nothing.
  reduce_both : (ce : ClassEnv) (n : ℕ) → Says (λ o. ((a : Discharged) → Memᴰ a o.0 → Bare a.1) × (o.1 ≡ left_of [] (preds_of ps))) Any (reduce ce [] (preds_of ps) n)
  reduce_both ce n = weaken _ _ _ _ (reduce ce [] (preds_of ps) n) (both_say _ _ _ _ (reduce ce [] (preds_of ps) n) (reduce_says ce [] (preds_of ps) n) (reduce_splits ce (preds_of ps) n))
      (λ o s. (λ a m. derives_bare (s.0.discharged a.0 a.1 m).0, s.1.residual_is)) (λ r z. tt)

  -- The deferred names rise, and the term binds others.
  pub generalize_named : (ce : ClassEnv) (env : Env) (u : Ty) (e : Core) (n : ℕ) → Bound (Own lo hi (names_of ps)) e
      → Says (λ g. Named lo hi (names_of g.2) g.1) Any (generalize_binding ce env u ps e n)
  unfolding generalize_binding
  generalize_named ce env u e n h =
      and_then _ _ _ (reduce ce [] (preds_of ps) n) _ (reduce_both ce n) λ o s m.
      let own = is_own (ftv_type u []) (env_ftv env) in
      let found = binders_of o.1 ps in
      let P : DictName → Type 0 = Own lo hi (names_of (keep (λ b. not (own b)) found)) in
      let kept : (d : DictName) → Memᴰ d (names_of (keep own found)) → P d =
      λ d x. (rising_within lo hi (names_of ps) rises d (found_name o.1 s.1 d (keep_name own found d x)), λ y. keep_apart lo hi own found (found_rises o.1 s.1) d x y) in
      let inside : Bound P e = bound_less (Own lo hi (names_of ps)) P (λ d x. (x.0, λ y. x.1 (found_name o.1 s.1 d (keep_name (λ b. not (own b)) found d y)))) e h in
      and_then _ _ _ (simplified ce ps e (keep own found) o.0 m) _ (simplified_bound P ce ps e (keep own found) o.0 m inside kept s.0) λ r k m₁.
      past _ _ _ λ _ m₂.
      and_then _ _ _ (canonical_scheme_and_core _ (qual (preds_of r.0) u) r.1 m₂) _ (scheme_bound P _ (qual (preds_of r.0) u) r.1 m₂ k) λ g i m₃.
      record { rises = rising_keep lo hi (λ b. not (own b)) found (found_rises o.1 s.1); apart = i }
