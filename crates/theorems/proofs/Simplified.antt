-- `simplify_context`: a binder that goes stands above one that stays.
use mathlib.Core.Path.{◌≡◌, refl, sym, subst}
use mathlib.Core.Bool.{true, ◌&&◌}
use mathlib.Core.List.Memᴰ
use mathlib.Core.List.{List, [], ◌∷◌, ◌++◌, append-nil, append_assoc, Memᴰ}
use mathlib.Core.Option.{Option, none, some}
use mathlib.Core.Logic.{◌⊎◌, inl, inr}
use Prim.Native.Nat.{ℕ}
use Rattle.meaning.specs.Base.{is_yes}
use Rattle.meaning.specs.Ast.{DictName, Pred, same_pred, Core, cdict, Binder}
use Rattle.meaning.specs.Classes.{ClassEnv, Given}
use Rattle.meaning.specs.Derives.{Entry, itself}
use Rattle.meaning.specs.Reduce.{Removed, not_root, roots, find_super_proof, sorted_out, simplify_from, simplify_context}
use Rattle.theorems.proofs.Says.{Says, Any, after_says, weaken}
use Rattle.theorems.proofs.Tests.{is_yes_true, and_left, and_right}
use Rattle.theorems.proofs.Members.{snoc_cases}
use Rattle.theorems.proofs.Weakens.{entry_trans, entry_from}
use Rattle.theorems.proofs.Entries.{Searched, givens_say}

-- The dictionary e of p is a projection, at least one, of a binder of the list.
abbrev pub Projects : ClassEnv → List Binder → Pred → Core → Type 0
Projects ce bs p e = (b : Binder) × Memᴰ b bs × Entry ce (cdict b.0) b.1 e p × (not_root e ≡ true)

-- The predicate stands in some binder's list.
abbrev pub Follows : ClassEnv → List Binder → Pred → Type 0
Follows ce ks p = (k : Binder) × Memᴰ k ks × ((f : Core) × Entry ce (cdict k.0) k.1 f p)

-- What `simplify_context` makes of binders: out.0 stay, out.1 go. A replacement is a projection of a binder of the
-- input, and no more is true of the term: that binder may itself go. The predicate always follows from one that stays.
pub record Simplified (ce : ClassEnv) (bs : List Binder) (out : List Binder × List Removed) : Type 0 where
  pub kept_from : (b : Binder) → Memᴰ b out.0 → Memᴰ b bs
  pub all_there : (b : Binder) → Memᴰ b bs → Memᴰ b out.0 ⊎ ((e : Core) × Memᴰ (b.0, e) out.1)
  pub replaced : (d : DictName) (e : Core) → Memᴰ (d, e) out.1 → (p : Pred) × Memᴰ (d, p) bs × Projects ce bs p e
  pub entails : (b : Binder) → Memᴰ b bs → Follows ce out.0 b.1

-- What stands above a binder that itself follows from the list follows from the list too.
pub follows_trans : (ce : ClassEnv) (ks : List Binder) (b : Binder) (e : Core) (p : Pred)
    → Follows ce ks b.1 → Entry ce (cdict b.0) b.1 e p → Follows ce ks p
follows_trans ce ks b e p (k, m, (f, x)) y = let r = entry_from f y in (k, m, (r.0, entry_trans x r.1))

-- The loop: all of the input stays, is gone, or is yet to come.
record Sorting (ce : ClassEnv) (bs rest : List Binder) (o : List Binder × List Removed) : Type 0 where
  kept_from : (b : Binder) → Memᴰ b o.0 → Memᴰ b bs
  rest_from : (b : Binder) → Memᴰ b rest → Memᴰ b bs
  all_there : (b : Binder) → Memᴰ b bs → (Memᴰ b o.0 ⊎ ((e : Core) × Memᴰ (b.0, e) o.1)) ⊎ Memᴰ b rest
  replaced : (r : Removed) → Memᴰ r o.1 → (p : Pred) × Memᴰ (r.0, p) bs × Projects ce bs p r.1

-- What the search for a replacement gives.
abbrev Replaces : ClassEnv → List Binder → Pred → Option Core → Type 0
Replaces ce context p (some e) = Projects ce context p e
Replaces ce context p none = Unit {0}

-- The binders at hand are of the input.
at_hand : (ce : ClassEnv) (bs : List Binder) (b : Binder) (rest : List Binder) (o : List Binder × List Removed) → Sorting ce bs (b ∷ rest) o
    → (c : Binder) → Memᴰ c (o.0 ++ rest) → Memᴰ c bs
at_hand ce bs b rest o s c m = go (Memᴰ.append_cases o.0 m)
  where
    go : Memᴰ c o.0 ⊎ Memᴰ c rest → Memᴰ c bs
    go (inl i) = s.kept_from c i
    go (inr i) = s.rest_from c (Memᴰ.tail i)

-- One more binder is sorted out.
sorted_out_keeps : (ce : ClassEnv) (bs : List Binder) (b : Binder) (rest : List Binder) (o : List Binder × List Removed) (a : Option Core)
    → Sorting ce bs (b ∷ rest) o → Replaces ce (o.0 ++ rest) b.1 a → Sorting ce bs rest (sorted_out b a o)
unfolding sorted_out
sorted_out_keeps ce bs b rest o (some e) s (c, m, x, h) = record {
  kept_from = s.kept_from;
  rest_from = λ c i. s.rest_from c (Memᴰ.tail i);
  all_there = λ c i. go c (s.all_there c i);
  replaced = snoc_cases (λ (r : Removed). (p : Pred) × Memᴰ (r.0, p) bs × Projects ce bs p r.1) o.1 (b.0, e)
      s.replaced (b.1, s.rest_from b (Memᴰ.head refl), (c, at_hand ce bs b rest o s c m, x, h));
}
  where
    next : (c : Binder) → (c ≡ b) ⊎ Memᴰ c rest
        → (Memᴰ c o.0 ⊎ ((f : Core) × Memᴰ (c.0, f) (o.1 ++ ((b.0, e) ∷ [])))) ⊎ Memᴰ c rest
    next c (inl i) = inl (inr (e, Memᴰ.append_right o.1 (Memᴰ.head (λ j. ((i j).0, e)))))
    next c (inr i) = inr i

    go : (c : Binder) → (Memᴰ c o.0 ⊎ ((f : Core) × Memᴰ (c.0, f) o.1)) ⊎ Memᴰ c (b ∷ rest)
        → (Memᴰ c o.0 ⊎ ((f : Core) × Memᴰ (c.0, f) (o.1 ++ ((b.0, e) ∷ [])))) ⊎ Memᴰ c rest
    go c (inl (inl i)) = inl (inl i)
    go c (inl (inr (f, i))) = inl (inr (f, Memᴰ.append_left ((b.0, e) ∷ []) i))
    go c (inr i) = next c (Memᴰ.cases_cons i)
sorted_out_keeps ce bs b rest o none s x = record {
  kept_from = snoc_cases (λ (c : Binder). Memᴰ c bs) o.0 b s.kept_from (s.rest_from b (Memᴰ.head refl));
  rest_from = λ c i. s.rest_from c (Memᴰ.tail i);
  all_there = λ c i. go c (s.all_there c i);
  replaced = s.replaced;
}
  where
    next : (c : Binder) → (c ≡ b) ⊎ Memᴰ c rest
        → (Memᴰ c (o.0 ++ (b ∷ [])) ⊎ ((f : Core) × Memᴰ (c.0, f) o.1)) ⊎ Memᴰ c rest
    next c (inl i) = inl (inl (Memᴰ.append_right o.0 (Memᴰ.head i)))
    next c (inr i) = inr i

    go : (c : Binder) → (Memᴰ c o.0 ⊎ ((f : Core) × Memᴰ (c.0, f) o.1)) ⊎ Memᴰ c (b ∷ rest)
        → (Memᴰ c (o.0 ++ (b ∷ [])) ⊎ ((f : Core) × Memᴰ (c.0, f) o.1)) ⊎ Memᴰ c rest
    go c (inl (inl i)) = inl (inl (Memᴰ.append_left (b ∷ []) i))
    go c (inl (inr i)) = inl (inr i)
    go c (inr i) = next c (Memᴰ.cases_cons i)

-- If all that is at hand after a turn follows from some binders, so does all that was at hand before it.
before : (ce : ClassEnv) (b : Binder) (rest : List Binder) (o : List Binder × List Removed) (a : Option Core) (ks : List Binder)
    → Replaces ce (o.0 ++ rest) b.1 a → ((c : Binder) → Memᴰ c ((sorted_out b a o).0 ++ rest) → Follows ce ks c.1)
    → (c : Binder) → Memᴰ c (o.0 ++ (b ∷ rest)) → Follows ce ks c.1
unfolding sorted_out
before ce b rest o (some e) ks (d, i, x, h) w c m = go (Memᴰ.append_cases o.0 m)
  where
    next : (c ≡ b) ⊎ Memᴰ c rest → Follows ce ks c.1
    next (inl j) = subst (λ (c : Binder). Follows ce ks c.1) (sym j) (follows_trans ce ks d e b.1 (w d i) x)
    next (inr j) = w c (Memᴰ.append_right o.0 j)

    go : Memᴰ c o.0 ⊎ Memᴰ c (b ∷ rest) → Follows ce ks c.1
    go (inl j) = w c (Memᴰ.append_left rest j)
    go (inr j) = next (Memᴰ.cases_cons j)
before ce b rest o none ks x w c m = w c (subst (λ (l : List Binder). Memᴰ c l) (sym (append_assoc o.0 (b ∷ []) rest)) m)

module _ (ce : ClassEnv) where
  -- A hit among the binders' entries is a projection of one of them.
  replaces : (context : List Binder) (p : Pred) (a : Option Core) → Searched ce (roots context) (λ e q. is_yes (same_pred q p) && not_root e) a → Replaces ce context p a
  replaces context p (some e) (g, m, (q, x, h)) =
      let b = Memᴰ.of_map (λ (b : Binder). (cdict b.0, b.1)) context m in
      let y = subst (λ (g : Given). Entry ce g.0 g.1 e q) (sym b.2) x in
      let i = is_yes_true (same_pred q p) (and_left (is_yes (same_pred q p)) (not_root e) h) in
      (b.0, b.1, subst (λ (q : Pred). Entry ce (cdict b.0.0) b.0.1 e q) i y, and_right (is_yes (same_pred q p)) (not_root e) h)
  replaces context p none h = tt

  simplify_from_says : (bs rest : List Binder) (o : List Binder × List Removed) → Sorting ce bs rest o → (n : ℕ)
      → Says (λ out. Sorting ce bs [] out × ((c : Binder) → Memᴰ c (o.0 ++ rest) → Follows ce out.0 c.1)) Any (simplify_from ce rest o n)
  unfolding simplify_from
  simplify_from_says bs [] o s n =
      (s, λ c m. (c, subst (λ (l : List Binder). Memᴰ c l) (append-nil o.0) m, (cdict c.0, itself)))
  simplify_from_says bs (b ∷ rest) o s n =
      after_says _ _ _ _ (find_super_proof ce (o.0 ++ rest) b.1 n) _ (givens_say ce (roots (o.0 ++ rest)) _ n) (λ r _. tt) λ a x m.
      let y = replaces (o.0 ++ rest) b.1 a x in
      weaken _ _ _ _ (simplify_from ce rest (sorted_out b a o) m)
      (simplify_from_says bs rest (sorted_out b a o) (sorted_out_keeps ce bs b rest o a s y) m)
      (λ out z. (z.0, before ce b rest o a out.0 y z.1)) (λ r _. tt)

  -- `simplify_context` keeps or replaces each binder, and no predicate is lost.
  pub simplify_says : (bs : List Binder) (n : ℕ) → Says (Simplified ce bs) Any (simplify_context ce bs n)
  simplify_says bs n = weaken _ _ _ _ (simplify_context ce bs n) (simplify_from_says bs bs ([], []) start n) end (λ r _. tt)
    where
      start : Sorting ce bs bs ([], [])
      start = record {
        kept_from = λ b m. absurd (Memᴰ.not-nil m);
        rest_from = λ b m. m;
        all_there = λ b m. inr m;
        replaced = λ r m. absurd (Memᴰ.not-nil m);
      }

      sorted : (out : List Binder × List Removed) (b : Binder) → (Memᴰ b out.0 ⊎ ((e : Core) × Memᴰ (b.0, e) out.1)) ⊎ Memᴰ b []
          → Memᴰ b out.0 ⊎ ((e : Core) × Memᴰ (b.0, e) out.1)
      sorted out b (inl i) = i
      sorted out b (inr m) = absurd (Memᴰ.not-nil m)

      end : (out : List Binder × List Removed) → Sorting ce bs [] out × ((c : Binder) → Memᴰ c bs → Follows ce out.0 c.1) → Simplified ce bs out
      end out (s, w) = record {
        kept_from = s.kept_from;
        all_there = λ b m. sorted out b (s.all_there b m);
        replaced = λ d e m. s.replaced (d, e) m;
        entails = w;
      }
