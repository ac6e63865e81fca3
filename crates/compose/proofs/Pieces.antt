-- Laws of pairs of words: parts of a region, regions whose words stand elsewhere, and their order.
use Prim.Native.Nat.{ℕ, zero, suc, ◌+◌, ◌*◌, ◌-◌, ◌<◌, ◌≤◌}
use native.Mathlib.Omega.{arith}
use native.Mathlib.Nat.{eq-or-lt_of_le, eq-zero-or-pos}
use native.Mathlib.Numerals.{sub-one}
use mathlib.Core.Path.{◌≡◌, refl, ap, ◌∙◌, subst}
use mathlib.Core.Logic.{◌⊎◌, inl, inr, ⊎_elim}
use mathlib.Core.List.{List, [], ◌∷◌, ◌++◌}
use lib.ListN.{length, get_or}
use Rattle.meaning.specs.Ast.{TyVar, Ty}
use Rattle.meaning.specs.Map.{tyvars}
use Rattle.names.specs.Names.{first_node, tyvar_of}
use Rattle.ast.specs.Table.{tree, Table, Kept}
use Rattle.ast.proofs.Join.{joined}
use Rattle.ast.proofs.Laws.{kept_tree}
use Rattle.pairs.specs.Pairs.{sub_at, Below}
use Rattle.pairs.proofs.Looks.{below_head, below_tail}
use Rattle.theorems.proofs.Ordered as O

-- Of two numbers one is less, or they are equal.
pub tri : (l j : ℕ) → (l ≡ j) ⊎ ((l < j) ⊎ (j < l))
tri l j = ⊎_elim
    (λ (e : l - j ≡ 0). let h : l ≤ j = omega arith in ⊎_elim (λ (k : l ≡ j). inl k) (λ (k : l < j). inr (inl k)) (eq-or-lt_of_le h))
    (λ (e : 0 < l - j). inr (inr (omega arith)))
    (eq-zero-or-pos (l - j))

-- Equal, or not.
pub same_or : (q i : ℕ) → (q ≡ i) ⊎ (q ≡ i → ⊥)
same_or q i = ⊎_elim (λ (e : q ≡ i). inl e) (⊎_elim (λ (h : q < i). inr (λ e. omega arith)) (λ (h : i < q). inr (λ e. omega arith))) (tri q i)

-- As many words behind the same table: a buffer of the same length.
pub same_short : (b v v' : List ℕ) → length (b ++ v') ≡ length (b ++ v) → length v' ≡ length v
same_short b v v' e = let p = joined b v in let q = joined b v' in omega arith

-- A word by another name of its place.
pub word_as : (w : List ℕ) {v : ℕ} (p q : ℕ) → p ≡ q → get_or w p 0 ≡ v → get_or w q 0 ≡ v
word_as w p q e h = rw e at h

-- ## bounds
-- The bounds of j pairs from the i-th on.
pub below_part : {w : List ℕ} {top at k : ℕ} (i j : ℕ) → Below w top at k → i + j ≤ k → Below w top (at + 2 * i) j
below_part {w} {top} {at} i j b h = record {
  node = λ l p.
      let e : at + 2 * (i + l) + 1 ≡ at + 2 * i + 2 * l + 1 = omega arith in
      subst (λ (m : ℕ). get_or w m 0 < first_node + top) e (b.node (i + l) (omega arith));
}

-- The bounds of the first j pairs.
pub below_first : {w : List ℕ} {top at k : ℕ} (j : ℕ) → Below w top at k → j ≤ k → Below w top at j
below_first j b h = record { node = λ l p. b.node l (omega arith) }

-- ## the pairs of a region
module _ (ns w : List ℕ) where
  -- A pair by its place.
  abbrev pub pair_at : ℕ → TyVar × Ty
  pair_at i = (tyvar_of ns (get_or w i 0), tree ns w (get_or w (i + 1) 0))

  -- The first pair, then the others.
  sub_open : (at k : ℕ) → 0 < k → sub_at ns w at k ≡ pair_at at ∷ sub_at ns w (at + 2) (k - 1)
  unfolding sub_at
  sub_open at zero h = absurd (omega arith)
  sub_open at (suc k) h = simp sub-one

  -- The last pair.
  pub sub_snoc : (at k : ℕ) → sub_at ns w at (k + 1) ≡ sub_at ns w at k ++ pair_at (at + 2 * k) ∷ []
  unfolding sub_at
  sub_snoc at zero = let e : at + 2 * 0 ≡ at = omega arith in rw e
  sub_snoc at (suc k) =
      let e : at + 2 * suc k ≡ at + 2 + 2 * k = omega arith in
      let f : suc k + 1 ≡ suc (k + 1) = omega arith in
      rw (e, f) (ap (λ l. pair_at at ∷ l) (sub_snoc (at + 2) k))

  -- The pairs from the i-th on: that one, and those from the next on.
  pub sub_at_lem : (at k i : ℕ) → i < k → sub_at ns w (at + 2 * i) (k - i) ≡ pair_at (at + 2 * i) ∷ sub_at ns w (at + 2 * (i + 1)) (k - (i + 1))
  sub_at_lem at k i h =
      let e : at + 2 * i + 2 ≡ at + 2 * (i + 1) = omega arith in
      let f : k - i - 1 ≡ k - (i + 1) = omega arith in
      rw (← e, ← f) (sub_open (at + 2 * i) (k - i) (omega arith))

  -- The first i pairs, then the j others.
  pub sub_split : (at i j : ℕ) → sub_at ns w at (i + j) ≡ sub_at ns w at i ++ sub_at ns w (at + 2 * i) j
  unfolding sub_at
  sub_split at zero j = let e : at + 2 * 0 ≡ at = omega arith in let f : 0 + j ≡ j = omega arith in rw (e, f)
  sub_split at (suc i) j =
      let e : at + 2 * suc i ≡ at + 2 + 2 * i = omega arith in
      let f : suc i + j ≡ suc (i + j) = omega arith in
      rw (e, f) (ap (λ l. pair_at at ∷ l) (sub_split (at + 2) i j))

-- ## other words
module _ {w w' : List ℕ} {top : ℕ} (ns : List ℕ) (T : Table w top) (K : Kept w w' top) where
  -- Pairs whose words stand elsewhere.
  pub sub_copy : (at at' k : ℕ) → Below w top at k → ((i : ℕ) → i < 2 * k → get_or w' (at' + i) 0 ≡ get_or w (at + i) 0) → sub_at ns w' at' k ≡ sub_at ns w at k
  unfolding sub_at
  sub_copy at at' zero b s = refl
  sub_copy at at' (suc k) b s =
      rw (zeroth (s 0 (omega arith)), s 1 (omega arith), kept_tree ns K (record { table = T; below = below_head b }), sub_copy (at + 2) (at' + 2) k (below_tail b) (λ i h. moved i (s (2 + i) (omega arith))))
    where
      zeroth : get_or w' (at' + 0) 0 ≡ get_or w (at + 0) 0 → get_or w' at' 0 ≡ get_or w at 0
      zeroth h =
          let p : at' + 0 ≡ at' = omega arith in
          let q : at + 0 ≡ at = omega arith in
          rw (p, q) at h

      moved : (i : ℕ) → get_or w' (at' + (2 + i)) 0 ≡ get_or w (at + (2 + i)) 0 → get_or w' (at' + 2 + i) 0 ≡ get_or w (at + 2 + i) 0
      moved i h =
          let p : at' + (2 + i) ≡ at' + 2 + i = omega arith in
          let q : at + (2 + i) ≡ at + 2 + i = omega arith in
          rw (p, q) at h

-- ## order
module _ (ns w w' : List ℕ) where
  -- A variable before those of some pairs is before those of pairs with the same variables.
  below_keys : (x : TyVar) (at k : ℕ) → ((i : ℕ) → i < k → get_or w' (at + 2 * i) 0 ≡ get_or w (at + 2 * i) 0) → O.Below tyvars x (sub_at ns w at k) → O.Below tyvars x (sub_at ns w' at k)
  unfolding sub_at
  below_keys x at zero s b = tt
  below_keys x at (suc k) s b = (rw (word_as w' (at + 2 * 0) at (omega arith) (s 0 (omega arith) ∙ word_as w at (at + 2 * 0) (omega arith) refl)) b.0, below_keys x (at + 2) k (λ i h. later i (s (suc i) (omega arith))) b.1)
    where
      later : (i : ℕ) → get_or w' (at + 2 * suc i) 0 ≡ get_or w (at + 2 * suc i) 0 → get_or w' (at + 2 + 2 * i) 0 ≡ get_or w (at + 2 + 2 * i) 0
      later i h = let e : at + 2 * suc i ≡ at + 2 + 2 * i = omega arith in rw e at h

  -- Pairs are in order by their variables alone.
  pub sorted_keys : (at k : ℕ) → ((i : ℕ) → i < k → get_or w' (at + 2 * i) 0 ≡ get_or w (at + 2 * i) 0) → O.Sorted tyvars (sub_at ns w at k) → O.Sorted tyvars (sub_at ns w' at k)
  unfolding sub_at
  sorted_keys at zero s b = tt
  sorted_keys at (suc k) s b = (
    rw (word_as w' (at + 2 * 0) at (omega arith) (s 0 (omega arith) ∙ word_as w at (at + 2 * 0) (omega arith) refl)) (below_keys (tyvar_of ns (get_or w at 0)) (at + 2) k (λ i h. later i (s (suc i) (omega arith))) b.0),
    sorted_keys (at + 2) k (λ i h. later i (s (suc i) (omega arith))) b.1,
  )
    where
      later : (i : ℕ) → get_or w' (at + 2 * suc i) 0 ≡ get_or w (at + 2 * suc i) 0 → get_or w' (at + 2 + 2 * i) 0 ≡ get_or w (at + 2 + 2 * i) 0
      later i h = let e : at + 2 * suc i ≡ at + 2 + 2 * i = omega arith in rw e at h
