-- Laws of `insert`: a pair written at its place among pairs that made room for it.
use Prim.Native.Nat.{ℕ, ◌+◌, ◌*◌, ◌-◌, ◌<◌, ◌≤◌}
use native.Mathlib.Omega.{arith}
use mathlib.Core.Path.{◌≡◌, refl, ap, sym, ◌∙◌, subst}
use mathlib.Core.Logic.{⊎_elim}
use mathlib.Core.Option.{none}
use mathlib.Core.List.{List}
use lib.ListN.{length, get_or, set, length-set}
use lib.Seq.{get_or-set_same, get_or-set_other}
use Rattle.meaning.specs.Map.{tyvars, get, insert}
use Rattle.names.specs.Names.{first_node, tyvar_of}
use Rattle.ast.specs.Table.{tree, Node, Kept}
use Rattle.ast.proofs.Laws.{kept_table, kept_tree}
use Rattle.pairs.specs.Pairs.{sub_at}
use Rattle.compose.specs.Compose.{Place, Shifted, Fits, Opened}
use Rattle.compose.proofs.Pieces.{tri, word_as, below_part, below_first, sub_at_lem, sub_split, sub_copy}

module _ {ns w w₁ : List ℕ} {to k x j : ℕ} (n : ℕ) (P : Place ns w (to + 2) k x j) (S : Shifted w w₁ to (to + 2 * j + 2)) (len : length w₁ ≡ length w) (fits : to + 2 + 2 * k ≤ length w) where
  -- The words with the pair written.
  abbrev w₂ : List ℕ
  w₂ = set (set w₁ (to + 2 * j) x) (to + 2 * j + 1) n

  -- Away from the pair nothing is written.
  far : (q : ℕ) → (q ≡ to + 2 * j → ⊥) → (q ≡ to + 2 * j + 1 → ⊥) → get_or w₂ q 0 ≡ get_or w₁ q 0
  far q a b = get_or-set_other (set w₁ (to + 2 * j) x) (to + 2 * j + 1) q n 0 (λ e. b (omega arith)) ∙ get_or-set_other w₁ (to + 2 * j) q x 0 (λ e. a (omega arith))

  -- Words before the region.
  first : (q : ℕ) → q < to → get_or w₂ q 0 ≡ get_or w q 0
  first q h = far q (λ e. omega arith) (λ e. omega arith) ∙ S.before q h

  -- Words that moved.
  lower : (q : ℕ) → to ≤ q → q < to + 2 * j → get_or w₂ q 0 ≡ get_or w (q + 2) 0
  lower q h l = far q (λ e. omega arith) (λ e. omega arith) ∙ S.moved q h (omega arith)

  -- Words that did not.
  upper : (q : ℕ) → to + 2 * j + 2 ≤ q → get_or w₂ q 0 ≡ get_or w q 0
  upper q h = far q (λ e. omega arith) (λ e. omega arith) ∙ S.after q (omega arith)

  -- The pair's variable.
  key : get_or w₂ (to + 2 * j) 0 ≡ x
  key = let u = P.upto in get_or-set_other (set w₁ (to + 2 * j) x) (to + 2 * j + 1) (to + 2 * j) n 0 (omega arith) ∙ get_or-set_same w₁ (to + 2 * j) x 0 (omega arith)

  -- The pair's type.
  value : get_or w₂ (to + 2 * j + 1) 0 ≡ n
  value = let u = P.upto in get_or-set_same (set w₁ (to + 2 * j) x) (to + 2 * j + 1) n 0 (simp length-set (omega arith))

  -- The words are as many.
  long : length w₂ ≡ length w
  long = simp length-set len

  module _ (top : ℕ) (h : 4 * top ≤ to) (F : Fits w top (to + 2) k) (N : Node w top n) where
    -- The table stands.
    keeps : Kept w w₂ top
    keeps = record { at = λ q l. first q (omega arith) }

    -- The types of all pairs are words of the table.
    bound : (l : ℕ) → l < k + 1 → get_or w₂ (to + 2 * l + 1) 0 < first_node + top
    bound l p = let u = P.upto in ⊎_elim
        (λ (e : l ≡ j). rw (e, value) N.below)
        (⊎_elim
        (λ (e : l < j). rw (lower (to + 2 * l + 1) (omega arith) (omega arith))
        (let g : to + 2 + 2 * l + 1 ≡ to + 2 * l + 1 + 2 = omega arith in subst (λ (m : ℕ). get_or w m 0 < first_node + top) g (F.sub.bound.node l (omega arith))))
        (λ (e : j < l). rw (upper (to + 2 * l + 1) (omega arith))
        (let g : to + 2 + 2 * (l - 1) + 1 ≡ to + 2 * l + 1 = omega arith in subst (λ (m : ℕ). get_or w m 0 < first_node + top) g (F.sub.bound.node (l - 1) (omega arith)))))
        (tri l j)

    -- The region fits.
    opened_fits : Fits w₂ top to (k + 1)
    opened_fits =
        let e = long in
        let r = F.table.room in
        record { table = kept_table keeps (omega arith) F.table; under = h; sub = record { fits = omega arith; bound = record { node = bound } } }

    -- And says what an insertion gives.
    opened_is : get tyvars (tyvar_of ns x) (sub_at ns w (to + 2) k) ≡ none → sub_at ns w₂ to (k + 1) ≡ insert tyvars (tyvar_of ns x, tree ns w n) (sub_at ns w (to + 2) k)
    opened_is new =
        let u = P.upto in
        let e : k + 1 ≡ j + (k + 1 - j) = omega arith in
        let f : k + 1 - (j + 1) ≡ k - j = omega arith in
        ap (λ m. sub_at ns w₂ to m) e ∙ sub_split ns w₂ to j (k + 1 - j)
        ∙ rw (
          sub_at_lem ns w₂ to (k + 1) j (omega arith),
          f,
          key,
          value,
          kept_tree ns keeps N,
          sub_copy ns F.table keeps (to + 2) to j (below_first j F.sub.bound u) (λ q l. lower (to + q) (omega arith) (omega arith) ∙ word_as w (to + 2 + q) (to + q + 2) (omega arith) refl),
          sub_copy ns F.table keeps (to + 2 + 2 * j) (to + 2 * (j + 1)) (k - j) (below_part j (k - j) F.sub.bound (omega arith)) (λ q l. upper (to + 2 * (j + 1) + q) (omega arith) ∙ word_as w (to + 2 + 2 * j + q) (to + 2 * (j + 1) + q) (omega arith) refl),
        )
        (sym (P.is new (tree ns w n)))

  -- What `insert` ensures, from what its calls ensure.
  pub opened : {v w' : List ℕ} → v ≡ set w₁ (to + 2 * j) x → w' ≡ set v (to + 2 * j + 1) n → Opened ns w w' to k x n
  opened e f = let u = P.upto in rw (f, e) (record {
    before = first;
    after = λ q h. upper q (omega arith);
    is = λ top h F N new. (opened_fits top h F N, opened_is top h F N new);
  })
