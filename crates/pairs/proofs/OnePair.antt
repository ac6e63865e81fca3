-- A region of one pair just below sp, written by two stores.
use Prim.Native.Nat.{ℕ, ◌+◌, ◌*◌, ◌-◌, ◌<◌, ◌≤◌}
use native.Mathlib.Omega.{arith}
use mathlib.Core.Path.{◌≡◌, ◌∙◌}
use mathlib.Core.List.{List}
use lib.ListN.{length, get_or, set, length-set}
use lib.Seq.{get_or-set_same, get_or-set_other}
use Rattle.meaning.specs.Subst.{singleton}
use Rattle.names.specs.Names.{tyvar_of}
use Rattle.ast.specs.Table.{tree, Node, Kept}
use Rattle.ast.proofs.Laws.{kept_tree}
use Rattle.pairs.specs.Pairs.{sub_at, Sub}

-- w' is w with the words x and t as the pair that ends at sp.
pub record OnePut (w w' : List ℕ) (sp x t : ℕ) : Type 0 where
  pub two : 2 ≤ sp
  pub fits : sp ≤ length w'
  pub long : length w' ≡ length w
  pub variable : get_or w' (sp - 2) 0 ≡ x
  pub value : get_or w' (sp - 1) 0 ≡ t
  pub low : (i : ℕ) → i < sp - 2 → get_or w' i 0 ≡ get_or w i 0
  pub high : (i : ℕ) → sp ≤ i → get_or w' i 0 ≡ get_or w i 0

-- So it is after two stores.
pub one_put : {w₁ w₂ : List ℕ} (w : List ℕ) (sp x t : ℕ) → 2 ≤ sp → sp ≤ length w → w₁ ≡ set w (sp - 2) x → w₂ ≡ set w₁ (sp - 1) t → OnePut w w₂ sp x t
one_put {w₁} {w₂} w sp x t two fits e f = record {
  two = two;
  fits = rw (f, e) (simp length-set fits);
  long = rw (f, e) (simp length-set);
  variable = rw (f, e) (get_or-set_other (set w (sp - 2) x) (sp - 1) (sp - 2) t 0 (omega arith) ∙ get_or-set_same w (sp - 2) x 0 (omega arith));
  value = rw (f, e) (get_or-set_same (set w (sp - 2) x) (sp - 1) t 0 (simp length-set (omega arith)));
  low = λ i h. far i (omega arith) (omega arith);
  high = λ i h. far i (omega arith) (omega arith);
}
  where
    far : (q : ℕ) → (q ≡ sp - 2 → ⊥) → (q ≡ sp - 1 → ⊥) → get_or w₂ q 0 ≡ get_or w q 0
    far q a b = rw (f, e) (get_or-set_other (set w (sp - 2) x) (sp - 1) q t 0 (λ g. b (omega arith)) ∙ get_or-set_other w (sp - 2) q x 0 (λ g. a (omega arith)))

module _ {w w' : List ℕ} {sp x t : ℕ} (P : OnePut w w' sp x t) where
  -- A table below the pair stands.
  pub pair_kept : (top : ℕ) → 4 * top + 2 ≤ sp → Kept w w' top
  pair_kept top room = record { at = λ q l. P.low q (omega arith) }

  -- The region is the pair.
  pub pair_is : {top : ℕ} (ns : List ℕ) → 4 * top + 2 ≤ sp → Node w top t → sub_at ns w' (sp - 2) 1 ≡ singleton (tyvar_of ns x) (tree ns w t)
  unfolding sub_at
  pair_is {top} ns room N = let z = P.two in let h : sp - 2 + 1 ≡ sp - 1 = omega arith in rw (h, P.variable, P.value, kept_tree ns (pair_kept top room) N)

  -- It lies in the words, and its type in the table.
  pub pair_sub : {top : ℕ} → Node w top t → Sub w' top (sp - 2) 1
  pair_sub N =
      let y = P.two in
      let z = P.fits in
      record {
        fits = omega arith;
        bound = record { node = λ i a. let k : sp - 2 + 2 * i + 1 ≡ sp - 1 = omega arith in rw (k, P.value) N.below };
      }
