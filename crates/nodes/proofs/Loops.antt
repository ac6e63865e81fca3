-- Lists of a file: the loop over the items, and the kinds of item.
use mathlib.Core.Path.{◌≡◌, sym, ap, ◌∙◌, subst}
use mathlib.Core.List.{List, [], ◌∷◌, ◌++◌}
use Prim.Native.Nat.{ℕ, zero, suc, ◌+◌, ◌-◌, ◌<◌, ◌≤◌}
use native.Mathlib.Omega.{arith}
use lib.ListN.{length}
use Rattle.meaning.specs.Reader.{Reader, onward, from, items, list_of, section, counted}
use Rattle.std.specs.Prelude.{Result, Ok, Err}
use Rattle.errors.specs.declared.Refusal.{Refusal}
use Rattle.reader.specs.Verdicts.{Passes, IsCount}
use Rattle.reader.proofs.Sequence.{goes_with, stops}
use Rattle.nodes.specs.declared.Counts.{Counts}
use Rattle.nodes.specs.declared.Row.{Row}
use Rattle.nodes.specs.Known.{Before, Known, Gives}
use Rattle.nodes.specs.Rows.{row_reader}

-- One item and then the others.
pub items_more : {A : Type 0} (r : List A → Reader A) (k : ℕ) (xs : List A) (p : ℕ) (bs : List ℕ) → 0 < k
    → items r k xs p bs ≡ onward (r xs p bs) (λ x. items r (k - 1) (xs ++ x ∷ []))
unfolding items
items_more r zero xs p bs h = absurd (omega arith)
items_more r (suc k) xs p bs h = ap (λ (j : ℕ). onward (r xs p bs) (λ x. items r j (xs ++ x ∷ []))) (one k)
  where
    one : (k : ℕ) → k ≡ suc k - 1
    one k = omega arith

-- The loop over the items: after i of them, at the place p.
pub record Left {A : Type 0} (P : Before → Type 0) (bytes : List ℕ) (r : Before → Reader A) (at m p i : ℕ) : Type 0 where
  pub is : (s : Before) → P s → (xs : List A) × (p ≤ length bytes) × (items (λ ys. r s) m [] at (from at bytes) ≡ items (λ ys. r s) (m - i) xs p (from p bytes))

pub left_all : {A : Type 0} (P : Before → Type 0) (bytes : List ℕ) (r : Before → Reader A) (at m : ℕ) → at ≤ length bytes → Left P bytes r at m at 0
left_all P bytes r at m h = record { is = λ s k. ([], h, ap (λ j. items (λ ys. r s) j [] at (from at bytes)) (whole m)) }
  where
    whole : (m : ℕ) → m ≡ m - 0
    whole m = omega arith

-- The items of a reader that has passed one.
pub items_past : {A : Type 0} (bytes : List ℕ) (r : List A → Reader A) (left : ℕ) (xs : List A) (p q : ℕ) → 0 < left → (v : Passes bytes (r xs p (from p bytes)) q)
    → items r left xs p (from p bytes) ≡ items r (left - 1) (xs ++ v.value ∷ []) q (from q bytes)
unfolding onward
items_past bytes r left xs p q h v = items_more r left xs p (from p bytes) h ∙ ap (λ o. onward o (λ x. items r (left - 1) (xs ++ x ∷ []))) v.is

pub one_less : (m i : ℕ) → m - i - 1 ≡ m - (i + 1)
one_less m i = omega arith

pub left_less : {A : Type 0} (P : Before → Type 0) (bytes : List ℕ) (r : Before → Reader A) (at m p q i : ℕ)
    → Left P bytes r at m p i → i < m → Gives P bytes r p (Ok q) → Left P bytes r at m q (i + 1)
left_less P bytes r at m p q i l h g = record {
  is = λ s k.
      let x = l.is s k in let v = g.is s k in (
        x.0 ++ v.value ∷ [],
        v.within,
        x.2 ∙ items_past bytes (λ ys. r s) (m - i) x.0 p q (omega arith) v ∙ ap (λ j. items (λ ys. r s) j (x.0 ++ v.value ∷ []) q (from q bytes)) (one_less m i),
      );
}

pub left_bad : {A : Type 0} (P : Before → Type 0) (bytes : List ℕ) (r : Before → Reader A) (at m p i : ℕ) (e : _)
    → Left P bytes r at m p i → i < m → Gives P bytes r p (Err e) → Gives P bytes (λ s. items (λ ys. r s) m []) at (Err e)
left_bad P bytes r at m p i e l h g = record {
  is = λ s k.
      let x = l.is s k in x.2 ∙ items_more (λ ys. r s) (m - i) x.0 p (from p bytes) (omega arith) ∙ stops (r s p (from p bytes)) _ _ (g.is s k);
}

pub left_none : {A : Type 0} (P : Before → Type 0) (bytes : List ℕ) (r : Before → Reader A) (at m p i : ℕ)
    → Left P bytes r at m p i → m ≤ i → Gives P bytes (λ s. items (λ ys. r s) m []) at (Ok p)
unfolding items
left_none P bytes r at m p i l h = record {
  is = λ s k.
      let x = l.is s k in record { value = x.0; is = x.2 ∙ ap (λ (j : ℕ). items (λ ys. r s) j x.0 p (from p bytes)) (none m i h); within = x.1 };
}
  where
    none : (m i : ℕ) → m ≤ i → m - i ≡ 0
    none m i h = omega arith

-- ## a count before them
pub list_items : {A : Type 0} (P : Before → Type 0) (bytes : List ℕ) (r : Before → Reader A) (at m : ℕ) (q : Result ℕ Refusal) → IsCount 64 bytes at (Ok m)
    → Gives P bytes (λ s. items (λ ys. r s) m []) (at + 2) q → Gives P bytes (λ s. list_of (r s)) at q
unfolding list_of section
list_items P bytes r at m q c g = record {
  is = λ s k.
      goes_with bytes (counted 64 at (from at bytes)) _ m (at + 2) q c.is.0 (g.is s k);
}

pub list_bad : {A : Type 0} (P : Before → Type 0) (bytes : List ℕ) (r : Before → Reader A) (at : ℕ) (e : _) → IsCount 64 bytes at (Err e)
    → Gives P bytes (λ s. list_of (r s)) at (Err e)
unfolding list_of section
list_bad P bytes r at e c = record { is = λ s k. stops (counted 64 at (from at bytes)) _ _ c.is }

-- ## kinds of item
pub at_row : (k j : Row) (ix bytes : List ℕ) (n : Counts) (at : ℕ) (r : Result ℕ Refusal) → k ≡ j
    → Gives (Known ix n) bytes (λ s. row_reader j s) at r → Gives (Known ix n) bytes (λ s. row_reader k s) at r
at_row k j ix bytes n at r e g = subst (λ (i : Row). Gives (Known ix n) bytes (λ s. row_reader i s) at r) (sym e) g
