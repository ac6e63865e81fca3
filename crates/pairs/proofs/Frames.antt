-- Laws of what stands: pairs and table under a change of words elsewhere.
use mathlib.Core.Path.{◌≡◌, refl, ◌∙◌}
use mathlib.Core.List.{List, ◌++◌}
use Prim.Native.Nat.{ℕ, zero, suc, ◌+◌, ◌*◌, ◌<◌, ◌≤◌}
use native.Mathlib.Omega.{arith}
use lib.ListN.{length, get_or, set, length-set}
use lib.Seq.{get_or-set_same, get_or-set_other}
use Rattle.names.specs.Names.{first_node}
use Rattle.ast.specs.Table.{Table, Node, Kept, pushed}
use Rattle.ast.proofs.Laws.{kept_refl, kept_then, kept_less, kept_tree, kept_node}
use Rattle.ast.proofs.NewNode.{pushed_kept}
use Rattle.ast.proofs.Join.{joined}
use Rattle.pairs.specs.Pairs.{sub_at, Below, Sub, Stands}
use Rattle.pairs.proofs.Looks.{below_head, below_tail}

-- The words stand as they are.
pub stands_refl : (w : List ℕ) (top hi : ℕ) → Stands w w top hi
stands_refl w top hi = record { low = kept_refl _ _; high = λ i h. refl }

-- What stands twice stands.
pub stands_then : {w w₁ w₂ : List ℕ} {top top₁ hi : ℕ} → Stands w w₁ top hi → Stands w₁ w₂ top₁ hi → top ≤ top₁ → Stands w w₂ top hi
stands_then K L h = record { low = kept_then K.low L.low h; high = λ i l. L.high i l ∙ K.high i l }

-- It stands from higher up.
pub stands_up : {w w' : List ℕ} {top b hi : ℕ} → Stands w w' top b → b ≤ hi → Stands w w' top hi
stands_up S h = record { low = S.low; high = λ i l. S.high i (omega arith) }

-- And below a lower node.
pub stands_less : {w w' : List ℕ} {top top' hi : ℕ} → Stands w w' top' hi → top ≤ top' → Stands w w' top hi
stands_less S h = record { low = kept_less S.low h; high = S.high }

-- A node is pushed below hi.
pub pushed_stands : {w w' : List ℕ} (top tag a b hi : ℕ) → 4 * top + 4 ≤ hi → w' ≡ pushed w top tag a b → Stands w w' top hi
unfolding pushed
pushed_stands {w} {w'} top tag a b hi h e = rw e (record {
  low = pushed_kept w top tag a b;
  high = λ i k. get_or-set_other (set (set w (4 * top) tag) (4 * top + 1) a) (4 * top + 2) i b 0 (omega arith)
      ∙ get_or-set_other (set w (4 * top) tag) (4 * top + 1) i a 0 (omega arith) ∙ get_or-set_other w (4 * top) i tag 0 (omega arith);
})

-- A word of the table is one after it.
pub stands_node : {w w' : List ℕ} {top hi t : ℕ} → Stands w w' top hi → length w ≤ length w' → Node w top t → Node w' top t
stands_node S h N = let r = N.table.room in kept_node S.low (omega arith) N

-- Pairs whose words and types stand are the same substitution.
pub sub_same : {w w' : List ℕ} {top : ℕ} (ns : List ℕ) → Table w top → Kept w w' top → (at k : ℕ) → Below w top at k
    → ((i : ℕ) → at ≤ i → i < at + 2 * k → get_or w' i 0 ≡ get_or w i 0) → sub_at ns w' at k ≡ sub_at ns w at k
unfolding sub_at
sub_same ns T K at zero b s = refl
sub_same ns T K at (suc k) b s =
    rw (
      s at (omega arith) (omega arith),
      s (at + 1) (omega arith) (omega arith),
      kept_tree ns K (record { table = T; below = below_head b }),
      sub_same ns T K (at + 2) k (below_tail b) (λ i p q. s i (omega arith) (omega arith)),
    )

-- The same of pairs that a frame covers.
pub sub_stands : {w w' : List ℕ} {top hi at k : ℕ} (ns : List ℕ) → Table w top → Stands w w' top hi → Sub w top at k → hi ≤ at → sub_at ns w' at k ≡ sub_at ns w at k
sub_stands {at = at} {k = k} ns T F S h = sub_same ns T F.low at k S.bound (λ i p q. F.high i (omega arith))

-- Bounds of pairs whose words stand, under a table that may have grown.
pub below_words : {w w' : List ℕ} {top top' at k : ℕ} → ((i : ℕ) → at ≤ i → i < at + 2 * k → get_or w' i 0 ≡ get_or w i 0) → top ≤ top' → Below w top at k → Below w' top' at k
below_words {at = at} s m b = record { node = λ i l. rw (s (at + 2 * i + 1) (omega arith) (omega arith)) (let z = b.node i l in omega arith) }

-- Pairs whose words stand lie there still.
pub sub_words : {w w' : List ℕ} {top top' at k : ℕ} → ((i : ℕ) → at ≤ i → i < at + 2 * k → get_or w' i 0 ≡ get_or w i 0) → top ≤ top' → length w ≤ length w' → Sub w top at k → Sub w' top' at k
sub_words s m l S = record { fits = (let z = S.fits in omega arith); bound = below_words s m S.bound }

-- The same of pairs that a frame covers.
pub sub-later : {w w' : List ℕ} {top top' hi at k : ℕ} → Stands w w' top hi → Sub w top at k → hi ≤ at → top ≤ top' → length w ≤ length w' → Sub w' top' at k
sub-later F S h m l = sub_words (λ i p q. F.high i (omega arith)) m l S

-- A larger table bounds them too.
pub sub_more : {w : List ℕ} {top top' at k : ℕ} → Sub w top at k → top ≤ top' → Sub w top' at k
sub_more S m = sub_words (λ i p q. refl) m (omega arith) S

-- No pairs.
pub sub_none : {w : List ℕ} (top at : ℕ) → at ≤ length w → Sub w top at 0
sub_none top at h = record { fits = omega arith; bound = record { node = λ i l. absurd (omega arith) } }

-- One pair more in front.
pub sub_cons : {w : List ℕ} {top at k : ℕ} → Sub w top (at + 2) k → get_or w (at + 1) 0 < first_node + top → Sub w top at (suc k)
sub_cons {w} {top} {at} {k} S h = record { fits = (let z = S.fits in omega arith); bound = record { node = node } }
  where
    node : (i : ℕ) → i < suc k → get_or w (at + 2 * i + 1) 0 < first_node + top
    node zero l = let e : at + 2 * 0 + 1 ≡ at + 1 = omega arith in rw e h
    node (suc i) l = let e : at + 2 * suc i + 1 ≡ at + 2 + 2 * i + 1 = omega arith in rw e (S.bound.node i (omega arith))

-- All but the first.
pub sub_tail : {w : List ℕ} {top at k : ℕ} → Sub w top at (suc k) → Sub w top (at + 2) k
sub_tail S = record { fits = (let z = S.fits in omega arith); bound = below_tail S.bound }

-- The type of the i-th pair is a word of the table.
pub sub_node : {w : List ℕ} {top at k : ℕ} → Table w top → Sub w top at k → (i : ℕ) → i < k → Node w top (get_or w (at + 2 * i + 1) 0)
sub_node T S i h = record { table = T; below = S.bound.node i h }

-- ## The words after `put`, w' being those

module _ {w' : List ℕ} (w : List ℕ) (i v : ℕ) (e : w' ≡ set w i v) where
  -- As many as before.
  pub put_length : length w' ≡ length w
  put_length = rw e (length-set w i v)

  -- The word that was put.
  pub put_here : i < length w → get_or w' i 0 ≡ v
  put_here h = rw e (get_or-set_same w i v 0 h)

  -- Any other.
  pub put_other : (j : ℕ) → (j ≡ i → ⊥) → get_or w' j 0 ≡ get_or w j 0
  put_other j n = rw e (get_or-set_other w i j v 0 n)

  -- Table and stack stand where the word lies between them.
  pub put_stands : (top hi : ℕ) → 4 * top ≤ i → i < hi → Stands w w' top hi
  put_stands top hi p q = record { low = record { at = λ j h. put_other j (omega arith) }; high = λ j h. put_other j (omega arith) }

-- ## The length of both slices, where the second one changes

-- Equal lengths of the second give equal lengths of both.
pub long : (a b c : List ℕ) → length b ≡ length c → length (a ++ b) ≡ length (a ++ c)
long a b c e = let x = joined a b in let y = joined a c in omega arith
