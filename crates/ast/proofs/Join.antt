-- Laws of two slices as one list: a closed table and the buffer behind it.
use Prim.Native.Nat.{ℕ, zero, suc, ◌+◌, ◌*◌, ◌-◌, ◌^◌, ◌<◌, ◌≤◌}
use native.Mathlib.Omega.{arith}
use mathlib.Core.Path.{◌≡◌, refl, ap}
use mathlib.Core.List.{List, [], ◌∷◌, ◌++◌}
use lib.ListN.{length, get_or, set, length-append}
use Rattle.names.specs.Names.{first_node}
use Rattle.ast.specs.Table.{tree, list, Table, Node, Kept, pushed}
use Rattle.ast.proofs.Laws.{kept_table, kept_tree, kept_list}

-- A word of the first list.
pub get_low : (a b : List ℕ) (i : ℕ) → i < length a → get_or (a ++ b) i 0 ≡ get_or a i 0
get_low [] b i h = absurd (omega arith)
get_low (x ∷ a) b zero h = refl
get_low (x ∷ a) b (suc i) h = get_low a b i (omega arith)

-- A word of the second list.
pub get_high : (a b : List ℕ) (i j : ℕ) → i ≡ length a + j → get_or (a ++ b) i 0 ≡ get_or b j 0
get_high [] b i j e = let f : i ≡ j = omega arith in rw f
get_high (x ∷ a) b zero j e = absurd (let z : 0 ≡ suc (length a) + j = e in omega arith)
get_high (x ∷ a) b (suc i) j e = get_high a b i j (let z : suc i ≡ suc (length a) + j = e in omega arith)

-- A word stored in the second list.
pub set_high : (a b : List ℕ) (i j v : ℕ) → i ≡ length a + j → set (a ++ b) i v ≡ a ++ set b j v
set_high [] b i j v e = let f : i ≡ j = omega arith in rw f
set_high (x ∷ a) b zero j v e = absurd (let z : 0 ≡ suc (length a) + j = e in omega arith)
set_high (x ∷ a) b (suc i) j v e = ap (λ l. x ∷ l) (set_high a b i j v (let z : suc i ≡ suc (length a) + j = e in omega arith))

-- Three words stored in the second list are a node pushed on both.
push_high : (a b : List ℕ) (top j t x y : ℕ) → 4 * top ≡ length a + j → a ++ set (set (set b j t) (j + 1) x) (j + 2) y ≡ pushed (a ++ b) top t x y
unfolding pushed
push_high a b top j t x y e = rw (set_high a b (4 * top) j t e, set_high a (set b j t) (4 * top + 1) (j + 1) x (omega arith), set_high a (set (set b j t) (j + 1) x) (4 * top + 2) (j + 2) y (omega arith))

-- The same at the index that the code computes.
pub push_at : (a b : List ℕ) (top t x y : ℕ) → length a ≤ 4 * top → a ++ set (set (set b (4 * top - length a) t) (4 * top - length a + 1) x) (4 * top - length a + 2) y ≡ pushed (a ++ b) top t x y
push_at a b top t x y h = push_high a b top (4 * top - length a) t x y (omega arith)

-- The length of both.
pub joined : (a b : List ℕ) → length (a ++ b) ≡ length a + length b
joined a b = length-append a b

-- Two slices have no more words than this.
pub both_fit : (a b : List ℕ) → length a < 2 ^ 64 → length b < 2 ^ 64 → length (a ++ b) < 2 ^ 65
both_fit a b h k = let j = joined a b in omega arith

-- A node that two slices have room for is one of those that a word can name.
pub small_top : (a b : List ℕ) (top : ℕ) → length a < 2 ^ 64 → length b < 2 ^ 64 → 4 * top + 4 ≤ length (a ++ b) → top < first_node
small_top a b top h k r = let j = joined a b in omega arith

-- A closed table stands under whatever follows it.
pub append_kept : {a : List ℕ} {top : ℕ} (b : List ℕ) → Table a top → Kept a (a ++ b) top
append_kept {a} b T = let h = T.room in record { at = λ i k. get_low a b i (omega arith) }

-- It is a table there.
pub append_table : {a : List ℕ} {top : ℕ} (b : List ℕ) → Table a top → Table (a ++ b) top
append_table {a} b T = let h = T.room in let j = joined a b in kept_table (append_kept b T) (omega arith) T

-- Its words are words of that table.
pub append_node : {a : List ℕ} {top t : ℕ} (b : List ℕ) → Node a top t → Node (a ++ b) top t
append_node b N = record { table = append_table b N.table; below = N.below }

-- Its words stand there for the types that they stand for in it.
pub append-tree : {a : List ℕ} {top t : ℕ} (ns b : List ℕ) → Node a top t → tree ns (a ++ b) t ≡ tree ns a t
append-tree ns b N = kept_tree ns (append_kept b N.table) N

-- And for the same lists.
pub append_list : {a : List ℕ} {top t : ℕ} (ns b : List ℕ) → Node a top t → list ns (a ++ b) t ≡ list ns a t
append_list ns b N = kept_list ns (append_kept b N.table) N
