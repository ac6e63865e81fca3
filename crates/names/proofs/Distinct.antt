-- Words that stand for equal names or variables are equal words.
use mathlib.Core.Path.{◌≡◌, refl, sym, ap, ◌∙◌}
use mathlib.Core.List.{List}
use Prim.Native.Nat.{ℕ, ◌+◌, ◌*◌, ◌^◌, ◌<◌}
use native.Mathlib.Nat.{lt_of_lt_of_le}
use native.Mathlib.Decide.{dec_lt}
use native.Mathlib.Omega.{arith}
use lib.ListN.{length, get_or}
use lib.Dec.{lit≤}
use Rattle.meaning.specs.Ast.{Name, name, named, fresh}
use Rattle.names.specs.declared.Kind.{Kind}
use Rattle.names.specs.declared.Kind.TheVariants.{Node, Named, Fresh, Nullary}
use Rattle.names.specs.Names.{kind_of, row, name_of, variable_of, tyvar_of, Names, first_node}
use Rattle.names.proofs.Tests.{lt_yes, lt_no}
use Rattle.names.proofs.Words.{four_below, four_places}
use Rattle.names.proofs.Where.{word_of, Small, where_it_lies}

-- A row of words has 32 bytes.
pub row_below : (ns : List ℕ) → Names ns → (i : ℕ) → row ns i < 2 ^ 256
unfolding row
row_below ns N i = rw (four_places (get_or ns (4 * i) 0) (get_or ns (4 * i + 1) 0) (get_or ns (4 * i + 2) 0) (get_or ns (4 * i + 3) 0))
    (four_below (get_or ns (4 * i) 0) (get_or ns (4 * i + 1) 0) (get_or ns (4 * i + 2) 0) (get_or ns (4 * i + 3) 0) (N.words (4 * i)) (N.words (4 * i + 1)) (N.words (4 * i + 2)) (N.words (4 * i + 3)))

-- A number below a bound is not one over it.
apart : (B m n : ℕ) → m < B → m ≡ B + n → ⊥
apart B m n h e = omega arith

-- Numbers over one bound are equal where the sums are.
over_same : (B m n : ℕ) → B + m ≡ B + n → m ≡ n
over_same B m n e = omega arith

-- What the number of a name is: a row, or one over all rows.
data Numbered (ns : List ℕ) (i : ℕ) : Type 0 where
  inside : 4 * i + 3 < length ns → name_of ns i ≡ name (row ns i) → Numbered ns i
  outside : name_of ns i ≡ name (2 ^ 256 + i) → Numbered ns i

-- Each number has its place.
numbered : (ns : List ℕ) (i : ℕ) → Numbered ns i
unfolding name_of
numbered ns i = go (dec_lt (4 * i + 3) (length ns))
  where
    go : Dec (4 * i + 3 < length ns) → Numbered ns i
    go (yes h) = inside h (rw (lt_yes (4 * i + 3) (length ns) h))
    go (no h) = outside (rw (lt_no (4 * i + 3) (length ns) (omega arith)))

-- A name has one number.
name_same : (m n : ℕ) → name m ≡ name n → m ≡ n
name_same m n e = cc

-- Equal names of a table have equal numbers.
pub name_of_same : (ns : List ℕ) → Names ns → (i j : ℕ) → name_of ns i ≡ name_of ns j → i ≡ j
name_of_same ns N i j e = go (numbered ns i) (numbered ns j)
  where
    go : Numbered ns i → Numbered ns j → i ≡ j
    go (inside h f) (inside k g) = N.distinct i j h k (name_same _ _ (sym f ∙ e ∙ g))
    go (inside h f) (outside g) = absurd (apart (2 ^ 256) _ j (row_below ns N i) (name_same _ _ (sym f ∙ e ∙ g)))
    go (outside f) (inside k g) = absurd (apart (2 ^ 256) _ i (row_below ns N j) (name_same _ _ (sym g ∙ sym e ∙ f)))
    go (outside f) (outside g) = over_same (2 ^ 256) i j (name_same _ _ (sym f ∙ e ∙ g))

-- A sum over one bound lies below the double.
below_double : (B m : ℕ) → m < B → B + m < B + B
below_double B m h = omega arith

-- The names of small numbers lie below those of constructors and nodes.
name_below : (ns : List ℕ) → Names ns → (i m : ℕ) → i < first_node → name_of ns i ≡ name m → m < 2 ^ 257
name_below ns N i m h e = go (numbered ns i)
  where
    go : Numbered ns i → m < 2 ^ 257
    go (inside k f) = rw (name_same m (row ns i) (sym e ∙ f)) (lt_of_lt_of_le (row_below ns N i) (lit≤ tt))
    go (outside f) = rw (name_same m (2 ^ 256 + i) (sym e ∙ f)) (below_double (2 ^ 256) i (lt_of_lt_of_le h (lit≤ tt)))

-- No word of the table stands for a constructor's or a node's name.
not_a_name : (ns : List ℕ) → Names ns → (i n : ℕ) → i < first_node → name_of ns i ≡ name (2 ^ 257 + n) → ⊥
not_a_name ns N i n h e = apart (2 ^ 257) _ n (name_below ns N i _ h e) refl

-- A node's number over a constructor's.
over_twice : (B n : ℕ) → (B + B) + n ≡ B + (B + n)
over_twice B n = omega arith

-- A node's name is no constructor's.
node_nullary : (n i : ℕ) → i < first_node → name (2 ^ 258 + n) ≡ name (2 ^ 257 + i) → ⊥
node_nullary n i h e = apart (2 ^ 257) i n (lt_of_lt_of_le h (lit≤ tt)) (sym (over_same (2 ^ 257) _ i (sym (over_twice (2 ^ 257) n) ∙ name_same _ _ e)))

-- A name of the table is no node's.
not_a_node : (ns : List ℕ) → Names ns → (i n : ℕ) → i < first_node → name_of ns i ≡ name (2 ^ 258 + n) → ⊥
not_a_node ns N i n h e = not_a_name ns N i (2 ^ 257 + n) h (e ∙ ap name (over_twice (2 ^ 257) n))

-- A named variable has one name.
named_same : (x y : Name) → named x ≡ named y → x ≡ y
named_same x y e = cc

-- A named variable is no made one.
never_made : (x : Name) (k : ℕ) → named x ≡ fresh k → ⊥
never_made x k e = let z : ◌≡◌ {A = ℕ} 0 1 = cc in omega arith

-- Kinds of words that stand for equal variables are equal.
kind_same : (ns : List ℕ) → Names ns → (s t : Kind) → Small s → Small t → variable_of ns s ≡ variable_of ns t → s ≡ t
kind_same ns N (Node m) (Node n) f g e = ap Node (over_same (2 ^ 258) m n (name_same _ _ (named_same _ _ e)))
kind_same ns N (Node m) (Named j) f g e = absurd (not_a_node ns N j m g (named_same _ _ (sym e)))
kind_same ns N (Node m) (Fresh l) f g e = absurd (never_made _ l e)
kind_same ns N (Node m) (Nullary j) f g e = absurd (node_nullary m j g (named_same _ _ e))
kind_same ns N (Named i) (Node n) f g e = absurd (not_a_node ns N i n f (named_same _ _ e))
kind_same ns N (Named i) (Named j) f g e = ap Named (name_of_same ns N i j (named_same _ _ e))
kind_same ns N (Named i) (Fresh l) f g e = absurd (never_made _ l e)
kind_same ns N (Named i) (Nullary j) f g e = absurd (not_a_name ns N i j f (named_same _ _ e))
kind_same ns N (Fresh k) (Node n) f g e = absurd (never_made _ k (sym e))
kind_same ns N (Fresh k) (Named j) f g e = absurd (never_made _ k (sym e))
kind_same ns N (Fresh k) (Fresh l) f g e = cc
kind_same ns N (Fresh k) (Nullary j) f g e = absurd (never_made _ k (sym e))
kind_same ns N (Nullary i) (Node n) f g e = absurd (node_nullary n i f (named_same _ _ (sym e)))
kind_same ns N (Nullary i) (Named j) f g e = absurd (not_a_name ns N j i g (named_same _ _ (sym e)))
kind_same ns N (Nullary i) (Fresh l) f g e = absurd (never_made _ l e)
kind_same ns N (Nullary i) (Nullary j) f g e = ap Nullary (over_same (2 ^ 257) i j (name_same _ _ (named_same _ _ e)))

-- Words that stand for equal variables are equal words.
pub tyvar_of_same : (ns : List ℕ) → Names ns → (x y : ℕ) → tyvar_of ns x ≡ tyvar_of ns y → x ≡ y
unfolding tyvar_of
tyvar_of_same ns N x y e = sym (where_it_lies x).0 ∙ ap (λ (k : Kind). word_of k) (kind_same ns N (kind_of x) (kind_of y) (where_it_lies x).1 (where_it_lies y).1 e) ∙ (where_it_lies y).0
