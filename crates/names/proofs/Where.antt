-- What a word says, by where it lies.
use mathlib.Core.Path.{◌≡◌, refl}
use Prim.Native.Nat.{ℕ, ◌+◌, ◌-◌, ◌<◌, ◌≤◌}
use native.Mathlib.Omega.{arith}
use native.Mathlib.Decide.{dec_lt}
use Rattle.names.specs.declared.Kind.{Kind}
use Rattle.names.specs.declared.Kind.TheVariants.{Node, Named, Fresh, Nullary}
use Rattle.names.specs.Names.{kind_of, first_fresh, first_nullary, first_node}
use Rattle.names.proofs.Tests.{lt_yes, lt_no}

-- Low words are names.
pub is_named : (t : ℕ) → t < first_fresh → kind_of t ≡ Named t
unfolding kind_of
is_named t h = rw (lt_yes t first_fresh h)

-- Then made variables.
pub is_fresh : (t : ℕ) → first_fresh ≤ t → t < first_nullary → kind_of t ≡ Fresh (t - first_fresh)
unfolding kind_of
is_fresh t g h = rw (lt_no t first_fresh g, lt_yes t first_nullary h)

-- Then constructors without arguments.
pub is_nullary : (t : ℕ) → first_fresh ≤ t → first_nullary ≤ t → t < first_node → kind_of t ≡ Nullary (t - first_nullary)
unfolding kind_of
is_nullary t f g h = rw (lt_no t first_fresh f, lt_no t first_nullary g, lt_yes t first_node h)

-- Then nodes.
pub is_node : (t : ℕ) → first_fresh ≤ t → first_nullary ≤ t → first_node ≤ t → kind_of t ≡ Node (t - first_node)
unfolding kind_of
is_node t f g h = rw (lt_no t first_fresh f, lt_no t first_nullary g, lt_no t first_node h)

-- The word of a kind.
abbrev pub word_of : Kind → ℕ
word_of (Node n) = n + first_node
word_of (Named i) = i
word_of (Fresh k) = k + first_fresh
word_of (Nullary i) = i + first_nullary

-- All but nodes and made variables have small numbers.
abbrev pub Small : Kind → Type 0
Small (Node n) = Unit {0}
Small (Named i) = i < first_node
Small (Fresh k) = Unit {0}
Small (Nullary i) = i < first_node

-- Each word is the word of what it says, and its number is small.
pub where_it_lies : (t : ℕ) → (word_of (kind_of t) ≡ t) × Small (kind_of t)
where_it_lies t = go (dec_lt t first_fresh) (dec_lt t first_nullary) (dec_lt t first_node)
  where
    go : Dec (t < first_fresh) → Dec (t < first_nullary) → Dec (t < first_node) → (word_of (kind_of t) ≡ t) × Small (kind_of t)
    go (yes f) g h = rw (is_named t f) (refl, omega arith)
    go (no f) (yes g) h = rw (is_fresh t (omega arith) g) (omega arith, tt)
    go (no f) (no g) (yes h) = rw (is_nullary t (omega arith) (omega arith) h) (omega arith, omega arith)
    go (no f) (no g) (no h) = rw (is_node t (omega arith) (omega arith) (omega arith)) (omega arith, tt)
