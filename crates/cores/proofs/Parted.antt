-- What a word says as a core term refers below the word, and stands where the words do.
use mathlib.Core.Path.{◌≡◌, refl}
use mathlib.Core.Bool.{Bool, true, false}
use mathlib.Core.List.{List}
use Prim.Native.Nat.{ℕ, ◌+◌, ◌*◌, ◌-◌, ◌/◌, ◌%◌, ◌<◌}
use native.Mathlib.Omega.{arith}
use lib.Dec.{eqb, ltb}
use borrow.Author.Tests.{ltb-true}
use Rattle.meaning.specs.Base.{if}
use Rattle.names.specs.Names.{first_node, kind_of}
use Rattle.names.specs.declared.Kind.{Kind}
use Rattle.names.specs.declared.Kind.TheVariants.{Node as A-Node, Named, Fresh, Nullary}
use Rattle.ast.specs.Table.{Kept}
use Rattle.ast.proofs.Ranges.{Low, variable, made, constant, kind_low, kind_at}
use Rattle.ast.proofs.Laws.{Place, low, node, place}
use Rattle.cores.specs.declared.Part.{Part}
use Rattle.cores.specs.declared.Part.TheVariants.{Var, Dict, Context, Own, Bool as A-Bool, Int, Abs, App, Let, DictAbs, DictApp, Method, Super, Rec}
use Rattle.cores.specs.Parts.{constant_part, read_part, both_below, is_below, checked, part_at, part_of, PartBelow}

-- Two tests that pass.
both : (t a b : ℕ) → both_below t a b ≡ true → (a < t) × (b < t)
both t a b e = go (ltb a t) refl e
  where
    go : (x : Bool) → ltb a t ≡ x → if x (ltb b t) false ≡ true → (a < t) × (b < t)
    go true p q = (ltb-true a t p, ltb-true b t q)
    go false p q = let z : ◌≡◌ {A = ℕ} 0 1 = cc in absurd (omega arith)

-- A part that passes the test refers below.
test_below : (t : ℕ) (p : Part) → is_below t p ≡ true → PartBelow t p
test_below t (Var x) e = tt
test_below t (Dict n) e = tt
test_below t (Context c i) e = tt
test_below t Own e = tt
test_below t (A-Bool b) e = tt
test_below t (Int v) e = tt
test_below t (Abs x b) e = ltb-true b t e
test_below t (App f a) e = both t f a e
test_below t (Let x a b) e = both t a b e
test_below t (DictAbs l b) e = both t l b e
test_below t (DictApp f l) e = both t f l e
test_below t (Method a m) e = ltb-true a t e
test_below t (Super a c s) e = ltb-true a t e
test_below t (Rec c u i) e = ltb-true u t e

-- So does one that was tested.
checked_below : (t : ℕ) (p : Part) → PartBelow t (checked t p)
checked_below t p = go (is_below t p) refl
  where
    go : (b : Bool) → is_below t p ≡ b → PartBelow t (if b p Own)
    go true e = test_below t p e
    go false e = tt

-- And one of the constants.
constant_below : (t o : ℕ) → PartBelow t (constant_part o)
unfolding constant_part
constant_below t o = go (o / 64 - 1) (o % 64) (eqb o 0) (eqb o 1) (ltb o 64)
  where
    go : (c i : ℕ) (a b d : Bool) → PartBelow t (if a (A-Bool false) (if b (A-Bool true) (if d Own (Context c i))))
    go c i true b d = tt
    go c i false true d = tt
    go c i false false true = tt
    go c i false false false = tt

-- What a word says refers below it, whatever the words.
pub parts_below : (w : List ℕ) (t : ℕ) → PartBelow t (part_of w t)
unfolding part_of
parts_below w t = go (kind_of t)
  where
    go : (k : Kind) → PartBelow t (part_at w t k)
    go (A-Node n) = checked_below t (read_part w n)
    go (Named i) = tt
    go (Fresh n) = tt
    go (Nullary o) = constant_below t o

-- What the word of node n says, by the node's words.
pub part_at_lem : (w : List ℕ) (n : ℕ) → part_of w (first_node + n) ≡ checked (first_node + n) (read_part w n)
unfolding part_of
part_at_lem w n = rw (kind_at n)

-- A word that names no node says the same over any words.
pub part_low : (w w' : List ℕ) (t : ℕ) → t < first_node → part_of w' t ≡ part_of w t
unfolding part_of
part_low w w' t h = go (kind_low t h)
  where
    go : {k : Kind} → Low t k → part_at w' t k ≡ part_at w t k
    go (variable p) = refl
    go (made p q) = refl
    go (constant p q) = refl

-- Words that keep a table say what its words say.
pub kept_part : {w w' : List ℕ} {top : ℕ} → Kept w w' top → (t : ℕ) → t < first_node + top → part_of w' t ≡ part_of w t
unfolding read_part
kept_part {w} {w'} {top} K t h = go (place top t h)
  where
    go : Place top t → part_of w' t ≡ part_of w t
    go (low p) = part_low w w' t p
    go (node n p e) = rw (e, part_at_lem w' n, part_at_lem w n, K.at (4 * n) (omega arith), K.at (4 * n + 1) (omega arith), K.at (4 * n + 2) (omega arith), K.at (4 * n + 3) (omega arith))
