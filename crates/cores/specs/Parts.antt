-- What a word says as a core term. Node n is the four words from 4 * n on: a tag and three fields.
use Rattle.std.specs.Prelude.{List, Bool, true, false, ℕ, ◌+◌, ◌*◌, ◌-◌, ◌/◌, ◌%◌, ◌<◌, eqb, ltb, get_or, set}
use Rattle.meaning.specs.Base.{if}
use Rattle.names.specs.Names.{kind_of}
use Rattle.names.specs.declared.Kind.{Kind}
use Rattle.names.specs.declared.Kind.TheVariants.{Node, Named, Fresh, Nullary}
use Rattle.ast.specs.Table.{pushed}
use Rattle.cores.specs.declared.Part.{Part}
use Rattle.cores.specs.declared.Part.TheVariants.{Var, Dict, Context, Own, Bool as A-Bool, Int, Abs, App, Let, DictAbs, DictApp, Method, Super, Rec}

-- Words between the made variables and the nodes: the two truth values, `self`, then the i-th context of the class of
-- name c, as 64 * (c + 1) + i.
unfoldable pub constant_part : ℕ → Part
constant_part o = if (eqb o 0) (A-Bool false) (if (eqb o 1) (A-Bool true) (if (ltb o 64) Own (Context (o / 64 - 1) (o % 64))))

-- What a node's words say, by its tag; 1 to 3 are types and lists. Any other tag is taken for `self`.
unfoldable pub node_part : ℕ → ℕ → ℕ → ℕ → Part
node_part tag a b d =
    if (eqb tag 4) (Abs a b) (
    if (eqb tag 5) (App a b) (
    if (eqb tag 6) (Let a b d) (
    if (eqb tag 7) (DictAbs a b) (
    if (eqb tag 8) (DictApp a b) (
    if (eqb tag 9) (Method a b) (
    if (eqb tag 10) (Super a b d) (
    if (eqb tag 11) (Rec a b d) (
    if (eqb tag 12) (Int a) Own))))))))

-- The same of node n.
unfoldable pub read_part : List ℕ → ℕ → Part
read_part w n = node_part (get_or w (4 * n) 0) (get_or w (4 * n + 1) 0) (get_or w (4 * n + 2) 0) (get_or w (4 * n + 3) 0)

-- Both words lie below t.
abbrev pub both_below : ℕ → ℕ → ℕ → Bool
both_below t a b = if (ltb a t) (ltb b t) false

-- All that a part refers to lies below the word t.
abbrev pub is_below : ℕ → Part → Bool
is_below t (Var x) = true
is_below t (Dict n) = true
is_below t (Context c i) = true
is_below t Own = true
is_below t (A-Bool b) = true
is_below t (Int v) = true
is_below t (Abs x e) = ltb e t
is_below t (App f e) = both_below t f e
is_below t (Let x e f) = both_below t e f
is_below t (DictAbs l e) = both_below t l e
is_below t (DictApp f l) = both_below t f l
is_below t (Method e m) = ltb e t
is_below t (Super e c s) = ltb e t
is_below t (Rec c u i) = ltb u t

-- A node that refers to itself or above is taken for `self`: so every word stands for a term, whatever the words.
abbrev pub checked : ℕ → Part → Part
checked t p = if (is_below t p) p Own

-- What a term's word says, by its kind.
abbrev pub part_at : List ℕ → ℕ → Kind → Part
part_at w t (Node n) = checked t (read_part w n)
part_at w t (Named i) = Var i
part_at w t (Fresh n) = Dict n
part_at w t (Nullary o) = constant_part o

unfoldable pub part_of : List ℕ → ℕ → Part
part_of w t = part_at w t (kind_of t)

-- What a part refers to lies below the word t.
abbrev pub PartBelow : ℕ → Part → Type 0
PartBelow t (Var x) = Unit {0}
PartBelow t (Dict n) = Unit {0}
PartBelow t (Context c i) = Unit {0}
PartBelow t Own = Unit {0}
PartBelow t (A-Bool b) = Unit {0}
PartBelow t (Int v) = Unit {0}
PartBelow t (Abs x e) = e < t
PartBelow t (App f e) = (f < t) × (e < t)
PartBelow t (Let x e f) = (e < t) × (f < t)
PartBelow t (DictAbs l e) = (l < t) × (e < t)
PartBelow t (DictApp f l) = (f < t) × (l < t)
PartBelow t (Method e m) = e < t
PartBelow t (Super e c s) = e < t
PartBelow t (Rec c u i) = u < t

-- w with a tag and three fields as node top.
unfoldable pub pushed_four : List ℕ → ℕ → ℕ → ℕ → ℕ → ℕ → List ℕ
pushed_four w top tag a b d = pushed (set w (4 * top + 3) d) top tag a b
