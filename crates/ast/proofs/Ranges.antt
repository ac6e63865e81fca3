-- What a word says, by where it lies: words that name no node say the same over any words.
use mathlib.Core.Path.{◌≡◌, refl, ◌∙◌}
use mathlib.Core.List.{List}
use Prim.Native.Nat.{ℕ, zero, suc, ◌+◌, ◌*◌, ◌-◌, ◌<◌, ◌≤◌}
use native.Mathlib.Decide.{dec_lt}
use native.Mathlib.Omega.{arith}
use lib.ListN.{get_or}
use Rattle.meaning.specs.Base.{is_yes, if, ltb}
use Rattle.names.specs.Names.{first_fresh, first_nullary, first_node, kind_of}
use Rattle.names.specs.declared.Kind.{Kind}
use Rattle.names.specs.declared.Kind.TheVariants.{Node as A-Node, Named, Fresh, Nullary}
use Rattle.ast.specs.declared.Shape.TheVariants.{Var, Con, Arrow}
use Rattle.ast.specs.declared.Cell.TheVariants.{Nil, Cons}
use Rattle.ast.specs.Table.{shape, cell, shape_at, cell_at, shape_of, cell_of, ShapeBelow}

-- The kinds of words that name no node, as a word's range gives them, and the kind of a word that does.
pub data Low (t : ℕ) : Kind → Type 0 where
  variable : t < first_fresh → Low t (Named t)
  made : first_fresh ≤ t → t < first_nullary → Low t (Fresh (t - first_fresh))
  constant : first_nullary ≤ t → t < first_node → Low t (Nullary (t - first_nullary))

-- A word below the nodes has one of the three kinds that name none.
pub kind_low : (t : ℕ) → t < first_node → Low t (kind_of t)
unfolding kind_of ltb
kind_low t h = go (dec_lt t first_fresh) (dec_lt t first_nullary) (dec_lt t first_node)
  where
    at : Dec (t < first_fresh) → Dec (t < first_nullary) → Dec (t < first_node) → Kind
    at p q r = if (is_yes p) (Named t) (if (is_yes q) (Fresh (t - first_fresh)) (if (is_yes r) (Nullary (t - first_nullary)) (A-Node (t - first_node))))

    go : (p : Dec (t < first_fresh)) (q : Dec (t < first_nullary)) (r : Dec (t < first_node)) → Low t (at p q r)
    go (yes p) q r = variable p
    go (no p) (yes q) r = made (omega arith) q
    go (no p) (no q) (yes r) = constant (omega arith) r
    go (no p) (no q) (no r) = absurd (r h)

-- A word from there on names the node of its number.
pub kind_node : (t : ℕ) → first_node ≤ t → kind_of t ≡ A-Node (t - first_node)
unfolding kind_of ltb
kind_node t h = go (dec_lt t first_fresh) (dec_lt t first_nullary) (dec_lt t first_node)
  where
    at : Dec (t < first_fresh) → Dec (t < first_nullary) → Dec (t < first_node) → Kind
    at p q r = if (is_yes p) (Named t) (if (is_yes q) (Fresh (t - first_fresh)) (if (is_yes r) (Nullary (t - first_nullary)) (A-Node (t - first_node))))

    go : (p : Dec (t < first_fresh)) (q : Dec (t < first_nullary)) (r : Dec (t < first_node)) → at p q r ≡ A-Node (t - first_node)
    go (yes p) q r = absurd (omega arith)
    go (no p) (yes q) r = absurd (omega arith)
    go (no p) (no q) (yes r) = absurd (omega arith)
    go (no p) (no q) (no r) = refl

-- The word of node n names node n.
pub kind_at : (n : ℕ) → kind_of (first_node + n) ≡ A-Node n
kind_at n = let e : first_node + n - first_node ≡ n = omega arith in kind_node (first_node + n) (omega arith) ∙ rw e

-- A word of kind Node n lies n above the first node.
pub node_word : {n : ℕ} (t : ℕ) → kind_of t ≡ A-Node n → t ≡ first_node + n
node_word {n} t e = go (dec_lt t first_node)
  where
    low : {k : Kind} → Low t k → k ≡ A-Node n → t ≡ first_node + n
    low (variable p) k = let z : ◌≡◌ {A = ℕ} 0 1 = cc in absurd (omega arith)
    low (made p q) k = let z : ◌≡◌ {A = ℕ} 0 1 = cc in absurd (omega arith)
    low (constant p q) k = let z : ◌≡◌ {A = ℕ} 0 1 = cc in absurd (omega arith)

    go : Dec (t < first_node) → t ≡ first_node + n
    go (yes p) = low (kind_low t p) e
    go (no p) = let h : first_node ≤ t = omega arith in let k = kind_node t h in let f : t - first_node ≡ n = cc in omega arith

-- What a kind that names no node says does not depend on the words.
at_low : {t : ℕ} {k : Kind} (w w' : List ℕ) → Low t k → (shape_at w' t k ≡ shape_at w t k) × (cell_at w' k ≡ Nil)
at_low w w' (variable p) = (refl, refl)
at_low w w' (made p q) = (refl, refl)
at_low w w' (constant p q) = (refl, refl)

-- A word that names no node has the same shape over any words.
pub shape_low : (w w' : List ℕ) (t : ℕ) → t < first_node → shape_of w' t ≡ shape_of w t
unfolding shape_of
shape_low w w' t h = (at_low w w' (kind_low t h)).0

-- It is no cell.
pub cell_low : (w : List ℕ) (t : ℕ) → t < first_node → cell_of w t ≡ Nil
unfolding cell_of
cell_low w t h = (at_low w w (kind_low t h)).1

-- What a kind that names no node refers to lies below its word.
below_at : {t : ℕ} {k : Kind} (w : List ℕ) → Low t k → ShapeBelow t (shape_at w t k)
below_at w (variable p) = tt
below_at w (made p q) = tt
below_at w (constant p q) = omega arith

-- What a word that names no node refers to lies below it.
pub below_low : (w : List ℕ) (t : ℕ) → t < first_node → ShapeBelow t (shape_of w t)
unfolding shape_of
below_low w t h = below_at w (kind_low t h)

-- A node that is taken for a variable says its own word.
var_shape : (t tag a b : ℕ) {x : ℕ} → shape t tag a b ≡ Var x → x ≡ t
var_shape t zero a b e = cc
var_shape t (suc zero) a b e = let z : ◌≡◌ {A = ℕ} 0 1 = cc in absurd (omega arith)
var_shape t (suc (suc zero)) a b e = let z : ◌≡◌ {A = ℕ} 0 1 = cc in absurd (omega arith)
var_shape t (suc (suc (suc tag))) a b e = cc

-- The same for a word of any kind.
var_at : {x : ℕ} (w : List ℕ) (t : ℕ) (k : Kind) → shape_at w t k ≡ Var x → x ≡ t
var_at w t (A-Node n) e = var_shape t (get_or w (4 * n) 0) (get_or w (4 * n + 1) 0) (get_or w (4 * n + 2) 0) e
var_at w t (Named i) e = cc
var_at w t (Fresh i) e = cc
var_at w t (Nullary i) e = let z : ◌≡◌ {A = ℕ} 0 1 = cc in absurd (omega arith)

-- The variable that a word says is the word itself.
pub var_word : {x : ℕ} (w : List ℕ) (t : ℕ) → shape_of w t ≡ Var x → x ≡ t
unfolding shape_of
var_word w t e = var_at w t (kind_of t) e

-- A cell is a node.
pub cons_node : {a b : ℕ} (w : List ℕ) (l : ℕ) → cell_of w l ≡ Cons a b → first_node ≤ l
cons_node w l e = go (dec_lt l first_node)
  where
    go : Dec (l < first_node) → first_node ≤ l
    go (yes p) = let c = cell_low w l p in let z : ◌≡◌ {A = ℕ} 0 1 = cc in absurd (omega arith)
    go (no p) = omega arith

-- Tag 1 is a constructor; g is the word read for the tag, x and y those for the fields.
pub con_is : {g x y tag a b : ℕ} (t : ℕ) → g ≡ tag → x ≡ a → y ≡ b → g ≡ 1 → Con x y ≡ shape t tag a b
con_is t p q r h = rw (← p, h, q, r)

-- Tag 2 is an arrow.
pub arrow_is : {g x y tag a b : ℕ} (t : ℕ) → g ≡ tag → x ≡ a → y ≡ b → g ≡ 2 → Arrow x y ≡ shape t tag a b
arrow_is t p q r h = rw (← p, h, q, r)

-- Tag 3 is a cell.
pub cons_is : {g x y tag a b : ℕ} → g ≡ tag → x ≡ a → y ≡ b → g ≡ 3 → Cons x y ≡ cell tag a b
cons_is p q r h = rw (← p, h, q, r)

-- Any other tag is taken for a variable.
other_shape : (t tag a b : ℕ) → (tag ≡ 1 → ⊥) → (tag ≡ 2 → ⊥) → Var t ≡ shape t tag a b
other_shape t zero a b p q = refl
other_shape t (suc zero) a b p q = absurd (p refl)
other_shape t (suc (suc zero)) a b p q = absurd (q refl)
other_shape t (suc (suc (suc tag))) a b p q = refl

-- Any other tag is taken for the empty list.
other_cell : (tag a b : ℕ) → (tag ≡ 3 → ⊥) → Nil ≡ cell tag a b
other_cell zero a b p = refl
other_cell (suc zero) a b p = refl
other_cell (suc (suc zero)) a b p = refl
other_cell (suc (suc (suc zero))) a b p = absurd (p refl)
other_cell (suc (suc (suc (suc tag)))) a b p = refl

-- The same of the word read for the tag.
pub other_is : {g tag : ℕ} (t a b : ℕ) → g ≡ tag → (g ≡ 1 → ⊥) → (g ≡ 2 → ⊥) → Var t ≡ shape t tag a b
other_is {tag = tag} t a b e p q = other_shape t tag a b (λ h. p (e ∙ h)) (λ h. q (e ∙ h))

-- The same of a list.
pub nil_is : {g tag : ℕ} (a b : ℕ) → g ≡ tag → (g ≡ 3 → ⊥) → Nil ≡ cell tag a b
nil_is {tag = tag} a b e p = other_cell tag a b (λ h. p (e ∙ h))
