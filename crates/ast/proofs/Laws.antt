-- Laws of the table of nodes: what a word of a table stands for, by what it says and what its parts stand for.
use Prim.Native.Nat.{ℕ, zero, suc, ◌+◌, ◌*◌, ◌-◌, ◌<◌, ◌≤◌}
use native.Mathlib.Decide.{dec_lt}
use native.Mathlib.Omega.{arith}
use mathlib.Core.Path.{◌≡◌, refl, ap, sym, ◌∙◌}
use mathlib.Core.List.{List}
use lib.ListN.{length, get_or}
use Rattle.meaning.specs.Ast.{Ty, Tys, var, con, arrow, nil, ◌◂◌}
use Rattle.names.specs.Names.{first_nullary, first_node, kind_of, name_of, tyvar_of}
use Rattle.names.specs.declared.Kind.{Kind}
use Rattle.ast.specs.declared.Shape.{Shape}
use Rattle.ast.specs.declared.Shape.TheVariants.{Var, Con, Arrow}
use Rattle.ast.specs.declared.Cell.{Cell}
use Rattle.ast.specs.declared.Cell.TheVariants.{Nil, Cons}
use Rattle.ast.specs.Table.{shape, cell, nil_word, shape_of, cell_of, of_shape, of_cell, tree_f, list_f, tree, list, ShapeBelow, CellBelow, Table, Node, Kept}
use Rattle.ast.proofs.Ranges.{Low, variable, made, constant, kind_low, kind_at, shape_low, cell_low, below_low, var_word}

-- Two readings that agree below t agree on what refers below t.
shape_ext : (ns : List ℕ) (ty ty' : ℕ → Ty) (tys tys' : ℕ → Tys) (t : ℕ) (s : Shape) → ShapeBelow t s
    → ((m : ℕ) → m < t → ty m ≡ ty' m) → ((m : ℕ) → m < t → tys m ≡ tys' m) → of_shape ns ty tys s ≡ of_shape ns ty' tys' s
shape_ext ns ty ty' tys tys' t (Var x) h p q = refl
shape_ext ns ty ty' tys tys' t (Con c l) h p q = ap (con (name_of ns c)) (q l h)
shape_ext ns ty ty' tys tys' t (Arrow a b) h p q = cc (p a h.0, p b h.1)

-- The same for lists.
cell_ext : (ty ty' : ℕ → Ty) (tys tys' : ℕ → Tys) (t : ℕ) (s : Cell) → CellBelow t s
    → ((m : ℕ) → m < t → ty m ≡ ty' m) → ((m : ℕ) → m < t → tys m ≡ tys' m) → of_cell ty tys s ≡ of_cell ty' tys' s
cell_ext ty ty' tys tys' t Nil h p q = refl
cell_ext ty ty' tys tys' t (Cons a b) h p q = cc (p a h.0, q b h.1)

-- What the word of node n says, by the node's words.
pub shape_at : (w : List ℕ) (n : ℕ) → shape_of w (first_node + n) ≡ shape (first_node + n) (get_or w (4 * n) 0) (get_or w (4 * n + 1) 0) (get_or w (4 * n + 2) 0)
unfolding shape_of
shape_at w n = rw (kind_at n)

-- The same for lists.
pub cell_at : (w : List ℕ) (n : ℕ) → cell_of w (first_node + n) ≡ cell (get_or w (4 * n) 0) (get_or w (4 * n + 1) 0) (get_or w (4 * n + 2) 0)
unfolding cell_of
cell_at w n = rw (kind_at n)

-- A word of a table is no node, or node n of the table.
pub data Place (top t : ℕ) : Type 0 where
  low : t < first_node → Place top t
  node : (n : ℕ) → n < top → t ≡ first_node + n → Place top t

-- Which of the two a word is.
pub place : (top t : ℕ) → t < first_node + top → Place top t
place top t h = go (dec_lt t first_node)
  where
    go : Dec (t < first_node) → Place top t
    go (yes p) = low p
    go (no p) = node (t - first_node) (omega arith) (omega arith)

-- A word of a table refers only to words below it.
pub shapes_below : {w : List ℕ} {top t : ℕ} → Node w top t → ShapeBelow t (shape_of w t)
shapes_below {w} {top} {t} N = go (place top t N.below)
  where
    go : Place top t → ShapeBelow t (shape_of w t)
    go (low h) = below_low w t h
    go (node n h e) = rw e (N.table.shapes n h)

-- The same for lists.
pub cells_below : {w : List ℕ} {top t : ℕ} → Node w top t → CellBelow t (cell_of w t)
cells_below {w} {top} {t} N = go (place top t N.below)
  where
    go : Place top t → CellBelow t (cell_of w t)
    go (low h) = rw (cell_low w t h) tt
    go (node n h e) = rw e (N.table.cells n h)

module _ {w w' : List ℕ} {top : ℕ} (K : Kept w w' top) where
  -- Words that keep a table say what its words say.
  pub kept_shape : (t : ℕ) → t < first_node + top → shape_of w' t ≡ shape_of w t
  kept_shape t h = go (place top t h)
    where
      go : Place top t → shape_of w' t ≡ shape_of w t
      go (low p) = shape_low w w' t p
      go (node n p e) = rw (e, shape_at w' n, shape_at w n, K.at (4 * n) (omega arith), K.at (4 * n + 1) (omega arith), K.at (4 * n + 2) (omega arith))

  -- The same for lists.
  pub kept_cell : (t : ℕ) → t < first_node + top → cell_of w' t ≡ cell_of w t
  kept_cell t h = go (place top t h)
    where
      go : Place top t → cell_of w' t ≡ cell_of w t
      go (low p) = rw (cell_low w' t p, cell_low w t p)
      go (node n p e) = rw (e, cell_at w' n, cell_at w n, K.at (4 * n) (omega arith), K.at (4 * n + 1) (omega arith), K.at (4 * n + 2) (omega arith))

  module _ (ns : List ℕ) (T : Table w top) where
    -- What stands below top is read alike from words that keep it, with any fuel that is enough.
    fuel : (f g t : ℕ) → t < f → t < g → t < first_node + top → (tree_f f ns w' t ≡ tree_f g ns w t) × (list_f f ns w' t ≡ list_f g ns w t)
    unfolding tree_f
    fuel zero g t p q r = absurd (omega arith)
    fuel (suc f) zero t p q r = absurd (omega arith)
    fuel (suc f) (suc g) t p q r = (
      ap (of_shape ns (λ m. tree_f f ns w' m) (λ m. list_f f ns w' m)) (kept_shape t r)
          ∙ shape_ext ns _ _ _ _ t (shape_of w t) (shapes_below (record { table = T; below = r }))
          (λ m h. (fuel f g m (omega arith) (omega arith) (omega arith)).0) (λ m h. (fuel f g m (omega arith) (omega arith) (omega arith)).1),
      ap (of_cell (λ m. tree_f f ns w' m) (λ m. list_f f ns w' m)) (kept_cell t r)
          ∙ cell_ext _ _ _ _ t (cell_of w t) (cells_below (record { table = T; below = r }))
          (λ m h. (fuel f g m (omega arith) (omega arith) (omega arith)).0) (λ m h. (fuel f g m (omega arith) (omega arith) (omega arith)).1),
    )

-- A word of a table stands for the same type in words that keep the table.
pub kept_tree : {w w' : List ℕ} {top t : ℕ} (ns : List ℕ) → Kept w w' top → Node w top t → tree ns w' t ≡ tree ns w t
unfolding tree
kept_tree {t = t} ns K N = (fuel K ns N.table (suc t) (suc t) t (omega arith) (omega arith) N.below).0

-- And for the same list.
pub kept_list : {w w' : List ℕ} {top t : ℕ} (ns : List ℕ) → Kept w w' top → Node w top t → list ns w' t ≡ list ns w t
unfolding list
kept_list {t = t} ns K N = (fuel K ns N.table (suc t) (suc t) t (omega arith) (omega arith) N.below).1

-- Words that keep a table and are long enough have it.
pub kept_table : {w w' : List ℕ} {top : ℕ} → Kept w w' top → 4 * top ≤ length w' → Table w top → Table w' top
kept_table K h T = record {
  room = h;
  small = T.small;
  shapes = λ n k. rw (kept_shape K (first_node + n) (omega arith)) (T.shapes n k);
  cells = λ n k. rw (kept_cell K (first_node + n) (omega arith)) (T.cells n k);
}

-- A word of a table is one in words that keep the table and are long enough.
pub kept_node : {w w' : List ℕ} {top t : ℕ} → Kept w w' top → 4 * top ≤ length w' → Node w top t → Node w' top t
kept_node K h N = record { table = kept_table K h N.table; below = N.below }

-- A word of a table is a word of any table that is no smaller.
pub node_more : {w w' : List ℕ} {top top' t : ℕ} → Table w' top' → top ≤ top' → Node w top t → Node w' top' t
node_more T h N = let b = N.below in record { table = T; below = omega arith }

-- A word of a table may be read: this is what `shape_at` and `cell_at` require.
pub node_room : {w : List ℕ} {top t : ℕ} → Node w top t → 4 * t + 4 ≤ 4 * first_node + length w
node_room N = let a = N.table.room in let b = N.below in omega arith

-- Words keep what they have.
pub kept_refl : (w : List ℕ) (top : ℕ) → Kept w w top
kept_refl w top = record { at = λ i h. refl }

-- What is kept twice is kept.
pub kept_then : {w w₁ w₂ : List ℕ} {top top₁ : ℕ} → Kept w w₁ top → Kept w₁ w₂ top₁ → top ≤ top₁ → Kept w w₂ top
kept_then K L h = record { at = λ i l. L.at i (omega arith) ∙ K.at i l }

-- What is kept below a node is kept below one before it.
pub kept_less : {w w' : List ℕ} {top top' : ℕ} → Kept w w' top' → top ≤ top' → Kept w w' top
kept_less K h = record { at = λ i l. K.at i (omega arith) }

module _ {w : List ℕ} {top t : ℕ} (ns : List ℕ) (N : Node w top t) where
  -- A word's type, from what it says and its parts' types.
  tree_at : tree ns w t ≡ of_shape ns (tree ns w) (list ns w) (shape_of w t)
  unfolding tree list tree_f
  tree_at = let b = N.below in shape_ext ns _ _ _ _ t (shape_of w t) (shapes_below N)
      (λ m l. (fuel (kept_refl w top) ns N.table t (suc m) m l (omega arith) (omega arith)).0)
      (λ m l. (fuel (kept_refl w top) ns N.table t (suc m) m l (omega arith) (omega arith)).1)

  -- A word's list, from what it says and its parts.
  list_at : list ns w t ≡ of_cell (tree ns w) (list ns w) (cell_of w t)
  unfolding tree list tree_f
  list_at = let b = N.below in cell_ext _ _ _ _ t (cell_of w t) (cells_below N)
      (λ m l. (fuel (kept_refl w top) ns N.table t (suc m) m l (omega arith) (omega arith)).0)
      (λ m l. (fuel (kept_refl w top) ns N.table t (suc m) m l (omega arith) (omega arith)).1)

-- What a reader of a word learns: r is what `shape_at` returned, and the arm of the match says which shape it is.
module _ {w : List ℕ} {top t : ℕ} {r : Shape} (ns : List ℕ) (N : Node w top t) (e : r ≡ shape_of w t) where
  -- The type of a word, by its shape.
  pub tree_of : tree ns w t ≡ of_shape ns (tree ns w) (list ns w) r
  tree_of = rw e (tree_at ns N)

  -- A variable.
  pub tree_var : {x : ℕ} → r ≡ Var x → tree ns w t ≡ var (tyvar_of ns x)
  tree_var k = rw k at tree_of

  -- A constructor's name with its arguments.
  pub tree_con : {c l : ℕ} → r ≡ Con c l → tree ns w t ≡ con (name_of ns c) (list ns w l)
  tree_con k = rw k at tree_of

  -- An arrow of its two sides.
  pub tree_arrow : {a b : ℕ} → r ≡ Arrow a b → tree ns w t ≡ arrow (tree ns w a) (tree ns w b)
  tree_arrow k = rw k at tree_of

-- A word's parts lie below it, and are words of its table.
module _ {w : List ℕ} {top t : ℕ} {r : Shape} (N : Node w top t) (e : r ≡ shape_of w t) where
  -- All parts lie below.
  shape_below : ShapeBelow t r
  shape_below = rw e (shapes_below N)

  -- A variable is its own word.
  pub var_is : {x : ℕ} → r ≡ Var x → x ≡ t
  var_is k = var_word w t (sym e ∙ k)

  -- So it is a word of the table.
  pub var_node : {x : ℕ} → r ≡ Var x → Node w top x
  var_node k = rw (var_is k) N

  -- A constructor's arguments.
  pub con_child : {c l : ℕ} → r ≡ Con c l → (l < t) × Node w top l
  con_child k = let b = N.below in let h = rw k at shape_below in (h, record { table = N.table; below = omega arith })

  -- An arrow's left side.
  pub arrow_left : {a b : ℕ} → r ≡ Arrow a b → (a < t) × Node w top a
  arrow_left k = let b = N.below in let h = rw k at shape_below in (h.0, record { table = N.table; below = omega arith })

  -- An arrow's right side.
  pub arrow_right : {a b : ℕ} → r ≡ Arrow a b → (b < t) × Node w top b
  arrow_right k = let b = N.below in let h = rw k at shape_below in (h.1, record { table = N.table; below = omega arith })

-- What a reader of a list learns.
module _ {w : List ℕ} {top l : ℕ} {r : Cell} (ns : List ℕ) (N : Node w top l) (e : r ≡ cell_of w l) where
  -- The list of a word, by its cell.
  pub list_of : list ns w l ≡ of_cell (tree ns w) (list ns w) r
  list_of = rw e (list_at ns N)

  -- The empty list.
  pub list_nil : r ≡ Nil → list ns w l ≡ nil
  list_nil k = rw k at list_of

  -- A first type and the rest.
  pub list_cons : {a b : ℕ} → r ≡ Cons a b → list ns w l ≡ tree ns w a ◂ list ns w b
  list_cons k = rw k at list_of

-- A list's parts lie below it, and are words of its table.
module _ {w : List ℕ} {top l : ℕ} {r : Cell} (N : Node w top l) (e : r ≡ cell_of w l) where
  -- Both parts lie below.
  cell_below : CellBelow l r
  cell_below = rw e (cells_below N)

  -- The first type.
  pub cons_head : {a b : ℕ} → r ≡ Cons a b → (a < l) × Node w top a
  cons_head k = let b = N.below in let h = rw k at cell_below in (h.0, record { table = N.table; below = omega arith })

  -- The rest.
  pub cons_tail : {a b : ℕ} → r ≡ Cons a b → (b < l) × Node w top b
  cons_tail k = let b = N.below in let h = rw k at cell_below in (h.1, record { table = N.table; below = omega arith })

-- Any words are a table without nodes.
pub no_nodes : (w : List ℕ) → Table w 0
no_nodes w = record { room = omega arith; small = omega arith; shapes = λ n h. absurd (omega arith); cells = λ n h. absurd (omega arith) }

-- A word that names no node is a word of any table.
pub low_node : {w : List ℕ} {top t : ℕ} → Table w top → t < first_node → Node w top t
low_node T h = record { table = T; below = omega arith }

-- It stands for the same type over any words.
pub low_tree : (ns w w' : List ℕ) (t : ℕ) → t < first_node → tree ns w' t ≡ tree ns w t
low_tree ns w w' t h = kept_tree ns (record { at = λ i k. absurd (omega arith) }) (low_node (no_nodes w) h)

-- As a list it is empty.
pub low_list : (ns w : List ℕ) (t : ℕ) → t < first_node → list ns w t ≡ nil
low_list ns w t h = list_nil ns (low_node (no_nodes w) h) (sym (cell_low w t h)) refl

-- Below the constructors it is a variable.
pub low_var : (ns w : List ℕ) (t : ℕ) → t < first_nullary → tree ns w t ≡ var (tyvar_of ns t)
unfolding shape_of
low_var ns w t h = go (kind_low t (omega arith)) refl
  where
    go : {k : Kind} → Low t k → kind_of t ≡ k → tree ns w t ≡ var (tyvar_of ns t)
    go (variable p) e = tree_at ns (low_node (no_nodes w) (omega arith)) ∙ rw e
    go (made p q) e = tree_at ns (low_node (no_nodes w) (omega arith)) ∙ rw e
    go (constant p q) e = absurd (omega arith)

-- From there on it is a constructor without arguments.
pub low_con : (ns w : List ℕ) (i : ℕ) → i < first_nullary → tree ns w (first_nullary + i) ≡ con (name_of ns i) nil
unfolding shape_of
low_con ns w i h = go (kind_low (first_nullary + i) (omega arith)) refl
  where
    go : {k : Kind} → Low (first_nullary + i) k → kind_of (first_nullary + i) ≡ k → tree ns w (first_nullary + i) ≡ con (name_of ns i) nil
    go (variable p) e = absurd (omega arith)
    go (made p q) e = absurd (omega arith)
    go (constant p q) e =
        let s : first_nullary + i - first_nullary ≡ i = omega arith in
        tree_at ns (low_node (no_nodes w) (omega arith)) ∙ rw (e, s, low_list ns w nil_word (omega arith))
