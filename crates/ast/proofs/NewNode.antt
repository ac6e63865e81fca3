-- Laws of a new node: what is pushed is read back, and all below it stands.
use Prim.Native.Nat.{ℕ, ◌+◌, ◌*◌, ◌<◌, ◌≤◌}
use native.Mathlib.Omega.{arith}
use native.Mathlib.Nat.{eq-or-lt_of_le}
use mathlib.Core.Path.{◌≡◌, refl, ap, sym, ◌∙◌}
use mathlib.Core.Logic.{◌⊎◌, ⊎_elim}
use mathlib.Core.List.{List}
use lib.ListN.{length, get_or, set, length-set}
use lib.Seq.{get_or-set_same, get_or-set_other}
use Rattle.meaning.specs.Ast.{con, arrow, ◌◂◌}
use Rattle.names.specs.Names.{first_node, name_of}
use Rattle.ast.specs.Table.{shape, cell, shape_of, cell_of, tree, list, ShapeBelow, CellBelow, Table, Node, Kept, pushed}
use Rattle.ast.proofs.Laws.{shape_at, cell_at, node_more, kept_shape, kept_cell, kept_tree, kept_list, tree_con, tree_arrow, list_cons}

module _ (w : List ℕ) (top tag a b : ℕ) where
  -- Pushing changes no length.
  pub length-pushed : length (pushed w top tag a b) ≡ length w
  unfolding pushed
  length-pushed = simp length-set

  -- The words after the first store, and after the second.
  abbrev one : List ℕ
  one = set w (4 * top) tag

  abbrev two : List ℕ
  two = set one (4 * top + 1) a

  -- Words below the new node stand.
  pushed_below : (i : ℕ) → i < 4 * top → get_or (pushed w top tag a b) i 0 ≡ get_or w i 0
  unfolding pushed
  pushed_below i h = get_or-set_other two (4 * top + 2) i b 0 (omega arith) ∙ get_or-set_other one (4 * top + 1) i a 0 (omega arith) ∙ get_or-set_other w (4 * top) i tag 0 (omega arith)

  -- All below the new node stands.
  pub pushed_kept : Kept w (pushed w top tag a b) top
  pushed_kept = record { at = pushed_below }

  module _ (room : 4 * top + 4 ≤ length w) where
    -- The new node's tag.
    pub pushed-0 : get_or (pushed w top tag a b) (4 * top) 0 ≡ tag
    unfolding pushed
    pushed-0 = get_or-set_other two (4 * top + 2) (4 * top) b 0 (omega arith) ∙ get_or-set_other one (4 * top + 1) (4 * top) a 0 (omega arith) ∙ get_or-set_same w (4 * top) tag 0 (omega arith)

    -- Its first field.
    pub pushed-1 : get_or (pushed w top tag a b) (4 * top + 1) 0 ≡ a
    unfolding pushed
    pushed-1 = get_or-set_other two (4 * top + 2) (4 * top + 1) b 0 (omega arith) ∙ get_or-set_same one (4 * top + 1) a 0 (simp length-set (omega arith))

    -- Its second field.
    pub pushed-2 : get_or (pushed w top tag a b) (4 * top + 2) 0 ≡ b
    unfolding pushed
    pushed-2 = get_or-set_same two (4 * top + 2) b 0 (simp length-set (omega arith))

    -- The new node's shape.
    pub pushed-shape : shape_of (pushed w top tag a b) (first_node + top) ≡ shape (first_node + top) tag a b
    pushed-shape = shape_at (pushed w top tag a b) top ∙ rw (pushed-0, pushed-1, pushed-2)

    -- Its cell.
    pub pushed-cell : cell_of (pushed w top tag a b) (first_node + top) ≡ cell tag a b
    pushed-cell = cell_at (pushed w top tag a b) top ∙ rw (pushed-0, pushed-1, pushed-2)

    module _ (T : Table w top) (small : top < first_node)
        (hs : ShapeBelow (first_node + top) (shape (first_node + top) tag a b)) (hc : CellBelow (first_node + top) (cell tag a b)) where
      -- A node is the new one or an old one.
      here_or_below : (n : ℕ) → n < top + 1 → (n ≡ top) ⊎ (n < top)
      here_or_below n h = let k : n ≤ top = omega arith in eq-or-lt_of_le k

      -- Each shape refers below.
      shapes : (n : ℕ) → n < top + 1 → ShapeBelow (first_node + n) (shape_of (pushed w top tag a b) (first_node + n))
      shapes n h = ⊎_elim (λ (k : n ≡ top). rw (k, pushed-shape) hs) (λ (k : n < top). rw (kept_shape pushed_kept (first_node + n) (omega arith)) (T.shapes n k)) (here_or_below n h)

      -- Each cell refers below.
      cells : (n : ℕ) → n < top + 1 → CellBelow (first_node + n) (cell_of (pushed w top tag a b) (first_node + n))
      cells n h = ⊎_elim (λ (k : n ≡ top). rw (k, pushed-cell) hc) (λ (k : n < top). rw (kept_cell pushed_kept (first_node + n) (omega arith)) (T.cells n k)) (here_or_below n h)

      -- The new node is one of a table that is one larger.
      pub pushed_node : Node (pushed w top tag a b) (top + 1) (first_node + top)
      pushed_node = record { table = record { room = rw length-pushed (omega arith); small = omega arith; shapes = shapes; cells = cells }; below = omega arith }

-- w' is w with one more node, which `read` tells to be u.
pub record Pushed {A : Type 0} (read : ℕ → A) (w w' : List ℕ) (top : ℕ) (u : A) : Type 0 where
  pub long : length w' ≡ length w
  pub kept : Kept w w' top
  pub node : Node w' (top + 1) (first_node + top)
  pub is : read (first_node + top) ≡ u

-- A word of the old table is one of the new.
pub pushed_old : {A : Type 0} {read : ℕ → A} {w w' : List ℕ} {top t : ℕ} {u : A} → Pushed read w w' top u → Node w top t → Node w' (top + 1) t
pushed_old P N = node_more P.node.table (omega arith) N

-- What `push` makes of a tag and two fields, w' being the words after it.
module _ {w w' : List ℕ} {top : ℕ} (ns : List ℕ) (room : 4 * top + 4 ≤ length w) (small : top < first_node) where
  -- A constructor's name and the list of its arguments.
  pub push_con : {l : ℕ} (c : ℕ) → Node w top l → w' ≡ pushed w top 1 c l → Pushed (tree ns w') w w' top (con (name_of ns c) (list ns w l))
  push_con {l} c L e =
      let K = pushed_kept w top 1 c l in
      let N = pushed_node w top 1 c l room L.table small L.below tt in
      rw e (record {
        long = length-pushed w top 1 c l;
        kept = K;
        node = N;
        is = tree_con ns N (sym (pushed-shape w top 1 c l room)) refl ∙ ap (con (name_of ns c)) (kept_list ns K L);
      })

  module _ {a b : ℕ} (A : Node w top a) (B : Node w top b) where
    -- An arrow.
    pub push_arrow : w' ≡ pushed w top 2 a b → Pushed (tree ns w') w w' top (arrow (tree ns w a) (tree ns w b))
    push_arrow e =
        let K = pushed_kept w top 2 a b in
        let N = pushed_node w top 2 a b room A.table small (A.below, B.below) tt in
        rw e (record {
          long = length-pushed w top 2 a b;
          kept = K;
          node = N;
          is = tree_arrow ns N (sym (pushed-shape w top 2 a b room)) refl ∙ cc (kept_tree ns K A, kept_tree ns K B);
        })

    -- A first type and the rest of a list.
    pub push_cons : w' ≡ pushed w top 3 a b → Pushed (list ns w') w w' top (tree ns w a ◂ list ns w b)
    push_cons e =
        let K = pushed_kept w top 3 a b in
        let N = pushed_node w top 3 a b room A.table small tt (A.below, B.below) in
        rw e (record {
          long = length-pushed w top 3 a b;
          kept = K;
          node = N;
          is = list_cons ns N (sym (pushed-cell w top 3 a b room)) refl ∙ cc (kept_tree ns K A, kept_list ns K B);
        })
