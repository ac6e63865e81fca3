-- Laws of lists of predicates: what a list stands for by its cell, that it stands where its words do, and a new cell.
use Prim.Native.Nat.{ℕ, zero, suc, ◌+◌, ◌*◌, ◌-◌, ◌<◌, ◌≤◌}
use native.Mathlib.Omega.{arith}
use mathlib.Core.Path.{◌≡◌, refl, ap, sym, ◌∙◌}
use mathlib.Core.List.{List, [], ◌∷◌, ◌++◌}
use lib.ListN.{length, set}
use lib.Seq.{get_or-set_same, get_or-set_other}
use Rattle.meaning.specs.Ast.{Name, Ty, Tys, TyVar, nil, ◌◂◌, Pred, pred}
use Rattle.meaning.specs.Subst.{ftv_type, ftv_types, ftv_preds}
use Rattle.names.specs.Names.{first_node, name_of}
use Rattle.ast.specs.Table.{cell_of, tree, list, CellBelow, Table, Node, Kept, pushed}
use Rattle.ast.specs.declared.Cell.{Cell}
use Rattle.ast.specs.declared.Cell.TheVariants.{Nil, Cons}
use Rattle.ast.proofs.Ranges.{cell_low}
use Rattle.ast.proofs.Laws.{Place, low, node, place, cells_below, kept_cell, kept_tree, kept_refl, kept_then, kept_node, no_nodes, low_node, list_nil, list_cons, cons_tail}
use Rattle.ast.proofs.Join.{append_kept}
use Rattle.ast.proofs.NewNode.{Pushed, push_cons, pushed-cell}
use Rattle.pairs.specs.Pairs.{Stands}
use Rattle.pairs.proofs.Frames.{stands_then, pushed_stands, put_length, put_stands}
use Rattle.subst.specs.Preds.{class_at, of_preds, preds_f, preds_of_word, pushed_pred}

-- Two readings that agree below t agree on a cell that refers below t.
cell_ext : (c : Name) (ty ty' : ℕ → Ty) (ps ps' : ℕ → List Pred) (t : ℕ) (s : Cell) → CellBelow t s
    → ((m : ℕ) → m < t → ty m ≡ ty' m) → ((m : ℕ) → m < t → ps m ≡ ps' m) → of_preds c ty ps s ≡ of_preds c ty' ps' s
cell_ext c ty ty' ps ps' t Nil h p q = refl
cell_ext c ty ty' ps ps' t (Cons a b) h p q = rw (p a h.0, q b h.1)

module _ {w w' : List ℕ} {top : ℕ} (K : Kept w w' top) where
  -- The class of a node that is kept.
  kept_class : (n : ℕ) → n < top → class_at w' (first_node + n) ≡ class_at w (first_node + n)
  unfolding class_at
  kept_class n h = let e : first_node + n - first_node ≡ n = omega arith in rw e (K.at (4 * n + 3) (omega arith))

  -- What a kept cell says does not change with its words.
  kept_says : (ns : List ℕ) (ty : ℕ → Ty) (ps : ℕ → List Pred) (t : ℕ) → t < first_node + top
      → of_preds (name_of ns (class_at w' t)) ty ps (cell_of w' t) ≡ of_preds (name_of ns (class_at w t)) ty ps (cell_of w t)
  kept_says ns ty ps t h = go (place top t h)
    where
      go : Place top t → of_preds (name_of ns (class_at w' t)) ty ps (cell_of w' t) ≡ of_preds (name_of ns (class_at w t)) ty ps (cell_of w t)
      go (low p) = rw (cell_low w' t p, cell_low w t p)
      go (node n p e) = rw (kept_cell K t h, e, kept_class n p)

  module _ (ns : List ℕ) (T : Table w top) where
    -- What stands below top is read alike from words that keep it, with any fuel that is enough.
    fuel : (f g t : ℕ) → t < f → t < g → t < first_node + top → preds_f f ns w' t ≡ preds_f g ns w t
    unfolding preds_f
    fuel zero g t p q r = absurd (omega arith)
    fuel (suc f) zero t p q r = absurd (omega arith)
    fuel (suc f) (suc g) t p q r =
        kept_says ns _ _ t r
        ∙ cell_ext _ _ _ _ _ t (cell_of w t) (cells_below (record { table = T; below = r }))
        (λ m h. kept_tree ns K (record { table = T; below = omega arith })) (λ m h. fuel f g m (omega arith) (omega arith) (omega arith))

-- A word of a table stands for the same predicates in words that keep the table.
pub kept_preds : {w w' : List ℕ} {top t : ℕ} (ns : List ℕ) → Kept w w' top → Node w top t → preds_of_word ns w' t ≡ preds_of_word ns w t
unfolding preds_of_word
kept_preds {t = t} ns K N = fuel K ns N.table (suc t) (suc t) t (omega arith) (omega arith) N.below

-- What a reader of a list learns: r is what `cell_at` returned, and the arm of the match says which cell it is.
module _ {w : List ℕ} {top l : ℕ} {r : Cell} (ns : List ℕ) (N : Node w top l) (e : r ≡ cell_of w l) where
  -- The predicates of a word, by its cell.
  pub preds_of : preds_of_word ns w l ≡ of_preds (name_of ns (class_at w l)) (tree ns w) (preds_of_word ns w) r
  unfolding preds_of_word preds_f
  preds_of = rw e (let b = N.below in cell_ext _ _ _ _ _ l (cell_of w l) (cells_below N) (λ m h. refl)
      (λ m h. fuel (kept_refl w top) ns N.table l (suc m) m h (omega arith) (omega arith)))

  -- No predicates.
  pub preds_nil : r ≡ Nil → preds_of_word ns w l ≡ []
  preds_nil k = rw k at preds_of

  -- A first predicate and the rest.
  pub preds_cons : {a b : ℕ} → r ≡ Cons a b → preds_of_word ns w l ≡ pred (name_of ns (class_at w l)) (tree ns w a) ∷ preds_of_word ns w b
  preds_cons k = rw k at preds_of

-- No predicates and no types have no variables.
no_types : (out : List TyVar) → ftv_preds [] out ≡ ftv_types nil out
unfolding ftv_preds ftv_type
no_types out = refl

-- A first one, and the rest.
one_type : (c : Name) (a : Ty) (ps : List Pred) (ts : Tys) (out : List TyVar) → ftv_preds ps (ftv_type a out) ≡ ftv_types ts (ftv_type a out) → ftv_preds (pred c a ∷ ps) out ≡ ftv_types (a ◂ ts) out
unfolding ftv_preds ftv_type
one_type c a ps ts out e = e

-- The free variables of predicates are those of the types of their cells.
pub preds_types : {w : List ℕ} {top : ℕ} (ns : List ℕ) (f l : ℕ) (out : List TyVar) → l < f → Node w top l → ftv_preds (preds_of_word ns w l) out ≡ ftv_types (list ns w l) out
preds_types ns zero l out h N = absurd (omega arith)
preds_types {w} {top} ns (suc f) l out h N = go (cell_of w l) refl (λ b out' k M. preds_types ns f b out' k M)
  where
    go : (c : Cell) → c ≡ cell_of w l → ((b : ℕ) (out' : List TyVar) → b < f → Node w top b → ftv_preds (preds_of_word ns w b) out' ≡ ftv_types (list ns w b) out')
        → ftv_preds (preds_of_word ns w l) out ≡ ftv_types (list ns w l) out
    go Nil e ih = rw (preds_nil ns N e refl, list_nil ns N e refl) (no_types out)
    go (Cons a b) e ih = let t = cons_tail N e refl in let k = t.0 in
        rw (preds_cons ns N e refl, list_cons ns N e refl) (one_type _ (tree ns w a) (preds_of_word ns w b) (list ns w b) out (ih b (ftv_type (tree ns w a) out) (omega arith) t.1))

-- A word that names no node is no predicates, over any words.
pub low_preds : (ns w : List ℕ) (t : ℕ) → t < first_node → preds_of_word ns w t ≡ []
low_preds ns w t h = preds_nil ns (low_node (no_nodes w) h) (sym (cell_low w t h)) refl

-- A word of a closed table stands for the same predicates under whatever follows it.
pub append_preds : {a : List ℕ} {top t : ℕ} (ns b : List ℕ) → Node a top t → preds_of_word ns (a ++ b) t ≡ preds_of_word ns a t
append_preds ns b N = kept_preds ns (append_kept b N.table) N

-- What `push_pred` makes of a class, a type and the rest of a list, w' being the words after it.
module _ {w' : List ℕ} (w : List ℕ) (top c a b : ℕ) (room : 4 * top + 4 ≤ length w) (e : w' ≡ pushed_pred w top c a b) where
  -- All older words stand, and those above the node.
  pub pred_stands : (hi : ℕ) → 4 * top + 4 ≤ hi → Stands w w' top hi
  unfolding pushed_pred
  pred_stands hi h = stands_then (put_stands w (4 * top + 3) c refl top hi (omega arith) (omega arith)) (pushed_stands top 3 a b hi h e) (omega arith)

  -- The new cell's class.
  new_class : class_at w' (first_node + top) ≡ c
  unfolding class_at pushed_pred pushed
  new_class =
      let z : first_node + top - first_node ≡ top = omega arith in
      let one = set w (4 * top + 3) c in
      rw (z, e) (get_or-set_other (set (set one (4 * top) 3) (4 * top + 1) a) (4 * top + 2) (4 * top + 3) b 0 (omega arith)
      ∙ get_or-set_other (set one (4 * top) 3) (4 * top + 1) (4 * top + 3) a 0 (omega arith)
      ∙ get_or-set_other one (4 * top) (4 * top + 3) 3 0 (omega arith) ∙ get_or-set_same w (4 * top + 3) c 0 (omega arith))

  -- The new cell is the predicate before the others.
  pub push_preds : (ns : List ℕ) → top < first_node → Node w top a → Node w top b → Pushed (preds_of_word ns w') w w' top (pred (name_of ns c) (tree ns w a) ∷ preds_of_word ns w b)
  unfolding pushed_pred
  push_preds ns small A B =
      let l = put_length w (4 * top + 3) c refl in
      let K = (put_stands w (4 * top + 3) c refl top (4 * top + 4) (omega arith) (omega arith)).low in
      let t = A.table.room in
      let P = push_cons ns (omega arith) small (kept_node K (omega arith) A) (kept_node K (omega arith) B) e in
      let L = kept_then K P.kept (omega arith) in
      record {
        long = P.long ∙ l;
        kept = L;
        node = P.node;
        is = preds_cons ns P.node (sym (ap (λ v. cell_of v (first_node + top)) e ∙ pushed-cell (set w (4 * top + 3) c) top 3 a b (omega arith))) refl
            ∙ rw (new_class, kept_tree ns L A, kept_preds ns L B);
      }
