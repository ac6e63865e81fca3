-- Laws of lists of binders: what a list stands for by its cell, and that it stands where its words do.
use Prim.Native.Nat.{ℕ, zero, suc, ◌+◌, ◌*◌, ◌-◌, ◌/◌, ◌%◌, ◌<◌}
use native.Mathlib.Omega.{arith}
use mathlib.Core.Path.{◌≡◌, refl, ◌∙◌}
use mathlib.Core.List.{List, [], ◌∷◌}
use Rattle.meaning.specs.Ast.{Ty, dvar, pred, Binder}
use Rattle.names.specs.Names.{first_node, name_of}
use Rattle.ast.specs.Table.{cell_of, tree, CellBelow, Table, Node, Kept}
use Rattle.ast.specs.declared.Cell.{Cell}
use Rattle.ast.specs.declared.Cell.TheVariants.{Nil, Cons}
use Rattle.ast.proofs.Ranges.{cell_low}
use Rattle.ast.proofs.Laws.{Place, low, node, place, cells_below, kept_cell, kept_tree, kept_refl}
use Rattle.cores.specs.Binders.{fourth_at, of_binders, binders_f, binders_of_word}

-- Two readings that agree below t agree on a cell that refers below t.
cell_ext : (ns : List ℕ) (x : ℕ) (ty ty' : ℕ → Ty) (bs bs' : ℕ → List Binder) (t : ℕ) (s : Cell) → CellBelow t s
    → ((m : ℕ) → m < t → ty m ≡ ty' m) → ((m : ℕ) → m < t → bs m ≡ bs' m) → of_binders ns x ty bs s ≡ of_binders ns x ty' bs' s
cell_ext ns x ty ty' bs bs' t Nil h p q = refl
cell_ext ns x ty ty' bs bs' t (Cons a b) h p q = rw (p a h.0, q b h.1)

module _ {w w' : List ℕ} {top : ℕ} (K : Kept w w' top) where
  -- The fourth word of a node that is kept.
  kept_fourth : (n : ℕ) → n < top → fourth_at w' (first_node + n) ≡ fourth_at w (first_node + n)
  unfolding fourth_at
  kept_fourth n h = let e : first_node + n - first_node ≡ n = omega arith in rw e (K.at (4 * n + 3) (omega arith))

  -- What a kept cell says does not change with its words.
  kept_says : (ns : List ℕ) (ty : ℕ → Ty) (bs : ℕ → List Binder) (t : ℕ) → t < first_node + top
      → of_binders ns (fourth_at w' t) ty bs (cell_of w' t) ≡ of_binders ns (fourth_at w t) ty bs (cell_of w t)
  kept_says ns ty bs t h = go (place top t h)
    where
      go : Place top t → of_binders ns (fourth_at w' t) ty bs (cell_of w' t) ≡ of_binders ns (fourth_at w t) ty bs (cell_of w t)
      go (low p) = rw (cell_low w' t p, cell_low w t p)
      go (node n p e) = rw (kept_cell K t h, e, kept_fourth n p)

  module _ (ns : List ℕ) (T : Table w top) where
    -- What stands below top is read alike from words that keep it, with any fuel that is enough.
    fuel : (f g t : ℕ) → t < f → t < g → t < first_node + top → binders_f f ns w' t ≡ binders_f g ns w t
    unfolding binders_f
    fuel zero g t p q r = absurd (omega arith)
    fuel (suc f) zero t p q r = absurd (omega arith)
    fuel (suc f) (suc g) t p q r =
        kept_says ns _ _ t r
        ∙ cell_ext _ _ _ _ _ _ t (cell_of w t) (cells_below (record { table = T; below = r }))
        (λ m h. kept_tree ns K (record { table = T; below = omega arith })) (λ m h. fuel f g m (omega arith) (omega arith) (omega arith))

-- A word of a table stands for the same binders in words that keep the table.
pub kept_binders : {w w' : List ℕ} {top t : ℕ} (ns : List ℕ) → Kept w w' top → Node w top t → binders_of_word ns w' t ≡ binders_of_word ns w t
unfolding binders_of_word
kept_binders {t = t} ns K N = fuel K ns N.table (suc t) (suc t) t (omega arith) (omega arith) N.below

-- What a reader of a list learns: r is what `cell_at` returned, and the arm of the match says which cell it is.
module _ {w : List ℕ} {top l : ℕ} {r : Cell} (ns : List ℕ) (N : Node w top l) (e : r ≡ cell_of w l) where
  -- The binders of a word, by its cell.
  binders_of : binders_of_word ns w l ≡ of_binders ns (fourth_at w l) (tree ns w) (binders_of_word ns w) r
  unfolding binders_of_word binders_f
  binders_of = rw e (let b = N.below in cell_ext _ _ _ _ _ _ l (cell_of w l) (cells_below N) (λ m h. refl)
      (λ m h. fuel (kept_refl w top) ns N.table l (suc m) m h (omega arith) (omega arith)))

  -- No binders.
  pub binders_nil : r ≡ Nil → binders_of_word ns w l ≡ []
  binders_nil k = rw k at binders_of

  -- A first binder and the rest.
  pub binders_cons : {a b : ℕ} → r ≡ Cons a b → binders_of_word ns w l ≡ (dvar (fourth_at w l / 65536), pred (name_of ns (fourth_at w l % 65536)) (tree ns w a)) ∷ binders_of_word ns w b
  binders_cons k = rw k at binders_of
