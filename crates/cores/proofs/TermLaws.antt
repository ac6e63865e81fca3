-- Laws of core terms: what a word stands for by what it says and what its parts stand for, and that it stands where its
-- words do.
use Prim.Native.Nat.{ℕ, zero, suc, ◌+◌, ◌*◌, ◌-◌, ◌/◌, ◌%◌, ◌<◌}
use native.Mathlib.Omega.{arith}
use mathlib.Core.Path.{◌≡◌, refl, ap, ◌∙◌}
use mathlib.Core.List.{List, ◌++◌}
use borrow.Author.Tests.{ne_eqb, le-ltb}
use Rattle.meaning.specs.Ast.{Ty, dvar, ctx, Binder, Core, Cores, cdict, cnil, ◌◃◌}
use Rattle.names.specs.Names.{first_fresh, first_nullary, first_node, name_of}
use Rattle.names.proofs.Where.{is_fresh, is_nullary}
use Rattle.ast.specs.Table.{cell_of, tree, CellBelow, Table, Node, Kept}
use Rattle.ast.specs.declared.Cell.{Cell}
use Rattle.ast.specs.declared.Cell.TheVariants.{Nil, Cons}
use Rattle.ast.proofs.Laws.{cells_below, kept_cell, kept_tree, kept_refl, no_nodes, low_node}
use Rattle.ast.proofs.Join.{append_kept}
use Rattle.cores.specs.declared.Part.{Part}
use Rattle.cores.specs.declared.Part.TheVariants.{Var, Dict, Context, Own, Bool, Int, Abs, App, Let, DictAbs, DictApp, Method, Super, Rec}
use Rattle.cores.specs.Parts.{constant_part, part_of, PartBelow}
use Rattle.cores.specs.Binders.{binders_of_word}
use Rattle.cores.specs.Terms.{of_part, of_cores, core_f, cores_f, core, cores}
use Rattle.cores.proofs.Parted.{parts_below, kept_part}
use Rattle.cores.proofs.BinderLaws.{kept_binders}

-- Two readings that agree below t agree on a part that refers below t.
part_ext : (ns : List ℕ) (ty ty' : ℕ → Ty) (bs bs' : ℕ → List Binder) (e e' : ℕ → Core) (es es' : ℕ → Cores) (t : ℕ) (p : Part) → PartBelow t p
    → ((m : ℕ) → m < t → ty m ≡ ty' m) → ((m : ℕ) → m < t → bs m ≡ bs' m) → ((m : ℕ) → m < t → e m ≡ e' m) → ((m : ℕ) → m < t → es m ≡ es' m)
    → of_part ns ty bs e es p ≡ of_part ns ty' bs' e' es' p
part_ext ns ty ty' bs bs' e e' es es' t (Var x) h i j k l = refl
part_ext ns ty ty' bs bs' e e' es es' t (Dict n) h i j k l = refl
part_ext ns ty ty' bs bs' e e' es es' t (Context c n) h i j k l = refl
part_ext ns ty ty' bs bs' e e' es es' t Own h i j k l = refl
part_ext ns ty ty' bs bs' e e' es es' t (Bool b) h i j k l = refl
part_ext ns ty ty' bs bs' e e' es es' t (Int v) h i j k l = refl
part_ext ns ty ty' bs bs' e e' es es' t (Abs x b) h i j k l = rw (k b h)
part_ext ns ty ty' bs bs' e e' es es' t (App f a) h i j k l = rw (k f h.0, k a h.1)
part_ext ns ty ty' bs bs' e e' es es' t (Let x a b) h i j k l = rw (k a h.0, k b h.1)
part_ext ns ty ty' bs bs' e e' es es' t (DictAbs m b) h i j k l = rw (j m h.0, k b h.1)
part_ext ns ty ty' bs bs' e e' es es' t (DictApp f m) h i j k l = rw (k f h.0, l m h.1)
part_ext ns ty ty' bs bs' e e' es es' t (Method a m) h i j k l = rw (k a h)
part_ext ns ty ty' bs bs' e e' es es' t (Super a c s) h i j k l = rw (k a h)
part_ext ns ty ty' bs bs' e e' es es' t (Rec c u n) h i j k l = rw (i u h)

-- The same for lists.
cell_ext : (e e' : ℕ → Core) (es es' : ℕ → Cores) (t : ℕ) (s : Cell) → CellBelow t s
    → ((m : ℕ) → m < t → e m ≡ e' m) → ((m : ℕ) → m < t → es m ≡ es' m) → of_cores e es s ≡ of_cores e' es' s
cell_ext e e' es es' t Nil h p q = refl
cell_ext e e' es es' t (Cons a b) h p q = rw (p a h.0, q b h.1)

module _ {w w' : List ℕ} {top : ℕ} (K : Kept w w' top) (ns : List ℕ) (T : Table w top) where
  -- What stands below top is read alike from words that keep it, with any fuel that is enough.
  fuel : (f g t : ℕ) → t < f → t < g → t < first_node + top → (core_f f ns w' t ≡ core_f g ns w t) × (cores_f f ns w' t ≡ cores_f g ns w t)
  unfolding core_f
  fuel zero g t p q r = absurd (omega arith)
  fuel (suc f) zero t p q r = absurd (omega arith)
  fuel (suc f) (suc g) t p q r = (
    ap (of_part ns (tree ns w') (binders_of_word ns w') (λ m. core_f f ns w' m) (λ m. cores_f f ns w' m)) (kept_part K t r)
        ∙ part_ext ns _ _ _ _ _ _ _ _ t (part_of w t) (parts_below w t)
        (λ m h. kept_tree ns K (record { table = T; below = omega arith })) (λ m h. kept_binders ns K (record { table = T; below = omega arith }))
        (λ m h. (fuel f g m (omega arith) (omega arith) (omega arith)).0) (λ m h. (fuel f g m (omega arith) (omega arith) (omega arith)).1),
    ap (of_cores (λ m. core_f f ns w' m) (λ m. cores_f f ns w' m)) (kept_cell K t r)
        ∙ cell_ext _ _ _ _ t (cell_of w t) (cells_below (record { table = T; below = r }))
        (λ m h. (fuel f g m (omega arith) (omega arith) (omega arith)).0) (λ m h. (fuel f g m (omega arith) (omega arith) (omega arith)).1),
  )

-- A word of a table stands for the same term in words that keep the table.
pub kept_core : {w w' : List ℕ} {top t : ℕ} (ns : List ℕ) → Kept w w' top → Node w top t → core ns w' t ≡ core ns w t
unfolding core
kept_core {t = t} ns K N = (fuel K ns N.table (suc t) (suc t) t (omega arith) (omega arith) N.below).0

-- And for the same list of terms.
pub kept_cores : {w w' : List ℕ} {top t : ℕ} (ns : List ℕ) → Kept w w' top → Node w top t → cores ns w' t ≡ cores ns w t
unfolding cores
kept_cores {t = t} ns K N = (fuel K ns N.table (suc t) (suc t) t (omega arith) (omega arith) N.below).1

-- What a reader of a word learns: r is what `part_at` returned.
pub core_of : {w : List ℕ} {top t : ℕ} {r : Part} (ns : List ℕ) → Node w top t → r ≡ part_of w t → core ns w t ≡ of_part ns (tree ns w) (binders_of_word ns w) (core ns w) (cores ns w) r
unfolding core cores core_f
core_of {w} {top} {t} ns N e = rw e (let b = N.below in part_ext ns _ _ _ _ _ _ _ _ t (part_of w t) (parts_below w t) (λ m h. refl) (λ m h. refl)
    (λ m l. (fuel (kept_refl w top) ns N.table t (suc m) m l (omega arith) (omega arith)).0)
    (λ m l. (fuel (kept_refl w top) ns N.table t (suc m) m l (omega arith) (omega arith)).1))

-- What a reader of a list learns: r is what `cell_at` returned, and the arm of the match says which cell it is.
module _ {w : List ℕ} {top l : ℕ} {r : Cell} (ns : List ℕ) (N : Node w top l) (e : r ≡ cell_of w l) where
  -- The terms of a word, by its cell.
  cores_of : cores ns w l ≡ of_cores (core ns w) (cores ns w) r
  unfolding core cores core_f
  cores_of = rw e (let b = N.below in cell_ext _ _ _ _ l (cell_of w l) (cells_below N)
      (λ m h. (fuel (kept_refl w top) ns N.table l (suc m) m h (omega arith) (omega arith)).0)
      (λ m h. (fuel (kept_refl w top) ns N.table l (suc m) m h (omega arith) (omega arith)).1))

  -- No terms.
  pub cores_nil : r ≡ Nil → cores ns w l ≡ cnil
  cores_nil k = rw k at cores_of

  -- A first term and the rest.
  pub cores_cons : {a b : ℕ} → r ≡ Cons a b → cores ns w l ≡ core ns w a ◃ cores ns w b
  cores_cons k = rw k at cores_of

-- A word of a closed table stands for the same term under whatever follows it.
pub append-core : {a : List ℕ} {top t : ℕ} (ns b : List ℕ) → Node a top t → core ns (a ++ b) t ≡ core ns a t
append-core ns b N = kept_core ns (append_kept b N.table) N

-- The word of a dictionary's name.
pub dict_core : (ns w : List ℕ) (n : ℕ) → n < first_fresh → core ns w (first_fresh + n) ≡ cdict (dvar n)
unfolding part_of
dict_core ns w n h =
    let z : first_fresh + n - first_fresh ≡ n = omega arith in
    let k = is_fresh (first_fresh + n) (omega arith) (omega arith) in
    core_of ns (low_node (no_nodes w) (omega arith)) refl ∙ rw (k, z)

-- 64 * (c + 1) + i gives c and i back.
apart : (c i : ℕ) → i < 64 → ((64 * (c + 1) + i) / 64 - 1 ≡ c) × ((64 * (c + 1) + i) % 64 ≡ i)
apart c i h = (omega arith, omega arith)

-- The word of the i-th context of a class.
pub context_core : (ns w : List ℕ) (c i : ℕ) → i < 64 → 64 * (c + 1) + i < first_nullary → core ns w (first_nullary + (64 * (c + 1) + i)) ≡ cdict (ctx (name_of ns c) i)
unfolding part_of constant_part
context_core ns w c i h s =
    let o = 64 * (c + 1) + i in
    let z : first_nullary + o - first_nullary ≡ o = omega arith in
    let k = is_nullary (first_nullary + o) (omega arith) (omega arith) (omega arith) in
    core_of ns (low_node (no_nodes w) (omega arith)) refl ∙ rw (k, z, ne_eqb o 0 (omega arith), ne_eqb o 1 (omega arith), le-ltb o 64 (omega arith), (apart c i h).0, (apart c i h).1)
