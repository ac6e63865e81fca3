-- Laws of givens: the first of a list by its cell, the first of the rows, and that givens stand where their words do.
use mathlib.Core.Path.{◌≡◌, refl, ap}
use mathlib.Core.List.{List, []}
use Rattle.std.specs.Prelude.{Option, Some, None}
use Prim.Native.Nat.{ℕ, suc, ◌+◌, ◌*◌, ◌-◌, ◌/◌, ◌%◌, ◌^◌, ◌<◌, ◌≤◌}
use native.Mathlib.Omega.{arith}
use lib.ListN.{length}
use Rattle.meaning.specs.Base.{count}
use Rattle.meaning.specs.Reduce.{not_root}
use Rattle.meaning.specs.Declare.{context_binders}
use Rattle.names.specs.Names.{first_fresh, first_nullary}
use Rattle.ast.specs.Table.{cell_of, Node, Kept}
use Rattle.ast.specs.declared.Cell.{Cell}
use Rattle.ast.specs.declared.Cell.TheVariants.{Nil, Cons}
use Rattle.ast.proofs.Laws.{kept_node, cons_head, cons_tail}
use Rattle.subst.specs.Preds.{class_at, preds_of_word}
use Rattle.subst.proofs.PredLaws.{preds_nil, preds_cons, kept_preds}
use Rattle.cores.specs.Binders.{fourth_at}
use Rattle.cores.proofs.BinderLaws.{binders_nil, binders_cons, kept_binders}
use Rattle.cores.proofs.TermLaws.{dict_core, context_core}
use Rattle.supers.specs.declared.Root.{Root}
use Rattle.supers.specs.declared.Root.TheVariants.{Context, Binder}
use Rattle.supers.specs.declared.Source.{Source}
use Rattle.supers.specs.declared.Source.TheVariants.{Listed, Rows}
use Rattle.supers.specs.declared.Given.{Given}
use Rattle.supers.specs.Rows.{Binders, NextIs, NextAs, NextRow}
use Rattle.supers.specs.Givens.{givens_of, givens_in, ahead, Few, GivensReady, First, GivenAs, GivenAt, ListedAt}
use Rattle.supers.specs.Search.{ReadyIn, ReadySearch}
use Rattle.supers.proofs.RowLaws.{kept_rows, kept_binders_in, row_pending}

-- Words that keep a table have the givens of its lists.
pub kept_list : {w w' : List ℕ} {top l : ℕ} (ns : List ℕ) (root : Root) (i : ℕ) → Kept w w' top → Node w top l → givens_of ns w' root i l ≡ givens_of ns w root i l
kept_list ns (Context h) i K N = rw (kept_preds ns K N)
kept_list ns Binder i K N = rw (kept_binders ns K N)

-- And as few.
pub kept_few : {w w' : List ℕ} {top l : ℕ} (ns : List ℕ) (root : Root) (i : ℕ) → Kept w w' top → Node w top l → Few ns w root i l → Few ns w' root i l
kept_few ns (Context h) i K N f = rw (kept_preds ns K N) f
kept_few ns Binder i K N f = tt

-- They have the givens of any source.
pub kept_givens : {w w' : List ℕ} {top : ℕ} (ns bs : List ℕ) (src : Source) (i l : ℕ) → Kept w w' top → GivensReady ns w bs top src i l → givens_in ns w' bs src i l ≡ givens_in ns w bs src i l
kept_givens ns bs (Listed root) i l K R = kept_list ns root i K R.0
kept_givens ns bs (Rows n) i l K R = rw (kept_rows ns bs K l (n - l) (λ j p q. R.types j (omega arith)))

-- And these are there.
pub kept_ready : {w w' : List ℕ} {top : ℕ} (ns bs : List ℕ) (src : Source) (i l : ℕ) → Kept w w' top → 4 * top ≤ length w' → GivensReady ns w bs top src i l → GivensReady ns w' bs top src i l
kept_ready ns bs (Listed root) i l K h R = (kept_node K h R.0, kept_few ns root i K R.0 R.1)
kept_ready ns bs (Rows n) i l K h R = kept_binders_in K h R

-- No source has more ahead than a word can count.
pub ahead_small : {ns w bs : List ℕ} {top left sp i l t : ℕ} {src : Source} → ReadyIn ns w bs top left sp src i l t → length bs < 2 ^ 64 → ahead src l < 2 ^ 64
ahead_small {ns} {w} {bs} {top} {i = i} {l = l} {src = src} R h = go src R.givens
  where
    go : (src : Source) → GivensReady ns w bs top src i l → ahead src l < 2 ^ 64
    go (Listed root) G = let b = G.0.below in let s = G.0.table.small in omega arith
    go (Rows n) G = let f = G.rows.fits in omega arith

-- A list is such a source.
pub listed : {ns w : List ℕ} {top left sp i l t : ℕ} {root : Root} (bs : List ℕ) → ReadySearch ns w top left sp root i l t → ReadyIn ns w bs top left sp (Listed root) i l t
listed bs R = record { names = R.names; givens = (R.givens, R.few); ty = R.ty; room = R.room; fits = R.fits }

-- The first of the rows.
pub first_row : {w : List ℕ} {top j e c u rest : ℕ} (ns bs : List ℕ) (n i : ℕ) → Binders w bs top n → NextIs bs j n e c u rest → First ns w bs top (Rows n) i j e c u rest
unfolding not_root
first_row {w} {top} {j} {e} {c} {u} {rest} ns bs n i B N =
    let a = N.after in
    let f = N.from in
    let b = N.below in
    let small : N.d < first_fresh = rw N.row at (B.rows.dicts N.at b) in
    let q = dict_core ns w N.d small in
    let x = N.word in
    record {
      less = omega arith;
      ty = rw N.row at (B.types N.at b);
      low = omega arith;
      named = rw (x, q) refl;
      others = B;
      is = rw (N.is ns w, row_pending ns w bs N.at n b N.row, x, q, a);
    }

-- What the view of the rows says, in its words for givens.
rows_given : {w : List ℕ} {top : ℕ} (ns bs : List ℕ) (n i j : ℕ) (r : Option Given) → Binders w bs top n → NextAs bs j n r → GivenAs ns w bs top (Rows n) i j r
rows_given ns bs n i j (Some q) B N = first_row ns bs n i B N
rows_given {w} ns bs n i j None B N = rw (N ns w)

module _ (ns w bs : List ℕ) (top : ℕ) {src : Source} (i l : ℕ) {r : Option Given} where
  -- The source is a list.
  pub from_list : {root : Root} → src ≡ Listed root → ListedAt ns w top root i l r → GivenAt ns w bs top src i l r
  from_list e L = rw e (record { says = L.says bs })

  -- It is the rows.
  pub from_rows : {n : ℕ} → src ≡ Rows n → GivensReady ns w bs top src i l → NextRow bs l n r → GivenAt ns w bs top src i l r
  from_rows {n} e R N = rw e (record { says = rows_given ns bs n i l r (rw e at R) N.says })

-- The fourth word of a cell, by either name.
fourth_class : (w : List ℕ) (l : ℕ) → fourth_at w l ≡ class_at w l
unfolding fourth_at class_at
fourth_class w l = refl

-- What `listed_at` says of a list: r is what `cell_at` returned.
module _ {w : List ℕ} {top l : ℕ} {r : Cell} (ns : List ℕ) (i : ℕ) (N : Node w top l) (e : r ≡ cell_of w l) where
  -- No givens.
  pub no_givens : (root : Root) → r ≡ Nil → givens_of ns w root i l ≡ []
  unfolding context_binders
  no_givens (Context h) k = rw (preds_nil ns N e k)
  no_givens Binder k = rw (binders_nil ns N e k)

  module _ {x t rest : ℕ} (k : r ≡ Cons t rest) (f : x ≡ class_at w l) where
    -- A context's place is below 64.
    pub context_room : {h : ℕ} → Few ns w (Context h) i l → (i < 64) × (suc i + count (preds_of_word ns w rest) ≤ 64)
    unfolding count
    context_room F = let c = ap count (preds_cons ns N e k) in let g = F.1 in (omega arith, omega arith)

    -- The i-th predicate of a context.
    pub first_context : {h : ℕ} → Few ns w (Context h) i l → (bs : List ℕ) → First ns w bs top (Listed (Context h)) i l (first_nullary + (64 * (h + 1) + i)) x t rest
    unfolding context_binders not_root
    first_context {h} F bs =
        let room = context_room F in
        let g = F.0 in
        let a = room.0 in
        let q = context_core ns w h i a (omega arith) in
        record {
          less = (cons_tail N e k).0;
          ty = (cons_head N e k).1;
          low = omega arith;
          named = rw q refl;
          others = ((cons_tail N e k).1, (g, room.1));
          is = rw (preds_cons ns N e k, q, f);
        }

    -- A binder.
    pub first_binder : x < 2 ^ 64 → (bs : List ℕ) → First ns w bs top (Listed Binder) i l (first_fresh + x / 65536) (x % 65536) t rest
    unfolding not_root
    first_binder s bs =
        let q = dict_core ns w (x / 65536) (omega arith) in
        record {
          less = (cons_tail N e k).0;
          ty = (cons_head N e k).1;
          low = omega arith;
          named = rw q refl;
          others = ((cons_tail N e k).1, tt);
          is = rw (binders_cons ns N e k, fourth_class w l, ← f, q);
        }
