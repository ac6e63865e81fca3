-- The loop of `rows_list`: the cells that are there are the arguments of the rows that were passed, from the last on.
use mathlib.Core.Path.{◌≡◌, refl, sym, ◌∙◌}
use mathlib.Core.List.{List}
use Prim.Native.Nat.{ℕ, suc, ◌+◌, ◌*◌, ◌-◌, ◌<◌, ◌≤◌}
use native.Mathlib.Omega.{arith}
use lib.ListN.{length, get_or}
use Rattle.meaning.specs.Infer.{args_of}
use Rattle.names.specs.Names.{first_fresh, first_node}
use Rattle.ast.specs.Table.{Node, pushed}
use Rattle.ast.proofs.Ranges.{cell_low}
use Rattle.ast.proofs.Laws.{low_node}
use Rattle.pairs.specs.Pairs.{Stands}
use Rattle.pairs.proofs.Frames.{stands_refl, stands_then, pushed_stands}
use Rattle.cores.specs.Terms.{cores}
use Rattle.cores.proofs.TermLaws.{cores_nil, dict_core}
use Rattle.cores.proofs.NewTerm.{push_cores}
use Rattle.supers.specs.Rows.{binders_from}
use Rattle.simplify.proofs.RowSets.{row_words}
use Rattle.instantiate.specs.Looks.{ReadyCore, Lists}

-- Rows from number j on are in the list l, which ends below node t.
pub record Listing (w₀ w bs : List ℕ) (top m l j t : ℕ) : Type 0 where
  pub stands : Stands w₀ w top (4 * top + 4 * m)
  pub long : length w ≡ length w₀
  pub node : Node w t l
  pub count : t + j ≡ top + m
  pub few : j ≤ m
  pub is : (ns : List ℕ) → cores ns w l ≡ args_of (binders_from ns w₀ bs j (m - j))

-- At first there are none.
pub listing : {ns w bs : List ℕ} {top dv m x : ℕ} → ReadyCore ns w bs top dv m x → Listing w w bs top m 0 m top
unfolding args_of binders_from
listing {w = w} {m = m} R = record {
  stands = stands_refl _ _ _;
  long = refl;
  node = low_node R.table (omega arith);
  count = refl;
  few = omega arith;
  is = λ ns. let e : m - m ≡ 0 = omega arith in rw e (cores_nil ns (low_node R.table (omega arith)) (sym (cell_low w 0 (omega arith))) refl);
}

module _ {ns w₀ w bs : List ℕ} {top dv m x l j t : ℕ} (R : ReadyCore ns w₀ bs top dv m x) (L : Listing w₀ w bs top m l j t) where
  -- All rows are in it.
  pub listed : j ≡ 0 → Lists w₀ w bs top m l
  listed e = let c = L.count in let z : t ≡ top + m = omega arith in let y : m - j ≡ m - 0 = omega arith in
      record { stands = L.stands; node = rw z at L.node; is = λ ks. L.is ks ∙ rw (y, e) refl }

  module _ (p : 0 < j) where
    -- The next row's dictionary.
    next_dict : get_or bs (3 * (j - 1)) 0 ≡ dv + (j - 1)
    next_dict = let f = L.few in let W = R.rows.at (j - 1) (omega arith) in (row_words bs (j - 1) W.row).dict

    -- It has a word.
    pub dict_small : get_or bs (3 * (j - 1)) 0 < 17_592_186_044_416
    dict_small = let d = next_dict in let f = L.few in let n = R.named in omega arith

    -- The row may be read, and there is room for a cell.
    pub list_room : (3 * (j - 1) < length bs) × ((top ≤ t) × ((4 * t + 4 ≤ length w) × (t < first_node)))
    list_room = let f = L.few in let c = L.count in let a = R.fits in let b = R.room in let g = L.long in let h = R.big in
        (omega arith, (omega arith, (omega arith, omega arith)))

    -- One more row is in the list.
    pub lists_on : {w₁ : List ℕ} → w₁ ≡ pushed w t 3 (first_fresh + get_or bs (3 * (j - 1)) 0) l → Listing w₀ w₁ bs top m (first_node + t) (j - 1) (t + 1)
    unfolding args_of binders_from
    lists_on {w₁} e =
        let d = dict_small in let q = next_dict in let f = L.few in let c = L.count in let r = list_room in let tt₁ = r.1.0 in
        let D : Node w t (first_fresh + get_or bs (3 * (j - 1)) 0) = low_node L.node.table (omega arith) in
        let W = R.rows.at (j - 1) (omega arith) in
        let z : m - (j - 1) ≡ suc (m - j) = omega arith in
        let y : suc (j - 1) ≡ j = omega arith in
        record {
          stands = stands_then L.stands (pushed_stands _ _ _ _ _ (omega arith) e) tt₁;
          long = (push_cores ns r.1.1.0 r.1.1.1 D L.node e).long ∙ L.long;
          node = (push_cores ns r.1.1.0 r.1.1.1 D L.node e).node;
          count = omega arith;
          few = omega arith;
          is = λ ks. (push_cores ks r.1.1.0 r.1.1.1 D L.node e).is ∙ rw (dict_core ks w (get_or bs (3 * (j - 1)) 0) (omega arith), L.is ks, z, W.row, y, q) refl;
        }
