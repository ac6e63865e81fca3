-- Answers that write a node behind those of the parts.
use mathlib.Core.Path.{◌≡◌, ap, sym, ◌∙◌}
use mathlib.Core.List.{List, []}
use Prim.Native.Nat.{ℕ, ◌+◌, ◌*◌, ◌-◌, ◌^◌, ◌<◌, ◌≤◌}
use native.Mathlib.Omega.{arith}
use lib.ListN.{length}
use Rattle.meaning.specs.Ast.{con, size, sizes}
use Rattle.names.specs.Names.{first_node, name_of}
use Rattle.ast.specs.Table.{tree, list, pushed}
use Rattle.ast.proofs.Laws.{node_more, kept_tree}
use Rattle.ast.proofs.NewNode.{push_con, push_arrow, push_cons}
use Rattle.pairs.specs.Pairs.{Stands}
use Rattle.pairs.proofs.Frames.{stands_then, stands_up, pushed_stands}
use Rattle.views.specs.Numbers.{number_at}
use Rattle.views.specs.TypeViews.{IsType}
use Rattle.views.specs.declared.TypeNode.{TypeNode}
use Rattle.std.specs.Prelude.{Option as Option-of, Some}
use Rattle.views.specs.declared.TypeNode.TheVariants.{Con, Arrow}
use Rattle.types.specs.Types.{row_of, type_of, part_of, parts_of}
use Rattle.types.specs.Taking.{Taken, Fits, Takes}
use Rattle.types.proofs.Decode.{type_con, type_arrow}
use Rattle.types.proofs.Counting.{con_size, arrow_size, parts_cons, sizes_cons}

-- There is room for node t, which is no older than top.
pub record Behind (w : List ℕ) (top t : ℕ) : Type 0 where
  pub more : top ≤ t
  pub room : 4 * t + 4 ≤ length w
  pub small : t < first_node

-- What stood while parts were taken stands when a node is pushed behind them.
pushed_on : {w w₁ w₂ : List ℕ} {top hi : ℕ} (t tag a b : ℕ) → Stands w w₁ top hi → hi ≤ 4 * t → top ≤ t → w₂ ≡ pushed w₁ t tag a b → Stands w w₂ top (4 * (t + 1))
pushed_on t tag a b S h m e = stands_then (stands_up S (omega arith)) (pushed_stands t tag a b (4 * (t + 1)) (omega arith) e) m

-- What stood while one part was taken and then another.
both_stand : {w w₁ w₂ : List ℕ} {top t u : ℕ} → Stands w w₁ top (4 * t) → Stands w₁ w₂ t (4 * u) → top ≤ t → t ≤ u → Stands w w₂ top (4 * u)
both_stand S U m n = stands_then (stands_up S (omega arith)) U m

-- ## a constructor, after its arguments
module _ {bytes ix : List ℕ} {i : ℕ} {r : Option-of TypeNode} (T : IsType bytes ix i r) {w : List ℕ} {top : ℕ} (R : Fits w top (λ (ns : List ℕ). size (type_of bytes ns ix i))) {c p k : ℕ} (arm : r ≡ Some (Con c p k))
    {w₁ : List ℕ} {l : Taken} (G : Takes list sizes 0 w w₁ top (λ (ns : List ℕ). parts_of bytes ns ix i p k) l) (len : length w₁ ≡ length w) (big : length w < 2 ^ 65) where
  -- There is room for its node.
  pub con_fits : Behind w₁ top l.top
  con_fits =
      let z = con_size T [] arm in let h = R.room [] in let g = G.spent [] in
      record { more = G.more; room = omega arith; small = omega arith }

  -- The node is the type.
  pub takes_con : {v : ℕ} {w₂ : List ℕ} → v ≡ row_of ix c → w₂ ≡ pushed w₁ l.top 1 v l.word
      → Takes tree size 4 w w₂ top (λ (ns : List ℕ). type_of bytes ns ix i) (record { word = first_node + l.top; top = l.top + 1 })
  takes_con {v} {w₂} e q =
      let F = con_fits in let m = G.more in
      record {
        node = (push_con [] F.room F.small v G.node q).node;
        stands = pushed_on l.top 1 v l.word G.stands (omega arith) m q;
        more = omega arith;
        is = λ ns. (push_con ns F.room F.small v G.node q).is ∙ ap (con (name_of ns v)) (G.is ns) ∙ ap (λ n. con (name_of ns n) (parts_of bytes ns ix i p k)) e ∙ sym (type_con T ns arm);
        spent = λ ns. let z = con_size T ns arm in let g = G.spent ns in omega arith;
      }

-- ## an arrow, after its left side
module _ {bytes ix : List ℕ} {i : ℕ} {r : Option-of TypeNode} (T : IsType bytes ix i r) {w : List ℕ} {top : ℕ} (R : Fits w top (λ (ns : List ℕ). size (type_of bytes ns ix i))) {a b : ℕ} (arm : r ≡ Some (Arrow a b))
    {w₁ : List ℕ} {x : Taken} (G : Takes tree size 4 w w₁ top (λ (ns : List ℕ). part_of bytes ns ix i a) x) where
  -- Room for the right side.
  pub right_room : length w₁ ≡ length w → Fits w₁ x.top (λ (ns : List ℕ). size (part_of bytes ns ix i b))
  right_room len = record { table = G.node.table; room = λ ns. let z = arrow_size T ns arm in let h = R.room ns in let g = G.spent ns in omega arith }

  module _ {w₂ : List ℕ} {y : Taken} (H : Takes tree size 4 w₁ w₂ x.top (λ (ns : List ℕ). part_of bytes ns ix i b) y) (len : length w₂ ≡ length w) (big : length w < 2 ^ 65) where
    -- There is room for its node.
    pub arrow_fits : Behind w₂ top y.top
    arrow_fits =
        let z = arrow_size T [] arm in let h = R.room [] in let g = G.spent [] in let k = H.spent [] in let m = G.more in let n = H.more in
        record { more = omega arith; room = omega arith; small = omega arith }

    -- The node is the type.
    pub takes_arrow : {w₃ : List ℕ} → w₃ ≡ pushed w₂ y.top 2 x.word y.word
        → Takes tree size 4 w w₃ top (λ (ns : List ℕ). type_of bytes ns ix i) (record { word = first_node + y.top; top = y.top + 1 })
    takes_arrow {w₃} q =
        let F = arrow_fits in let m = G.more in let n = H.more in
        let A = node_more H.node.table H.more G.node in
        record {
          node = (push_arrow [] F.room F.small A H.node q).node;
          stands = pushed_on y.top 2 x.word y.word (both_stand G.stands H.stands m n) (omega arith) F.more q;
          more = omega arith;
          is = λ ns.
              let u = kept_tree ns H.stands.low G.node ∙ G.is ns in
              let v = H.is ns in
              (push_arrow ns F.room F.small A H.node q).is ∙ cc (u, v) ∙ sym (type_arrow T ns arm);
          spent = λ ns. let z = arrow_size T ns arm in let g = G.spent ns in let k = H.spent ns in omega arith;
        }

-- ## arguments, after the first
module _ (bytes ix : List ℕ) (i p k j : ℕ) (some : k ≡ 0 → ⊥) (e : j ≡ number_at bytes p) {w : List ℕ} {top : ℕ} (R : Fits w top (λ (ns : List ℕ). sizes (parts_of bytes ns ix i p k)))
    {w₁ : List ℕ} {x : Taken} (G : Takes tree size 4 w w₁ top (λ (ns : List ℕ). part_of bytes ns ix i j) x) where
  -- Room for the others.
  pub rest_room : length w₁ ≡ length w → Fits w₁ x.top (λ (ns : List ℕ). sizes (parts_of bytes ns ix i (p + 2) (k - 1)))
  rest_room len = record { table = G.node.table; room = λ ns. let z = sizes_cons bytes ns ix i p k j some e in let h = R.room ns in let g = G.spent ns in omega arith }

  module _ {w₂ : List ℕ} {y : Taken} (H : Takes list sizes 0 w₁ w₂ x.top (λ (ns : List ℕ). parts_of bytes ns ix i (p + 2) (k - 1)) y) (len : length w₂ ≡ length w) (big : length w < 2 ^ 65) where
    -- There is room for the cell.
    pub cell_fits : Behind w₂ top y.top
    cell_fits =
        let z = sizes_cons bytes [] ix i p k j some e in let h = R.room [] in let g = G.spent [] in let q = H.spent [] in let m = G.more in let n = H.more in
        record { more = omega arith; room = omega arith; small = omega arith }

    -- The cell is the list.
    pub takes_cell : {w₃ : List ℕ} → w₃ ≡ pushed w₂ y.top 3 x.word y.word
        → Takes list sizes 0 w w₃ top (λ (ns : List ℕ). parts_of bytes ns ix i p k) (record { word = first_node + y.top; top = y.top + 1 })
    takes_cell {w₃} q =
        let F = cell_fits in let m = G.more in let n = H.more in
        let A = node_more H.node.table H.more G.node in
        record {
          node = (push_cons [] F.room F.small A H.node q).node;
          stands = pushed_on y.top 3 x.word y.word (both_stand G.stands H.stands m n) (omega arith) F.more q;
          more = omega arith;
          is = λ ns.
              let u = kept_tree ns H.stands.low G.node ∙ G.is ns in
              let v = H.is ns in
              (push_cons ns F.room F.small A H.node q).is ∙ cc (u, v) ∙ sym (parts_cons bytes ns ix i p k j some e);
          spent = λ ns. let z = sizes_cons bytes ns ix i p k j some e in let g = G.spent ns in let h = H.spent ns in omega arith;
        }
