-- Room for the parts of a type, and answers that write no node.
use mathlib.Core.Path.{◌≡◌, refl, ap, sym, ◌∙◌}
use mathlib.Core.List.{List}
use Prim.Native.Nat.{ℕ, ◌+◌, ◌*◌, ◌<◌, ◌≤◌}
use native.Mathlib.Omega.{arith}
use Rattle.meaning.specs.Ast.{named, Ty, var, con, nil, size, sizes}
use Rattle.theorems.proofs.Tests.{ltb_of}
use Rattle.names.specs.Names.{first_fresh, first_nullary, first_node, kind_of, name_of, tyvar_of}
use Rattle.ast.specs.Table.{tree, list, Table}
use Rattle.ast.proofs.Laws.{low_node, low_list, low_var, low_con}
use Rattle.pairs.proofs.Frames.{stands_refl}
use Rattle.views.specs.Numbers.{number_at}
use Rattle.views.specs.TypeViews.{IsType}
use Rattle.views.specs.declared.TypeNode.{TypeNode}
use Rattle.std.specs.Prelude.{Option as Option-of, Some, None}
use Rattle.views.specs.declared.TypeNode.TheVariants.{Var, Con, Arrow}
use Rattle.types.specs.Types.{row_of, type_of, part_of, parts_of}
use Rattle.types.specs.Taking.{Taken, Fits, Takes}
use Rattle.types.proofs.Decode.{type_var, type_con, type_nothing, part_is, part_none, row_small}
use Rattle.types.proofs.Counting.{size_some, parts_nil, sizes_cons, con_size, arrow_size}

-- A row's number is the word of the variable of that name.
row_tree : (ns w : List ℕ) (t : ℕ) → t < 1_059 → tree ns w t ≡ var (named (name_of ns t))
unfolding tyvar_of kind_of
row_tree ns w t h = low_var ns w t (omega arith) ∙ ap var (rw (ltb_of t first_fresh (let k : t < first_fresh = omega arith in k)) refl)

-- A word that names no node is a type taken.
low_taken : {w : List ℕ} {top : ℕ} (u : List ℕ → Ty) (t : ℕ) → Table w top → t < first_node → ((ns : List ℕ) → tree ns w t ≡ u ns)
    → Takes tree size 4 w w top u (record { word = t; top = top })
low_taken {w} {top} u t T h e = record {
  node = low_node T h;
  stands = stands_refl w top (4 * top);
  more = omega arith;
  is = e;
  spent = λ ns. let s = size_some (u ns) in omega arith;
}

-- No arguments: the empty list.
pub takes_none : (bytes ix : List ℕ) (i p k : ℕ) {w : List ℕ} {top : ℕ} → Fits w top (λ (ns : List ℕ). sizes (parts_of bytes ns ix i p k)) → k ≡ 0
    → Takes list sizes 0 w w top (λ (ns : List ℕ). parts_of bytes ns ix i p k) (record { word = 0; top = top })
takes_none bytes ix i p k {w} {top} R e = record {
  node = low_node R.table (omega arith);
  stands = stands_refl w top (4 * top);
  more = omega arith;
  is = λ ns. low_list ns w 0 (omega arith) ∙ sym (parts_nil bytes ns ix i p k e);
  spent = λ ns. omega arith;
}

-- A part that is no type.
pub takes_no_part : (bytes ix : List ℕ) (i j : ℕ) {w : List ℕ} {top : ℕ} → Fits w top (λ (ns : List ℕ). size (part_of bytes ns ix i j)) → i ≤ j
    → Takes tree size 4 w w top (λ (ns : List ℕ). part_of bytes ns ix i j) (record { word = 0; top = top })
takes_no_part bytes ix i j {w} R h = low_taken _ 0 R.table (omega arith) (λ ns. row_tree ns w 0 (omega arith) ∙ sym (part_none bytes ns ix i j h))

-- A part that is one: room for it.
pub part_room : (bytes ix : List ℕ) (i j : ℕ) {w : List ℕ} {top : ℕ} → Fits w top (λ (ns : List ℕ). size (part_of bytes ns ix i j)) → j < i
    → Fits w top (λ (ns : List ℕ). size (type_of bytes ns ix j))
part_room bytes ix i j R h = record { table = R.table; room = λ ns. let e = ap size (part_is bytes ns ix i j h) in let r = R.room ns in omega arith }

-- It is taken as that type.
pub takes_part : (bytes ix : List ℕ) (i j : ℕ) {w w' : List ℕ} {top : ℕ} {r : Taken} → j < i → Takes tree size 4 w w' top (λ (ns : List ℕ). type_of bytes ns ix j) r
    → Takes tree size 4 w w' top (λ (ns : List ℕ). part_of bytes ns ix i j) r
takes_part bytes ix i j h G = record {
  node = G.node;
  stands = G.stands;
  more = G.more;
  is = λ ns. G.is ns ∙ sym (part_is bytes ns ix i j h);
  spent = λ ns. let e = ap size (part_is bytes ns ix i j h) in let s = G.spent ns in omega arith;
}

-- Room for the first argument.
pub first_room : (bytes ix : List ℕ) (i p k j : ℕ) {w : List ℕ} {top : ℕ} → Fits w top (λ (ns : List ℕ). sizes (parts_of bytes ns ix i p k)) → (k ≡ 0 → ⊥) → j ≡ number_at bytes p
    → Fits w top (λ (ns : List ℕ). size (part_of bytes ns ix i j))
first_room bytes ix i p k j R h e = record { table = R.table; room = λ ns. let z = sizes_cons bytes ns ix i p k j h e in let r = R.room ns in omega arith }

module _ {bytes ix : List ℕ} {i : ℕ} {r : Option-of TypeNode} (T : IsType bytes ix i r) {w : List ℕ} {top : ℕ} (R : Fits w top (λ (ns : List ℕ). size (type_of bytes ns ix i))) where
  -- A variable.
  pub takes_var : {x v : ℕ} → r ≡ Some (Var x) → v ≡ row_of ix x → Takes tree size 4 w w top (λ (ns : List ℕ). type_of bytes ns ix i) (record { word = v; top = top })
  takes_var {x} {v} arm e =
      let s = row_small ix x in
      low_taken _ v R.table (omega arith) (λ ns. row_tree ns w v (omega arith) ∙ ap (λ n. var (named (name_of ns n))) e ∙ sym (type_var T ns arm))

  -- No node.
  pub takes_nothing : r ≡ None → Takes tree size 4 w w top (λ (ns : List ℕ). type_of bytes ns ix i) (record { word = 0; top = top })
  takes_nothing arm = low_taken _ 0 R.table (omega arith) (λ ns. row_tree ns w 0 (omega arith) ∙ sym (type_nothing T ns arm))

  module _ {c p k : ℕ} (arm : r ≡ Some (Con c p k)) where
    -- A constructor without arguments.
    pub takes_nullary : {v : ℕ} → k ≡ 0 → v ≡ row_of ix c → Takes tree size 4 w w top (λ (ns : List ℕ). type_of bytes ns ix i) (record { word = first_nullary + v; top = top })
    takes_nullary {v} z e =
        let s = row_small ix c in
        low_taken _ (first_nullary + v) R.table (omega arith)
        (λ ns. low_con ns w v (omega arith) ∙ ap (λ n. con (name_of ns n) nil) e ∙ ap (con (name_of ns (row_of ix c))) (sym (parts_nil bytes ns ix i p k z)) ∙ sym (type_con T ns arm))

    -- Room for its arguments.
    pub args_room : Fits w top (λ (ns : List ℕ). sizes (parts_of bytes ns ix i p k))
    args_room = record { table = R.table; room = λ ns. let z = con_size T ns arm in let h = R.room ns in omega arith }

  -- Room for an arrow's left side.
  pub left_room : {a b : ℕ} → r ≡ Some (Arrow a b) → Fits w top (λ (ns : List ℕ). size (part_of bytes ns ix i a))
  left_room arm = record { table = R.table; room = λ ns. let z = arrow_size T ns arm in let h = R.room ns in omega arith }
