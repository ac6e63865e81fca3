-- The ways out of the two literals.
use mathlib.Core.Path.{◌≡◌, refl, ap, sym, ◌∙◌}
use mathlib.Core.Bool.{Bool, true, false}
use mathlib.Core.List.{List, []}
use Prim.Native.Nat.{ℕ, ◌+◌, ◌*◌, ◌-◌, ◌^◌, ◌<◌, ◌≤◌}
use native.Mathlib.Omega.{arith}
use lib.ListN.{length}
use Rattle.meaning.specs.Base.{nth}
use Rattle.meaning.specs.Ast.{called, int, bool, cint, cbool}
use Rattle.meaning.specs.Budget.{done}
use Rattle.meaning.specs.Subst.{empty}
use Rattle.names.specs.Names.{first_nullary, first_node}
use Rattle.names.proofs.Where.{is_nullary}
use Rattle.ast.specs.Table.{tree, BuiltIn}
use Rattle.ast.proofs.Laws.{no_nodes, low_node}
use Rattle.ast.proofs.Stands.{stands_int, stands_bool}
use Rattle.rows.specs.BuiltIns.{built_ins, BuiltIns}
use Rattle.pairs.specs.Pairs.{sub_at}
use Rattle.pairs.proofs.Frames.{stands_refl, sub_none}
use Rattle.cores.specs.Parts.{constant_part, part_of, pushed_four}
use Rattle.cores.specs.Terms.{core}
use Rattle.cores.proofs.TermLaws.{core_of}
use Rattle.cores.proofs.NewTerm.{four_stands, push_number}
use Rattle.supers.specs.Rows.{binders_from}
use Rattle.pending.specs.Rows.{PendingRows}
use Rattle.inferred.specs.Closing.{Region, answer_of, ReadyLiteral, GivesC}
use Rattle.inferred.specs.Closed.{Done}

-- The names of the two types.
pub two_types : {ns : List ℕ} → BuiltIns ns → BuiltIn ns
unfolding built_ins nth
two_types B = record { int_name = B.is 0 (called "Int") refl; bool_name = B.is 1 (called "Bool") refl }

-- The word of the truth value false.
pub false_core : (ns w : List ℕ) → core ns w (first_nullary + 0) ≡ cbool false
unfolding part_of constant_part
false_core ns w = core_of ns (low_node (no_nodes w) (omega arith)) refl ∙ rw (is_nullary (first_nullary + 0) (omega arith) (omega arith) (omega arith))

-- And of true.
pub true_core : (ns w : List ℕ) → core ns w (first_nullary + 1) ≡ cbool true
unfolding part_of constant_part
true_core ns w = core_of ns (low_node (no_nodes w) (omega arith)) refl ∙ rw (is_nullary (first_nullary + 1) (omega arith) (omega arith) (omega arith))

-- No pairs end there.
pub no_region : (ns w : List ℕ) (top sp : ℕ) → sp ≤ length w → Region ns w top sp 0
unfolding sub_at
no_region ns w top sp h = record { sub = sub_none top (sp - 2 * 0) (omega arith); sorted = tt }

-- No rows are pending.
pub no_rows : (w bs : List ℕ) (top : ℕ) → PendingRows w bs top 0
no_rows w bs top = record { fits = omega arith; each = λ i h. absurd (omega arith) }

-- What such an answer stands for.
no_parts : (ns w bs : List ℕ) (sp t e : ℕ) → answer_of ns w bs sp t e 0 0 ≡ (empty, tree ns w t, [], core ns w e)
unfolding sub_at binders_from
no_parts ns w bs sp t e = refl

module _ {ns w bs : List ℕ} {top left sp : ℕ} (R : ReadyLiteral ns w bs top left sp) where
  -- There is room for a node.
  pub literal_room : length w < 2 ^ 65 → (4 * top + 4 ≤ length w) × (top < first_node)
  literal_room h = let z = R.room in let f = R.fits in (omega arith, omega arith)

  -- A number.
  pub int_closed : {w₁ : List ℕ} (v : ℕ) → length w < 2 ^ 65 → w₁ ≡ pushed_four w top 12 v 0 0 → GivesC (done (empty, int, [], cint v) left) 8 ns w w₁ bs bs top left sp 0 (Done (first_nullary + 0) (first_node + top) 0 (top + 1) left)
  int_closed {w₁} v h q =
      let P = push_number ns (literal_room h).0 (literal_room h).1 v R.table q in
      let l = P.long in let z = R.room in let f = R.fits in
      record {
        stands = four_stands w top 12 v 0 0 q sp (omega arith);
        long = refl;
        answer = (
          record {
            words = record { ty = low_node P.node.table (omega arith); term = P.node; region = no_region ns w₁ (top + 1) sp (omega arith); pending = no_rows w₁ bs (top + 1) };
            more = omega arith;
            down = omega arith;
            spent = omega arith;
          },
          sym (ap (λ a. done a left) (no_parts ns w₁ bs sp (first_nullary + 0) (first_node + top) ∙ rw (stands_int.is ns w₁ (two_types R.built), P.is))),
        );
      }

  -- A truth value, whose word is e.
  pub bool_closed : (b : Bool) (e : ℕ) → e < first_node → core ns w e ≡ cbool b → GivesC (done (empty, bool, [], cbool b) left) 8 ns w w bs bs top left sp 0 (Done (first_nullary + 1) e 0 top left)
  bool_closed b e h k =
      let z = R.room in let f = R.fits in
      record {
        stands = stands_refl _ _ _;
        long = refl;
        answer = (
          record {
            words = record { ty = low_node R.table (omega arith); term = low_node R.table h; region = no_region ns w top sp (omega arith); pending = no_rows w bs top };
            more = omega arith;
            down = omega arith;
            spent = omega arith;
          },
          sym (ap (λ a. done a left) (no_parts ns w bs sp (first_nullary + 1) e ∙ rw (stands_bool.is ns w (two_types R.built), k))),
        );
      }
