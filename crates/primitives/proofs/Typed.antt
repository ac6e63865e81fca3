-- The arrows of a type are made one after the other, the last one first.
use mathlib.Core.Path.{◌≡◌, refl, ap, ◌∙◌}
use mathlib.Core.List.{List, []}
use Prim.Native.Nat.{ℕ, zero, suc, ◌+◌, ◌*◌, ◌^◌, ◌<◌, ◌≤◌}
use native.Mathlib.Omega.{arith}
use lib.ListN.{length}
use Rattle.meaning.specs.Ast.{arrow, con, nil, int, bool}
use Rattle.names.specs.Names.{first_node, first_nullary}
use Rattle.ast.specs.Table.{tree, Node, pushed}
use Rattle.ast.proofs.Laws.{kept_tree, node_more, low_con}
use Rattle.ast.proofs.NewNode.{Pushed, push_arrow}
use Rattle.pairs.proofs.Frames.{stands_refl, stands_then, stands_up, pushed_stands}
use Rattle.rows.specs.BuiltIns.{built_ins, BuiltIns}
use Rattle.meaning.specs.Base.{nth}
use Rattle.primitives.specs.Prims.{base_ty, curried, TypeMade}

-- The loop has made i of the arrows.
pub record Typing (w w₁ : List ℕ) (top many a b t i : ℕ) : Type 0 where
  pub upto : i ≤ many
  pub made : TypeMade w w₁ top i a b t

-- At first none: the type is the result's.
pub none_typed : {w : List ℕ} {top b : ℕ} (many a : ℕ) → Node w top b → Typing w w top many a b b 0
unfolding curried
none_typed {w} {top} {b} many a B =
    let z : top + 0 ≡ top = omega arith in
    record { upto = omega arith; made = record { stands = stands_refl _ _ _; long = refl; node = rw z B; is = λ ns. refl } }

module _ {w w₁ : List ℕ} {top many a b t i : ℕ} (A : Node w top a) (room : 4 * (top + many) ≤ length w) (big : length w < 2 ^ 65) (M : Typing w w₁ top many a b t i) (h : i < many) where
  -- There is room for the next node.
  pub type_room : 4 * (top + i) + 4 ≤ length w₁
  type_room = let l = M.made.long in omega arith

  -- A word can name it.
  pub type_small : top + i < first_node
  type_small = omega arith

  module _ {w₂ : List ℕ} (e : w₂ ≡ pushed w₁ (top + i) 2 a t) where
    -- It is an arrow.
    arrow_made : (ns : List ℕ) → Pushed (tree ns w₂) w₁ w₂ (top + i) (arrow (tree ns w₁ a) (tree ns w₁ t))
    arrow_made ns = push_arrow ns type_room type_small (node_more M.made.node.table (omega arith) A) M.made.node e

    -- One arrow more is made.
    pub one_typed : Typing w w₂ top many a b (first_node + (top + i)) (i + 1)
    unfolding curried
    one_typed =
        let z : top + (i + 1) ≡ top + i + 1 = omega arith in
        let y : i + 1 ≡ suc i = omega arith in
        record {
          upto = omega arith;
          made = record {
            stands = stands_then (stands_up M.made.stands (omega arith)) (pushed_stands (top + i) 2 a t (4 * (top + (i + 1))) (omega arith) e) (omega arith);
            long = (arrow_made []).long ∙ M.made.long;
            node = rw z (arrow_made []).node;
            is = λ ns. rw y ((arrow_made ns).is ∙ rw (kept_tree ns M.made.stands.low A, M.made.is ns));
          };
        }

-- All arrows are made.
pub all_typed : {w w₁ : List ℕ} {top many a b t i : ℕ} → Typing w w₁ top many a b t i → many ≤ i → TypeMade w w₁ top many a b t
all_typed {many = many} {i = i} M h = let u = M.upto in let e : i ≡ many = omega arith in rw e at M.made

-- The words of the two built-in types.
pub base_word : {ns : List ℕ} (w : List ℕ) → BuiltIns ns → (a : ℕ) → a < 2 → tree ns w (first_nullary + a) ≡ base_ty a
unfolding base_ty int bool built_ins nth
base_word {ns} w B zero h = low_con ns w 0 (omega arith) ∙ ap (λ c. con c nil) (B.is 0 _ refl)
base_word {ns} w B (suc zero) h = low_con ns w 1 (omega arith) ∙ ap (λ c. con c nil) (B.is 1 _ refl)
base_word {ns} w B (suc (suc a)) h = absurd (omega arith)
