-- The ways out of `rename` and `rename_list` that call, from what the calls gave.
use mathlib.Core.Path.{◌≡◌, refl, ap, sym, ◌∙◌}
use mathlib.Core.List.{List}
use Prim.Native.Nat.{ℕ, ◌+◌, ◌*◌, ◌-◌, ◌^◌, ◌<◌, ◌≤◌}
use native.Mathlib.Omega.{arith}
use lib.ListN.{length}
use Rattle.meaning.specs.Ast.{arrow, ◌◂◌, size, sizes}
use Rattle.meaning.specs.Budget.{Out, Steps, done, after}
use Rattle.meaning.specs.Subst.{Subst, each, apply_in}
use Rattle.names.specs.Names.{first_node}
use Rattle.ast.specs.Table.{shape_of, cell_of, tree, list, pushed}
use Rattle.ast.specs.declared.Shape.{Shape}
use Rattle.ast.specs.declared.Shape.TheVariants.{Con, Arrow}
use Rattle.ast.specs.declared.Cell.{Cell}
use Rattle.ast.specs.declared.Cell.TheVariants.{Cons}
use Rattle.ast.proofs.Laws.{arrow_right, cons_tail, node_more}
use Rattle.ast.proofs.NewNode.{push_con, push_arrow, push_cons}
use Rattle.errors.specs.declared.Refusal.{Refusal}
use Rattle.pairs.specs.Pairs.{Stands}
use Rattle.pairs.proofs.Frames.{stands_then, stands_up, pushed_stands}
use Rattle.apply.specs.Applied.{Applied}
use Rattle.apply.specs.Applied.{Done, Refused}
use Rattle.apply.proofs.Hand.{Then, then_done, refuse_on}
use Rattle.apply.proofs.Arms.{at_con, at_arrow, at_cons, arrow_kept, cons_kept}
use Rattle.apply.proofs.Ways.{Room}
use Rattle.rename.specs.Renaming.{Renames, leaves, leaves_list}
use Rattle.rename.specs.Renamed.{ReadyRename, Renews, GivesRenamed, TypeRenamed, ListRenamed}
use Rattle.rename.proofs.Arms.{ready_then, type_before, list_before, con_counts, arrow_counts, cons_counts}
use Rattle.rename.proofs.Leaves.{leaves_size, leaves_sizes}

-- ## What a call gave, by its answer

module _ {A : Type 0} {Of : Subst → Type 0} {read : ℕ → A} {c lv sz : ℕ} {ns w w₁ : List ℕ} {top left : ℕ} {o : Subst → Out A} {r : Applied}
    (G : GivesRenamed Of read c lv sz ns w w₁ top left o r) where
  -- The answer, where there is one.
  pub gave : {m t j : ℕ} → r ≡ Done m t j → Renews Of read c lv sz w₁ top left o m t j
  gave k = rw k at G.answer

  -- A refusal goes through, for a caller that goes on after it.
  pub fails : {B : Type 0} {read' : ℕ → B} {c' lv' sz' top' left' t j : ℕ} {w₀ : List ℕ} {e : Refusal} {o' : Subst → Out B} {k : Subst → A → Steps B}
      → r ≡ Refused e t j → ((s : Subst) → Of s → Then (o' s) (o s) (k s)) → Stands w₀ w₁ top' (4 * top' + 8 * left') → top' ≤ top → left ≤ left'
      → GivesRenamed Of read' c' lv' sz' ns w₀ w₁ top' left' o' (Refused e t j)
  fails h T S a b = record { stands = S; answer = λ s q. refuse_on (T s q) ((rw h at G.answer) s q) a b }

-- After the first of two calls comes the second one.
pub second : {A B C : Type 0} {o : Out C} {o₁ : Out A} {k : A → Steps C} {o₂ : Out B} {k₂ : B → Steps C} (a : A) (l : ℕ) → Then o o₁ k → o₁ ≡ done a l → k a l ≡ after o₂ k₂ → Then o o₂ k₂
second a l T e f = record { is = then_done a l T e ∙ f }

-- ## At a type: r is what `shape_at` returned

module _ {ns w ls : List ℕ} {top left vs to t depth : ℕ} (R : ReadyRename ns w ls top left vs to t) (dp : depth ≡ 0 → ⊥) (lp : left ≡ 0 → ⊥) {r : Shape} (e : r ≡ shape_of w t) where
  -- A constructor, after the call for its arguments.
  module _ {c b : ℕ} (arm : r ≡ Con c b) {w₁ : List ℕ} {r₁ : Applied} (G : ListRenamed ns w w₁ ls top (left - 1) (depth - 1) vs to b r₁) where
    -- They are refused.
    pub con_refused : {q : Refusal} {t₁ l₁ : ℕ} → r₁ ≡ Refused q t₁ l₁ → TypeRenamed ns w w₁ ls top left depth vs to t (Refused q t₁ l₁)
    con_refused h = fails G h (λ s S. at_con ns R.node s dp lp e arm) (stands_up G.stands (omega arith)) (omega arith) (omega arith)

    module _ {m t₁ l₁ : ℕ} (h : r₁ ≡ Done m t₁ l₁) (len : length w₁ ≡ length w) (big : length w < 2 ^ 65) where
      -- There is room for the new node.
      pub con_room : Room w₁ top t₁
      con_room = let g = gave G h in let s = g.spent in let o = R.room in record { more = g.more; room = omega arith; small = omega arith }

      -- The node is the answer.
      pub con_done : {w₂ : List ℕ} → w₂ ≡ pushed w₁ t₁ 1 c m → TypeRenamed ns w w₂ ls top left depth vs to t (Done (first_node + t₁) (t₁ + 1) l₁)
      con_done p =
          let g = gave G h in let s = g.spent in let u = g.more in let i = g.steps in let o = R.room in
          let P = push_con ns con_room.room con_room.small c g.node p in
          let q = con_counts ns R.node e arm in let x = q.0 in let y = q.1 in
          record {
            stands = stands_then (stands_up G.stands (omega arith)) (pushed_stands _ _ _ _ _ (omega arith) p) g.more;
            answer = record {
              node = P.node;
              more = omega arith;
              spent = omega arith;
              steps = omega arith;
              few = leaves_size _;
              is = λ s S. then_done _ _ (at_con ns R.node s dp lp e arm) (g.is s S) ∙ ap (λ a. done a l₁) (sym P.is);
            };
          }

  -- An arrow, after the call for its left side.
  module _ {a b : ℕ} (arm : r ≡ Arrow a b) {w₁ : List ℕ} {r₁ : Applied} (G : TypeRenamed ns w w₁ ls top (left - 1) (depth - 1) vs to a r₁) where
    -- It is refused.
    pub arrow_refused : {q : Refusal} {t₁ l₁ : ℕ} → r₁ ≡ Refused q t₁ l₁ → TypeRenamed ns w w₁ ls top left depth vs to t (Refused q t₁ l₁)
    arrow_refused h = fails G h (λ s S. at_arrow ns R.node s dp lp e arm) (stands_up G.stands (omega arith)) (omega arith) (omega arith)

    module _ {m t₁ l₁ : ℕ} (h : r₁ ≡ Done m t₁ l₁) where
      -- The right side is next.
      pub arrow_next : length w₁ ≡ length w → (top ≤ t₁) × ReadyRename ns w₁ ls t₁ l₁ vs to b
      arrow_next len = let g = gave G h in let s = g.spent in
          (g.more, ready_then R g.more g.node (omega arith) len (arrow_right R.node e arm).1)

      -- After the call for the right side.
      module _ {w₂ : List ℕ} {r₂ : Applied} (H : TypeRenamed ns w₁ w₂ ls t₁ l₁ (depth - 1) vs to b r₂) where
        -- What stands after both.
        arrow_stands : Stands w w₂ top (4 * top + 8 * left)
        arrow_stands = let g = gave G h in let s = g.spent in stands_then (stands_up G.stands (omega arith)) (stands_up H.stands (omega arith)) g.more

        -- What it says of the words before both.
        right_is : GivesRenamed (Renames ns w vs to ls) (tree ns w₂) 4 (leaves (tree ns w b)) (size (tree ns w b)) ns w₁ w₂ t₁ l₁ (λ s. apply_in (depth - 1) s (tree ns w b) l₁) r₂
        right_is = type_before _ G.stands.low R.by.vars (arrow_right R.node e arm).1 H

        -- The outcome goes on after that of the right side.
        right_then : (s : Subst) → Renames ns w vs to ls s → Then (apply_in depth s (tree ns w t) left) (apply_in (depth - 1) s (tree ns w b) l₁) (λ v l. done (arrow (tree ns w₁ m) v) l)
        right_then s S = second _ _ (at_arrow ns R.node s dp lp e arm) ((gave G h).is s S) refl

        -- That is refused.
        pub arrow_refused_2 : {q : Refusal} {t₂ l₂ : ℕ} → r₂ ≡ Refused q t₂ l₂ → TypeRenamed ns w w₂ ls top left depth vs to t (Refused q t₂ l₂)
        arrow_refused_2 i = let g = gave G h in let j = g.steps in fails right_is i right_then arrow_stands g.more (omega arith)

        module _ {m₂ t₂ l₂ : ℕ} (i : r₂ ≡ Done m₂ t₂ l₂) (len : length w₂ ≡ length w) (big : length w < 2 ^ 65) where
          -- There is room for the new node.
          pub arrow_room : Room w₂ top t₂
          arrow_room =
              let g = gave G h in let s = g.spent in let m₁ = g.more in let u = gave right_is i in let v = u.spent in let n₁ = u.more in let o = R.room in
              record { more = omega arith; room = omega arith; small = omega arith }

          -- The node is the answer.
          pub arrow_done : {w₃ : List ℕ} → w₃ ≡ pushed w₂ t₂ 2 m m₂ → TypeRenamed ns w w₃ ls top left depth vs to t (Done (first_node + t₂) (t₂ + 1) l₂)
          arrow_done p =
              let g = gave G h in let s = g.spent in let m₁ = g.more in let j = g.steps in
              let u = gave right_is i in let v = u.spent in let n₁ = u.more in let k = u.steps in
              let P = push_arrow ns arrow_room.room arrow_room.small (node_more u.node.table u.more g.node) u.node p in
              let q = arrow_counts ns R.node e arm in let x = q.0 in let y = q.1 in
              record {
                stands = stands_then arrow_stands (pushed_stands _ _ _ _ _ (omega arith) p) (omega arith);
                answer = record {
                  node = P.node;
                  more = omega arith;
                  spent = omega arith;
                  steps = omega arith;
                  few = leaves_size _;
                  is = λ s S. then_done _ _ (right_then s S) (u.is s S) ∙ ap (λ a. done a l₂) (sym (P.is ∙ arrow_kept ns H.stands.low g.node _));
                };
              }

-- ## At a list: r is what `cell_at` returned

module _ {ns w ls : List ℕ} {top left vs to n : ℕ} (depth : ℕ) (R : ReadyRename ns w ls top left vs to n) {r : Cell} (e : r ≡ cell_of w n) {a b : ℕ} (arm : r ≡ Cons a b) {w₁ : List ℕ} {r₁ : Applied}
    (G : TypeRenamed ns w w₁ ls top left depth vs to a r₁) where
  -- The first type is refused.
  pub cons_refused : {q : Refusal} {t₁ l₁ : ℕ} → r₁ ≡ Refused q t₁ l₁ → ListRenamed ns w w₁ ls top left depth vs to n (Refused q t₁ l₁)
  cons_refused h = fails G h (λ s S. at_cons ns R.node s _ _ e arm) G.stands (omega arith) (omega arith)

  module _ {m t₁ l₁ : ℕ} (h : r₁ ≡ Done m t₁ l₁) where
    -- The rest is next.
    pub cons_next : length w₁ ≡ length w → (top ≤ t₁) × ReadyRename ns w₁ ls t₁ l₁ vs to b
    cons_next len = let g = gave G h in let s = g.spent in
        (g.more, ready_then R g.more g.node (omega arith) len (cons_tail R.node e arm).1)

    -- After the call for the rest.
    module _ {w₂ : List ℕ} {r₂ : Applied} (H : ListRenamed ns w₁ w₂ ls t₁ l₁ depth vs to b r₂) where
      -- What stands after both.
      cons_stands : Stands w w₂ top (4 * top + 8 * left)
      cons_stands = let g = gave G h in let s = g.spent in stands_then G.stands (stands_up H.stands (omega arith)) g.more

      -- What it says of the words before both.
      rest_is : GivesRenamed (Renames ns w vs to ls) (list ns w₂) 0 (leaves_list (list ns w b)) (sizes (list ns w b)) ns w₁ w₂ t₁ l₁ (λ s. each (apply_in depth s) (list ns w b) l₁) r₂
      rest_is = list_before _ G.stands.low R.by.vars (cons_tail R.node e arm).1 H

      -- The outcome goes on after that of the rest.
      rest_then : (s : Subst) → Renames ns w vs to ls s → Then (each (apply_in depth s) (list ns w n) left) (each (apply_in depth s) (list ns w b) l₁) (λ us l. done (tree ns w₁ m ◂ us) l)
      rest_then s S = second _ _ (at_cons ns R.node s _ _ e arm) ((gave G h).is s S) refl

      -- That is refused.
      pub cons_refused_2 : {q : Refusal} {t₂ l₂ : ℕ} → r₂ ≡ Refused q t₂ l₂ → ListRenamed ns w w₂ ls top left depth vs to n (Refused q t₂ l₂)
      cons_refused_2 i = let g = gave G h in let j = g.steps in fails rest_is i rest_then cons_stands g.more (omega arith)

      module _ {m₂ t₂ l₂ : ℕ} (i : r₂ ≡ Done m₂ t₂ l₂) (len : length w₂ ≡ length w) (big : length w < 2 ^ 65) where
        -- There is room for the new node.
        pub cons_room : Room w₂ top t₂
        cons_room =
            let g = gave G h in let s = g.spent in let m₁ = g.more in let u = gave rest_is i in let v = u.spent in let n₁ = u.more in let o = R.room in
            record { more = omega arith; room = omega arith; small = omega arith }

        -- The node is the answer.
        pub cons_done : {w₃ : List ℕ} → w₃ ≡ pushed w₂ t₂ 3 m m₂ → ListRenamed ns w w₃ ls top left depth vs to n (Done (first_node + t₂) (t₂ + 1) l₂)
        cons_done p =
            let g = gave G h in let s = g.spent in let m₁ = g.more in let j = g.steps in
            let u = gave rest_is i in let v = u.spent in let n₁ = u.more in let k = u.steps in
            let P = push_cons ns cons_room.room cons_room.small (node_more u.node.table u.more g.node) u.node p in
            let q = cons_counts ns R.node e arm in let x = q.0 in let y = q.1 in
            record {
              stands = stands_then cons_stands (pushed_stands _ _ _ _ _ (omega arith) p) (omega arith);
              answer = record {
                node = P.node;
                more = omega arith;
                spent = omega arith;
                steps = omega arith;
                few = leaves_sizes _;
                is = λ s S. then_done _ _ (rest_then s S) (u.is s S) ∙ ap (λ a. done a l₂) (sym (P.is ∙ cons_kept ns H.stands.low g.node _));
              };
            }
