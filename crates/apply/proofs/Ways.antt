-- The ways out of `apply_but` and `args_but` that call, from what the calls gave.
use mathlib.Core.Path.{◌≡◌, refl, sym, ◌∙◌}
use mathlib.Core.List.{List}
use Prim.Native.Nat.{ℕ, ◌+◌, ◌*◌, ◌-◌, ◌^◌, ◌<◌, ◌≤◌}
use native.Mathlib.Omega.{arith}
use lib.ListN.{length}
use Rattle.meaning.specs.Subst.{each, apply_in}
use Rattle.names.specs.Names.{first_node}
use Rattle.ast.specs.Table.{shape_of, cell_of, tree, list, pushed}
use Rattle.ast.specs.declared.Shape.{Shape}
use Rattle.ast.specs.declared.Shape.TheVariants.{Var, Con, Arrow}
use Rattle.ast.specs.declared.Cell.{Cell}
use Rattle.ast.specs.declared.Cell.TheVariants.{Cons}
use Rattle.ast.proofs.Ranges.{cons_node}
use Rattle.std.specs.Option.{unwrap_or}
use Rattle.std.specs.Prelude.{Option as Maybe, Some, None}
use Rattle.ast.proofs.Laws.{var_node, arrow_right, cons_tail, node_more}
use Rattle.ast.proofs.NewNode.{push_con, push_arrow, push_cons}
use Rattle.errors.specs.declared.Refusal.{Refusal}
use Rattle.pairs.proofs.Frames.{pushed_stands}
use Rattle.apply.specs.Region.{sub_but, find_but, ReadyBut, Gives}
use Rattle.apply.specs.Applied.{Applied}
use Rattle.apply.specs.Applied.{Done, Refused}
use Rattle.apply.proofs.Buts.{look_at, look_nothing, found_node}
use Rattle.apply.proofs.Hand.{within, stays, gives, gave, fails, goes, adds, same_then}
use Rattle.apply.proofs.Arms.{at_var, at_free, at_con, at_arrow, at_cons, but_then, apply_kept, each_kept, arrow_kept, cons_kept}

-- There is room for node top₁, and a word can name it.
pub record Room (w₁ : List ℕ) (top top₁ : ℕ) : Type 0 where
  pub more : top ≤ top₁
  pub room : 4 * top₁ + 4 ≤ length w₁
  pub small : top₁ < first_node

-- ## At a type: r is what `shape_at` returned

module _ {ns w : List ℕ} {top left at k vs t depth : ℕ} (R : ReadyBut ns w top left at k vs t) (dp : depth ≡ 0 → ⊥) (lp : left ≡ 0 → ⊥) {r : Shape} (e : r ≡ shape_of w t) where
  -- A variable: what the pairs have for it, or itself.
  pub var_given : {x : ℕ} → r ≡ Var x → (f : Maybe ℕ) → f ≡ find_but ns w vs at k x
      → Gives (tree ns w) (4 * top + 8 * left - 4) ns w w top left (apply_in depth (sub_but ns w vs at k) (tree ns w t) left) (Done (unwrap_or f x) top (left - 1))
  var_given arm (Some m) g = gives (stays (at_var ns R.ty.node _ dp lp e arm (look_at R _ g refl)) (found_node R _ g refl) (omega arith) (omega arith))
  var_given arm None g = gives (stays (at_free ns R.ty.node _ dp lp e arm (look_nothing R _ g refl)) (var_node R.ty.node e arm) (omega arith) (omega arith))

  -- A constructor, after the call for its arguments.
  module _ {c b : ℕ} (arm : r ≡ Con c b) {w₁ : List ℕ} {r₁ : Applied}
      (G : Gives (list ns w₁) (4 * top + 8 * (left - 1)) ns w w₁ top (left - 1) (each (apply_in (depth - 1) (sub_but ns w vs at k)) (list ns w b) (left - 1)) r₁) where
    -- They are refused.
    pub con_refused : {q : Refusal} {t₁ l₁ : ℕ} → r₁ ≡ Refused q t₁ l₁
        → Gives (tree ns w₁) (4 * top + 8 * left - 4) ns w w₁ top left (apply_in depth (sub_but ns w vs at k) (tree ns w t) left) (Refused q t₁ l₁)
    con_refused h = gives (fails (within _ _ G (omega arith) (omega arith)) (at_con ns R.ty.node _ dp lp e arm) h)

    module _ {m t₁ l₁ : ℕ} (h : r₁ ≡ Done m t₁ l₁) (len : length w₁ ≡ length w) (big : length w < 2 ^ 65) where
      -- There is room for the new node.
      pub con_room : Room w₁ top t₁
      con_room =
          let g = (gave G h).1 in let s = g.spent in let o = R.ty.room in let f = R.ty.sub.fits in
          record { more = g.more; room = omega arith; small = omega arith }

      -- The node is the answer.
      pub con_done : {w₂ : List ℕ} → w₂ ≡ pushed w₁ t₁ 1 c m
          → Gives (tree ns w₂) (4 * top + 8 * left - 4) ns w w₂ top left (apply_in depth (sub_but ns w vs at k) (tree ns w t) left) (Done (first_node + t₁) (t₁ + 1) l₁)
      con_done p =
          let g = (gave G h).1 in let s = g.spent in
          gives (goes (within _ _ G (omega arith) (omega arith)) (at_con ns R.ty.node _ dp lp e arm) h
          (adds (push_con ns con_room.room con_room.small c g.node p) (pushed_stands _ _ _ _ _ (omega arith) p) refl) (omega arith))

  -- An arrow, after the call for its left side.
  module _ {a b : ℕ} (arm : r ≡ Arrow a b) {w₁ : List ℕ} {r₁ : Applied}
      (G : Gives (tree ns w₁) (4 * top + 8 * (left - 1) - 4) ns w w₁ top (left - 1) (apply_in (depth - 1) (sub_but ns w vs at k) (tree ns w a) (left - 1)) r₁) where
    -- It is refused.
    pub arrow_refused : {q : Refusal} {t₁ l₁ : ℕ} → r₁ ≡ Refused q t₁ l₁
        → Gives (tree ns w₁) (4 * top + 8 * left - 4) ns w w₁ top left (apply_in depth (sub_but ns w vs at k) (tree ns w t) left) (Refused q t₁ l₁)
    arrow_refused h = gives (fails (within _ _ G (omega arith) (omega arith)) (at_arrow ns R.ty.node _ dp lp e arm) h)

    module _ {m t₁ l₁ : ℕ} (h : r₁ ≡ Done m t₁ l₁) where
      -- The right side is next.
      pub arrow_next : length w₁ ≡ length w → (top ≤ t₁) × ReadyBut ns w₁ t₁ l₁ at k vs b
      arrow_next len = let g = (gave G h).1 in let o = R.ty.room in
          (g.more, but_then R G.stands (omega arith) g (omega arith) len (arrow_right R.ty.node e arm).1)

      -- After the call for the right side.
      module _ {w₂ : List ℕ} {r₂ : Applied}
          (H : Gives (tree ns w₂) (4 * t₁ + 8 * l₁ - 4) ns w₁ w₂ t₁ l₁ (apply_in (depth - 1) (sub_but ns w₁ vs at k) (tree ns w₁ b) l₁) r₂) where
        -- That is refused.
        pub arrow_refused_2 : {q : Refusal} {t₂ l₂ : ℕ} → r₂ ≡ Refused q t₂ l₂
            → Gives (tree ns w₂) (4 * top + 8 * left - 4) ns w w₂ top left (apply_in depth (sub_but ns w vs at k) (tree ns w t) left) (Refused q t₂ l₂)
        arrow_refused_2 i =
            let g = (gave G h).1 in let s = g.spent in let o = R.ty.room in
            gives (goes (within _ _ G (omega arith) (omega arith)) (at_arrow ns R.ty.node _ dp lp e arm) h
            (fails (within _ _ H (omega arith) (omega arith)) {b' = 0} (same_then _ (sym (apply_kept R G.stands (omega arith) _ _ (arrow_right R.ty.node e arm).1))) i) (omega arith))

        module _ {m₂ t₂ l₂ : ℕ} (i : r₂ ≡ Done m₂ t₂ l₂) (len : length w₂ ≡ length w) (big : length w < 2 ^ 65) where
          -- There is room for the new node.
          pub arrow_room : Room w₂ top t₂
          arrow_room =
              let g = (gave G h).1 in let s = g.spent in let m₁ = g.more in let u = (gave H i).1 in let v = u.spent in let n₁ = u.more in let o = R.ty.room in let f = R.ty.sub.fits in
              record { more = omega arith; room = omega arith; small = omega arith }

          -- The node is the answer.
          pub arrow_done : {w₃ : List ℕ} → w₃ ≡ pushed w₂ t₂ 2 m m₂
              → Gives (tree ns w₃) (4 * top + 8 * left - 4) ns w w₃ top left (apply_in depth (sub_but ns w vs at k) (tree ns w t) left) (Done (first_node + t₂) (t₂ + 1) l₂)
          arrow_done p =
              let g = (gave G h).1 in let s = g.spent in let u = (gave H i).1 in let v = u.spent in let o = R.ty.room in
              gives (goes (within _ _ G (omega arith) (omega arith)) (at_arrow ns R.ty.node _ dp lp e arm) h
              (goes (within _ _ H (omega arith) (omega arith)) {b' = 4 * top + 8 * left - 4} (same_then _ (sym (apply_kept R G.stands (omega arith) _ _ (arrow_right R.ty.node e arm).1))) i
              (adds (push_arrow ns arrow_room.room arrow_room.small (node_more u.node.table u.more g.node) u.node p) (pushed_stands _ _ _ _ _ (omega arith) p)
              (arrow_kept ns H.stands.low g.node _)) (omega arith)) (omega arith))

-- ## At a list: r is what `cell_at` returned

module _ {ns w : List ℕ} {top left at k vs n : ℕ} (depth : ℕ) (R : ReadyBut ns w top left at k vs n) {r : Cell} (e : r ≡ cell_of w n) {a b : ℕ} (arm : r ≡ Cons a b) {w₁ : List ℕ} {r₁ : Applied}
    (G : Gives (tree ns w₁) (4 * top + 8 * left - 4) ns w w₁ top left (apply_in depth (sub_but ns w vs at k) (tree ns w a) left) r₁) where
  -- The first type is refused.
  pub cons_refused : {q : Refusal} {t₁ l₁ : ℕ} → r₁ ≡ Refused q t₁ l₁
      → Gives (list ns w₁) (4 * top + 8 * left) ns w w₁ top left (each (apply_in depth (sub_but ns w vs at k)) (list ns w n) left) (Refused q t₁ l₁)
  cons_refused h = gives (fails (within _ _ G (omega arith) (omega arith)) (at_cons ns R.ty.node _ _ _ e arm) h)

  module _ {m t₁ l₁ : ℕ} (h : r₁ ≡ Done m t₁ l₁) where
    -- The rest is next.
    pub cons_next : length w₁ ≡ length w → (top ≤ t₁) × ReadyBut ns w₁ t₁ l₁ at k vs b
    cons_next len = let g = (gave G h).1 in let o = R.ty.room in
        (g.more, but_then R G.stands o g (omega arith) len (cons_tail R.ty.node e arm).1)

    -- After the call for the rest.
    module _ {w₂ : List ℕ} {r₂ : Applied}
        (H : Gives (list ns w₂) (4 * t₁ + 8 * l₁) ns w₁ w₂ t₁ l₁ (each (apply_in depth (sub_but ns w₁ vs at k)) (list ns w₁ b) l₁) r₂) where
      -- That is refused.
      pub cons_refused_2 : {q : Refusal} {t₂ l₂ : ℕ} → r₂ ≡ Refused q t₂ l₂
          → Gives (list ns w₂) (4 * top + 8 * left) ns w w₂ top left (each (apply_in depth (sub_but ns w vs at k)) (list ns w n) left) (Refused q t₂ l₂)
      cons_refused_2 i =
          let g = (gave G h).1 in let s = g.spent in
          gives (goes (within _ _ G (omega arith) (omega arith)) (at_cons ns R.ty.node _ _ _ e arm) h
          (fails (within _ _ H (omega arith) (omega arith)) {b' = 0} (same_then _ (sym (each_kept R G.stands R.ty.room _ _ (cons_tail R.ty.node e arm).1))) i) (omega arith))

      module _ {m₂ t₂ l₂ : ℕ} (i : r₂ ≡ Done m₂ t₂ l₂) (len : length w₂ ≡ length w) (big : length w < 2 ^ 65) where
        -- A list with a first type is a node, so that the table is not empty.
        some_node : 1 ≤ top
        some_node = let c = cons_node w n (sym e ∙ arm) in let d = R.ty.node.below in omega arith

        -- There is room for the new node.
        pub cons_room : Room w₂ top t₂
        cons_room =
            let g = (gave G h).1 in let s = g.spent in let m₁ = g.more in let u = (gave H i).1 in let v = u.spent in let n₁ = u.more in let o = R.ty.room in let f = R.ty.sub.fits in let z = some_node in
            record { more = omega arith; room = omega arith; small = omega arith }

        -- The node is the answer.
        pub cons_done : {w₃ : List ℕ} → w₃ ≡ pushed w₂ t₂ 3 m m₂
            → Gives (list ns w₃) (4 * top + 8 * left) ns w w₃ top left (each (apply_in depth (sub_but ns w vs at k)) (list ns w n) left) (Done (first_node + t₂) (t₂ + 1) l₂)
        cons_done p =
            let g = (gave G h).1 in let s = g.spent in let u = (gave H i).1 in let v = u.spent in let z = some_node in
            gives (goes (within _ _ G (omega arith) (omega arith)) (at_cons ns R.ty.node _ _ _ e arm) h
            (goes (within _ _ H (omega arith) (omega arith)) {b' = 4 * top + 8 * left} (same_then _ (sym (each_kept R G.stands R.ty.room _ _ (cons_tail R.ty.node e arm).1))) i
            (adds (push_cons ns cons_room.room cons_room.small (node_more u.node.table u.more g.node) u.node p) (pushed_stands _ _ _ _ _ (omega arith) p)
            (cons_kept ns H.stands.low g.node _)) (omega arith)) (omega arith))
