-- The ways out of `match_ty` and `match_pred`.
use Prim.Native.Nat.{ℕ, zero, suc, ◌+◌, ◌-◌}
use native.Mathlib.Omega.{arith}
use native.Mathlib.Numerals.{sub-one}
use mathlib.Core.Path.{◌≡◌, refl, ap, sym, ◌∙◌}
use mathlib.Core.List.{List}
use lib.ListN.{set}
use Rattle.meaning.specs.Ast.{Ty, pred}
use Rattle.meaning.specs.Errors.{out_of_steps, too_deep}
use Rattle.meaning.specs.Budget.{refused, step}
use Rattle.meaning.specs.Unify.{match_node, match_in, match_pred}
use Rattle.names.specs.Names.{name_of, first_nullary}
use Rattle.names.proofs.Distinct.{name_of_same}
use Rattle.ast.specs.Table.{tree, shape_of}
use Rattle.ast.specs.declared.Shape.{Shape}
use Rattle.ast.specs.declared.Shape.TheVariants.{Var, Con, Arrow}
use Rattle.ast.proofs.Laws.{tree_var, tree_con, tree_arrow, arrow_left, arrow_right, low_node, low_con}
use Rattle.errors.specs.declared.Refusal.TheVariants.{UnificationFailure, Depth, Steps as No-Steps}
use Rattle.apply.specs.Applied.{Applied}
use Rattle.apply.specs.Applied.{Done, Refused}
use Rattle.compose.specs.Answers.{GivesU, ReadyU, ReadyArrow}
use Rattle.matching.specs.Match.{match_arrow, Shapes, Classes}
use Rattle.pairs.proofs.Frames.{stands_refl}
use Rattle.compose.proofs.Hand.{on}
use Rattle.matching.proofs.Pairs.{one_pair}
use Rattle.matching.proofs.Heads.{names_same, names_not, differ, node_arrow}

-- One step of the walk.
walk_step : (d l : ℕ) (a b : Ty) → (d ≡ 0 → ⊥) → (l ≡ 0 → ⊥) → match_in d a b l ≡ match_node (λ x y. match_in (d - 1) x y) a b (l - 1)
unfolding match_in step
walk_step zero l a b p q = absurd (p refl)
walk_step (suc d) zero a b p q = absurd (q refl)
walk_step (suc d) (suc l) a b p q = simp sub-one

-- No depth is left.
walk_deep : (d l : ℕ) (a b : Ty) → d ≡ 0 → match_in d a b l ≡ refused too_deep l
unfolding match_in
walk_deep d l a b e = rw e

-- No step is left.
walk_spent : (d l : ℕ) (a b : Ty) → (d ≡ 0 → ⊥) → l ≡ 0 → match_in d a b l ≡ refused out_of_steps 0
unfolding match_in step
walk_spent zero l a b p e = absurd (p refl)
walk_spent (suc d) l a b p e = rw e

module _ {ns w : List ℕ} {top left sp s t : ℕ} (R : ReadyU ns w top left sp s t) (depth : ℕ) where
  -- Too deep.
  pub ty_deep : depth ≡ 0 → GivesU 1 0 ns w w top left sp (match_in depth (tree ns w s) (tree ns w t) left) (Refused Depth top left)
  ty_deep e = record { stands = stands_refl _ _ _; answer = record { is = walk_deep _ _ _ _ e; types = tt; more = omega arith; down = omega arith } }

  module _ (dp : depth ≡ 0 → ⊥) where
    -- Out of steps.
    pub ty_spent : left ≡ 0 → GivesU 1 0 ns w w top left sp (match_in depth (tree ns w s) (tree ns w t) left) (Refused No-Steps top left)
    ty_spent e = record { stands = stands_refl _ _ _; answer = record { is = walk_spent _ _ _ _ dp e ∙ rw e; types = tt; more = omega arith; down = omega arith } }

    module _ (lp : left ≡ 0 → ⊥) {p q : Shape} (ep : p ≡ shape_of w s) (eq : q ≡ shape_of w t) where
      -- The first step.
      walks : match_in depth (tree ns w s) (tree ns w t) left ≡ match_node (λ x y. match_in (depth - 1) x y) (tree ns w s) (tree ns w t) (left - 1)
      walks = walk_step _ _ _ _ dp lp

      -- A variable takes the type: one pair.
      pub ty_var : {x : ℕ} {w₁ w₂ : List ℕ} → p ≡ Var x → w₁ ≡ set w (sp - 2) x → w₂ ≡ set w₁ (sp - 1) t
          → GivesU 1 0 ns w w₂ top left sp (match_in depth (tree ns w s) (tree ns w t) left) (Done 1 top (left - 1))
      unfolding match_node
      ty_var {x} h e f = let r = R.room in one_pair ns R.second x (omega arith) R.fits e f lp (walks ∙ rw (tree_var ns R.first ep h))

      -- A constructor against a variable.
      pub ty_con_var : {c xs y : ℕ} → p ≡ Con c xs → q ≡ Var y → GivesU 1 0 ns w w top left sp (match_in depth (tree ns w s) (tree ns w t) left) (Refused (UnificationFailure s t) top (left - 1))
      unfolding match_node
      ty_con_var h i = differ R.first R.second (omega arith) (walks ∙ rw (tree_con ns R.first ep h, tree_var ns R.second eq i))

      -- A constructor against an arrow.
      pub ty_con_arrow : {c xs a b : ℕ} → p ≡ Con c xs → q ≡ Arrow a b → GivesU 1 0 ns w w top left sp (match_in depth (tree ns w s) (tree ns w t) left) (Refused (UnificationFailure s t) top (left - 1))
      unfolding match_node
      ty_con_arrow h i = differ R.first R.second (omega arith) (walks ∙ rw (tree_con ns R.first ep h, tree_arrow ns R.second eq i))

      -- An arrow against a variable.
      pub ty_arrow_var : {a b y : ℕ} → p ≡ Arrow a b → q ≡ Var y → GivesU 1 0 ns w w top left sp (match_in depth (tree ns w s) (tree ns w t) left) (Refused (UnificationFailure s t) top (left - 1))
      unfolding match_node
      ty_arrow_var h i = differ R.first R.second (omega arith) (walks ∙ rw (tree_arrow ns R.first ep h, tree_var ns R.second eq i))

      -- An arrow against a constructor.
      pub ty_arrow_con : {a b c xs : ℕ} → p ≡ Arrow a b → q ≡ Con c xs → GivesU 1 0 ns w w top left sp (match_in depth (tree ns w s) (tree ns w t) left) (Refused (UnificationFailure s t) top (left - 1))
      unfolding match_node
      ty_arrow_con h i = differ R.first R.second (omega arith) (walks ∙ rw (tree_arrow ns R.first ep h, tree_con ns R.second eq i))

      -- What two constructors give.
      pub ty_cons : {w₁ : List ℕ} {v : Applied} → GivesU 0 0 ns w w₁ top (left - 1) sp (match_node (λ a b. match_in (depth - 1) a b) (tree ns w s) (tree ns w t) (left - 1)) v
          → GivesU 1 0 ns w w₁ top left sp (match_in depth (tree ns w s) (tree ns w t) left) v
      ty_cons G = on (stands_refl _ _ _) (omega arith) walks (omega arith) (omega arith) (omega arith) G

      -- What `match_cons` asks.
      pub ty_less : ReadyU ns w top (left - 1) sp s t
      ty_less = let r = R.room in record { names = R.names; first = R.first; second = R.second; room = omega arith; fits = R.fits }

      -- And of the shapes.
      pub ty_shapes : {c xs d ys : ℕ} → p ≡ Con c xs → q ≡ Con d ys → Shapes w s t c xs d ys
      ty_shapes h i = record { first = sym h ∙ ep; second = sym i ∙ eq }

      module _ {a b c d : ℕ} (h : p ≡ Arrow a b) (i : q ≡ Arrow c d) where
        -- What `match_arrow` asks.
        pub ty_sides : ReadyArrow ns w top (left - 1) sp a b c d
        ty_sides =
            let r = R.room in
            record {
              lefts = record { names = R.names; first = (arrow_left R.first ep h).1; second = (arrow_left R.second eq i).1; room = omega arith; fits = R.fits };
              rights = record { names = R.names; first = (arrow_right R.first ep h).1; second = (arrow_right R.second eq i).1; room = omega arith; fits = R.fits };
            }

        -- What two arrows give.
        pub ty_arrows : {w₁ : List ℕ} {v : Applied}
            → GivesU 0 0 ns w w₁ top (left - 1) sp (match_arrow (λ x y. match_in (depth - 1) x y) (tree ns w a) (tree ns w b) (tree ns w c) (tree ns w d) (left - 1)) v
            → GivesU 1 0 ns w w₁ top left sp (match_in depth (tree ns w s) (tree ns w t) left) v
        ty_arrows G =
            on (stands_refl _ _ _) (omega arith)
            (walks ∙ rw (tree_arrow ns R.first ep h, tree_arrow ns R.second eq i) (node_arrow (λ x y. match_in (depth - 1) x y) _ _ _ _ _))
            (omega arith) (omega arith) (omega arith) G

-- ## Predicates

module _ {ns w : List ℕ} {top left sp c s d t : ℕ} (R : ReadyU ns w top left sp s t) (K : Classes c d) where
  -- Two classes.
  pub pred_differs : (c ≡ d → ⊥) → GivesU 0 0 ns w w top left sp (match_pred (pred (name_of ns c) (tree ns w s)) (pred (name_of ns d) (tree ns w t)) left)
      (Refused (UnificationFailure (first_nullary + c) (first_nullary + d)) top left)
  unfolding match_pred
  pred_differs h =
      let k = K.first in
      let j = K.second in
      differ (low_node R.first.table (omega arith)) (low_node R.first.table (omega arith)) (omega arith)
      (rw (names_not (λ (e : name_of ns c ≡ name_of ns d). h (name_of_same ns R.names c d e)), low_con ns w c (omega arith), low_con ns w d (omega arith)))

  -- One class: what the types give.
  pub pred_goes : {w₁ : List ℕ} {v : Applied} → c ≡ d → GivesU 1 0 ns w w₁ top left sp (match_in 256 (tree ns w s) (tree ns w t) left) v
      → GivesU 0 0 ns w w₁ top left sp (match_pred (pred (name_of ns c) (tree ns w s)) (pred (name_of ns d) (tree ns w t)) left) v
  unfolding match_pred
  pred_goes e G = on (stands_refl _ _ _) (omega arith) (rw (names_same (ap (name_of ns) e))) (omega arith) (omega arith) (omega arith) G
