-- The ways out of `unify`.
use Prim.Native.Nat.{ℕ, ◌-◌}
use native.Mathlib.Omega.{arith}
use mathlib.Core.Path.{◌≡◌, ◌∙◌}
use mathlib.Core.List.{List}
use Rattle.meaning.specs.Unify.{bind, unify_con, unify_arrow, unify_node, unify_in}
use Rattle.names.specs.Names.{name_of, tyvar_of}
use Rattle.ast.specs.Table.{tree, list, shape_of, Node}
use Rattle.ast.specs.declared.Shape.{Shape}
use Rattle.ast.specs.declared.Shape.TheVariants.{Var, Con, Arrow}
use Rattle.ast.proofs.Laws.{tree_var, tree_con, tree_arrow, con_child, arrow_left, arrow_right}
use Rattle.errors.specs.declared.Refusal.TheVariants.{Depth, Steps, UnificationFailure}
use Rattle.apply.specs.Applied.{Applied}
use Rattle.apply.specs.Applied.{Refused}
use Rattle.compose.specs.Answers.{GivesU, ReadyU, ReadyArrow}
use Rattle.unify.specs.Unify.{Binds}
use Rattle.pairs.proofs.Frames.{stands_refl}
use Rattle.unify.proofs.Outcomes.{unify_step, unify_deep, unify_spent}
use Rattle.unify.proofs.Hand.{on, refuses}

module _ {ns w : List ℕ} {top left sp m n : ℕ} (R : ReadyU ns w top left sp m n) (depth : ℕ) where
  -- No depth is left.
  pub un_deep : depth ≡ 0 → GivesU 1 0 ns w w top left sp (unify_in depth (tree ns w m) (tree ns w n) left) (Refused Depth top left)
  un_deep e = refuses Depth (unify_deep _ _ _ _ e) tt (omega arith)

  -- No step is left.
  pub un_spent : (depth ≡ 0 → ⊥) → left ≡ 0 → GivesU 1 0 ns w w top left sp (unify_in depth (tree ns w m) (tree ns w n) left) (Refused Steps top left)
  un_spent p e = refuses Steps (unify_spent _ _ _ _ p e ∙ rw e) tt (omega arith)

  module _ (dp : depth ≡ 0 → ⊥) (lp : left ≡ 0 → ⊥) where
    -- What `unify` does then.
    looks : unify_in depth (tree ns w m) (tree ns w n) left ≡ unify_node (λ x y. unify_in (depth - 1) x y) (tree ns w m) (tree ns w n) (left - 1)
    looks = unify_step _ _ _ _ dp lp

    -- What `bind` asks.
    pub un_binds : {t : ℕ} → Node w top t → Binds ns w top (left - 1) sp t
    un_binds N = let r = R.room in record { names = R.names; node = N; room = omega arith; fits = R.fits }

    module _ {p q : Shape} (ep : p ≡ shape_of w m) (eq : q ≡ shape_of w n) where
      -- A variable on the left.
      pub un_var : {x : ℕ} {w₁ : List ℕ} {r : Applied} → p ≡ Var x → GivesU 0 2 ns w w₁ top (left - 1) sp (bind (tyvar_of ns x) (tree ns w n) (left - 1)) r
          → GivesU 1 0 ns w w₁ top left sp (unify_in depth (tree ns w m) (tree ns w n) left) r
      unfolding unify_node
      un_var k G = on (stands_refl _ _ _) (omega arith) (looks ∙ rw (tree_var ns R.first ep k)) (omega arith) (omega arith) G

      -- A constructor against a variable.
      pub un_con_var : {c xs y : ℕ} {w₁ : List ℕ} {r : Applied} → p ≡ Con c xs → q ≡ Var y → GivesU 0 2 ns w w₁ top (left - 1) sp (bind (tyvar_of ns y) (tree ns w m) (left - 1)) r
          → GivesU 1 0 ns w w₁ top left sp (unify_in depth (tree ns w m) (tree ns w n) left) r
      unfolding unify_node
      un_con_var k j G = on (stands_refl _ _ _) (omega arith) (looks ∙ rw (tree_con ns R.first ep k, tree_var ns R.second eq j)) (omega arith) (omega arith) G

      -- An arrow against a variable.
      pub un_arrow_var : {a b y : ℕ} {w₁ : List ℕ} {r : Applied} → p ≡ Arrow a b → q ≡ Var y → GivesU 0 2 ns w w₁ top (left - 1) sp (bind (tyvar_of ns y) (tree ns w m) (left - 1)) r
          → GivesU 1 0 ns w w₁ top left sp (unify_in depth (tree ns w m) (tree ns w n) left) r
      unfolding unify_node
      un_arrow_var k j G = on (stands_refl _ _ _) (omega arith) (looks ∙ rw (tree_arrow ns R.first ep k, tree_var ns R.second eq j)) (omega arith) (omega arith) G

      -- A constructor against an arrow.
      pub un_con_arrow : {c xs a b : ℕ} → p ≡ Con c xs → q ≡ Arrow a b
          → GivesU 1 0 ns w w top left sp (unify_in depth (tree ns w m) (tree ns w n) left) (Refused (UnificationFailure m n) top (left - 1))
      unfolding unify_node
      un_con_arrow k j = refuses (UnificationFailure m n) (looks ∙ rw (tree_con ns R.first ep k, tree_arrow ns R.second eq j)) (R.first, R.second) (omega arith)

      -- An arrow against a constructor.
      pub un_arrow_con : {a b c xs : ℕ} → p ≡ Arrow a b → q ≡ Con c xs
          → GivesU 1 0 ns w w top left sp (unify_in depth (tree ns w m) (tree ns w n) left) (Refused (UnificationFailure m n) top (left - 1))
      unfolding unify_node
      un_arrow_con k j = refuses (UnificationFailure m n) (looks ∙ rw (tree_arrow ns R.first ep k, tree_con ns R.second eq j)) (R.first, R.second) (omega arith)

      -- What `unify_con` asks.
      pub un_con_ready : {c xs d ys : ℕ} → p ≡ Con c xs → q ≡ Con d ys → ReadyU ns w top (left - 1) sp xs ys
      un_con_ready k j = let r = R.room in record { names = R.names; first = (con_child R.first ep k).1; second = (con_child R.second eq j).1; room = omega arith; fits = R.fits }

      -- Two constructors.
      pub un_con : {c xs d ys : ℕ} {w₁ : List ℕ} {r : Applied} → p ≡ Con c xs → q ≡ Con d ys
          → GivesU 0 0 ns w w₁ top (left - 1) sp (unify_con (λ x y. unify_in (depth - 1) x y) (name_of ns c) (list ns w xs) (name_of ns d) (list ns w ys) (left - 1)) r
          → GivesU 1 0 ns w w₁ top left sp (unify_in depth (tree ns w m) (tree ns w n) left) r
      unfolding unify_node
      un_con k j G = on (stands_refl _ _ _) (omega arith) (looks ∙ rw (tree_con ns R.first ep k, tree_con ns R.second eq j)) (omega arith) (omega arith) G

      -- What `unify_arrow` asks.
      pub un_arrow_ready : {a b c d : ℕ} → p ≡ Arrow a b → q ≡ Arrow c d → ReadyArrow ns w top (left - 1) sp a b c d
      un_arrow_ready k j =
          let r = R.room in
          record {
            lefts = record { names = R.names; first = (arrow_left R.first ep k).1; second = (arrow_left R.second eq j).1; room = omega arith; fits = R.fits };
            rights = record { names = R.names; first = (arrow_right R.first ep k).1; second = (arrow_right R.second eq j).1; room = omega arith; fits = R.fits };
          }

      -- Two arrows.
      pub un_arrow : {a b c d : ℕ} {w₁ : List ℕ} {r : Applied} → p ≡ Arrow a b → q ≡ Arrow c d
          → GivesU 0 0 ns w w₁ top (left - 1) sp (unify_arrow (λ x y. unify_in (depth - 1) x y) (tree ns w a) (tree ns w b) (tree ns w c) (tree ns w d) (left - 1)) r
          → GivesU 1 0 ns w w₁ top left sp (unify_in depth (tree ns w m) (tree ns w n) left) r
      unfolding unify_node
      un_arrow k j G = on (stands_refl _ _ _) (omega arith) (looks ∙ rw (tree_arrow ns R.first ep k, tree_arrow ns R.second eq j)) (omega arith) (omega arith) G
