-- The ways out of `meet`, from what the calls gave.
use mathlib.Core.Path.{◌≡◌, refl, ◌∙◌}
use mathlib.Core.List.{List}
use Prim.Native.Nat.{ℕ, ◌+◌, ◌*◌, ◌-◌, ◌^◌, ◌<◌, ◌≤◌}
use native.Mathlib.Omega.{arith}
use lib.ListN.{length}
use Rattle.meaning.specs.Ast.{TyVar, Ty, var, arrow}
use Rattle.meaning.specs.Budget.{Out}
use Rattle.meaning.specs.Subst.{Subst, apply_in}
use Rattle.meaning.specs.Unify.{unify_in}
use Rattle.names.specs.Names.{first_node, tyvar_of}
use Rattle.ast.specs.Table.{tree, pushed}
use Rattle.ast.proofs.Laws.{kept_tree, node_more, low_node, low_var}
use Rattle.ast.proofs.NewNode.{Pushed, pushed_old, push_arrow}
use Rattle.errors.specs.declared.Refusal.{Refusal}
use Rattle.pairs.specs.Pairs.{sub_at}
use Rattle.pairs.proofs.Frames.{stands_then, stands_up, pushed_stands}
use Rattle.apply.specs.Region.{Ready, Gives}
use Rattle.apply.specs.Applied.{Applied}
use Rattle.apply.specs.Applied.{Done, Refused}
use Rattle.apply.proofs.Hand.{Then, then_done, refuse_on, gave, failed}
use Rattle.apply.proofs.Ways.{Room}
use Rattle.compose.specs.Answers.{GivesU, ReadyU}
use Rattle.unify.proofs.Outcomes.{apply_spends}
use Rattle.unify.proofs.Hand.{on, because}
use Rattle.ends.specs.Ends.{met, ReadyMeet}

-- The function's type first, then the unification.
met_way : (s : Subst) (f x : Ty) (a : TyVar) (n : ℕ) → Then (met s f x a n) (apply_in 256 s f n) (λ u m. unify_in 256 u (arrow x (var a)) m)
unfolding met
met_way s f x a n = record { is = refl }

module _ {ns w : List ℕ} {top left lo k₂ a tf tx : ℕ} (R : ReadyMeet ns w top left lo k₂ a tf tx) where
  -- What `apply` asks.
  pub meet_ready : Ready ns w top left lo k₂ tf
  meet_ready = record { names = R.names; node = R.function; room = R.room; sub = R.sub }

  module _ {w₁ : List ℕ} {r : Applied} (A : Gives (tree ns w₁) (4 * top + 8 * left - 4) ns w w₁ top left (apply_in 256 (sub_at ns w lo k₂) (tree ns w tf) left) r) where
    -- The outcome.
    abbrev whole : Out Subst
    whole = met (sub_at ns w lo k₂) (tree ns w tf) (tree ns w tx) (tyvar_of ns a) left

    -- It goes on after the function's type.
    way : Then whole (apply_in 256 (sub_at ns w lo k₂) (tree ns w tf) left) (λ u m. unify_in 256 u (arrow (tree ns w tx) (var (tyvar_of ns a))) m)
    way = met_way (sub_at ns w lo k₂) (tree ns w tf) (tree ns w tx) (tyvar_of ns a) left

    -- Applying the pairs refused.
    pub meet_refused : {e : Refusal} {t l : ℕ} → r ≡ Refused e t l → GivesU 1 0 ns w w₁ top left lo whole (Refused e t l)
    meet_refused h = let z = R.room in because (stands_up A.stands (omega arith)) (refuse_on way (failed A h) (omega arith) (omega arith))

    module _ {u t l : ℕ} (h : r ≡ Done u t l) (len : length w₁ ≡ length w) (big : length w < 2 ^ 65) where
      -- What the function's type took.
      took : (4 * t + 8 * l + 4 ≤ 4 * top + 8 * left) × (top ≤ t)
      took = let g = gave A h in let s = g.1.spent in let m = g.1.more in let p = apply_spends 256 left _ _ g.0 in (omega arith, m)

      -- There is room for the arrow.
      pub meet_room : Room w₁ top t
      meet_room = let s = took.0 in let m = took.1 in let z = R.room in let f = R.sub.fits in record { more = m; room = omega arith; small = omega arith }

      module _ {w₂ : List ℕ} (p : w₂ ≡ pushed w₁ t 2 tx a) where
        -- The arrow.
        pub meet_arrow : Pushed (tree ns w₂) w₁ w₂ t (arrow (tree ns w₁ tx) (tree ns w₁ a))
        meet_arrow =
            let g = (gave A h).1 in let v = R.variable in
            push_arrow ns meet_room.room meet_room.small (node_more g.node.table g.more R.argument) (low_node g.node.table (omega arith)) p

        -- What `unify` asks.
        pub meet_unify : ReadyU ns w₂ (t + 1) l lo u (first_node + t)
        meet_unify =
            let g = (gave A h).1 in let s = took.0 in let z = R.room in let f = R.sub.fits in let P = meet_arrow in let y = P.long in
            record { names = R.names; first = pushed_old P g.node; second = P.node; room = omega arith; fits = omega arith }

        -- The unification is the answer.
        pub meet_done : {w₃ : List ℕ} {q : Applied} → GivesU 1 0 ns w₂ w₃ (t + 1) l lo (unify_in 256 (tree ns w₂ u) (tree ns w₂ (first_node + t)) l) q → GivesU 1 0 ns w w₃ top left lo whole q
        meet_done U =
            let g = gave A h in let s = took.0 in let m = took.1 in let z = R.room in
            let P = meet_arrow in
            on (stands_then (stands_up A.stands (omega arith)) (pushed_stands t 2 tx a lo (omega arith) p) m) (omega arith)
            (then_done _ l way g.0 ∙ rw (kept_tree ns P.kept g.1.node, P.is, kept_tree ns A.stands.low R.argument, low_var ns w₁ a R.variable))
            (omega arith) (omega arith) U
