-- The ways out of `abs_end`, from what the calls gave.
use mathlib.Core.Path.{◌≡◌, refl, ◌∙◌}
use mathlib.Core.List.{List}
use Prim.Native.Nat.{ℕ, ◌+◌, ◌*◌, ◌-◌, ◌^◌, ◌<◌, ◌≤◌}
use native.Mathlib.Omega.{arith}
use lib.ListN.{length}
use Rattle.meaning.specs.Ast.{Name, TyVar, Ty, var, arrow, Core, cabs}
use Rattle.meaning.specs.Budget.{Out, done}
use Rattle.meaning.specs.Subst.{Subst, apply_in}
use Rattle.names.specs.Names.{first_node, name_of, tyvar_of}
use Rattle.ast.specs.Table.{tree, pushed}
use Rattle.ast.proofs.Laws.{kept_tree, kept_then, node_more, low_node, low_var}
use Rattle.ast.proofs.NewNode.{Pushed, push_arrow}
use Rattle.errors.specs.declared.Refusal.{Refusal}
use Rattle.pairs.specs.Pairs.{sub_at}
use Rattle.pairs.proofs.Frames.{stands_then, stands_up, pushed_stands}
use Rattle.apply.specs.Region.{Ready, Gives}
use Rattle.apply.specs.Applied.{Applied}
use Rattle.apply.specs.Applied.{Done as A-Done, Refused as A-Refused}
use Rattle.apply.proofs.Hand.{Then, then_done, refuse_on, gave, failed}
use Rattle.apply.proofs.Ways.{Room}
use Rattle.unify.proofs.Outcomes.{apply_spends}
use Rattle.cores.specs.Parts.{pushed_four}
use Rattle.cores.specs.Terms.{core}
use Rattle.cores.proofs.TermLaws.{kept_core}
use Rattle.cores.proofs.NewTerm.{four_stands, push_function}
use Rattle.ends.specs.Ends.{abs_ended, ReadyAbs, GivesAbs}
use Rattle.ends.specs.Ended.{Done, Refused}

-- The variable first, then the arrow and the term.
abs_way : (s : Subst) (a : TyVar) (t : Ty) (x : Name) (e : Core) (n : ℕ) → Then (abs_ended s a t x e n) (apply_in 256 s (var a) n) (λ u m. done (arrow u t, cabs x e) m)
unfolding abs_ended
abs_way s a t x e n = record { is = refl }

module _ {ns w : List ℕ} {top left sp k a t e : ℕ} (R : ReadyAbs ns w top left sp k a t e) where
  -- What `apply` asks.
  pub abs_ready : Ready ns w top left (sp - 2 * k) k a
  abs_ready = let r = R.room in let v = R.variable in record { names = R.names; node = low_node R.ty.table (omega arith); room = omega arith; sub = R.sub }

  module _ (x : ℕ) {w₁ : List ℕ} {r : Applied} (A : Gives (tree ns w₁) (4 * top + 8 * left - 4) ns w w₁ top left (apply_in 256 (sub_at ns w (sp - 2 * k) k) (tree ns w a) left) r) where
    -- The outcome.
    abbrev whole : Out (Ty × Core)
    whole = abs_ended (sub_at ns w (sp - 2 * k) k) (tyvar_of ns a) (tree ns w t) (name_of ns x) (core ns w e) left

    -- It goes on after the variable's type.
    way : Then whole (apply_in 256 (sub_at ns w (sp - 2 * k) k) (tree ns w a) left) (λ u m. done (arrow u (tree ns w t), cabs (name_of ns x) (core ns w e)) m)
    way = record { is = rw (low_var ns w a R.variable) (abs_way (sub_at ns w (sp - 2 * k) k) (tyvar_of ns a) (tree ns w t) (name_of ns x) (core ns w e) left).is }

    -- There is no step.
    pub abs_refused : {f : Refusal} {n l : ℕ} → r ≡ A-Refused f n l → GivesAbs ns w w₁ top left whole (Refused f n l)
    abs_refused h = record { stands = stands_up A.stands (omega arith); answer = refuse_on way (failed A h) (omega arith) (omega arith) }

    module _ {u n l : ℕ} (h : r ≡ A-Done u n l) (len : length w₁ ≡ length w) (big : length w < 2 ^ 65) where
      -- What the variable's type took.
      took : (4 * n + 8 * l + 4 ≤ 4 * top + 8 * left) × (top ≤ n)
      took = let g = gave A h in let s = g.1.spent in let m = g.1.more in let p = apply_spends 256 left _ _ g.0 in (omega arith, m)

      -- There is room for the arrow, and for one more node.
      pub abs_room : Room w₁ top n × ((4 * (n + 1) + 4 ≤ length w₁) × (n + 1 < first_node))
      abs_room =
          let s = took.0 in let m = took.1 in let z = R.room in let f = R.fits in
          (record { more = m; room = omega arith; small = omega arith }, (omega arith, omega arith))

      module _ {w₂ : List ℕ} (p : w₂ ≡ pushed w₁ n 2 u t) where
        -- The arrow.
        pub abs_arrow : Pushed (tree ns w₂) w₁ w₂ n (arrow (tree ns w₁ u) (tree ns w₁ t))
        abs_arrow = let g = (gave A h).1 in push_arrow ns abs_room.0.room abs_room.0.small g.node (node_more g.node.table g.more R.ty) p

        -- The term, over the table with the arrow.
        pub abs_lambda : {w₃ : List ℕ} → w₃ ≡ pushed_four w₂ (n + 1) 4 x e 0 → Pushed (core ns w₃) w₂ w₃ (n + 1) (cabs (name_of ns x) (core ns w₂ e))
        abs_lambda q =
            let P = abs_arrow in let y = P.long in let b = abs_room.1.0 in let c = abs_room.1.1 in let m = took.1 in
            push_function ns (omega arith) c x (node_more P.node.table (omega arith) R.term) q

        -- Both are the answer.
        pub abs_done : {w₃ : List ℕ} → w₃ ≡ pushed_four w₂ (n + 1) 4 x e 0 → GivesAbs ns w w₃ top left whole (Done (first_node + n) (first_node + (n + 1)) (n + 1 + 1) l)
        abs_done q =
            let g = gave A h in let s = took.0 in let m = took.1 in let d = g.1.down in
            let P = abs_arrow in
            let L = abs_lambda q in
            let K = kept_then A.stands.low P.kept m in
            record {
              stands = stands_then (stands_up A.stands (omega arith)) (stands_then (pushed_stands n 2 u t (4 * top + 8 * left + 4) (omega arith) p) (four_stands w₂ (n + 1) 4 x e 0 q (4 * top + 8 * left + 4) (omega arith)) (omega arith)) m;
              answer = (
                then_done _ l way g.0 ∙ rw (kept_tree ns L.kept P.node, P.is, kept_tree ns A.stands.low R.ty, L.is, kept_core ns K R.term),
                record { ty = node_more L.node.table (omega arith) P.node; term = L.node; more = omega arith; spent = omega arith; down = d },
              );
            }
