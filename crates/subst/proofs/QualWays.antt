-- The ways out of `apply_qual_but`, from what the calls gave.
use mathlib.Core.Path.{◌≡◌, refl, sym}
use mathlib.Core.List.{List}
use Prim.Native.Nat.{ℕ, ◌+◌, ◌*◌, ◌-◌, ◌≤◌}
use native.Mathlib.Omega.{arith}
use lib.ListN.{length}
use Rattle.meaning.specs.Ast.{qual}
use Rattle.meaning.specs.Budget.{done, after}
use Rattle.meaning.specs.Subst.{apply_in, apply_preds, apply_qual}
use Rattle.ast.specs.Table.{tree}
use Rattle.ast.proofs.Laws.{node_more}
use Rattle.errors.specs.declared.Refusal.{Refusal}
use Rattle.pairs.specs.Pairs.{Stands}
use Rattle.pairs.proofs.Frames.{stands_then, stands_up}
use Rattle.apply.specs.Region.{sub_but, ReadyBut, Gives}
use Rattle.apply.specs.Applied.{Applied}
use Rattle.apply.specs.Applied.{Done, Refused}
use Rattle.apply.proofs.Hand.{Then, is_then, same_then, then_done, refuse_on, gave, failed}
use Rattle.apply.proofs.Arms.{ready_first, but_then, apply_kept}
use Rattle.subst.specs.Preds.{preds_of_word}
use Rattle.subst.specs.Quals.{GivesQual}
use Rattle.subst.specs.Schemes.{ReadyScheme}
use Rattle.subst.specs.AppliedQual.{Done as Both, Refused as Neither}
use Rattle.subst.proofs.PredLaws.{kept_preds}

-- The predicates are first.
pub preds_first : {ns w : List ℕ} {top left at k vs ps t : ℕ} → ReadyScheme ns w top left at k vs ps t → ReadyBut ns w top left at k vs ps
preds_first R = record { ty = ready_first R.qual.ty (omega arith) R.qual.preds; vars = R.vars }

-- Then the type.
type_second : {ns w : List ℕ} {top left at k vs ps t : ℕ} → ReadyScheme ns w top left at k vs ps t → ReadyBut ns w top left at k vs t
type_second R = record { ty = R.qual.ty; vars = R.vars }

-- After the call for the predicates.
module _ {ns w : List ℕ} {top left at k vs ps t : ℕ} (R : ReadyScheme ns w top left at k vs ps t) {w₁ : List ℕ} {r₁ : Applied}
    (G : Gives (preds_of_word ns w₁) (4 * top + 8 * left) ns w w₁ top left (apply_preds (sub_but ns w vs at k) (preds_of_word ns w ps) left) r₁) where
  -- The predicates, then the type.
  first : Then (apply_qual (sub_but ns w vs at k) (qual (preds_of_word ns w ps) (tree ns w t)) left) (apply_preds (sub_but ns w vs at k) (preds_of_word ns w ps) left)
      (λ qs l. after (apply_in 256 (sub_but ns w vs at k) (tree ns w t) l) (λ u l₂. done (qual qs u) l₂))
  unfolding apply_qual
  first = record { is = refl }

  -- They are refused.
  pub preds_refused : {q : Refusal} {t₁ l₁ : ℕ} → r₁ ≡ Refused q t₁ l₁
      → GivesQual ns w w₁ top left (apply_qual (sub_but ns w vs at k) (qual (preds_of_word ns w ps) (tree ns w t)) left) (Neither q t₁ l₁)
  preds_refused h = record { stands = G.stands; answer = refuse_on first (failed G h) (omega arith) (omega arith) }

  module _ {m t₁ l₁ : ℕ} (h : r₁ ≡ Done m t₁ l₁) where
    -- The type is next.
    pub type_next : length w₁ ≡ length w → (top ≤ t₁) × ReadyBut ns w₁ t₁ l₁ at k vs t
    type_next len = let g = (gave G h).1 in let o = R.qual.ty.room in
        (g.more, but_then (type_second R) G.stands o g (omega arith) len R.qual.ty.node)

    -- After the call for the type.
    module _ {w₂ : List ℕ} {r₂ : Applied}
        (H : Gives (tree ns w₂) (4 * t₁ + 8 * l₁ - 4) ns w₁ w₂ t₁ l₁ (apply_in 256 (sub_but ns w₁ vs at k) (tree ns w₁ t) l₁) r₂) where
      -- What is left to do with the type.
      second : Then (apply_qual (sub_but ns w vs at k) (qual (preds_of_word ns w ps) (tree ns w t)) left) (apply_in 256 (sub_but ns w₁ vs at k) (tree ns w₁ t) l₁)
          (λ u l₂. done (qual (preds_of_word ns w₁ m) u) l₂)
      second = is_then (then_done (preds_of_word ns w₁ m) l₁ first (gave G h).0) (same_then _ (sym (apply_kept (type_second R) G.stands R.qual.ty.room 256 l₁ R.qual.ty.node)))

      -- All that is older stands.
      both_stand : Stands w w₂ top (4 * top + 8 * left)
      both_stand = let g = (gave G h).1 in let s = g.spent in stands_then G.stands (stands_up H.stands (omega arith)) g.more

      -- It is refused.
      pub type_refused : {q : Refusal} {t₂ l₂ : ℕ} → r₂ ≡ Refused q t₂ l₂
          → GivesQual ns w w₂ top left (apply_qual (sub_but ns w vs at k) (qual (preds_of_word ns w ps) (tree ns w t)) left) (Neither q t₂ l₂)
      type_refused i = let g = (gave G h).1 in record { stands = both_stand; answer = refuse_on second (failed H i) g.more g.down }

      -- Both are the answer.
      pub both_done : {u t₂ l₂ : ℕ} → r₂ ≡ Done u t₂ l₂
          → GivesQual ns w w₂ top left (apply_qual (sub_but ns w vs at k) (qual (preds_of_word ns w ps) (tree ns w t)) left) (Both m u t₂ l₂)
      both_done {u} {t₂} {l₂} i =
          let g = (gave G h).1 in let s = g.spent in let m₁ = g.more in let d = g.down in
          let v = (gave H i).1 in let p = v.spent in let n₁ = v.more in let f = v.down in
          let e = kept_preds ns H.stands.low g.node in
          record {
            stands = both_stand;
            answer = (
              rw e (then_done (tree ns w₂ u) l₂ second (gave H i).0),
              (node_more v.node.table n₁ g.node, record { node = v.node; more = omega arith; spent = omega arith; down = omega arith }),
            );
          }
