-- The ways out of the functions for the types in a term, from what the calls gave.
use mathlib.Core.Path.{◌≡◌, refl, sym, ◌∙◌}
use mathlib.Core.List.{List, ◌∷◌}
use Prim.Native.Nat.{ℕ, ◌+◌, ◌*◌, ◌/◌, ◌%◌, ◌^◌, ◌<◌, ◌≤◌}
use native.Mathlib.Omega.{arith}
use lib.ListN.{length}
use Rattle.meaning.specs.Ast.{dict_rec, dvar, pred, Binder}
use Rattle.meaning.specs.Budget.{Out, Steps, done, refused, after}
use Rattle.meaning.specs.Subst.{apply_in, apply_pred, apply_preds_pending}
use Rattle.meaning.specs.Cores.{apply_core_node}
use Rattle.names.specs.Names.{first_node, name_of}
use Rattle.ast.specs.Table.{cell_of, tree, Node}
use Rattle.ast.specs.declared.Cell.{Cell}
use Rattle.ast.specs.declared.Cell.TheVariants.{Nil, Cons}
use Rattle.ast.proofs.Ranges.{cons_node}
use Rattle.ast.proofs.Laws.{kept_tree, node_more, node_room, cons_head, cons_tail}
use Rattle.errors.specs.declared.Refusal.{Refusal}
use Rattle.cores.specs.Parts.{pushed_four}
use Rattle.cores.specs.Binders.{fourth_at, binders_of_word}
use Rattle.cores.specs.Terms.{core}
use Rattle.cores.proofs.BinderLaws.{kept_binders, binders_nil, binders_cons}
use Rattle.cores.proofs.NewTerm.{four_stands, push_record, push_binder}
use Rattle.subst.specs.Preds.{class_at, pushed_pred}
use Rattle.apply.specs.Applied.{Applied}
use Rattle.apply.specs.Applied.{Done, Refused}
use Rattle.apply.proofs.Ways.{Room}
use Rattle.rename.specs.Renamed.{TypeRenamed}
use Rattle.terms.proofs.Handing.{Thens, made, fails, stays, one_room, one_done, two_refused, two_room, two_done}
use Rattle.canoncore.specs.Lettered.{Lettered, ReadyLetters, GivesLettered, node_out}
use Rattle.canoncore.proofs.Arms.{gives_type}
use Rattle.canoncore.proofs.Ways.{second, fewer}

-- ## A record of the class c at the type u

module _ {ns w w₁ ls : List ℕ} {top left u : ℕ} (R : ReadyLetters ns w ls top left u) {r₁ : Applied} (T : TypeRenamed ns w w₁ ls top left 256 0 0 u r₁) (c i : ℕ) where
  -- The type first.
  rec_then : Thens (Lettered ns ls) (λ s. node_out 0 left s (dict_rec (name_of ns c) (tree ns w u) i)) (λ s. apply_in 256 s (tree ns w u) left) (λ s v l. done (dict_rec (name_of ns c) v i) l)
  unfolding apply_core_node
  rec_then = record { at = λ s h. refl }

  -- It is refused.
  pub rec_refused : {q : Refusal} {t₁ l₁ : ℕ} → r₁ ≡ Refused q t₁ l₁ → GivesLettered core 0 ns ls w w₁ top left (λ s. node_out 0 left s (dict_rec (name_of ns c) (tree ns w u) i)) (Refused q t₁ l₁)
  rec_refused h = fails (gives_type 256 u r₁ T) rec_then h

  module _ {m t₁ l₁ : ℕ} (h : r₁ ≡ Done m t₁ l₁) (len : length w₁ ≡ length w) (big : length w < 2 ^ 65) where
    -- There is room for the record.
    pub rec_room : Room w₁ top t₁
    rec_room = one_room (gives_type 256 u r₁ T) h R.room len big

    -- The record is the answer.
    pub rec_done : {w₂ : List ℕ} → w₂ ≡ pushed_four w₁ t₁ 11 c m i → GivesLettered core 0 ns ls w w₂ top left (λ s. node_out 0 left s (dict_rec (name_of ns c) (tree ns w u) i)) (Done (first_node + t₁) (t₁ + 1) l₁)
    rec_done p = one_done (gives_type 256 u r₁ T) h (λ ns. dict_rec (name_of ns c) (tree ns w₁ m) i) rec_then
        (λ ns. push_record ns rec_room.room rec_room.small c i (made (gives_type 256 u r₁ T) h).node p) (four_stands w₁ t₁ 11 c m i p _ (omega arith)) (λ s u. refl)

-- ## A list of binders

-- What follows what follows.
pub in_turn : {A B C : Type 0} (o : Out A) (f : A → Steps B) (g : B → Steps C) → after (after o f) g ≡ after o (λ a l. after (f a l) g)
unfolding after
in_turn (done a l) f g = refl
in_turn (refused q l) f g = refl

-- A binder is the dictionary's number and the class of the fourth word x, and a type.
abbrev binder : List ℕ → ℕ → List ℕ → ℕ → Binder
binder ns x w t = (dvar (x / 65536), pred (name_of ns (x % 65536)) (tree ns w t))

-- r is what `cell_at` returned, and x what `class_at` did.
module _ {ns w ls : List ℕ} {top left v : ℕ} (R : ReadyLetters ns w ls top left v) {r : Cell} (e : r ≡ cell_of w v) where
  -- No binders stay so.
  pub binders_none : r ≡ Nil → GivesLettered binders_of_word 0 ns ls w w top left (λ s. apply_preds_pending s (binders_of_word ns w v) left) (Done v top left)
  unfolding apply_preds_pending
  binders_none k = stays (λ s u. rw (binders_nil ns R.node e k)) R.node (omega arith) (omega arith)

  module _ {a b : ℕ} (k : r ≡ Cons a b) where
    -- What `class_at` asks.
    pub cell_asks : (first_node ≤ v) × (4 * v + 4 ≤ 4 * first_node + length w)
    cell_asks = (cons_node w v (sym e ∙ k), node_room R.node)

    -- The first type is next.
    pub type_asks : ReadyLetters ns w ls top left a
    type_asks = record { names = R.names; node = (cons_head R.node e k).1; few = R.few; room = R.room }

    -- The rest.
    rest : Node w top b
    rest = (cons_tail R.node e k).1

    module _ {x : ℕ} (f : x ≡ class_at w v) where
      -- The binder's type, then the rest.
      binders_then : Thens (Lettered ns ls) (λ s. apply_preds_pending s (binders_of_word ns w v) left) (λ s. apply_in 256 s (tree ns w a) left)
          (λ s u l. after (apply_preds_pending s (binders_of_word ns w b) l) (λ us l₂. done ((dvar (x / 65536), pred (name_of ns (x % 65536)) u) ∷ us) l₂))
      unfolding apply_preds_pending apply_pred class_at fourth_at after
      binders_then = record { at = λ s h. rw (binders_cons ns R.node e k, f) (in_turn (apply_in 256 s (tree ns w a) left) _ _) }

      module _ {w₁ : List ℕ} {r₁ : Applied} (T : TypeRenamed ns w w₁ ls top left 256 0 0 a r₁) where
        -- The type is refused.
        pub binders_refused : {q : Refusal} {t₁ l₁ : ℕ} → r₁ ≡ Refused q t₁ l₁ → GivesLettered binders_of_word 0 ns ls w w₁ top left (λ s. apply_preds_pending s (binders_of_word ns w v) left) (Refused q t₁ l₁)
        binders_refused h = fails (gives_type 256 a r₁ T) binders_then h

        module _ {m t₁ l₁ : ℕ} (h : r₁ ≡ Done m t₁ l₁) where
          -- Fewer steps are left.
          pub binders_fewer : l₁ < left
          binders_fewer = fewer type_asks (gives_type 256 a r₁ T) h (omega arith)

          -- The rest is next.
          pub binders_asks : length w₁ ≡ length w → (top ≤ t₁) × ReadyLetters ns w₁ ls t₁ l₁ b
          binders_asks len = second type_asks (gives_type 256 a r₁ T) h len rest

          module _ {w₂ : List ℕ} {r₂ : Applied} (H : GivesLettered binders_of_word 0 ns ls w₁ w₂ t₁ l₁ (λ s. apply_preds_pending s (binders_of_word ns w₁ b) l₁) r₂) where
            -- Then what comes of both.
            binders_next : Thens (Lettered ns ls) (λ s. after (apply_preds_pending s (binders_of_word ns w b) l₁) (λ us l₂. done (binder ns x w₁ m ∷ us) l₂)) (λ s. apply_preds_pending s (binders_of_word ns w₁ b) l₁)
                (λ s us l₂. done (binder ns x w₁ m ∷ us) l₂)
            binders_next = record { at = λ s u. rw (kept_binders ns T.stands.low rest) }

            -- The rest is refused.
            pub binders_refused_2 : {q : Refusal} {t₂ l₂ : ℕ} → r₂ ≡ Refused q t₂ l₂ → GivesLettered binders_of_word 0 ns ls w w₂ top left (λ s. apply_preds_pending s (binders_of_word ns w v) left) (Refused q t₂ l₂)
            binders_refused_2 i = two_refused (gives_type 256 a r₁ T) h H binders_then binders_next i

            module _ {m₂ t₂ l₂ : ℕ} (i : r₂ ≡ Done m₂ t₂ l₂) (len : length w₂ ≡ length w) (big : length w < 2 ^ 65) where
              -- There is room for the cell.
              pub binders_room : Room w₂ top t₂
              binders_room = two_room (gives_type 256 a r₁ T) h H i (omega arith) R.room len big

              -- The cell is the answer.
              pub binders_done : {w₃ : List ℕ} → w₃ ≡ pushed_pred w₂ t₂ x m m₂ → GivesLettered binders_of_word 0 ns ls w w₃ top left (λ s. apply_preds_pending s (binders_of_word ns w v) left) (Done (first_node + t₂) (t₂ + 1) l₂)
              unfolding pushed_pred pushed_four
              binders_done p = two_done (gives_type 256 a r₁ T) h H i (omega arith) (λ ns. binder ns x w₂ m ∷ binders_of_word ns w₂ m₂) binders_then binders_next
                  (λ ns. push_binder ns binders_room.room binders_room.small (node_more (made H i).node.table (made H i).more (made (gives_type 256 a r₁ T) h).node) (made H i).node x p)
                  (four_stands w₂ t₂ 3 m m₂ x p _ (omega arith)) (λ s u. rw (kept_tree ns H.stands.low (made (gives_type 256 a r₁ T) h).node))
