-- The ways out of the function for a list of terms, from what the calls gave.
use mathlib.Core.Path.{◌≡◌}
use mathlib.Core.List.{List}
use Prim.Native.Nat.{ℕ, ◌+◌, ◌^◌, ◌<◌, ◌≤◌}
use native.Mathlib.Omega.{arith}
use lib.ListN.{length}
use Rattle.meaning.specs.Ast.{◌◃◌}
use Rattle.meaning.specs.Budget.{done, after}
use Rattle.meaning.specs.Cores.{each_core}
use Rattle.names.specs.Names.{first_node}
use Rattle.ast.specs.Table.{cell_of, Node, pushed}
use Rattle.ast.specs.declared.Cell.{Cell}
use Rattle.ast.specs.declared.Cell.TheVariants.{Nil, Cons}
use Rattle.ast.proofs.Laws.{node_more, cons_head, cons_tail}
use Rattle.errors.specs.declared.Refusal.{Refusal}
use Rattle.pairs.proofs.Frames.{pushed_stands}
use Rattle.cores.specs.Terms.{core, cores}
use Rattle.cores.proofs.TermLaws.{kept_core, cores_nil, cores_cons}
use Rattle.cores.proofs.NewTerm.{push_cores}
use Rattle.apply.specs.Applied.{Applied}
use Rattle.apply.specs.Applied.{Done, Refused}
use Rattle.apply.proofs.Ways.{Room}
use Rattle.terms.specs.Plain.{plain_in}
use Rattle.terms.specs.Rows.{replaced_in, ReadyTerm}
use Rattle.terms.specs.Answers.{GivesTerm}
use Rattle.terms.proofs.Handing.{Thens, made, fails, stays, two_refused, two_room, two_done}
use Rattle.terms.proofs.Ways.{second, each_kept}

-- r is what `cell_at` returned.
module _ {w bs : List ℕ} {top left n v : ℕ} (depth : ℕ) (R : ReadyTerm w bs top left n v) {r : Cell} (e : r ≡ cell_of w v) where
  -- The empty list stays.
  pub each_nil : r ≡ Nil → GivesTerm cores 0 w w top left (λ ns. each_core (plain_in depth (replaced_in ns w bs n)) (cores ns w v) left) (Done v top left)
  unfolding each_core
  each_nil k = stays (λ ns u. rw (cores_nil ns R.node e k)) R.node (omega arith) (omega arith)

  module _ {a b : ℕ} (k : r ≡ Cons a b) where
    -- The first term is next.
    pub first_asks : ReadyTerm w bs top left n a
    first_asks = record { node = (cons_head R.node e k).1; rows = R.rows; room = R.room }

    -- The rest.
    rest : Node w top b
    rest = (cons_tail R.node e k).1

    -- The first term, then the rest.
    list_then : Thens (λ ns. Unit {0}) (λ ns. each_core (plain_in depth (replaced_in ns w bs n)) (cores ns w v) left) (λ ns. plain_in depth (replaced_in ns w bs n) (core ns w a) left)
        (λ ns u l. after (each_core (plain_in depth (replaced_in ns w bs n)) (cores ns w b) l) (λ us l₂. done (u ◃ us) l₂))
    unfolding each_core
    list_then = record { at = λ ns u. rw (cores_cons ns R.node e k) }

    module _ {w₁ : List ℕ} {r₁ : Applied} (G : GivesTerm core 4 w w₁ top left (λ ns. plain_in depth (replaced_in ns w bs n) (core ns w a) left) r₁) where
      -- The first term is refused.
      pub list_refused : {q : Refusal} {t₁ l₁ : ℕ} → r₁ ≡ Refused q t₁ l₁
          → GivesTerm cores 0 w w₁ top left (λ ns. each_core (plain_in depth (replaced_in ns w bs n)) (cores ns w v) left) (Refused q t₁ l₁)
      list_refused h = fails G list_then h

      module _ {m t₁ l₁ : ℕ} (h : r₁ ≡ Done m t₁ l₁) where
        -- What the call for the rest asks.
        pub rest_asks : length w₁ ≡ length w → (top ≤ t₁) × ReadyTerm w₁ bs t₁ l₁ n b
        rest_asks len = second depth first_asks G h len rest

        module _ {w₂ : List ℕ} {r₂ : Applied} (H : GivesTerm cores 0 w₁ w₂ t₁ l₁ (λ ns. each_core (plain_in depth (replaced_in ns w₁ bs n)) (cores ns w₁ b) l₁) r₂) where
          -- Then the first term in front of what comes of it.
          list_next : Thens (λ ns. Unit {0}) (λ ns. after (each_core (plain_in depth (replaced_in ns w bs n)) (cores ns w b) l₁) (λ us l₂. done (core ns w₁ m ◃ us) l₂))
              (λ ns. each_core (plain_in depth (replaced_in ns w₁ bs n)) (cores ns w₁ b) l₁) (λ ns us l₂. done (core ns w₁ m ◃ us) l₂)
          list_next = record { at = λ ns u. rw (each_kept G.stands.low R.rows ns depth l₁ rest) }

          -- The rest is refused.
          pub list_refused_2 : {q : Refusal} {t₂ l₂ : ℕ} → r₂ ≡ Refused q t₂ l₂
              → GivesTerm cores 0 w w₂ top left (λ ns. each_core (plain_in depth (replaced_in ns w bs n)) (cores ns w v) left) (Refused q t₂ l₂)
          list_refused_2 i = two_refused G h H list_then list_next i

          module _ {m₂ t₂ l₂ : ℕ} (i : r₂ ≡ Done m₂ t₂ l₂) (len : length w₂ ≡ length w) (big : length w < 2 ^ 65) where
            -- There is room for the cell.
            pub list_room : Room w₂ top t₂
            list_room = two_room G h H i (omega arith) R.room len big

            -- The cell is the answer.
            pub list_done : {w₃ : List ℕ} → w₃ ≡ pushed w₂ t₂ 3 m m₂
                → GivesTerm cores 0 w w₃ top left (λ ns. each_core (plain_in depth (replaced_in ns w bs n)) (cores ns w v) left) (Done (first_node + t₂) (t₂ + 1) l₂)
            list_done p = two_done G h H i (omega arith) (λ ns. core ns w₂ m ◃ cores ns w₂ m₂) list_then list_next
                (λ ns. push_cores ns list_room.room list_room.small (node_more (made H i).node.table (made H i).more (made G h).node) (made H i).node p)
                (pushed_stands t₂ 3 m m₂ _ (omega arith) p) (λ ns u. rw (kept_core ns H.stands.low (made G h).node))
