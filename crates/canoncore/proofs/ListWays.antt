-- The ways out of the function for a list of terms, from what the calls gave.
use mathlib.Core.Path.{◌≡◌}
use mathlib.Core.List.{List}
use Prim.Native.Nat.{ℕ, ◌+◌, ◌^◌, ◌<◌, ◌≤◌}
use native.Mathlib.Omega.{arith}
use lib.ListN.{length}
use Rattle.meaning.specs.Ast.{◌◃◌}
use Rattle.meaning.specs.Budget.{done, after}
use Rattle.meaning.specs.Cores.{each_core, apply_core_in}
use Rattle.names.specs.Names.{first_node}
use Rattle.ast.specs.Table.{cell_of, Node, pushed}
use Rattle.ast.specs.declared.Cell.{Cell}
use Rattle.ast.specs.declared.Cell.TheVariants.{Nil, Cons}
use Rattle.ast.proofs.Laws.{node_more, cons_head, cons_tail}
use Rattle.errors.specs.declared.Refusal.{Refusal}
use Rattle.pairs.proofs.Frames.{pushed_stands}
use Rattle.cores.specs.Terms.{core, cores}
use Rattle.cores.proofs.TermLaws.{kept_core, kept_cores, cores_nil, cores_cons}
use Rattle.cores.proofs.NewTerm.{push_cores}
use Rattle.apply.specs.Applied.{Applied}
use Rattle.apply.specs.Applied.{Done, Refused}
use Rattle.apply.proofs.Ways.{Room}
use Rattle.canoncore.specs.Lettered.{Lettered, ReadyLetters, GivesLettered}
use Rattle.terms.proofs.Handing.{Thens, made, fails, stays, two_refused, two_room, two_done}
use Rattle.canoncore.proofs.Ways.{second}

-- r is what `cell_at` returned.
module _ {ns w ls : List ℕ} {top left v : ℕ} (depth : ℕ) (R : ReadyLetters ns w ls top left v) {r : Cell} (e : r ≡ cell_of w v) where
  -- The empty list stays.
  pub each_nil : r ≡ Nil → GivesLettered cores 0 ns ls w w top left (λ s. each_core (apply_core_in depth s) (cores ns w v) left) (Done v top left)
  unfolding each_core
  each_nil k = stays (λ s u. rw (cores_nil ns R.node e k)) R.node (omega arith) (omega arith)

  module _ {a b : ℕ} (k : r ≡ Cons a b) where
    -- The first term is next.
    pub first_asks : ReadyLetters ns w ls top left a
    first_asks = record { names = R.names; node = (cons_head R.node e k).1; few = R.few; room = R.room }

    -- The rest.
    rest : Node w top b
    rest = (cons_tail R.node e k).1

    -- The first term, then the rest.
    list_then : Thens (Lettered ns ls) (λ s. each_core (apply_core_in depth s) (cores ns w v) left) (λ s. apply_core_in depth s (core ns w a) left)
        (λ s u l. after (each_core (apply_core_in depth s) (cores ns w b) l) (λ us l₂. done (u ◃ us) l₂))
    unfolding each_core
    list_then = record { at = λ s u. rw (cores_cons ns R.node e k) }

    module _ {w₁ : List ℕ} {r₁ : Applied} (G : GivesLettered core 4 ns ls w w₁ top left (λ s. apply_core_in depth s (core ns w a) left) r₁) where
      -- The first term is refused.
      pub list_refused : {q : Refusal} {t₁ l₁ : ℕ} → r₁ ≡ Refused q t₁ l₁
          → GivesLettered cores 0 ns ls w w₁ top left (λ s. each_core (apply_core_in depth s) (cores ns w v) left) (Refused q t₁ l₁)
      list_refused h = fails G list_then h

      module _ {m t₁ l₁ : ℕ} (h : r₁ ≡ Done m t₁ l₁) where
        -- What the call for the rest asks.
        pub rest_asks : length w₁ ≡ length w → (top ≤ t₁) × ReadyLetters ns w₁ ls t₁ l₁ b
        rest_asks len = second first_asks G h len rest

        module _ {w₂ : List ℕ} {r₂ : Applied} (H : GivesLettered cores 0 ns ls w₁ w₂ t₁ l₁ (λ s. each_core (apply_core_in depth s) (cores ns w₁ b) l₁) r₂) where
          -- Then the first term in front of what comes of it.
          list_next : Thens (Lettered ns ls) (λ s. after (each_core (apply_core_in depth s) (cores ns w b) l₁) (λ us l₂. done (core ns w₁ m ◃ us) l₂))
              (λ s. each_core (apply_core_in depth s) (cores ns w₁ b) l₁) (λ s us l₂. done (core ns w₁ m ◃ us) l₂)
          list_next = record { at = λ s u. rw (kept_cores ns G.stands.low rest) }

          -- The rest is refused.
          pub list_refused_2 : {q : Refusal} {t₂ l₂ : ℕ} → r₂ ≡ Refused q t₂ l₂
              → GivesLettered cores 0 ns ls w w₂ top left (λ s. each_core (apply_core_in depth s) (cores ns w v) left) (Refused q t₂ l₂)
          list_refused_2 i = two_refused G h H list_then list_next i

          module _ {m₂ t₂ l₂ : ℕ} (i : r₂ ≡ Done m₂ t₂ l₂) (len : length w₂ ≡ length w) (big : length w < 2 ^ 65) where
            -- There is room for the cell.
            pub list_room : Room w₂ top t₂
            list_room = two_room G h H i (omega arith) R.room len big

            -- The cell is the answer.
            pub list_done : {w₃ : List ℕ} → w₃ ≡ pushed w₂ t₂ 3 m m₂
                → GivesLettered cores 0 ns ls w w₃ top left (λ s. each_core (apply_core_in depth s) (cores ns w v) left) (Done (first_node + t₂) (t₂ + 1) l₂)
            list_done p = two_done G h H i (omega arith) (λ ns. core ns w₂ m ◃ cores ns w₂ m₂) list_then list_next
                (λ ns. push_cores ns list_room.room list_room.small (node_more (made H i).node.table (made H i).more (made G h).node) (made H i).node p)
                (pushed_stands t₂ 3 m m₂ _ (omega arith) p) (λ s u. rw (kept_core ns H.stands.low (made G h).node))
