-- The ways out of the functions for a node, from what the calls gave.
use mathlib.Core.Path.{◌≡◌, refl}
use mathlib.Core.List.{List}
use Prim.Native.Nat.{ℕ, ◌+◌, ◌*◌, ◌^◌, ◌<◌, ◌≤◌}
use native.Mathlib.Omega.{arith}
use lib.ListN.{length}
use Rattle.meaning.specs.Ast.{Binder, cabs, capp, clet, dict_abs, dict_app, dict_proj, method, super}
use Rattle.meaning.specs.Budget.{Out, done, after}
use Rattle.meaning.specs.Subst.{Subst, apply_preds_pending}
use Rattle.meaning.specs.Cores.{each_core, apply_core_node, apply_core_in}
use Rattle.names.specs.Names.{first_node, name_of}
use Rattle.ast.specs.Table.{Node}
use Rattle.ast.proofs.Laws.{node_more}
use Rattle.errors.specs.declared.Refusal.{Refusal}
use Rattle.cores.specs.Parts.{pushed_four}
use Rattle.cores.specs.Binders.{binders_of_word}
use Rattle.cores.specs.Terms.{core, cores}
use Rattle.cores.proofs.BinderLaws.{kept_binders}
use Rattle.cores.proofs.TermLaws.{kept_core, kept_cores}
use Rattle.cores.proofs.NewTerm.{four_stands, push_function, push_called, push_bound, push_under, push_applied, push_selected, push_super}
use Rattle.apply.specs.Applied.{Applied}
use Rattle.apply.specs.Applied.{Done, Refused}
use Rattle.apply.proofs.Ways.{Room}
use Rattle.terms.proofs.Handing.{Thens, made, fails, one_room, one_done, two_refused, two_room, two_done}
use Rattle.canoncore.specs.Lettered.{Lettered, ReadyLetters, GivesLettered, node_out}

-- ## The next call, after one that gave a word of whatever kind

module _ {A : Type 0} {read : List ℕ → List ℕ → ℕ → A} {k : ℕ} {ns w w₁ ls : List ℕ} {top left e : ℕ} (R : ReadyLetters ns w ls top left e) {o₁ : Subst → Out A} {r₁ : Applied}
    (G : GivesLettered read k ns ls w w₁ top left o₁ r₁) {m t₁ l₁ : ℕ} (h : r₁ ≡ Done m t₁ l₁) where
  -- For an older word a.
  pub second : {a : ℕ} → length w₁ ≡ length w → Node w top a → (top ≤ t₁) × ReadyLetters ns w₁ ls t₁ l₁ a
  second len N =
      let g = made G h in let s = g.spent in let o = R.room in
      (g.more, record { names = R.names; node = node_more g.node.table g.more N; few = R.few; room = omega arith })

  -- It has no more steps.
  pub no_more : l₁ ≤ left
  no_more = (made G h).down

  -- It has fewer, where words were left.
  pub fewer : 4 ≤ k → l₁ < left
  fewer p = let g = made G h in let s = g.spent in let u = g.more in omega arith

-- ## After the call for the first term e

module _ {ns w w₁ ls : List ℕ} {top left e : ℕ} (depth : ℕ) (R : ReadyLetters ns w ls top left e) {r₁ : Applied} (G : GivesLettered core 4 ns ls w w₁ top left (λ s. apply_core_in depth s (core ns w e) left) r₁) where
  -- A function.
  abs_then : (x : ℕ) → Thens (Lettered ns ls) (λ s. node_out depth left s (cabs (name_of ns x) (core ns w e))) (λ s. apply_core_in depth s (core ns w e) left) (λ s u l. done (cabs (name_of ns x) u) l)
  unfolding apply_core_node
  abs_then x = record { at = λ s h. refl }

  -- Its first part is refused.
  pub abs_refused : {q : Refusal} {t₁ l₁ : ℕ} → r₁ ≡ Refused q t₁ l₁ → (x : ℕ) → GivesLettered core 0 ns ls w w₁ top left (λ s. node_out depth left s (cabs (name_of ns x) (core ns w e))) (Refused q t₁ l₁)
  abs_refused h x = fails G (abs_then x) h

  -- A method.
  method_then : (x : ℕ) → Thens (Lettered ns ls) (λ s. node_out depth left s (dict_proj (core ns w e) (method (name_of ns x)))) (λ s. apply_core_in depth s (core ns w e) left) (λ s u l. done (dict_proj u (method (name_of ns x))) l)
  unfolding apply_core_node
  method_then x = record { at = λ s h. refl }

  -- Its first part is refused.
  pub method_refused : {q : Refusal} {t₁ l₁ : ℕ} → r₁ ≡ Refused q t₁ l₁ → (x : ℕ) → GivesLettered core 0 ns ls w w₁ top left (λ s. node_out depth left s (dict_proj (core ns w e) (method (name_of ns x)))) (Refused q t₁ l₁)
  method_refused h x = fails G (method_then x) h

  -- A superclass.
  super_then : (c z : ℕ) → Thens (Lettered ns ls) (λ s. node_out depth left s (dict_proj (core ns w e) (super (name_of ns c) (name_of ns z)))) (λ s. apply_core_in depth s (core ns w e) left) (λ s u l. done (dict_proj u (super (name_of ns c) (name_of ns z))) l)
  unfolding apply_core_node
  super_then c z = record { at = λ s h. refl }

  -- Its first part is refused.
  pub super_refused : {q : Refusal} {t₁ l₁ : ℕ} → r₁ ≡ Refused q t₁ l₁ → (c z : ℕ) → GivesLettered core 0 ns ls w w₁ top left (λ s. node_out depth left s (dict_proj (core ns w e) (super (name_of ns c) (name_of ns z)))) (Refused q t₁ l₁)
  super_refused h c z = fails G (super_then c z) h

  -- A term applied to a term.
  call_then : (a : ℕ) → Thens (Lettered ns ls) (λ s. node_out depth left s (capp (core ns w e) (core ns w a))) (λ s. apply_core_in depth s (core ns w e) left) (λ s u l. after (apply_core_in depth s (core ns w a) l) (λ v l₂. done (capp u v) l₂))
  unfolding apply_core_node
  call_then a = record { at = λ s h. refl }

  -- Its first part is refused.
  pub call_refused : {q : Refusal} {t₁ l₁ : ℕ} → r₁ ≡ Refused q t₁ l₁ → (a : ℕ) → GivesLettered core 0 ns ls w w₁ top left (λ s. node_out depth left s (capp (core ns w e) (core ns w a))) (Refused q t₁ l₁)
  call_refused h a = fails G (call_then a) h

  -- A term in which a name stands for another.
  let_then : (x b : ℕ) → Thens (Lettered ns ls) (λ s. node_out depth left s (clet (name_of ns x) (core ns w e) (core ns w b))) (λ s. apply_core_in depth s (core ns w e) left) (λ s u l. after (apply_core_in depth s (core ns w b) l) (λ v l₂. done (clet (name_of ns x) u v) l₂))
  unfolding apply_core_node
  let_then x b = record { at = λ s h. refl }

  -- Its first part is refused.
  pub let_refused : {q : Refusal} {t₁ l₁ : ℕ} → r₁ ≡ Refused q t₁ l₁ → (x b : ℕ) → GivesLettered core 0 ns ls w w₁ top left (λ s. node_out depth left s (clet (name_of ns x) (core ns w e) (core ns w b))) (Refused q t₁ l₁)
  let_refused h x b = fails G (let_then x b) h

  -- A term applied to dictionaries.
  applied_then : (v : ℕ) → Thens (Lettered ns ls) (λ s. node_out depth left s (dict_app (core ns w e) (cores ns w v))) (λ s. apply_core_in depth s (core ns w e) left) (λ s u l. after (each_core (apply_core_in depth s) (cores ns w v) l) (λ us l₂. done (dict_app u us) l₂))
  unfolding apply_core_node
  applied_then v = record { at = λ s h. refl }

  -- Its first part is refused.
  pub applied_refused : {q : Refusal} {t₁ l₁ : ℕ} → r₁ ≡ Refused q t₁ l₁ → (v : ℕ) → GivesLettered core 0 ns ls w w₁ top left (λ s. node_out depth left s (dict_app (core ns w e) (cores ns w v))) (Refused q t₁ l₁)
  applied_refused h v = fails G (applied_then v) h

  module _ {m t₁ l₁ : ℕ} (h : r₁ ≡ Done m t₁ l₁) where
    module _ (len : length w₁ ≡ length w) (big : length w < 2 ^ 65) where
      -- There is room for a node of this part alone.
      pub room : Room w₁ top t₁
      room = one_room G h R.room len big

      -- The node is the answer.
      pub abs_done : {w₂ : List ℕ} (x : ℕ) → w₂ ≡ pushed_four w₁ t₁ 4 x m 0 → GivesLettered core 0 ns ls w w₂ top left (λ s. node_out depth left s (cabs (name_of ns x) (core ns w e))) (Done (first_node + t₁) (t₁ + 1) l₁)
      abs_done x p = one_done G h (λ ns. cabs (name_of ns x) (core ns w₁ m)) (abs_then x) (λ ns. push_function ns room.room room.small x (made G h).node p) (four_stands w₁ t₁ 4 x m 0 p _ (omega arith)) (λ s u. refl)

      -- The node is the answer.
      pub method_done : {w₂ : List ℕ} (x : ℕ) → w₂ ≡ pushed_four w₁ t₁ 9 m x 0 → GivesLettered core 0 ns ls w w₂ top left (λ s. node_out depth left s (dict_proj (core ns w e) (method (name_of ns x)))) (Done (first_node + t₁) (t₁ + 1) l₁)
      method_done x p = one_done G h (λ ns. dict_proj (core ns w₁ m) (method (name_of ns x))) (method_then x) (λ ns. push_selected ns room.room room.small x (made G h).node p) (four_stands w₁ t₁ 9 m x 0 p _ (omega arith)) (λ s u. refl)

      -- The node is the answer.
      pub super_done : {w₂ : List ℕ} (c z : ℕ) → w₂ ≡ pushed_four w₁ t₁ 10 m c z → GivesLettered core 0 ns ls w w₂ top left (λ s. node_out depth left s (dict_proj (core ns w e) (super (name_of ns c) (name_of ns z)))) (Done (first_node + t₁) (t₁ + 1) l₁)
      super_done c z p = one_done G h (λ ns. dict_proj (core ns w₁ m) (super (name_of ns c) (name_of ns z))) (super_then c z) (λ ns. push_super ns room.room room.small c z (made G h).node p) (four_stands w₁ t₁ 10 m c z p _ (omega arith)) (λ s u. refl)

    -- ## After the call for an older term a

    module _ {a : ℕ} (A : Node w top a) {w₂ : List ℕ} {r₂ : Applied} (H : GivesLettered core 4 ns ls w₁ w₂ t₁ l₁ (λ s. apply_core_in depth s (core ns w₁ a) l₁) r₂) where
      -- Then what comes of both.
      call_next : Thens (Lettered ns ls) (λ s. after (apply_core_in depth s (core ns w a) l₁) (λ v l₂. done (capp (core ns w₁ m) v) l₂)) (λ s. apply_core_in depth s (core ns w₁ a) l₁) (λ s v l₂. done (capp (core ns w₁ m) v) l₂)
      call_next = record { at = λ s u. rw (kept_core ns G.stands.low A) }

      -- It is refused.
      pub call_refused_2 : {q : Refusal} {t₂ l₂ : ℕ} → r₂ ≡ Refused q t₂ l₂ → GivesLettered core 0 ns ls w w₂ top left (λ s. node_out depth left s (capp (core ns w e) (core ns w a))) (Refused q t₂ l₂)
      call_refused_2 i = two_refused G h H (call_then a) call_next i

      -- Then what comes of both.
      let_next : (x : ℕ) → Thens (Lettered ns ls) (λ s. after (apply_core_in depth s (core ns w a) l₁) (λ v l₂. done (clet (name_of ns x) (core ns w₁ m) v) l₂)) (λ s. apply_core_in depth s (core ns w₁ a) l₁) (λ s v l₂. done (clet (name_of ns x) (core ns w₁ m) v) l₂)
      let_next x = record { at = λ s u. rw (kept_core ns G.stands.low A) }

      -- It is refused.
      pub let_refused_2 : {q : Refusal} {t₂ l₂ : ℕ} → r₂ ≡ Refused q t₂ l₂ → (x : ℕ) → GivesLettered core 0 ns ls w w₂ top left (λ s. node_out depth left s (clet (name_of ns x) (core ns w e) (core ns w a))) (Refused q t₂ l₂)
      let_refused_2 i x = two_refused G h H (let_then x a) (let_next x) i

      module _ {m₂ t₂ l₂ : ℕ} (i : r₂ ≡ Done m₂ t₂ l₂) (len : length w₂ ≡ length w) (big : length w < 2 ^ 65) where
        -- There is room for a node of both parts.
        pub call_room : Room w₂ top t₂
        call_room = two_room G h H i (omega arith) R.room len big

        -- The first part is a word of the last table.
        first : Node w₂ t₂ m
        first = node_more (made H i).node.table (made H i).more (made G h).node

        -- The node is the answer.
        pub call_done : {w₃ : List ℕ} → w₃ ≡ pushed_four w₂ t₂ 5 m m₂ 0 → GivesLettered core 0 ns ls w w₃ top left (λ s. node_out depth left s (capp (core ns w e) (core ns w a))) (Done (first_node + t₂) (t₂ + 1) l₂)
        call_done p = two_done G h H i (omega arith) (λ ns. capp (core ns w₂ m) (core ns w₂ m₂)) (call_then a) call_next
            (λ ns. push_called ns call_room.room call_room.small first (made H i).node p) (four_stands w₂ t₂ 5 m m₂ 0 p _ (omega arith)) (λ s u. rw (kept_core ns H.stands.low (made G h).node))

        -- The same with a name.
        pub let_done : {w₃ : List ℕ} (x : ℕ) → w₃ ≡ pushed_four w₂ t₂ 6 x m m₂ → GivesLettered core 0 ns ls w w₃ top left (λ s. node_out depth left s (clet (name_of ns x) (core ns w e) (core ns w a))) (Done (first_node + t₂) (t₂ + 1) l₂)
        let_done x p = two_done G h H i (omega arith) (λ ns. clet (name_of ns x) (core ns w₂ m) (core ns w₂ m₂)) (let_then x a) (let_next x)
            (λ ns. push_bound ns call_room.room call_room.small first (made H i).node x p) (four_stands w₂ t₂ 6 x m m₂ p _ (omega arith)) (λ s u. rw (kept_core ns H.stands.low (made G h).node))

    -- ## After the call for an older list v

    module _ {v : ℕ} (Y : Node w top v) {w₂ : List ℕ} {r₂ : Applied} (H : GivesLettered cores 0 ns ls w₁ w₂ t₁ l₁ (λ s. each_core (apply_core_in depth s) (cores ns w₁ v) l₁) r₂) where
      -- Then what comes of both.
      applied_next : Thens (Lettered ns ls) (λ s. after (each_core (apply_core_in depth s) (cores ns w v) l₁) (λ us l₂. done (dict_app (core ns w₁ m) us) l₂))
          (λ s. each_core (apply_core_in depth s) (cores ns w₁ v) l₁) (λ s us l₂. done (dict_app (core ns w₁ m) us) l₂)
      applied_next = record { at = λ s u. rw (kept_cores ns G.stands.low Y) }

      -- It is refused.
      pub applied_refused_2 : {q : Refusal} {t₂ l₂ : ℕ} → r₂ ≡ Refused q t₂ l₂ → GivesLettered core 0 ns ls w w₂ top left (λ s. node_out depth left s (dict_app (core ns w e) (cores ns w v))) (Refused q t₂ l₂)
      applied_refused_2 i = two_refused G h H (applied_then v) applied_next i

      module _ {m₂ t₂ l₂ : ℕ} (i : r₂ ≡ Done m₂ t₂ l₂) (len : length w₂ ≡ length w) (big : length w < 2 ^ 65) where
        -- There is room for a node of both parts.
        pub applied_room : Room w₂ top t₂
        applied_room = two_room G h H i (omega arith) R.room len big

        -- The node is the answer.
        pub applied_done : {w₃ : List ℕ} → w₃ ≡ pushed_four w₂ t₂ 8 m m₂ 0 → GivesLettered core 0 ns ls w w₃ top left (λ s. node_out depth left s (dict_app (core ns w e) (cores ns w v))) (Done (first_node + t₂) (t₂ + 1) l₂)
        applied_done p = two_done G h H i (omega arith) (λ ns. dict_app (core ns w₂ m) (cores ns w₂ m₂)) (applied_then v) applied_next
            (λ ns. push_applied ns applied_room.room applied_room.small (node_more (made H i).node.table (made H i).more (made G h).node) (made H i).node p) (four_stands w₂ t₂ 8 m m₂ 0 p _ (omega arith))
            (λ s u. rw (kept_core ns H.stands.low (made G h).node))

-- ## After the call for some binders, and then for the term b

module _ {ns w w₁ ls : List ℕ} {top left : ℕ} (depth : ℕ) (bl : List Binder) (wide : 4 * top + 8 * left ≤ length w) {r₁ : Applied} (G : GivesLettered binders_of_word 0 ns ls w w₁ top left (λ s. apply_preds_pending s bl left) r₁)
    {b : ℕ} (B : Node w top b) where
  -- The binders, then the term.
  under_then : Thens (Lettered ns ls) (λ s. node_out depth left s (dict_abs bl (core ns w b))) (λ s. apply_preds_pending s bl left)
      (λ s cs l. after (apply_core_in depth s (core ns w b) l) (λ u l₂. done (dict_abs cs u) l₂))
  unfolding apply_core_node
  under_then = record { at = λ s h. refl }

  -- The binders are refused.
  pub under_refused : {q : Refusal} {t₁ l₁ : ℕ} → r₁ ≡ Refused q t₁ l₁ → GivesLettered core 0 ns ls w w₁ top left (λ s. node_out depth left s (dict_abs bl (core ns w b))) (Refused q t₁ l₁)
  under_refused h = fails G under_then h

  module _ {m t₁ l₁ : ℕ} (h : r₁ ≡ Done m t₁ l₁) {w₂ : List ℕ} {r₂ : Applied} (H : GivesLettered core 4 ns ls w₁ w₂ t₁ l₁ (λ s. apply_core_in depth s (core ns w₁ b) l₁) r₂) where
    -- Then what comes of both.
    under_next : Thens (Lettered ns ls) (λ s. after (apply_core_in depth s (core ns w b) l₁) (λ u l₂. done (dict_abs (binders_of_word ns w₁ m) u) l₂)) (λ s. apply_core_in depth s (core ns w₁ b) l₁)
        (λ s u l₂. done (dict_abs (binders_of_word ns w₁ m) u) l₂)
    under_next = record { at = λ s u. rw (kept_core ns G.stands.low B) }

    -- The term is refused.
    pub under_refused_2 : {q : Refusal} {t₂ l₂ : ℕ} → r₂ ≡ Refused q t₂ l₂ → GivesLettered core 0 ns ls w w₂ top left (λ s. node_out depth left s (dict_abs bl (core ns w b))) (Refused q t₂ l₂)
    under_refused_2 i = two_refused G h H under_then under_next i

    module _ {m₂ t₂ l₂ : ℕ} (i : r₂ ≡ Done m₂ t₂ l₂) (len : length w₂ ≡ length w) (big : length w < 2 ^ 65) where
      -- There is room for the node.
      pub under_room : Room w₂ top t₂
      under_room = two_room G h H i (omega arith) wide len big

      -- The node is the answer.
      pub under_done : {w₃ : List ℕ} → w₃ ≡ pushed_four w₂ t₂ 7 m m₂ 0 → GivesLettered core 0 ns ls w w₃ top left (λ s. node_out depth left s (dict_abs bl (core ns w b))) (Done (first_node + t₂) (t₂ + 1) l₂)
      under_done p = two_done G h H i (omega arith) (λ ns. dict_abs (binders_of_word ns w₂ m) (core ns w₂ m₂)) under_then under_next
          (λ ns. push_under ns under_room.room under_room.small (node_more (made H i).node.table (made H i).more (made G h).node) (made H i).node p) (four_stands w₂ t₂ 7 m m₂ 0 p _ (omega arith))
          (λ s u. rw (kept_binders ns H.stands.low (made G h).node))
