-- The ways out of the functions for a node, from what the calls gave.
use mathlib.Core.Path.{◌≡◌, refl}
use mathlib.Core.List.{List}
use Prim.Native.Nat.{ℕ, ◌+◌, ◌^◌, ◌<◌, ◌≤◌}
use native.Mathlib.Omega.{arith}
use lib.ListN.{length}
use Rattle.meaning.specs.Ast.{cabs, capp, clet, dict_abs, dict_app, dict_proj, method, super}
use Rattle.meaning.specs.Budget.{done, after}
use Rattle.meaning.specs.Cores.{each_core}
use Rattle.names.specs.Names.{first_node, name_of}
use Rattle.ast.specs.Table.{Node, Kept}
use Rattle.ast.proofs.Laws.{node_more}
use Rattle.errors.specs.declared.Refusal.{Refusal}
use Rattle.cores.specs.Parts.{pushed_four}
use Rattle.cores.specs.Binders.{binders_of_word}
use Rattle.cores.specs.Terms.{core, cores}
use Rattle.cores.proofs.BinderLaws.{kept_binders}
use Rattle.cores.proofs.TermLaws.{kept_core, kept_cores}
use Rattle.cores.proofs.NewTerm.{four_stands, push_function, push_called, push_bound, push_under, push_applied, push_selected, push_super}
use Rattle.apply.specs.Applied.{Applied}
use Rattle.apply.specs.Applied.{Done, Refused}
use Rattle.apply.proofs.Ways.{Room}
use Rattle.terms.specs.Plain.{plain_node, plain_in}
use Rattle.terms.specs.Rows.{replaced_in, Replacing, ReadyTerm}
use Rattle.terms.specs.Answers.{GivesTerm, node_out}
use Rattle.terms.proofs.RowLaws.{kept_replaced, more_replacing}
use Rattle.terms.proofs.Handing.{Thens, made, fails, one_room, one_done, two_refused, two_room, two_done}

-- Under any names.
abbrev Any : List ℕ → Type 0
Any ns = Unit {0}

-- What the walk does to an older term, and to an older list, is the same after another call.
module _ {w w₁ bs : List ℕ} {top n : ℕ} (K : Kept w w₁ top) (R : Replacing w bs top n) where
  -- A term.
  pub term_kept : {a : ℕ} (ns : List ℕ) (d l : ℕ) → Node w top a → plain_in d (replaced_in ns w₁ bs n) (core ns w₁ a) l ≡ plain_in d (replaced_in ns w bs n) (core ns w a) l
  term_kept ns d l A = rw (kept_replaced ns K R, kept_core ns K A)

  -- A list of terms.
  pub each_kept : {a : ℕ} (ns : List ℕ) (d l : ℕ) → Node w top a → each_core (plain_in d (replaced_in ns w₁ bs n)) (cores ns w₁ a) l ≡ each_core (plain_in d (replaced_in ns w bs n)) (cores ns w a) l
  each_kept ns d l A = rw (kept_replaced ns K R, kept_cores ns K A)

-- ## After the call for the first part e

module _ {w w₁ bs : List ℕ} {top left n e : ℕ} (depth : ℕ) (R : ReadyTerm w bs top left n e) {r₁ : Applied}
    (G : GivesTerm core 4 w w₁ top left (λ ns. plain_in depth (replaced_in ns w bs n) (core ns w e) left) r₁) where
  -- A function.
  abs_then : (x : ℕ) → Thens Any (λ ns. node_out ns w bs n depth left (cabs (name_of ns x) (core ns w e))) (λ ns. plain_in depth (replaced_in ns w bs n) (core ns w e) left) (λ ns u l. done (cabs (name_of ns x) u) l)
  unfolding plain_node
  abs_then x = record { at = λ ns h. refl }

  -- A term under binders.
  under_then : (v : ℕ) → Thens Any (λ ns. node_out ns w bs n depth left (dict_abs (binders_of_word ns w v) (core ns w e))) (λ ns. plain_in depth (replaced_in ns w bs n) (core ns w e) left) (λ ns u l. done (dict_abs (binders_of_word ns w v) u) l)
  unfolding plain_node
  under_then v = record { at = λ ns h. refl }

  -- A method.
  method_then : (x : ℕ) → Thens Any (λ ns. node_out ns w bs n depth left (dict_proj (core ns w e) (method (name_of ns x)))) (λ ns. plain_in depth (replaced_in ns w bs n) (core ns w e) left) (λ ns u l. done (dict_proj u (method (name_of ns x))) l)
  unfolding plain_node
  method_then x = record { at = λ ns h. refl }

  -- A superclass.
  super_then : (c s : ℕ) → Thens Any (λ ns. node_out ns w bs n depth left (dict_proj (core ns w e) (super (name_of ns c) (name_of ns s)))) (λ ns. plain_in depth (replaced_in ns w bs n) (core ns w e) left) (λ ns u l. done (dict_proj u (super (name_of ns c) (name_of ns s))) l)
  unfolding plain_node
  super_then c s = record { at = λ ns h. refl }

  -- A term applied to a term.
  call_then : (a : ℕ) → Thens Any (λ ns. node_out ns w bs n depth left (capp (core ns w e) (core ns w a))) (λ ns. plain_in depth (replaced_in ns w bs n) (core ns w e) left)
      (λ ns u l. after (plain_in depth (replaced_in ns w bs n) (core ns w a) l) (λ v l₂. done (capp u v) l₂))
  unfolding plain_node
  call_then a = record { at = λ ns h. refl }

  -- A term in which a name stands for another.
  let_then : (x b : ℕ) → Thens Any (λ ns. node_out ns w bs n depth left (clet (name_of ns x) (core ns w e) (core ns w b))) (λ ns. plain_in depth (replaced_in ns w bs n) (core ns w e) left)
      (λ ns u l. after (plain_in depth (replaced_in ns w bs n) (core ns w b) l) (λ v l₂. done (clet (name_of ns x) u v) l₂))
  unfolding plain_node
  let_then x b = record { at = λ ns h. refl }

  -- A term applied to dictionaries.
  applied_then : (v : ℕ) → Thens Any (λ ns. node_out ns w bs n depth left (dict_app (core ns w e) (cores ns w v))) (λ ns. plain_in depth (replaced_in ns w bs n) (core ns w e) left)
      (λ ns u l. after (each_core (plain_in depth (replaced_in ns w bs n)) (cores ns w v) l) (λ us l₂. done (dict_app u us) l₂))
  unfolding plain_node
  applied_then v = record { at = λ ns h. refl }

  -- The first part is refused.
  module _ {q : Refusal} {t₁ l₁ : ℕ} (h : r₁ ≡ Refused q t₁ l₁) where
    -- At a function.
    pub abs_refused : (x : ℕ) → GivesTerm core 0 w w₁ top left (λ ns. node_out ns w bs n depth left (cabs (name_of ns x) (core ns w e))) (Refused q t₁ l₁)
    abs_refused x = fails G (abs_then x) h

    -- Under binders.
    pub under_refused : (v : ℕ) → GivesTerm core 0 w w₁ top left (λ ns. node_out ns w bs n depth left (dict_abs (binders_of_word ns w v) (core ns w e))) (Refused q t₁ l₁)
    under_refused v = fails G (under_then v) h

    -- Of a method.
    pub method_refused : (x : ℕ) → GivesTerm core 0 w w₁ top left (λ ns. node_out ns w bs n depth left (dict_proj (core ns w e) (method (name_of ns x)))) (Refused q t₁ l₁)
    method_refused x = fails G (method_then x) h

    -- Of a superclass.
    pub super_refused : (c s : ℕ) → GivesTerm core 0 w w₁ top left (λ ns. node_out ns w bs n depth left (dict_proj (core ns w e) (super (name_of ns c) (name_of ns s)))) (Refused q t₁ l₁)
    super_refused c s = fails G (super_then c s) h

    -- Of a term applied to a term.
    pub call_refused : (a : ℕ) → GivesTerm core 0 w w₁ top left (λ ns. node_out ns w bs n depth left (capp (core ns w e) (core ns w a))) (Refused q t₁ l₁)
    call_refused a = fails G (call_then a) h

    -- Of a term for which a name stands.
    pub let_refused : (x b : ℕ) → GivesTerm core 0 w w₁ top left (λ ns. node_out ns w bs n depth left (clet (name_of ns x) (core ns w e) (core ns w b))) (Refused q t₁ l₁)
    let_refused x b = fails G (let_then x b) h

    -- Of a term applied to dictionaries.
    pub applied_refused : (v : ℕ) → GivesTerm core 0 w w₁ top left (λ ns. node_out ns w bs n depth left (dict_app (core ns w e) (cores ns w v))) (Refused q t₁ l₁)
    applied_refused v = fails G (applied_then v) h

  module _ {m t₁ l₁ : ℕ} (h : r₁ ≡ Done m t₁ l₁) where
    -- Fewer steps are left.
    pub fewer : l₁ < left
    fewer = let g = made G h in let s = g.spent in let u = g.more in omega arith

    -- The next call, for an older word a.
    pub second : {a : ℕ} → length w₁ ≡ length w → Node w top a → (top ≤ t₁) × ReadyTerm w₁ bs t₁ l₁ n a
    second len A =
        let g = made G h in let s = g.spent in let u = g.more in let o = R.room in
        (g.more, record { node = node_more g.node.table g.more A; rows = more_replacing g.node.table g.more R.rows; room = omega arith })

    module _ (len : length w₁ ≡ length w) (big : length w < 2 ^ 65) where
      -- There is room for a node of this part alone.
      pub room : Room w₁ top t₁
      room = one_room G h R.room len big

      module _ {w₂ : List ℕ} where
        -- A function is the answer.
        pub abs_done : (x : ℕ) → w₂ ≡ pushed_four w₁ t₁ 4 x m 0 → GivesTerm core 0 w w₂ top left (λ ns. node_out ns w bs n depth left (cabs (name_of ns x) (core ns w e))) (Done (first_node + t₁) (t₁ + 1) l₁)
        abs_done x p = one_done G h (λ ns. cabs (name_of ns x) (core ns w₁ m)) (abs_then x)
            (λ ns. push_function ns room.room room.small x (made G h).node p) (four_stands w₁ t₁ 4 x m 0 p _ (omega arith)) (λ ns u. refl)

        -- A term under the same binders is.
        pub under_done : {v : ℕ} → Node w top v → w₂ ≡ pushed_four w₁ t₁ 7 v m 0
            → GivesTerm core 0 w w₂ top left (λ ns. node_out ns w bs n depth left (dict_abs (binders_of_word ns w v) (core ns w e))) (Done (first_node + t₁) (t₁ + 1) l₁)
        under_done {v} Y p = one_done G h (λ ns. dict_abs (binders_of_word ns w₁ v) (core ns w₁ m)) (under_then v)
            (λ ns. push_under ns room.room room.small (node_more (made G h).node.table (made G h).more Y) (made G h).node p) (four_stands w₁ t₁ 7 v m 0 p _ (omega arith))
            (λ ns u. rw (kept_binders ns G.stands.low Y))

        -- A method is.
        pub method_done : (x : ℕ) → w₂ ≡ pushed_four w₁ t₁ 9 m x 0 → GivesTerm core 0 w w₂ top left (λ ns. node_out ns w bs n depth left (dict_proj (core ns w e) (method (name_of ns x)))) (Done (first_node + t₁) (t₁ + 1) l₁)
        method_done x p = one_done G h (λ ns. dict_proj (core ns w₁ m) (method (name_of ns x))) (method_then x)
            (λ ns. push_selected ns room.room room.small x (made G h).node p) (four_stands w₁ t₁ 9 m x 0 p _ (omega arith)) (λ ns u. refl)

        -- A superclass is.
        pub super_done : (c s : ℕ) → w₂ ≡ pushed_four w₁ t₁ 10 m c s
            → GivesTerm core 0 w w₂ top left (λ ns. node_out ns w bs n depth left (dict_proj (core ns w e) (super (name_of ns c) (name_of ns s)))) (Done (first_node + t₁) (t₁ + 1) l₁)
        super_done c s p = one_done G h (λ ns. dict_proj (core ns w₁ m) (super (name_of ns c) (name_of ns s))) (super_then c s)
            (λ ns. push_super ns room.room room.small c s (made G h).node p) (four_stands w₁ t₁ 10 m c s p _ (omega arith)) (λ ns u. refl)

    -- ## After the call for an older term a

    module _ {a : ℕ} (A : Node w top a) {w₂ : List ℕ} {r₂ : Applied}
        (H : GivesTerm core 4 w₁ w₂ t₁ l₁ (λ ns. plain_in depth (replaced_in ns w₁ bs n) (core ns w₁ a) l₁) r₂) where
      -- Then a term applied to what comes of it.
      call_next : Thens Any (λ ns. after (plain_in depth (replaced_in ns w bs n) (core ns w a) l₁) (λ v l₂. done (capp (core ns w₁ m) v) l₂))
          (λ ns. plain_in depth (replaced_in ns w₁ bs n) (core ns w₁ a) l₁) (λ ns v l₂. done (capp (core ns w₁ m) v) l₂)
      call_next = record { at = λ ns u. rw (term_kept G.stands.low R.rows ns depth l₁ A) }

      -- Then that term with the name.
      let_next : (x : ℕ) → Thens Any (λ ns. after (plain_in depth (replaced_in ns w bs n) (core ns w a) l₁) (λ v l₂. done (clet (name_of ns x) (core ns w₁ m) v) l₂))
          (λ ns. plain_in depth (replaced_in ns w₁ bs n) (core ns w₁ a) l₁) (λ ns v l₂. done (clet (name_of ns x) (core ns w₁ m) v) l₂)
      let_next x = record { at = λ ns u. rw (term_kept G.stands.low R.rows ns depth l₁ A) }

      -- It is refused.
      module _ {q : Refusal} {t₂ l₂ : ℕ} (i : r₂ ≡ Refused q t₂ l₂) where
        -- Of a term applied to it.
        pub call_refused_2 : GivesTerm core 0 w w₂ top left (λ ns. node_out ns w bs n depth left (capp (core ns w e) (core ns w a))) (Refused q t₂ l₂)
        call_refused_2 = two_refused G h H (call_then a) call_next i

        -- Of a term in which a name stands for another.
        pub let_refused_2 : (x : ℕ) → GivesTerm core 0 w w₂ top left (λ ns. node_out ns w bs n depth left (clet (name_of ns x) (core ns w e) (core ns w a))) (Refused q t₂ l₂)
        let_refused_2 x = two_refused G h H (let_then x a) (let_next x) i

      module _ {m₂ t₂ l₂ : ℕ} (i : r₂ ≡ Done m₂ t₂ l₂) (len : length w₂ ≡ length w) (big : length w < 2 ^ 65) where
        -- There is room for a node of both parts.
        pub call_room : Room w₂ top t₂
        call_room = two_room G h H i (omega arith) R.room len big

        -- The first part is a word of the last table.
        first : Node w₂ t₂ m
        first = node_more (made H i).node.table (made H i).more (made G h).node

        module _ {w₃ : List ℕ} where
          -- A term applied to a term is the answer.
          pub call_done : w₃ ≡ pushed_four w₂ t₂ 5 m m₂ 0 → GivesTerm core 0 w w₃ top left (λ ns. node_out ns w bs n depth left (capp (core ns w e) (core ns w a))) (Done (first_node + t₂) (t₂ + 1) l₂)
          call_done p = two_done G h H i (omega arith) (λ ns. capp (core ns w₂ m) (core ns w₂ m₂)) (call_then a) call_next
              (λ ns. push_called ns call_room.room call_room.small first (made H i).node p) (four_stands w₂ t₂ 5 m m₂ 0 p _ (omega arith))
              (λ ns u. rw (kept_core ns H.stands.low (made G h).node))

          -- A term in which a name stands for another is.
          pub let_done : (x : ℕ) → w₃ ≡ pushed_four w₂ t₂ 6 x m m₂
              → GivesTerm core 0 w w₃ top left (λ ns. node_out ns w bs n depth left (clet (name_of ns x) (core ns w e) (core ns w a))) (Done (first_node + t₂) (t₂ + 1) l₂)
          let_done x p = two_done G h H i (omega arith) (λ ns. clet (name_of ns x) (core ns w₂ m) (core ns w₂ m₂)) (let_then x a) (let_next x)
              (λ ns. push_bound ns call_room.room call_room.small first (made H i).node x p) (four_stands w₂ t₂ 6 x m m₂ p _ (omega arith))
              (λ ns u. rw (kept_core ns H.stands.low (made G h).node))

    -- ## After the call for an older list v

    module _ {v : ℕ} (Y : Node w top v) {w₂ : List ℕ} {r₂ : Applied}
        (H : GivesTerm cores 0 w₁ w₂ t₁ l₁ (λ ns. each_core (plain_in depth (replaced_in ns w₁ bs n)) (cores ns w₁ v) l₁) r₂) where
      -- Then a term applied to what comes of it.
      applied_next : Thens Any (λ ns. after (each_core (plain_in depth (replaced_in ns w bs n)) (cores ns w v) l₁) (λ us l₂. done (dict_app (core ns w₁ m) us) l₂))
          (λ ns. each_core (plain_in depth (replaced_in ns w₁ bs n)) (cores ns w₁ v) l₁) (λ ns us l₂. done (dict_app (core ns w₁ m) us) l₂)
      applied_next = record { at = λ ns u. rw (each_kept G.stands.low R.rows ns depth l₁ Y) }

      -- It is refused.
      pub applied_refused_2 : {q : Refusal} {t₂ l₂ : ℕ} → r₂ ≡ Refused q t₂ l₂
          → GivesTerm core 0 w w₂ top left (λ ns. node_out ns w bs n depth left (dict_app (core ns w e) (cores ns w v))) (Refused q t₂ l₂)
      applied_refused_2 i = two_refused G h H (applied_then v) applied_next i

      module _ {m₂ t₂ l₂ : ℕ} (i : r₂ ≡ Done m₂ t₂ l₂) (len : length w₂ ≡ length w) (big : length w < 2 ^ 65) where
        -- There is room for a node of both parts.
        pub applied_room : Room w₂ top t₂
        applied_room = two_room G h H i (omega arith) R.room len big

        -- A term applied to dictionaries is the answer.
        pub applied_done : {w₃ : List ℕ} → w₃ ≡ pushed_four w₂ t₂ 8 m m₂ 0
            → GivesTerm core 0 w w₃ top left (λ ns. node_out ns w bs n depth left (dict_app (core ns w e) (cores ns w v))) (Done (first_node + t₂) (t₂ + 1) l₂)
        applied_done p = two_done G h H i (omega arith) (λ ns. dict_app (core ns w₂ m) (cores ns w₂ m₂)) (applied_then v) applied_next
            (λ ns. push_applied ns applied_room.room applied_room.small (node_more (made H i).node.table (made H i).more (made G h).node) (made H i).node p) (four_stands w₂ t₂ 8 m m₂ 0 p _ (omega arith))
            (λ ns u. rw (kept_core ns H.stands.low (made G h).node))
