-- The ways out of `with_args` and `build`, from what the calls gave.
use mathlib.Core.Path.{◌≡◌, refl, sym, ◌∙◌}
use mathlib.Core.List.{List}
use Prim.Native.Nat.{ℕ, ◌+◌, ◌*◌, ◌-◌, ◌^◌, ◌<◌, ◌≤◌}
use native.Mathlib.Omega.{arith}
use lib.ListN.{length, get_or}
use Rattle.meaning.specs.Ast.{dict_rec, dict_app, Core, Cores, ◌◃◌}
use Rattle.meaning.specs.Budget.{done}
use Rattle.meaning.specs.Subst.{apply_in}
use Rattle.meaning.specs.Classes.{InstanceInfo, Chosen, applied}
use Rattle.names.specs.Names.{first_node, name_of}
use Rattle.ast.specs.Table.{cell_of, tree, Node}
use Rattle.ast.specs.declared.Cell.{Cell}
use Rattle.ast.specs.declared.Cell.TheVariants.{Nil, Cons}
use Rattle.ast.proofs.Ranges.{cons_node}
use Rattle.ast.proofs.Laws.{node_more, cons_head}
use Rattle.ast.proofs.NewNode.{Pushed}
use Rattle.errors.specs.declared.Refusal.{Refusal}
use Rattle.pairs.specs.Pairs.{sub_at}
use Rattle.pairs.proofs.Frames.{stands_refl, stands_then, stands_up}
use Rattle.apply.specs.Region.{Ready, Gives}
use Rattle.apply.specs.Applied.{Applied}
use Rattle.apply.specs.Applied.{Done as A-Done, Refused as A-Refused}
use Rattle.apply.proofs.Hand.{Then, then_done, refuse_on, gave, failed}
use Rattle.apply.proofs.Ways.{Room}
use Rattle.instances.specs.Accepted.{Openable, Opened, Stored}
use Rattle.instances.proofs.Held.{parts, heads_open}
use Rattle.cores.specs.Parts.{pushed_four}
use Rattle.cores.specs.Terms.{core, cores}
use Rattle.cores.proofs.TermLaws.{kept_cores, cores_nil, cores_cons}
use Rattle.cores.proofs.NewTerm.{four_stands, push_record, push_applied}
use Rattle.resolve.specs.Ways.{dictionary}
use Rattle.resolve.specs.Resolves.{ReadyBuild, GivesCore, Wraps}
use Rattle.resolve.specs.Resolved.{Done, Refused}

-- ## A term and its arguments: c is what `cell_at` returned

-- A term with arguments is applied to them.
with_some : (f a : Core) (es : Cores) → applied f (a ◃ es) ≡ dict_app f (a ◃ es)
unfolding applied
with_some f a es = refl

-- The number of a node that there is room for.
pub small_room : (w : List ℕ) (top : ℕ) → 4 * top + 4 ≤ length w → length w < 2 ^ 65 → top < first_node
small_room w top room big = omega arith

module _ {w : List ℕ} {top f es : ℕ} (F : Node w top f) (A : Node w top es) {c : Cell} (e : c ≡ cell_of w es) where
  -- There are no arguments.
  pub wraps_none : c ≡ Nil → Wraps w w top f es f top
  unfolding applied
  wraps_none h = record { stands = stands_refl _ _ _; node = F; more = omega arith; most = omega arith; is = λ ns. rw (cores_nil ns A e h) }

  -- There are some.
  pub wraps_some : {w' : List ℕ} {a b : ℕ} → c ≡ Cons a b → 4 * top + 4 ≤ length w → length w < 2 ^ 65 → w' ≡ pushed_four w top 8 f es 0 → Wraps w w' top f es (first_node + top) (top + 1)
  wraps_some {w'} {a} {b} h room big p =
      let small = small_room w top room big in
      record {
        stands = four_stands w top 8 f es 0 p (4 * top + 4) (omega arith);
        node = (push_applied w room small F A p).node;
        more = omega arith;
        most = omega arith;
        is = λ ns. (push_applied ns room small F A p).is ∙ rw (cores_cons ns A e h) (sym (with_some (core ns w f) (core ns w a) (cores ns w b)));
      }

-- ## The dictionary of an instance

-- The head's type first, then the record.
head_first : (i : Chosen) (es : Cores) (n : ℕ) → Then (dictionary i es n) (apply_in 256 i.fills i.inst.head.ty n) (λ u m. done (applied (dict_rec i.inst.head.class u i.index) es) m)
unfolding dictionary
head_first i es n = record { is = refl }

module _ {ns w il : List ℕ} {top left at k i es : ℕ} (R : ReadyBuild ns w il top left at k i es) where
  -- What `instance_at` asks.
  pub build_open : (i < length il) × Openable w (get_or il i 0)
  build_open = (R.there, heads_open R.heads R.there)

  module _ {x a b : ℕ} (O : Opened w (get_or il i 0) x a b) where
    -- What `apply` asks.
    pub build_ready : Ready ns w top left at k a
    build_ready = let r = R.room in record { names = R.names; node = (cons_head (R.heads.node i R.there) refl O.cell).1; room = omega arith; sub = R.sub }

    -- An instance is a node, so that the table is not empty.
    some_node : 1 ≤ top
    some_node = let c = cons_node w (get_or il i 0) O.cell in let d = (R.heads.node i R.there).below in omega arith

    module _ {w₁ : List ℕ} {r : Applied} (A : Gives (tree ns w₁) (4 * top + 8 * left - 4) ns w w₁ top left (apply_in 256 (sub_at ns w at k) (tree ns w a) left) r) where
      -- The dictionary, by the head that was read.
      head_way : (inst : InstanceInfo) → Stored ns w top (get_or il i 0) inst
          → Then (dictionary (record { index = i; inst = inst; fills = sub_at ns w at k }) (cores ns w es) left) (apply_in 256 (sub_at ns w at k) (tree ns w a) left)
          (λ u m. done (applied (dict_rec (name_of ns x) u i) (cores ns w es)) m)
      head_way inst S = record { is = (head_first (record { index = i; inst = inst; fills = sub_at ns w at k }) (cores ns w es) left).is ∙ rw (parts S O).head }

      -- The head is refused.
      pub build_refused : {e : Refusal} {t₁ l₁ : ℕ} → r ≡ A-Refused e t₁ l₁
          → GivesCore (Stored ns w top (get_or il i 0)) (core ns w₁) (4 * top + 8 * left + 4) 0 ns w w₁ top left at
          (λ inst. dictionary (record { index = i; inst = inst; fills = sub_at ns w at k }) (cores ns w es) left) (Refused e t₁ l₁)
      build_refused h = let r = R.room in record { stands = stands_up A.stands (omega arith); answer = λ inst S. refuse_on (head_way inst S) (failed A h) (omega arith) (omega arith) }

      module _ {u t₁ l₁ : ℕ} (h : r ≡ A-Done u t₁ l₁) (len : length w₁ ≡ length w) (big : length w < 2 ^ 65) where
        -- There is room for the record, and for one more node.
        pub build_room : Room w₁ top t₁ × (4 * t₁ + 8 ≤ length w₁)
        build_room =
            let g = (gave A h).1 in let s = g.spent in let m = g.more in let n = some_node in let r = R.room in let f = R.sub.fits in
            (record { more = m; room = omega arith; small = omega arith }, omega arith)

        module _ {w₂ : List ℕ} (p : w₂ ≡ pushed_four w₁ t₁ 11 x u i) where
          -- The record.
          pub build_record : Pushed (core ns w₂) w₁ w₂ t₁ (dict_rec (name_of ns x) (tree ns w₁ u) i)
          build_record = push_record ns build_room.0.room build_room.0.small x i (gave A h).1.node p

          -- The arguments, over the table with the record.
          pub build_args : Node w₂ (t₁ + 1) es
          build_args = let m = (gave A h).1.more in node_more build_record.node.table (omega arith) R.args

          -- The record and the arguments are the answer.
          pub build_done : {w₃ : List ℕ} {e t₃ : ℕ} → Wraps w₂ w₃ (t₁ + 1) (first_node + t₁) es e t₃
              → GivesCore (Stored ns w top (get_or il i 0)) (core ns w₃) (4 * top + 8 * left + 4) 0 ns w w₃ top left at
              (λ inst. dictionary (record { index = i; inst = inst; fills = sub_at ns w at k }) (cores ns w es) left) (Done e t₃ l₁)
          build_done {w₃} {e} {t₃} W =
              let g = (gave A h).1 in let s = g.spent in let m = g.more in let d = g.down in let n = some_node in let r = R.room in
              let v = W.more in let y = W.most in
              let P = four_stands w₁ t₁ 11 x u i p at (omega arith) in
              let S = stands_then (stands_up A.stands (omega arith)) P m in
              record {
                stands = stands_then S (stands_up W.stands (omega arith)) (omega arith);
                answer = record {
                  node = W.node;
                  more = omega arith;
                  spent = omega arith;
                  down = omega arith;
                  is = λ inst T. then_done (tree ns w₁ u) l₁ (head_way inst T) (gave A h).0 ∙ rw (W.is ns, build_record.is, kept_cores ns S.low R.args);
                };
              }
