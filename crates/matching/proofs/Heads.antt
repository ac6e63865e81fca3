-- The ways out of `match_cons` and `match_arrow`.
use Prim.Native.Nat.{ℕ, ◌*◌, ◌-◌, ◌≤◌}
use native.Mathlib.Omega.{arith}
use mathlib.Core.Path.{◌≡◌, refl, ap, ◌∙◌}
use mathlib.Core.Bool.{Bool, true, false, ◌&&◌}
use mathlib.Core.List.{List, []}
use lib.ListN.{length}
use Rattle.meaning.specs.Base.{is_yes, if, eqb}
use Rattle.meaning.specs.Ast.{Name, same_name, Ty, arrow, count_tys}
use Rattle.meaning.specs.Errors.{unification_failure}
use Rattle.meaning.specs.Budget.{Out, refused, Steps, after}
use Rattle.meaning.specs.Subst.{Subst}
use Rattle.meaning.specs.Unify.{match_zip, match_node, match_in}
use Rattle.names.specs.Names.{name_of}
use Rattle.names.proofs.Tests.{eq_yes, eq_no}
use Rattle.names.proofs.Distinct.{name_of_same}
use Rattle.ast.specs.Table.{tree, list, Node, Counted}
use Rattle.ast.proofs.Laws.{kept_tree, node_more, tree_con, con_child}
use Rattle.errors.specs.declared.Refusal.{Refusal}
use Rattle.errors.specs.declared.Refusal.TheVariants.{UnificationFailure}
use Rattle.pairs.specs.Pairs.{sub_at}
use Rattle.apply.specs.Applied.{Applied}
use Rattle.apply.specs.Applied.{Done, Refused}
use Rattle.compose.specs.Answers.{GivesU, ReadyU, ReadyOne, ReadyArrow}
use Rattle.matching.specs.Match.{match_one, match_arrow, Shapes}
use Rattle.pairs.proofs.Frames.{stands_refl, sub_none}
use Rattle.compose.proofs.Hand.{on, because, got, lost}

-- ## Tests

-- The test of what holds.
holds : {P : Type 0} (d : Dec P) → P → is_yes d ≡ true
holds (yes p) q = refl
holds (no h) q = absurd (h q)

-- The test of what does not.
fails : {P : Type 0} (d : Dec P) → (P → ⊥) → is_yes d ≡ false
fails (yes p) h = absurd (h p)
fails (no h) k = refl

-- Equal names.
pub names_same : {x y : Name} → x ≡ y → is_yes (same_name x y) ≡ true
names_same {x} {y} e = holds (same_name x y) e

-- Different names.
pub names_not : {x y : Name} → (x ≡ y → ⊥) → is_yes (same_name x y) ≡ false
names_not {x} {y} h = fails (same_name x y) h

-- A choice of computations, begun.
if_at : {A : Type 0} (b : Bool) (f g : Steps A) (l : ℕ) → if b f g l ≡ if b (f l) (g l)
if_at true f g l = refl
if_at false f g l = refl

-- Two types that do not match, both of the table.
pub differ : {slack x : ℕ} {ns w : List ℕ} {top left l hi s t : ℕ} {o : Out Subst} → Node w top s → Node w top t → l ≤ left
    → o ≡ refused (unification_failure (tree ns w s) (tree ns w t)) l → GivesU slack x ns w w top left hi o (Refused (UnificationFailure s t) top l)
differ S T h e = record { stands = stands_refl _ _ _; answer = record { is = e; types = (S, T); more = omega arith; down = h } }

-- ## Two constructors

module _ {ns w : List ℕ} {top left sp s t c xs d ys : ℕ} (R : ReadyU ns w top left sp s t) (S : Shapes w s t c xs d ys) where
  -- The arguments of the first are a list of the table.
  pub cons_first : Node w top xs
  cons_first = (con_child R.first S.first refl).1

  -- And those of the second.
  pub cons_second : Node w top ys
  cons_second = (con_child R.second S.second refl).1

  -- What `match_zip` asks: no pairs so far.
  pub cons_ready : ReadyOne ns w top left sp 0 xs ys
  unfolding sub_at
  cons_ready = let r = R.room in let f = R.fits in record { names = R.names; first = cons_first; second = cons_second; room = omega arith; sub = sub_none _ _ (omega arith); sorted = tt; fits = R.fits }

  module _ (depth : ℕ) where
    -- The pair by its names and arguments.
    opened : match_node (λ a b. match_in depth a b) (tree ns w s) (tree ns w t) left
        ≡ if (is_yes (same_name (name_of ns c) (name_of ns d)) && eqb (count_tys (list ns w xs)) (count_tys (list ns w ys)))
        (match_zip (λ a b. match_in depth a b) (list ns w xs) (list ns w ys) [] left) (refused (unification_failure (tree ns w s) (tree ns w t)) left)
    unfolding match_node
    opened = rw (tree_con ns R.first S.first refl, tree_con ns R.second S.second refl)
        (if_at (is_yes (same_name (name_of ns c) (name_of ns d)) && eqb (count_tys (list ns w xs)) (count_tys (list ns w ys))) _ _ left)

    -- Different names.
    pub cons_names : (c ≡ d → ⊥) → GivesU 0 0 ns w w top left sp (match_node (λ a b. match_in depth a b) (tree ns w s) (tree ns w t) left) (Refused (UnificationFailure s t) top left)
    cons_names h = differ R.first R.second (omega arith) (opened ∙ rw (names_not (λ (e : name_of ns c ≡ name_of ns d). h (name_of_same ns R.names c d e))))

    module _ {i j : ℕ} (C : (m : List ℕ) → Counted m w xs i) (D : (m : List ℕ) → Counted m w ys j) where
      -- Different numbers of arguments.
      pub cons_lengths : c ≡ d → (i ≡ j → ⊥) → GivesU 0 0 ns w w top left sp (match_node (λ a b. match_in depth a b) (tree ns w s) (tree ns w t) left) (Refused (UnificationFailure s t) top left)
      cons_lengths e h =
          differ R.first R.second (omega arith)
          (opened ∙ rw (names_same (ap (name_of ns) e), ← (C ns).is, ← (D ns).is, eq_no i j h))

      -- What the arguments give.
      pub cons_go : {w₁ : List ℕ} {v : Applied} → c ≡ d → i ≡ j
          → GivesU 0 (2 * 0) ns w w₁ top left sp (match_zip (λ a b. match_in depth a b) (list ns w xs) (list ns w ys) (sub_at ns w (sp - 2 * 0) 0) left) v
          → GivesU 0 0 ns w w₁ top left sp (match_node (λ a b. match_in depth a b) (tree ns w s) (tree ns w t) left) v
      unfolding sub_at
      cons_go e h G =
          on (stands_refl _ _ _) (omega arith) (opened ∙ rw (names_same (ap (name_of ns) e), ← (C ns).is, ← (D ns).is, eq_yes i j h)) (omega arith) (omega arith) (omega arith) G

-- ## Two arrows

-- The meaning's clause for two arrows.
pub node_arrow : (m : Ty → Ty → Steps Subst) (a b c d : Ty) (l : ℕ) → match_node m (arrow a b) (arrow c d) l ≡ match_arrow m a b c d l
unfolding match_node match_arrow match_one
node_arrow m a b c d l = refl

module _ {ns w : List ℕ} {top left sp a b c d : ℕ} (R : ReadyArrow ns w top left sp a b c d) {w₁ : List ℕ} {r : Applied} (depth : ℕ)
    (G : GivesU 1 0 ns w w₁ top left sp (match_in depth (tree ns w a) (tree ns w c) left) r) where
  -- A refusal of the left sides is handed on.
  pub arrow_fails : {e : Refusal} {t l : ℕ} → r ≡ Refused e t l
      → GivesU 0 0 ns w w₁ top left sp (match_arrow (λ x y. match_in depth x y) (tree ns w a) (tree ns w b) (tree ns w c) (tree ns w d) left) (Refused e t l)
  unfolding match_arrow after
  arrow_fails h = because G.stands (omega arith) (omega arith) (rw (lost G h).is) (lost G h)

  module _ {k t l : ℕ} (h : r ≡ Done k t l) where
    -- What `match_one` asks of the right sides.
    pub arrow_ready : length w₁ ≡ length w → ReadyOne ns w₁ t l sp k b d
    arrow_ready e =
        let g = (got G h).1 in
        let s = g.spent in
        let z = R.rights.room in
        let f = R.rights.fits in
        record {
          names = R.rights.names;
          first = node_more g.table g.more R.rights.first;
          second = node_more g.table g.more R.rights.second;
          room = omega arith;
          sub = g.sub;
          sorted = g.sorted;
          fits = omega arith;
        }

    -- What it gives.
    pub arrow_goes : {w₂ : List ℕ} {v : Applied} → GivesU 1 (2 * k) ns w₁ w₂ t l sp (match_one (λ x y. match_in depth x y) (sub_at ns w₁ (sp - 2 * k) k) (tree ns w₁ b) (tree ns w₁ d) l) v
        → GivesU 0 0 ns w w₂ top left sp (match_arrow (λ x y. match_in depth x y) (tree ns w a) (tree ns w b) (tree ns w c) (tree ns w d) left) v
    unfolding match_arrow after
    arrow_goes H =
        let g = (got G h).1 in
        let s = g.spent in
        let q = g.down in
        on G.stands g.more (rw ((got G h).0, ← kept_tree ns G.stands.low R.rights.first, ← kept_tree ns G.stands.low R.rights.second))
        (omega arith) (omega arith) (omega arith) H
