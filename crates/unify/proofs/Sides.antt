-- Laws of two arrows.
use Prim.Native.Nat.{ℕ, ◌*◌, ◌-◌, ◌<◌, ◌≤◌}
use native.Mathlib.Omega.{arith}
use mathlib.Core.Path.{◌≡◌}
use mathlib.Core.List.{List}
use lib.ListN.{length}
use Rattle.meaning.specs.Budget.{after}
use Rattle.meaning.specs.Unify.{unify_arrow, unify_in}
use Rattle.ast.specs.Table.{tree}
use Rattle.ast.proofs.Laws.{kept_tree, node_more}
use Rattle.errors.specs.declared.Refusal.{Refusal}
use Rattle.pairs.specs.Pairs.{sub_at}
use Rattle.apply.specs.Applied.{Applied}
use Rattle.apply.specs.Applied.{Done, Refused}
use Rattle.compose.specs.Answers.{GivesU, ReadyOne, ReadyArrow}
use Rattle.unify.specs.Unify.{unify_one}
use Rattle.unify.proofs.Outcomes.{arrow_one}
use Rattle.unify.proofs.Hand.{refuses_on, on, because}
use Rattle.compose.proofs.Hand.{got, lost}

module _ {ns w : List ℕ} {top left sp a b c d : ℕ} (R : ReadyArrow ns w top left sp a b c d) (depth : ℕ) {w₁ : List ℕ} {r : Applied}
    (G : GivesU 1 0 ns w w₁ top left sp (unify_in depth (tree ns w a) (tree ns w c) left) r) where
  -- The left sides refused.
  pub arrow_fails : {e : Refusal} {t l : ℕ} → r ≡ Refused e t l
      → GivesU 0 0 ns w w₁ top left sp (unify_arrow (λ x y. unify_in depth x y) (tree ns w a) (tree ns w b) (tree ns w c) (tree ns w d) left) (Refused e t l)
  unfolding unify_arrow after
  arrow_fails j = because G.stands (refuses_on (lost G j) (rw (lost G j).is) (omega arith) (omega arith))

  module _ {k t l : ℕ} (j : r ≡ Done k t l) where
    -- The table did not shrink.
    pub arrow_more : top ≤ t
    arrow_more = (got G j).1.more

    -- A step was spent.
    pub arrow_less : l < left
    arrow_less = let s = (got G j).1.down in omega arith

    -- What the right sides ask.
    pub arrow_second : length w₁ ≡ length w → ReadyOne ns w₁ t l sp k b d
    arrow_second e =
        let g = (got G j).1 in
        let s = g.spent in
        let z = R.lefts.room in
        let f = R.lefts.fits in
        record {
          names = R.lefts.names;
          first = node_more g.table g.more R.rights.first;
          second = node_more g.table g.more R.rights.second;
          room = omega arith;
          sub = g.sub;
          sorted = g.sorted;
          fits = omega arith;
        }

    -- The right sides after the left ones.
    pub arrow_go : {w₂ : List ℕ} {v : Applied} → GivesU 1 (2 * k) ns w₁ w₂ t l sp (unify_one (λ x y. unify_in depth x y) (sub_at ns w₁ (sp - 2 * k) k) (tree ns w₁ b) (tree ns w₁ d) l) v
        → GivesU 0 0 ns w w₂ top left sp (unify_arrow (λ x y. unify_in depth x y) (tree ns w a) (tree ns w b) (tree ns w c) (tree ns w d) left) v
    arrow_go H =
        let s = (got G j).1.spent in
        let m = (got G j).1.down in
        on G.stands (got G j).1.more
        (rw (kept_tree ns G.stands.low R.rights.first, kept_tree ns G.stands.low R.rights.second) (arrow_one _ _ _ _ _ _ _ _ (got G j).0))
        (omega arith) (omega arith) H
