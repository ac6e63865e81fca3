-- Laws of a substitution applied to two types.
use Prim.Native.Nat.{ℕ, ◌+◌, ◌*◌, ◌-◌, ◌≤◌}
use native.Mathlib.Omega.{arith}
use mathlib.Core.Path.{◌≡◌}
use mathlib.Core.List.{List}
use lib.ListN.{length}
use Rattle.meaning.specs.Budget.{Out, done, after}
use Rattle.meaning.specs.Subst.{apply_in}
use Rattle.ast.specs.Table.{tree}
use Rattle.ast.proofs.Laws.{kept_tree, node_more}
use Rattle.errors.specs.Refusals.{Refuses}
use Rattle.errors.specs.declared.Refusal.{Refusal}
use Rattle.pairs.specs.Pairs.{sub_at, Stands}
use Rattle.apply.specs.Applied.{Applied}
use Rattle.apply.specs.Applied.{Done, Refused}
use Rattle.apply.specs.Region.{Ready, Grown, Gives}
use Rattle.compose.specs.Answers.{ReadyOne}
use Rattle.unify.specs.Unify.{apply_two, GivesTwo}
use Rattle.unify.specs.Two.{Done as Two-Done, Refused as Two-Refused}
use Rattle.pairs.proofs.Frames.{stands_then, stands_up, sub-later, sub_stands}
use Rattle.unify.proofs.Outcomes.{apply_spends}
use Rattle.unify.proofs.Hand.{refuses_on}

module _ {A : Type 0} {read : ℕ → A} {b : ℕ} {ns w w₁ : List ℕ} {top left : ℕ} {o : Out A} {r : Applied} (G : Gives read b ns w w₁ top left o r) where
  -- What an answer says.
  gave : {t top₁ left₁ : ℕ} → r ≡ Done t top₁ left₁ → (o ≡ done (read t) left₁) × Grown b w₁ top left top₁ left₁ t
  gave h = rw h at G.answer

  -- What a refusal says.
  failed : {e : Refusal} {top₁ left₁ : ℕ} → r ≡ Refused e top₁ left₁ → Refuses ns w₁ top left o e top₁ left₁
  failed h = rw h at G.answer

-- The pairs as they are asked for.
pub two_first : {ns w : List ℕ} {top left hi k x y : ℕ} → ReadyOne ns w top left hi k x y → Ready ns w top left (hi - 2 * k) k x
two_first R = let r = R.room in record { names = R.names; node = R.first; room = omega arith; sub = R.sub }

module _ {ns w w₁ : List ℕ} {top left hi k x y : ℕ} (R : ReadyOne ns w top left hi k x y) {r : Applied}
    (G : Gives (tree ns w₁) (4 * top + 8 * left - 4) ns w w₁ top left (apply_in 256 (sub_at ns w (hi - 2 * k) k) (tree ns w x) left) r) where
  -- The first type refused.
  pub two_fails : {e : Refusal} {t l : ℕ} → r ≡ Refused e t l
      → GivesTwo ns w w₁ top left (apply_two (sub_at ns w (hi - 2 * k) k) (tree ns w x) (tree ns w y) left) (Two-Refused e t l)
  unfolding apply_two after
  two_fails h = record { stands = G.stands; answer = refuses_on (failed G h) (rw (failed G h).is) (omega arith) (omega arith) }

  module _ {m t l : ℕ} (h : r ≡ Done m t l) where
    -- Four words and a step went to the first type.
    first_spent : (4 * t + 8 * l + 4 ≤ 4 * top + 8 * left) × (l + 1 ≤ left)
    first_spent = let g = gave G h in let s = g.1.spent in let o = g.1.more in let p = apply_spends 256 left _ _ g.0 in (omega arith, omega arith)

    -- The table did not shrink.
    pub two_more : top ≤ t
    two_more = (gave G h).1.more

    -- The pairs as they are asked for the second time.
    pub two_ready : length w₁ ≡ length w → Ready ns w₁ t l (hi - 2 * k) k y
    two_ready e =
        let g = gave G h in
        let s = first_spent.0 in
        let z = R.room in
        record { names = R.names; node = node_more g.1.node.table g.1.more R.second; room = omega arith; sub = sub-later G.stands R.sub (omega arith) g.1.more (omega arith) }

    module _ {w₂ : List ℕ} {q : Applied} (H : Gives (tree ns w₂) (4 * t + 8 * l - 4) ns w₁ w₂ t l (apply_in 256 (sub_at ns w₁ (hi - 2 * k) k) (tree ns w₁ y) l) q) where
      -- Table and stack stand over both.
      both_stand : Stands w w₂ top (4 * top + 8 * left)
      both_stand = let s = first_spent.0 in stands_then G.stands (stands_up H.stands (omega arith)) (gave G h).1.more

      -- The second type is applied as it stood at first.
      second : apply_in 256 (sub_at ns w (hi - 2 * k) k) (tree ns w y) l ≡ apply_in 256 (sub_at ns w₁ (hi - 2 * k) k) (tree ns w₁ y) l
      second = let z = R.room in rw (sub_stands ns R.first.table G.stands R.sub (omega arith), kept_tree ns G.stands.low R.second)

      -- The second type refused.
      pub two_fails_2 : {e : Refusal} {t₂ l₂ : ℕ} → q ≡ Refused e t₂ l₂
          → GivesTwo ns w w₂ top left (apply_two (sub_at ns w (hi - 2 * k) k) (tree ns w x) (tree ns w y) left) (Two-Refused e t₂ l₂)
      unfolding apply_two after
      two_fails_2 i = record {
        stands = both_stand;
        answer = refuses_on (failed H i) (rw ((gave G h).0, second, (failed H i).is)) (gave G h).1.more (let d = (gave G h).1.down in omega arith);
      }

      -- Both types.
      pub two_done : {m₂ t₂ l₂ : ℕ} → q ≡ Done m₂ t₂ l₂
          → GivesTwo ns w w₂ top left (apply_two (sub_at ns w (hi - 2 * k) k) (tree ns w x) (tree ns w y) left) (Two-Done m m₂ t₂ l₂)
      unfolding apply_two after
      two_done i =
          let g = gave G h in
          let f = gave H i in
          let a = first_spent in
          let b = f.1.spent in
          let c = g.1.more in
          let d = f.1.more in
          let p = apply_spends 256 l _ _ f.0 in
          record {
            stands = both_stand;
            answer = (
              rw (g.0, second, f.0, kept_tree ns H.stands.low g.1.node),
              record { first = node_more f.1.node.table d g.1.node; second = f.1.node; more = omega arith; spent = omega arith; down = omega arith },
            );
          }
