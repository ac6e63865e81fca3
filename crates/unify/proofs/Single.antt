-- Laws of one pair of types after a substitution, and of two substitutions joined.
use Prim.Native.Nat.{ℕ, ◌+◌, ◌*◌, ◌-◌, ◌<◌, ◌≤◌}
use native.Mathlib.Omega.{arith}
use mathlib.Core.Path.{◌≡◌}
use mathlib.Core.List.{List}
use lib.ListN.{length}
use Rattle.meaning.specs.Budget.{Out, done, after}
use Rattle.meaning.specs.Subst.{compose}
use Rattle.meaning.specs.Unify.{unify_in}
use Rattle.ast.specs.Table.{tree}
use Rattle.errors.specs.Refusals.{Refuses}
use Rattle.errors.specs.declared.Refusal.{Refusal}
use Rattle.pairs.specs.Pairs.{sub_at, Stands}
use Rattle.apply.specs.Applied.{Applied}
use Rattle.apply.specs.Applied.{Done, Refused}
use Rattle.compose.specs.Compose.{Both, AnswerSub, GivesSub}
use Rattle.compose.specs.Answers.{AnswerU, GivesU, ReadyU, ReadyOne, ReadyJoin}
use Rattle.unify.specs.Unify.{apply_two, unify_one, GrownTwo, GivesTwo}
use Rattle.unify.specs.Two.{Two}
use Rattle.unify.specs.Two.{Done as Two-Done, Refused as Two-Refused}
use Rattle.pairs.proofs.Frames.{stands_then, stands_up, sub-later, sub_stands}
use Rattle.unify.proofs.Hand.{refuses_on, on, because}
use Rattle.compose.proofs.Hand.{got, lost}

-- The regions as `compose_in` asks for them.
pub join_both : {ns w : List ℕ} {top left hi k₂ k : ℕ} → ReadyJoin ns w top left hi k₂ k → Both ns w top left (hi - 2 * k - 2 * k₂) k₂ k
join_both {hi = hi} {k₂ = k₂} {k = k} R =
    let r = R.room in
    let e : hi - 2 * k - 2 * k₂ + 2 * k₂ ≡ hi - 2 * k = omega arith in
    record { names = R.names; table = R.table; room = omega arith; self = R.self; other = rw e R.other; self_sorted = R.self_sorted; other_sorted = rw e R.other_sorted }

-- An answer of `compose_in`, with what went into it counted as words that were used.
answer_join : (ns w : List ℕ) (top left hi k₂ k : ℕ) (o : Out _) (r : Applied) → AnswerSub (4 * top + 8 * left + 2 * k₂ + 2 * k) ns w top left hi o r → AnswerU 0 (2 * k₂ + 2 * k) ns w top left hi o r
answer_join ns w top left hi k₂ k o (Done c t l) a =
    let s = a.1.spent in
    let d = a.1.down in
    (a.0, record { table = a.1.table; sub = a.1.sub; sorted = a.1.sorted; more = a.1.more; spent = omega arith; down = omega arith })
answer_join ns w top left hi k₂ k o (Refused e t l) a = a

-- The same, where the regions end at hi.
pub joins : {ns w w₁ : List ℕ} {top left hi k₂ k : ℕ} {r : Applied} → ReadyJoin ns w top left hi k₂ k
    → GivesSub (4 * top + 8 * left + 2 * k₂ + 2 * k) ns w w₁ top left (hi - 2 * k - 2 * k₂ + 2 * k₂ + 2 * k)
    (compose (sub_at ns w (hi - 2 * k - 2 * k₂) k₂) (sub_at ns w (hi - 2 * k - 2 * k₂ + 2 * k₂) k) left) r
    → GivesU 0 (2 * k₂ + 2 * k) ns w w₁ top left hi (compose (sub_at ns w (hi - 2 * k - 2 * k₂) k₂) (sub_at ns w (hi - 2 * k) k) left) r
joins {ns} {w} {w₁} {top} {left} {hi} {k₂} {k} {r} R G =
    let z = R.room in
    let e : hi - 2 * k - 2 * k₂ + 2 * k₂ ≡ hi - 2 * k = omega arith in
    let f : hi - 2 * k + 2 * k ≡ hi = omega arith in
    let H : GivesSub (4 * top + 8 * left + 2 * k₂ + 2 * k) ns w w₁ top left hi (compose (sub_at ns w (hi - 2 * k - 2 * k₂) k₂) (sub_at ns w (hi - 2 * k) k) left) r = rw (e, f) at G in
    record { stands = H.stands; answer = answer_join ns w₁ top left hi k₂ k _ r H.answer }

module _ {ns w w₁ : List ℕ} {top left hi k x y : ℕ} (R : ReadyOne ns w top left hi k x y) (depth : ℕ) {p : Two}
    (P : GivesTwo ns w w₁ top left (apply_two (sub_at ns w (hi - 2 * k) k) (tree ns w x) (tree ns w y) left) p) where
  -- Applying the substitution refused.
  pub one_limit : {e : Refusal} {t l : ℕ} → p ≡ Two-Refused e t l
      → GivesU 1 (2 * k) ns w w₁ top left hi (unify_one (λ a b. unify_in depth a b) (sub_at ns w (hi - 2 * k) k) (tree ns w x) (tree ns w y) left) (Refused e t l)
  unfolding unify_one after
  one_limit {e} {t} {l} h =
      let z = R.room in
      let F : Refuses ns w₁ top left (apply_two (sub_at ns w (hi - 2 * k) k) (tree ns w x) (tree ns w y) left) e t l = rw h at P.answer in
      because (stands_up P.stands (omega arith)) (refuses_on F (rw F.is) (omega arith) (omega arith))

  module _ {a b t l : ℕ} (h : p ≡ Two-Done a b t l) where
    -- What applying it gave.
    both_gave : (apply_two (sub_at ns w (hi - 2 * k) k) (tree ns w x) (tree ns w y) left ≡ done (tree ns w₁ a, tree ns w₁ b) l) × GrownTwo w₁ top left t l a b
    both_gave = rw h at P.answer

    -- It took steps.
    pub one_less : l < left
    one_less = let d = both_gave.1.down in omega arith

    -- The table did not shrink.
    pub one_more : top ≤ t
    one_more = both_gave.1.more

    -- What `unify` asks, with the stack from where the pairs begin.
    pub one_unify : length w₁ ≡ length w → ReadyU ns w₁ t l (hi - 2 * k) a b
    one_unify e =
        let g = both_gave.1 in
        let s = g.spent in
        let r = R.room in
        let f = R.fits in
        record { names = R.names; first = g.first; second = g.second; room = omega arith; fits = omega arith }

    module _ {w₂ : List ℕ} {r : Applied} (U : GivesU 1 0 ns w₁ w₂ t l (hi - 2 * k) (unify_in depth (tree ns w₁ a) (tree ns w₁ b) l) r) where
      -- Table and pairs stand over both calls.
      upto : Stands w w₂ top (hi - 2 * k)
      upto = let z = R.room in stands_then (stands_up P.stands (omega arith)) U.stands both_gave.1.more

      -- `unify` refused.
      pub one_fails : {e : Refusal} {t₂ l₂ : ℕ} → r ≡ Refused e t₂ l₂
          → GivesU 1 (2 * k) ns w w₂ top left hi (unify_one (λ a b. unify_in depth a b) (sub_at ns w (hi - 2 * k) k) (tree ns w x) (tree ns w y) left) (Refused e t₂ l₂)
      unfolding unify_one after
      one_fails i = let d = both_gave.1.down in because (stands_up upto (omega arith)) (refuses_on (lost U i) (rw (both_gave.0, (lost U i).is)) both_gave.1.more (omega arith))

      module _ {k₂ t₂ l₂ : ℕ} (i : r ≡ Done k₂ t₂ l₂) where
        -- The table did not shrink.
        pub one_more_2 : top ≤ t₂
        one_more_2 = let m = both_gave.1.more in let n = (got U i).1.more in omega arith

        -- What `join` asks.
        pub one_join : length w₁ ≡ length w → length w₂ ≡ length w₁ → ReadyJoin ns w₂ t₂ l₂ hi k₂ k
        one_join e f =
            let g = (got U i).1 in
            let s = g.spent in
            let u = both_gave.1.spent in
            let z = R.room in
            record {
              names = R.names;
              table = g.table;
              room = omega arith;
              self = g.sub;
              other = sub-later upto R.sub (omega arith) one_more_2 (omega arith);
              self_sorted = g.sorted;
              other_sorted = rw (sub_stands ns R.first.table upto R.sub (omega arith)) R.sorted;
            }

        -- Both joined.
        pub one_done : {w₃ : List ℕ} {q : Applied}
            → GivesU 0 (2 * k₂ + 2 * k) ns w₂ w₃ t₂ l₂ hi (compose (sub_at ns w₂ (hi - 2 * k - 2 * k₂) k₂) (sub_at ns w₂ (hi - 2 * k) k) l₂) q
            → GivesU 1 (2 * k) ns w w₃ top left hi (unify_one (λ a b. unify_in depth a b) (sub_at ns w (hi - 2 * k) k) (tree ns w x) (tree ns w y) left) q
        unfolding unify_one after
        one_done J =
            let g = (got U i).1 in
            let s = g.spent in
            let d = g.down in
            let u = both_gave.1.spent in
            let v = both_gave.1.down in
            on (stands_up upto (omega arith)) one_more_2
            (rw (both_gave.0, (got U i).0, sub_stands ns R.first.table upto R.sub (omega arith))) (omega arith) (omega arith) J
