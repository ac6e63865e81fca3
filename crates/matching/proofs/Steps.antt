-- The ways out of `match_one`, `match_zip`, `match_cons` and `match_arrow`.
use Prim.Native.Nat.{ℕ, ◌+◌, ◌*◌, ◌-◌, ◌≤◌}
use native.Mathlib.Omega.{arith}
use mathlib.Core.Path.{◌≡◌, refl, sym, ◌∙◌}
use mathlib.Core.List.{List}
use lib.ListN.{length}
use Rattle.meaning.specs.Ast.{Ty, Tys, nil, ◌◂◌}
use Rattle.meaning.specs.Budget.{Out, done, Steps, after}
use Rattle.meaning.specs.Subst.{Subst, merge}
use Rattle.meaning.specs.Unify.{match_zip, match_in}
use Rattle.ast.specs.Table.{tree, list, cell_of}
use Rattle.ast.specs.declared.Cell.{Cell}
use Rattle.ast.specs.declared.Cell.TheVariants.{Nil, Cons}
use Rattle.ast.proofs.Laws.{kept_list, node_more, list_nil, list_cons, cons_head, cons_tail}
use Rattle.errors.specs.declared.Refusal.{Refusal}
use Rattle.pairs.specs.Pairs.{sub_at}
use Rattle.apply.specs.Applied.{Applied}
use Rattle.apply.specs.Applied.{Done, Refused}
use Rattle.compose.specs.Compose.{Both, AnswerSub, GivesSub}
use Rattle.compose.specs.Answers.{AnswerU, GivesU, ReadyU, ReadyOne}
use Rattle.matching.specs.Match.{match_one}
use Rattle.pairs.proofs.Frames.{stands_up, sub_stands, sub-later}
use Rattle.compose.proofs.Hand.{after-after, on, because, got, lost, stays}

-- ## One pair of types

-- A merged region as an answer of matching.
sub-answer : (ns w : List ℕ) (top left hi k₂ k : ℕ) (o : Out Subst) (r : Applied) → AnswerSub (4 * top + 8 * left + 2 * k₂ + 2 * k) ns w top left hi o r → AnswerU 0 (2 * k₂ + 2 * k) ns w top left hi o r
sub-answer ns w top left hi k₂ k o (Done m t l) a =
    let s = a.1.spent in
    let d = a.1.down in
    (a.0, record { table = a.1.table; sub = a.1.sub; sorted = a.1.sorted; more = a.1.more; spent = omega arith; down = omega arith })
sub-answer ns w top left hi k₂ k o (Refused e t l) a = a

-- The same of all that a merge gives.
from_sub : {ns w w' : List ℕ} {top left hi : ℕ} {o : Out Subst} {r : Applied} (k₂ k : ℕ) → GivesSub (4 * top + 8 * left + 2 * k₂ + 2 * k) ns w w' top left hi o r → GivesU 0 (2 * k₂ + 2 * k) ns w w' top left hi o r
from_sub {ns} {w} {w'} {top} {left} {hi} {o} {r} k₂ k G = record { stands = G.stands; answer = sub-answer ns w' top left hi k₂ k o r G.answer }

module _ {ns w : List ℕ} {top left hi k x y : ℕ} (R : ReadyOne ns w top left hi k x y) where
  -- What `match_ty` asks.
  pub one_ready : ReadyU ns w top left (hi - 2 * k) x y
  one_ready = let r = R.room in let f = R.fits in record { names = R.names; first = R.first; second = R.second; room = omega arith; fits = omega arith }

  module _ {w₁ : List ℕ} {r : Applied} (depth : ℕ) (G : GivesU 1 0 ns w w₁ top left (hi - 2 * k) (match_in depth (tree ns w x) (tree ns w y) left) r) where
    -- Its refusal is handed on.
    pub one_fails : {e : Refusal} {t l : ℕ} → r ≡ Refused e t l
        → GivesU 1 (2 * k) ns w w₁ top left hi (match_one (λ a b. match_in depth a b) (sub_at ns w (hi - 2 * k) k) (tree ns w x) (tree ns w y) left) (Refused e t l)
    unfolding match_one after
    one_fails h = because (stands_up G.stands (omega arith)) (omega arith) (omega arith) (rw (lost G h).is) (lost G h)

    module _ {k₂ t l : ℕ} (h : r ≡ Done k₂ t l) where
      -- The older pairs say what they said.
      older : sub_at ns w₁ (hi - 2 * k) k ≡ sub_at ns w (hi - 2 * k) k
      older = sub_stands ns R.first.table G.stands R.sub (omega arith)

      -- The older pairs begin where the new ones end.
      pub one_meet : hi - 2 * k - 2 * k₂ + 2 * k₂ ≡ hi - 2 * k
      one_meet = let r = R.room in let s = (got G h).1.spent in let m = (got G h).1.more in omega arith

      -- There is room for the new pairs below them.
      pub one_under : 2 * k₂ ≤ hi - 2 * k
      one_under = let r = R.room in let s = (got G h).1.spent in omega arith

      -- What `merge_pairs` asks.
      pub one_both : length w₁ ≡ length w → Both ns w₁ t l (hi - 2 * k - 2 * k₂) k₂ k
      one_both e =
          let g = (got G h).1 in
          let s = g.spent in
          let r = R.room in
          record {
            names = R.names;
            table = g.table;
            room = omega arith;
            self = g.sub;
            other = rw one_meet (sub-later G.stands R.sub (omega arith) g.more (omega arith));
            self_sorted = g.sorted;
            other_sorted = rw (one_meet, older) R.sorted;
          }

      -- The table is no smaller.
      pub one_more : top ≤ t
      one_more = (got G h).1.more

      -- What it gives.
      pub one_done : {w₂ : List ℕ} {q : Applied} → GivesSub (4 * t + 8 * l + 2 * k₂ + 2 * k) ns w₁ w₂ t l (hi - 2 * k - 2 * k₂ + 2 * k₂ + 2 * k)
          (merge (sub_at ns w₁ (hi - 2 * k - 2 * k₂ + 2 * k₂) k) (sub_at ns w₁ (hi - 2 * k - 2 * k₂) k₂) l) q
          → GivesU 1 (2 * k) ns w w₂ top left hi (match_one (λ a b. match_in depth a b) (sub_at ns w (hi - 2 * k) k) (tree ns w x) (tree ns w y) left) q
      unfolding match_one after
      one_done J =
          let g = (got G h).1 in
          let s = g.spent in
          let d = g.down in
          let z = R.room in
          let f : hi - 2 * k + 2 * k ≡ hi = omega arith in
          on (stands_up G.stands (omega arith)) g.more (rw ((got G h).0, ← older)) (omega arith) (omega arith) (omega arith) (from_sub k₂ k (rw (one_meet, f) at J))

-- ## Lists of arguments

-- A zip is a pair of types and then the rest.
zip_cons : (m : Ty → Ty → Steps Subst) (x y : Ty) (xs ys : Tys) (s : Subst) (l : ℕ) → match_zip m (x ◂ xs) (y ◂ ys) s l ≡ after (match_one m s x y l) (λ s₂. match_zip m xs ys s₂)
unfolding match_zip match_one
zip_cons m x y xs ys s l = sym (after-after (m x y l) (λ s₁. merge s s₁) (λ s₂. match_zip m xs ys s₂))

-- No more patterns: the pairs so far.
zip_nil : (m : Ty → Ty → Steps Subst) (ys : Tys) (s : Subst) (l : ℕ) → match_zip m nil ys s l ≡ done s l
unfolding match_zip
zip_nil m nil s l = refl
zip_nil m (y ◂ ys) s l = refl

module _ {ns w : List ℕ} {top left hi k xs ys : ℕ} (R : ReadyOne ns w top left hi k xs ys) (depth : ℕ) {p q : Cell} (ep : p ≡ cell_of w xs) (eq : q ≡ cell_of w ys) where
  -- No more patterns.
  pub zip_end : p ≡ Nil → GivesU 0 (2 * k) ns w w top left hi (match_zip (λ a b. match_in depth a b) (list ns w xs) (list ns w ys) (sub_at ns w (hi - 2 * k) k) left) (Done k top left)
  zip_end h = stays R.first.table R.sub R.sorted (rw (list_nil ns R.first ep h) (zip_nil _ _ _ _))

  -- No more types.
  pub zip_end_2 : {x xs₂ : ℕ} → p ≡ Cons x xs₂ → q ≡ Nil
      → GivesU 0 (2 * k) ns w w top left hi (match_zip (λ a b. match_in depth a b) (list ns w xs) (list ns w ys) (sub_at ns w (hi - 2 * k) k) left) (Done k top left)
  unfolding match_zip
  zip_end_2 h i = stays R.first.table R.sub R.sorted (rw (list_cons ns R.first ep h, list_nil ns R.second eq i))

  module _ {x xs₂ y ys₂ : ℕ} (h : p ≡ Cons x xs₂) (i : q ≡ Cons y ys₂) where
    -- What `match_one` asks of the first two.
    pub zip_one : ReadyOne ns w top left hi k x y
    zip_one = record { names = R.names; first = (cons_head R.first ep h).1; second = (cons_head R.second eq i).1; room = R.room; sub = R.sub; sorted = R.sorted; fits = R.fits }

    -- The zip by its first two.
    opened : match_zip (λ a b. match_in depth a b) (list ns w xs) (list ns w ys) (sub_at ns w (hi - 2 * k) k) left
        ≡ after (match_one (λ a b. match_in depth a b) (sub_at ns w (hi - 2 * k) k) (tree ns w x) (tree ns w y) left) (λ s₂. match_zip (λ a b. match_in depth a b) (list ns w xs₂) (list ns w ys₂) s₂)
    opened = rw (list_cons ns R.first ep h, list_cons ns R.second eq i) (zip_cons (λ a b. match_in depth a b) _ _ _ _ _ _)

    module _ {w₁ : List ℕ} {r : Applied} (G : GivesU 1 (2 * k) ns w w₁ top left hi (match_one (λ a b. match_in depth a b) (sub_at ns w (hi - 2 * k) k) (tree ns w x) (tree ns w y) left) r) where
      -- A refusal of theirs is handed on.
      pub zip_fails : {e : Refusal} {t l : ℕ} → r ≡ Refused e t l
          → GivesU 0 (2 * k) ns w w₁ top left hi (match_zip (λ a b. match_in depth a b) (list ns w xs) (list ns w ys) (sub_at ns w (hi - 2 * k) k) left) (Refused e t l)
      unfolding after
      zip_fails j = because G.stands (omega arith) (omega arith) (opened ∙ rw (lost G j).is) (lost G j)

      module _ {k₂ t l : ℕ} (j : r ≡ Done k₂ t l) where
        -- What `match_zip` asks of the rest.
        pub zip_ready : length w₁ ≡ length w → ReadyOne ns w₁ t l hi k₂ xs₂ ys₂
        zip_ready e =
            let g = (got G j).1 in
            let s = g.spent in
            let z = R.room in
            let f = R.fits in
            record {
              names = R.names;
              first = node_more g.table g.more (cons_tail R.first ep h).1;
              second = node_more g.table g.more (cons_tail R.second eq i).1;
              room = omega arith;
              sub = g.sub;
              sorted = g.sorted;
              fits = omega arith;
            }

        -- What it gives.
        pub zip_goes : {w₂ : List ℕ} {v : Applied} → GivesU 0 (2 * k₂) ns w₁ w₂ t l hi (match_zip (λ a b. match_in depth a b) (list ns w₁ xs₂) (list ns w₁ ys₂) (sub_at ns w₁ (hi - 2 * k₂) k₂) l) v
            → GivesU 0 (2 * k) ns w w₂ top left hi (match_zip (λ a b. match_in depth a b) (list ns w xs) (list ns w ys) (sub_at ns w (hi - 2 * k) k) left) v
        unfolding after
        zip_goes H =
            let g = (got G j).1 in
            let s = g.spent in
            let d = g.down in
            on G.stands g.more
            (opened ∙ rw ((got G j).0, ← kept_list ns G.stands.low (cons_tail R.first ep h).1, ← kept_list ns G.stands.low (cons_tail R.second eq i).1))
            (omega arith) (omega arith) (omega arith) H
