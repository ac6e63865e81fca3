-- Rows that are written: what row i then says, and that all other words stand; and rows that change places.
use mathlib.Core.Path.{◌≡◌, refl, sym, ◌∙◌}
use mathlib.Core.List.{List}
use Prim.Native.Nat.{ℕ, suc, ◌+◌, ◌*◌, ◌-◌, ◌<◌, ◌≤◌}
use native.Mathlib.Omega.{arith}
use native.Mathlib.Decide.{ℕ_discrete}
use native.Mathlib.Numerals.{add-one}
use lib.ListN.{length, get_or, set, length-set}
use lib.Seq.{get_or-set_same, get_or-set_other}
use Rattle.supers.specs.Rows.{row_of, row_at}
use Rattle.reduce.proofs.Marks.{row_same}
use Rattle.pending.specs.Rows.{put_row, Swapped, Rotated}

-- bs' is bs with the words d, c and x as row i.
module _ {bs' : List ℕ} (bs : List ℕ) (i d c x : ℕ) (is : bs' ≡ put_row bs i d c x) where
  -- Words of other rows stand.
  put_other : (j : ℕ) → (j ≡ 3 * i → ⊥) → (j ≡ 3 * i + 1 → ⊥) → (j ≡ 3 * i + 2 → ⊥) → get_or bs' j 0 ≡ get_or bs j 0
  unfolding put_row
  put_other j p q r =
      rw is (get_or-set_other (set (set bs (3 * i) d) (3 * i + 1) c) (3 * i + 2) j x 0 r ∙ get_or-set_other (set bs (3 * i) d) (3 * i + 1) j c 0 q ∙ get_or-set_other bs (3 * i) j d 0 p)

  pub put_before : (j : ℕ) → j < 3 * i → get_or bs' j 0 ≡ get_or bs j 0
  put_before j h = put_other j (λ e. omega arith) (λ e. omega arith) (λ e. omega arith)

  pub put_behind : (j : ℕ) → 3 * i + 3 ≤ j → get_or bs' j 0 ≡ get_or bs j 0
  put_behind j h = put_other j (λ e. omega arith) (λ e. omega arith) (λ e. omega arith)

  -- As many as before.
  pub put_long : length bs' ≡ length bs
  unfolding put_row
  put_long = rw is (length-set (set (set bs (3 * i) d) (3 * i + 1) c) (3 * i + 2) x ∙ length-set (set bs (3 * i) d) (3 * i + 1) c ∙ length-set bs (3 * i) d)

  module _ (fits : 3 * i + 3 ≤ length bs) where
    first_word : get_or bs' (3 * i) 0 ≡ d
    unfolding put_row
    first_word =
        rw is (get_or-set_other (set (set bs (3 * i) d) (3 * i + 1) c) (3 * i + 2) (3 * i) x 0 (omega arith) ∙ get_or-set_other (set bs (3 * i) d) (3 * i + 1) (3 * i) c 0 (omega arith) ∙ get_or-set_same bs (3 * i) d 0 (omega arith))

    second_word : get_or bs' (3 * i + 1) 0 ≡ c
    unfolding put_row
    second_word =
        rw is (get_or-set_other (set (set bs (3 * i) d) (3 * i + 1) c) (3 * i + 2) (3 * i + 1) x 0 (omega arith) ∙ get_or-set_same (set bs (3 * i) d) (3 * i + 1) c 0 (simp length-set (omega arith)))

    third_word : get_or bs' (3 * i + 2) 0 ≡ x
    unfolding put_row
    third_word = rw is (get_or-set_same (set (set bs (3 * i) d) (3 * i + 1) c) (3 * i + 2) x 0 (simp length-set (omega arith)))

    -- The row says what its words say.
    pub put_here : row_at bs' i ≡ row_of d c x
    unfolding row_at
    put_here = rw (first_word, second_word, third_word)

-- The next row by the words after row k.
next_row : (bs : List ℕ) (k : ℕ) → row_at bs (suc k) ≡ row_of (get_or bs (3 * k + 3) 0) (get_or bs (3 * k + 4) 0) (get_or bs (3 * k + 5) 0)
unfolding row_at
next_row bs k =
    let a : 3 * suc k ≡ 3 * k + 3 = omega arith in
    let b : 3 * suc k + 1 ≡ 3 * k + 4 = omega arith in
    let c : 3 * suc k + 2 ≡ 3 * k + 5 = omega arith in
    rw (b, c, a)

this_row : (bs : List ℕ) (k : ℕ) → row_at bs k ≡ row_of (get_or bs (3 * k) 0) (get_or bs (3 * k + 1) 0) (get_or bs (3 * k + 2) 0)
unfolding row_at
this_row bs k = refl

-- Row k is written with the words after it, and the row after it with those of row k.
pub swapped : {bs₁ bs₂ : List ℕ} (bs : List ℕ) (k : ℕ) → bs₁ ≡ put_row bs k (get_or bs (3 * k + 3) 0) (get_or bs (3 * k + 4) 0) (get_or bs (3 * k + 5) 0)
    → bs₂ ≡ put_row bs₁ (k + 1) (get_or bs (3 * k) 0) (get_or bs (3 * k + 1) 0) (get_or bs (3 * k + 2) 0) → 3 * k + 6 ≤ length bs → Swapped bs bs₂ k
swapped {bs₁} {bs₂} bs k e f h =
    let l = put_long bs k _ _ _ e in
    let g = rw (add-one k) at f in
    record {
      first = row_same bs₁ bs₂ k (λ i p q. put_before bs₁ (suc k) _ _ _ g i (omega arith)) ∙ put_here bs k _ _ _ e (omega arith) ∙ sym (next_row bs k);
      second = put_here bs₁ (suc k) _ _ _ g (omega arith) ∙ sym (this_row bs k);
      before = λ i p. put_before bs₁ (suc k) _ _ _ g i (omega arith) ∙ put_before bs k _ _ _ e i p;
      behind = λ i p. put_behind bs₁ (suc k) _ _ _ g i (omega arith) ∙ put_behind bs k _ _ _ e i (omega arith);
    }

-- ## The loop of `rotate`: row i of bs₀ has come down to number k

pub record Rotating (bs₀ bs : List ℕ) (a i k : ℕ) : Type 0 where
  pub reached : a ≤ k
  pub under : k ≤ i
  pub wide : length bs ≡ length bs₀
  pub moved : row_at bs k ≡ row_at bs₀ i
  pub up : (j : ℕ) → k ≤ j → j < i → row_at bs (suc j) ≡ row_at bs₀ j
  pub before : (j : ℕ) → j < 3 * k → get_or bs j 0 ≡ get_or bs₀ j 0
  pub behind : (j : ℕ) → 3 * i + 3 ≤ j → get_or bs j 0 ≡ get_or bs₀ j 0

-- At first it is where it was.
pub rotating : (bs : List ℕ) (a i : ℕ) → a ≤ i → Rotating bs bs a i i
rotating bs a i h = record { reached = h; under = omega arith; wide = refl; moved = refl; up = λ j p q. absurd (omega arith); before = λ j p. refl; behind = λ j p. refl }

module _ {bs₀ bs : List ℕ} {a i k : ℕ} (R : Rotating bs₀ bs a i k) where
  -- It has come to number a.
  pub rotated : k ≤ a → Rotated bs₀ bs a i
  rotated h =
      let r = R.reached in
      let e : k ≡ a = omega arith in
      record { moved = rw e at R.moved; up = λ j p q. R.up j (omega arith) q; before = λ j p. R.before j (omega arith); behind = R.behind }

  -- One number down.
  pub rotate_on : {bs₁ : List ℕ} → a < k → Swapped bs bs₁ (k - 1) → length bs₁ ≡ length bs → Rotating bs₀ bs₁ a i (k - 1)
  rotate_on {bs₁} h S l =
      let u = R.under in
      let e : suc (k - 1) ≡ k = omega arith in
      record {
        reached = omega arith;
        under = omega arith;
        wide = l ∙ R.wide;
        moved = S.first ∙ rw e R.moved;
        up = λ j p q. go j p q (ℕ_discrete j (k - 1));
        before = λ j p. S.before j p ∙ R.before j (omega arith);
        behind = λ j p. S.behind j (omega arith) ∙ R.behind j p;
      }
    where
      go : (j : ℕ) → k - 1 ≤ j → j < i → Dec (j ≡ k - 1) → row_at bs₁ (suc j) ≡ row_at bs₀ j
      go j p q (yes e) = rw e (S.second ∙ row_same bs₀ bs (k - 1) (λ m x y. R.before m (omega arith)))
      go j p q (no n) = row_same bs bs₁ (suc j) (λ m x y. S.behind m (omega arith)) ∙ R.up j (omega arith) q
