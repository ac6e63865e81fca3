-- The class table with one more class: which classes are declared in it, and what their superclasses are.
use mathlib.Core.Path.{◌≡◌, refl, sym, ap, ◌∙◌}
use mathlib.Core.Bool.{Bool, true, false, ◌&&◌, false≢true}
use mathlib.Core.List.{List, [], ◌∷◌}
use Prim.Native.Nat.{ℕ, zero, suc, ◌+◌, ◌*◌, ◌-◌, ◌<◌, ◌≤◌}
use native.Mathlib.Decide.{dec_lt, ℕ_discrete}
use native.Mathlib.Omega.{arith}
use lib.Dec.{ltb}
use lib.ListN.{length, get_or}
use borrow.Author.Tests.{lt-ltb, le-ltb}
use Rattle.supers.specs.ClassTable.{declared_at, super_at, supers_f, supers_from, super_words_of}
use Rattle.supers.proofs.ClassLaws.{none_class, none_count, one_place, supers_next, supers_end}
use Rattle.classes.specs.Growing.{ClassTable}
use Rattle.classes.specs.Adding.{PutClass}

-- Nothing holds, whatever a first test says.
pub and_false : (b : Bool) → (b && false) ≡ false
and_false true = refl
and_false false = refl

-- What has no row is not declared.
pub no_row : {cl : List ℕ} {rows used : ℕ} → ClassTable cl rows used → (c : ℕ) → rows ≤ c → declared_at cl c ≡ false
unfolding declared_at
no_row {cl} {rows} T c h =
    let n = T.names (2 * c) (omega arith) in
    rw (le-ltb (2 * c + 1) (get_or cl (2 * c) 0) (omega arith)) (and_false (ltb (2 * c + 1) (length cl)))

-- What is declared has a row.
pub has_row : {cl : List ℕ} {rows used : ℕ} → ClassTable cl rows used → (c : ℕ) → declared_at cl c ≡ true → c < rows
has_row {cl} {rows} T c e = go (dec_lt c rows)
  where
    go : Dec (c < rows) → c < rows
    go (yes h) = h
    go (no h) = absurd (false≢true (sym (no_row T c (omega arith)) ∙ e))

-- ## Superclasses of two tables, and of a list

-- Tables that agree on each superclass of a class agree on all.
pub supers_same : (cl cl' : List ℕ) (c : ℕ) → length cl' ≡ length cl → ((i : ℕ) → super_at cl' c i ≡ super_at cl c i) → super_words_of cl' c ≡ super_words_of cl c
unfolding supers_f
supers_same cl cl' c l h = ap (λ n. supers_f (n - 0) cl' c 0) l ∙ go (length cl - 0) 0
  where
    go : (f i : ℕ) → supers_f f cl' c i ≡ supers_f f cl c i
    go zero i = refl
    go (suc f) i = rw (h i, go f (suc i))

-- A class whose words from the i-th on are those of a list has that list.
supers_list : (cl : List ℕ) (c i : ℕ) (ss : List ℕ) → declared_at cl c ≡ true → get_or cl (2 * c + 1) 0 ≡ i + length ss → get_or cl (2 * c) 0 + get_or cl (2 * c + 1) 0 ≤ length cl
    → ((j : ℕ) → j < length ss → get_or cl (get_or cl (2 * c) 0 + (i + j)) 0 ≡ get_or ss j 0) → supers_from cl c i ≡ ss
supers_list cl c i [] d n r h = supers_end cl c i (sym (none_count cl c i refl (omega arith)))
supers_list cl c i (s ∷ ss) d n r h =
    let e : super_at cl c i ≡ _ = sym (one_place cl c i refl refl d (omega arith) (omega arith)) in
    let z : i + 0 ≡ i = omega arith in
    let f : get_or cl (get_or cl (2 * c) 0 + i) 0 ≡ s = ap (λ q. get_or cl (get_or cl (2 * c) 0 + q) 0) (sym z) ∙ h 0 (omega arith) in
    supers_next cl c i e ∙ rw f (ap (λ q. s ∷ q) (supers_list cl c (suc i) ss d (omega arith) r (λ j k. let y : suc i + j ≡ i + suc j = omega arith in rw y (h (suc j) (omega arith)))))

-- ## One more class

module _ {cl cl' : List ℕ} {rows used c : ℕ} {ss : List ℕ} {used' : ℕ} (T : ClassTable cl rows used) (row : c < rows)
    (K : (i : ℕ) → i < length ss → declared_at cl (get_or ss i 0) ≡ true) (P : PutClass cl cl' used c ss used') where
  -- It is declared.
  pub new_declared : declared_at cl' c ≡ true
  unfolding declared_at
  new_declared =
      let f = T.first in
      let l = P.long in
      let u = T.fits in
      rw (P.place, lt-ltb (2 * c + 1) (length cl') (omega arith), lt-ltb (2 * c + 1) used (omega arith))

  -- The rows of the others are what they were.
  row_same : (d : ℕ) → d < rows → (d ≡ c → ⊥) → declared_at cl' d ≡ declared_at cl d
  unfolding declared_at
  row_same d h n = let f = T.first in rw (P.long, P.low (2 * d) (λ e. n (omega arith)) (λ e. omega arith) (omega arith))

  -- No word after the rows leads out of them.
  names_same : (j : ℕ) → 2 * rows ≤ j → get_or cl' j 0 ≤ rows
  names_same j h = go (dec_lt j used) (dec_lt j used')
    where
      go : Dec (j < used) → Dec (j < used') → get_or cl' j 0 ≤ rows
      go (yes x) y = let n = T.names j h in let e = P.low j (λ z. omega arith) (λ z. omega arith) x in omega arith
      go (no x) (yes y) =
          let f = T.first in
          let u = P.is in
          let z : used + (j - used) ≡ j = omega arith in
          let e = P.list (omega arith) (j - used) (omega arith) in
          let r = has_row T (get_or ss (j - used) 0) (K (j - used) (omega arith)) in
          let g : get_or cl' j 0 ≡ get_or ss (j - used) 0 = ap (λ q. get_or cl' q 0) (sym z) ∙ e in
          omega arith
      go (no x) (no y) = let n = T.names j h in let e = P.high j (λ z. omega arith) (λ z. omega arith) (omega arith) in omega arith

  -- Each stretch begins after the rows.
  after_same : (d : ℕ) → d < rows → declared_at cl' d ≡ true → 2 * rows ≤ get_or cl' (2 * d) 0
  after_same d h e = go (ℕ_discrete d c)
    where
      go : Dec (d ≡ c) → 2 * rows ≤ get_or cl' (2 * d) 0
      go (yes x) = let f = T.first in let p = P.place in rw x (omega arith)
      go (no x) =
          let f = T.first in
          let y = T.after d h (sym (row_same d h x) ∙ e) in
          let z = P.low (2 * d) (λ q. x (omega arith)) (λ q. omega arith) (omega arith) in
          omega arith

  -- It ends before the words that are free.
  before_same : (d : ℕ) → d < rows → declared_at cl' d ≡ true → get_or cl' (2 * d) 0 + get_or cl' (2 * d + 1) 0 ≤ used'
  before_same d h e = go (ℕ_discrete d c)
    where
      go : Dec (d ≡ c) → get_or cl' (2 * d) 0 + get_or cl' (2 * d + 1) 0 ≤ used'
      go (yes x) = let u = P.is in let p = P.place in let n = P.count in rw x (omega arith)
      go (no x) =
          let f = T.first in
          let u = P.is in
          let y = T.before d h (sym (row_same d h x) ∙ e) in
          let z = P.low (2 * d) (λ q. x (omega arith)) (λ q. omega arith) (omega arith) in
          let v = P.low (2 * d + 1) (λ q. omega arith) (λ q. x (omega arith)) (omega arith) in
          omega arith

  -- It is a class table again.
  pub new_table : ClassTable cl' rows used'
  new_table =
      let f = T.first in
      let u = P.is in
      let l = P.long in
      let g = P.fits in
      record { first = omega arith; fits = omega arith; after = after_same; before = before_same; names = names_same }

  -- Whether another class is declared is what it was.
  pub other_declared : (d : ℕ) → (d ≡ c → ⊥) → declared_at cl' d ≡ declared_at cl d
  other_declared d n = go (dec_lt d rows)
    where
      go : Dec (d < rows) → declared_at cl' d ≡ declared_at cl d
      go (yes h) = row_same d h n
      go (no h) = no_row new_table d (omega arith) ∙ sym (no_row T d (omega arith))

  -- A superclass of a class that was declared stands where it stood.
  super_stands : (d i : ℕ) → (d ≡ c → ⊥) → declared_at cl d ≡ true → super_at cl' d i ≡ super_at cl d i
  super_stands d i n e =
      let f = T.first in
      let h = has_row T d e in
      let a = T.after d h e in
      let b = T.before d h e in
      let u = T.fits in
      let l = P.long in
      let p = P.low (2 * d) (λ q. n (omega arith)) (λ q. omega arith) (omega arith) in
      let k = P.low (2 * d + 1) (λ q. omega arith) (λ q. n (omega arith)) (omega arith) in
      go p k f a b u l (dec_lt i (get_or cl (2 * d + 1) 0))
    where
      go : get_or cl' (2 * d) 0 ≡ get_or cl (2 * d) 0 → get_or cl' (2 * d + 1) 0 ≡ get_or cl (2 * d + 1) 0 → 2 * rows ≤ used → 2 * rows ≤ get_or cl (2 * d) 0 → get_or cl (2 * d) 0 + get_or cl (2 * d + 1) 0 ≤ used
          → used ≤ length cl → length cl' ≡ length cl → Dec (i < get_or cl (2 * d + 1) 0) → super_at cl' d i ≡ super_at cl d i
      go p k f a b u l (yes x) =
          sym (one_place cl' d i (sym p) (sym k) (other_declared d n ∙ e) x (omega arith))
          ∙ rw (P.low (get_or cl (2 * d) 0 + i) (λ q. omega arith) (λ q. omega arith) (omega arith)) (one_place cl d i refl refl e x (omega arith))
      go p k f a b u l (no x) = sym (none_count cl' d i (sym k) (omega arith)) ∙ none_count cl d i refl (omega arith)

  -- The superclasses of another class are what they were.
  pub other_supers : (d : ℕ) → (d ≡ c → ⊥) → super_words_of cl' d ≡ super_words_of cl d
  other_supers d n = supers_same cl cl' d P.long (λ i. go i (declared_at cl d) refl)
    where
      go : (i : ℕ) (b : Bool) → declared_at cl d ≡ b → super_at cl' d i ≡ super_at cl d i
      go i true e = super_stands d i n e
      go i false e = sym (none_class cl' d i (other_declared d n ∙ e)) ∙ none_class cl d i e

  -- Its own are those that were written.
  pub new_supers : super_words_of cl' c ≡ ss
  new_supers =
      let f = T.first in
      let u = P.is in
      let g = P.fits in
      let l = P.long in
      let p = P.place in
      let k = P.count in
      supers_list cl' c 0 ss new_declared (omega arith) (omega arith) (λ j h. let z : 0 + j ≡ j = omega arith in rw (p, z) (P.list (omega arith) j h))
