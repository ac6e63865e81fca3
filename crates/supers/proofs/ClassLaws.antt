-- Laws of the class table: what each way out of `super_at` says, and a class's superclasses one by one.
use mathlib.Core.Path.{◌≡◌, refl, sym}
use mathlib.Core.Bool.{Bool, true, false, not, true≢false, false≢true}
use mathlib.Core.List.{List, [], ◌∷◌}
use Prim.Native.Nat.{ℕ, zero, suc, ◌+◌, ◌*◌, ◌-◌, ◌/◌, ◌<◌, ◌≤◌}
use native.Mathlib.Decide.{dec_lt}
use native.Mathlib.Omega.{arith}
use lib.Dec.{ltb}
use lib.ListN.{length, get_or}
use borrow.Author.Tests.{lt-ltb, le-ltb}
use Rattle.meaning.specs.Base.{if}
use Rattle.supers.specs.ClassTable.{declared_at, super_at, supers_f, supers_from}
use Rattle.std.specs.Prelude.{Option, Some, None}

-- Nothing, whatever a test says.
either : (b : Bool) → ◌≡◌ {A = Option ℕ} (if b None None) None
either true = refl
either false = refl

-- The same of two tests.
either_two : (a b : Bool) → ◌≡◌ {A = Option ℕ} (if a (if b None None) None) None
either_two true b = either b
either_two false b = refl

-- A test that was turned round, as a fact.
pub turned_true : {r b : Bool} → r ≡ b → not r ≡ true → b ≡ false
turned_true {r} {b} e h = go r e h
  where
    go : (x : Bool) → x ≡ b → not x ≡ true → b ≡ false
    go true f k = absurd (false≢true k)
    go false f k = sym f

pub turned_false : {r b : Bool} → r ≡ b → not r ≡ false → b ≡ true
turned_false {r} {b} e h = go r e h
  where
    go : (x : Bool) → x ≡ b → not x ≡ false → b ≡ true
    go true f k = sym f
    go false f k = absurd (true≢false k)

-- The table has not the row.
pub row_not : (cl : List ℕ) (c : ℕ) → length cl / 2 ≤ c → false ≡ declared_at cl c
unfolding declared_at
row_not cl c h = rw (le-ltb (2 * c + 1) (length cl) (omega arith))

-- It has, and the place in it tells.
pub row_tells : (cl : List ℕ) (c : ℕ) → c < length cl / 2 → ltb (2 * c + 1) (get_or cl (2 * c) 0) ≡ declared_at cl c
unfolding declared_at
row_tells cl c h = rw (lt-ltb (2 * c + 1) (length cl) (omega arith))

-- A class that is declared has a row, and a place after it.
pub declared_row : (cl : List ℕ) (c : ℕ) → declared_at cl c ≡ true → (2 * c + 1 < length cl) × (2 * c + 1 < get_or cl (2 * c) 0)
unfolding declared_at
declared_row cl c e = go (dec_lt (2 * c + 1) (length cl)) (dec_lt (2 * c + 1) (get_or cl (2 * c) 0))
  where
    go : Dec (2 * c + 1 < length cl) → Dec (2 * c + 1 < get_or cl (2 * c) 0) → (2 * c + 1 < length cl) × (2 * c + 1 < get_or cl (2 * c) 0)
    go (yes h) (yes k) = (h, k)
    go (yes h) (no k) = absurd (false≢true (rw (← e, le-ltb (2 * c + 1) (get_or cl (2 * c) 0) (omega arith), lt-ltb (2 * c + 1) (length cl) h)))
    go (no h) k = absurd (false≢true (rw (← e, le-ltb (2 * c + 1) (length cl) (omega arith))))

module _ (cl : List ℕ) (c i : ℕ) where
  -- The table has not the class.
  pub none_class : declared_at cl c ≡ false → None ≡ super_at cl c i
  unfolding super_at
  none_class h = rw h

  -- The class has not so many.
  pub none_count : {k : ℕ} → k ≡ get_or cl (2 * c + 1) 0 → k ≤ i → None ≡ super_at cl c i
  unfolding super_at
  none_count e h = sym (rw (le-ltb i (get_or cl (2 * c + 1) 0) (omega arith)) (either (declared_at cl c)))

  -- They would stand out of the table.
  pub none_place : {p : ℕ} → p ≡ get_or cl (2 * c) 0 → length cl ≤ p + i → None ≡ super_at cl c i
  unfolding super_at
  none_place e h = sym (rw (le-ltb (get_or cl (2 * c) 0 + i) (length cl) (omega arith)) (either_two (declared_at cl c) (ltb i (get_or cl (2 * c + 1) 0))))

  -- Here it stands.
  pub one_place : {p k : ℕ} → p ≡ get_or cl (2 * c) 0 → k ≡ get_or cl (2 * c + 1) 0 → declared_at cl c ≡ true → i < k → p + i < length cl → Some (get_or cl (p + i) 0) ≡ super_at cl c i
  unfolding super_at
  one_place e f h g j = rw (h, lt-ltb i (get_or cl (2 * c + 1) 0) (omega arith), ← e, lt-ltb _ (length cl) j)

  -- A class has no more superclasses than the table has words.
  pub at_inside : {s : ℕ} → super_at cl c i ≡ Some s → i < length cl
  at_inside {s} e = go (dec_lt i (length cl))
    where
      go : Dec (i < length cl) → i < length cl
      go (yes h) = h
      go (no h) = let n = none_place refl (omega arith) in let z : ◌≡◌ {A = ℕ} 0 1 = cc in absurd (omega arith)

  -- The i-th and those after it.
  pub supers_next : {s : ℕ} → super_at cl c i ≡ Some s → supers_from cl c i ≡ s ∷ supers_from cl c (suc i)
  unfolding supers_f
  supers_next e =
      let h = at_inside e in
      let z : length cl - i ≡ suc (length cl - suc i) = omega arith in
      rw (z, e)

  -- There are no more.
  pub supers_end : super_at cl c i ≡ None → supers_from cl c i ≡ []
  unfolding supers_f
  supers_end e = go (length cl - i)
    where
      go : (f : ℕ) → supers_f f cl c i ≡ []
      go zero = refl
      go (suc f) = rw e
