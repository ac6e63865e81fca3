-- Rows that are written and compared.
use mathlib.Core.Path.{◌≡◌, refl, sym, ap, ◌∙◌}
use mathlib.Core.Bool.{Bool, true, false, ◌&&◌}
use mathlib.Core.List.{List}
use Prim.Native.Nat.{ℕ, ◌+◌, ◌*◌, ◌<◌, ◌≤◌}
use native.Mathlib.Decide.{ℕ_discrete}
use native.Mathlib.Omega.{arith}
use lib.ListN.{length, get_or, set, length-set}
use lib.Seq.{get_or-set_same, get_or-set_other}
use lib.Dec as code
use borrow.Author.Tests.{eq-eqb, ne_eqb}
use Rattle.meaning.specs.Base.{eqb}
use Rattle.names.specs.declared.Key.{Key}
use Rattle.names.specs.Names.{row}
use Rattle.names.specs.Keys.{four, bytes_of, key_number}
use Rattle.names.proofs.Words.{four_places}
use Rattle.names.proofs.Digits.{alone}
use Rattle.names.proofs.Order.{Fit, SameWords, unequal, d_tells}
use Rattle.rows.specs.Rows.{row_set, RowIs, Words}

-- ## a row that is written
module _ (ns : List ℕ) (r : ℕ) (k : Key) where
  -- The words after one, two and three of the stores.
  abbrev one : List ℕ
  one = set ns (4 * r) k.a

  abbrev two : List ℕ
  two = set one (4 * r + 1) k.b

  abbrev three : List ℕ
  three = set two (4 * r + 2) k.c

  -- A word outside of the row.
  outside : (i : ℕ) → (i ≡ 4 * r → ⊥) → (i ≡ 4 * r + 1 → ⊥) → (i ≡ 4 * r + 2 → ⊥) → (i ≡ 4 * r + 3 → ⊥) → get_or (row_set ns r k) i 0 ≡ get_or ns i 0
  unfolding row_set
  outside i p q s t = get_or-set_other three (4 * r + 3) i k.d 0 t ∙ get_or-set_other two (4 * r + 2) i k.c 0 s ∙ get_or-set_other one (4 * r + 1) i k.b 0 q ∙ get_or-set_other ns (4 * r) i k.a 0 p

  -- Its words.
  word_a : 4 * r + 4 ≤ length ns → get_or (row_set ns r k) (4 * r) 0 ≡ k.a
  unfolding row_set
  word_a h = get_or-set_other three (4 * r + 3) (4 * r) k.d 0 (omega arith) ∙ get_or-set_other two (4 * r + 2) (4 * r) k.c 0 (omega arith)
      ∙ get_or-set_other one (4 * r + 1) (4 * r) k.b 0 (omega arith) ∙ get_or-set_same ns (4 * r) k.a 0 (omega arith)

  word_b : 4 * r + 4 ≤ length ns → get_or (row_set ns r k) (4 * r + 1) 0 ≡ k.b
  unfolding row_set
  word_b h = get_or-set_other three (4 * r + 3) (4 * r + 1) k.d 0 (omega arith) ∙ get_or-set_other two (4 * r + 2) (4 * r + 1) k.c 0 (omega arith)
      ∙ get_or-set_same one (4 * r + 1) k.b 0 (simp length-set (omega arith))

  word_c : 4 * r + 4 ≤ length ns → get_or (row_set ns r k) (4 * r + 2) 0 ≡ k.c
  unfolding row_set
  word_c h = get_or-set_other three (4 * r + 3) (4 * r + 2) k.d 0 (omega arith) ∙ get_or-set_same two (4 * r + 2) k.c 0 (simp length-set (omega arith))

  word_d : 4 * r + 4 ≤ length ns → get_or (row_set ns r k) (4 * r + 3) 0 ≡ k.d
  unfolding row_set
  word_d h = get_or-set_same three (4 * r + 3) k.d 0 (simp length-set (omega arith))

-- The words as a row.
pub four_row : (ns : List ℕ) (r : ℕ) (a b c d : ℕ) → get_or ns (4 * r) 0 ≡ a → get_or ns (4 * r + 1) 0 ≡ b → get_or ns (4 * r + 2) 0 ≡ c → get_or ns (4 * r + 3) 0 ≡ d → row ns r ≡ four a b c d
unfolding row
four_row ns r a b c d p q s t = rw (p, q, s, t) (four_places a b c d)

pub row_same : (ns : List ℕ) (r : ℕ) (k : Key) → 4 * r + 4 ≤ length ns → row (row_set ns r k) r ≡ bytes_of k
unfolding bytes_of
row_same ns r k h = four_row (row_set ns r k) r k.a k.b k.c k.d (word_a ns r k h) (word_b ns r k h) (word_c ns r k h) (word_d ns r k h)

-- Another row.
pub row_other : (ns : List ℕ) (r s : ℕ) (k : Key) → (s ≡ r → ⊥) → row (row_set ns r k) s ≡ row ns s
unfolding row
row_other ns r s k n = rw (at (4 * s) 0 (omega arith) (omega arith), at (4 * s + 1) 1 refl (omega arith), at (4 * s + 2) 2 refl (omega arith), at (4 * s + 3) 3 refl (omega arith)) refl
  where
    at : (i j : ℕ) → i ≡ 4 * s + j → j < 4 → get_or (row_set ns r k) i 0 ≡ get_or ns i 0
    at i j e h = outside ns r k i (λ f. n (omega arith)) (λ f. n (omega arith)) (λ f. n (omega arith)) (λ f. n (omega arith))

pub row_length : (ns : List ℕ) (r : ℕ) (k : Key) → length (row_set ns r k) ≡ length ns
unfolding row_set
row_length ns r k = simp length-set

-- ## a row that is read
-- A row as a key.
abbrev pub row_key : List ℕ → ℕ → Key
row_key ns r = record { over = 0; a = get_or ns (4 * r) 0; b = get_or ns (4 * r + 1) 0; c = get_or ns (4 * r + 2) 0; d = get_or ns (4 * r + 3) 0 }

key_row : (ns : List ℕ) (r : ℕ) → bytes_of (row_key ns r) ≡ row ns r
unfolding bytes_of
key_row ns r = sym (four_row ns r (get_or ns (4 * r) 0) (get_or ns (4 * r + 1) 0) (get_or ns (4 * r + 2) 0) (get_or ns (4 * r + 3) 0) refl refl refl refl)

pub row_read : (ns : List ℕ) (r : ℕ) → RowIs ns r (row_key ns r)
row_read ns r = record { bytes = key_row ns r }

-- ## a row that is compared
-- A key by its 32 bytes alone.
abbrev pub bare : Key → Key
bare k = record { over = 0; a = k.a; b = k.b; c = k.c; d = k.d }

bare_bytes : (k : Key) → key_number (bare k) ≡ bytes_of k
unfolding bytes_of
bare_bytes k = alone (bare k) refl

row_fits : (ns : List ℕ) (r : ℕ) → Words ns → Fit (row_key ns r)
row_fits ns r w = record { a_fits = w.below (4 * r); b_fits = w.below (4 * r + 1); c_fits = w.below (4 * r + 2); d_fits = w.below (4 * r + 3) }

bare_fits : (k : Key) → Fit k → Fit (bare k)
bare_fits k f = record { a_fits = f.a_fits; b_fits = f.b_fits; c_fits = f.c_fits; d_fits = f.d_fits }

numbers_same : (k : Key) (ns : List ℕ) (r : ℕ) → eqb (key_number (bare k)) (key_number (row_key ns r)) ≡ eqb (bytes_of k) (row ns r)
numbers_same k ns r = ap (λ (m : ℕ). eqb m (key_number (row_key ns r))) (bare_bytes k) ∙ ap (λ (m : ℕ). eqb (bytes_of k) m) (alone (row_key ns r) refl ∙ key_row ns r)

-- The words are compared in turn.
pub words_tell : (k : Key) (ns : List ℕ) (r : ℕ) → Fit k → Words ns
    → (((code.eqb k.a (get_or ns (4 * r) 0) && code.eqb k.b (get_or ns (4 * r + 1) 0)) && code.eqb k.c (get_or ns (4 * r + 2) 0)) && code.eqb k.d (get_or ns (4 * r + 3) 0))
    ≡ eqb (bytes_of k) (row ns r)
words_tell k ns r f w = go (ℕ_discrete k.a (get_or ns (4 * r) 0)) (ℕ_discrete k.b (get_or ns (4 * r + 1) 0)) (ℕ_discrete k.c (get_or ns (4 * r + 2) 0))
  where
    differs : (SameWords (bare k) (row_key ns r) → ⊥) → false ≡ eqb (bytes_of k) (row ns r)
    differs n = unequal (bare k) (row_key ns r) (bare_fits k f) (row_fits ns r w) n ∙ numbers_same k ns r

    go : Dec (k.a ≡ get_or ns (4 * r) 0) → Dec (k.b ≡ get_or ns (4 * r + 1) 0) → Dec (k.c ≡ get_or ns (4 * r + 2) 0)
        → (((code.eqb k.a (get_or ns (4 * r) 0) && code.eqb k.b (get_or ns (4 * r + 1) 0)) && code.eqb k.c (get_or ns (4 * r + 2) 0)) && code.eqb k.d (get_or ns (4 * r + 3) 0))
        ≡ eqb (bytes_of k) (row ns r)
    go (no n) d e = rw (ne_eqb _ _ n) (differs (λ s. n s.a_same))
    go (yes p) (no n) e = rw (eq-eqb _ _ p, ne_eqb _ _ n) (differs (λ s. n s.b_same))
    go (yes p) (yes q) (no n) = rw (eq-eqb _ _ p, eq-eqb _ _ q, ne_eqb _ _ n) (differs (λ s. n s.c_same))
    go (yes p) (yes q) (yes s) = rw (eq-eqb _ _ p, eq-eqb _ _ q, eq-eqb _ _ s) (d_tells (bare k) (row_key ns r) (bare_fits k f) (row_fits ns r w) refl p q s ∙ numbers_same k ns r)

-- A test and another, which is made where the first one holds.
pub both_of : {a r v : Bool} (b : Bool) → r ≡ a → r ≡ true → v ≡ b → v ≡ (a && b)
both_of b e h i = rw (← e, h) i

pub first_fails : {a r v : Bool} (b : Bool) → r ≡ a → r ≡ false → v ≡ r → v ≡ (a && b)
first_fails b e h i = rw (← e, h) (i ∙ h)
