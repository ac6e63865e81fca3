-- A name's spelling is its text: packed bytes are found again, and the zeros after them are dropped.
use mathlib.Core.Path.{◌≡◌, refl, sym, ap, ◌∙◌}
use mathlib.Core.Bool.{Bool, true, false, not}
use mathlib.Core.List.{List, [], ◌∷◌, ◌++◌, append-nil}
use Prim.Native.Nat.{ℕ, zero, suc, ◌+◌, ◌*◌, ◌/◌, ◌%◌, ◌^◌, ◌<◌, ◌≤◌}
use native.Mathlib.Nat.{pow-succ'}
use native.Mathlib.Omega.{arith}
use native.Mathlib.Decide.{ℕ_discrete}
use lib.ListN.{length}
use Rattle.meaning.specs.Base.{if, any}
use Rattle.meaning.specs.Text.{packed, unpacked}
use Rattle.meaning.specs.Ast.{name}
use Rattle.meaning.specs.Reserved.{letter_of_name, all, spelling}
use Rattle.names.proofs.Tests.{eq_yes, eq_no}
use Rattle.names.proofs.Words.{both_below}
use Rattle.spelling.proofs.Alphabet.{Fits, letter_fits}

-- ## every element passes
-- The first one, and the others.
pub all_first : (f : ℕ → Bool) (c : ℕ) (cs : List ℕ) → all f (c ∷ cs) ≡ true → (f c ≡ true) × (all f cs ≡ true)
unfolding all any
all_first f c cs e = go (f c) refl e
  where
    go : (x : Bool) → f c ≡ x → not (if (not x) true (any (λ y. not (f y)) cs)) ≡ true → (f c ≡ true) × (not (any (λ y. not (f y)) cs) ≡ true)
    go true i e = (i, e)
    go false i e = let z : ◌≡◌ {A = ℕ} 0 1 = cc in absurd (omega arith)

-- One that passes before the others.
pub all_on : (f : ℕ → Bool) (c : ℕ) (cs : List ℕ) → f c ≡ true → all f (c ∷ cs) ≡ all f cs
unfolding all any
all_on f c cs e = rw e refl

-- ## unpacking
-- A last byte of zero is dropped.
drops : (f n : ℕ) (ds : List ℕ) → n % 256 ≡ 0 → unpacked (suc f) n ds ≡ unpacked f (n / 256) ds
unfolding unpacked
drops f n ds e = rw (eq_yes (n % 256) 0 e, unpacked)

-- Any other stands before what follows.
keeps : (f n : ℕ) (ds : List ℕ) → (n % 256 ≡ 0 → ⊥) → unpacked (suc f) n ds ≡ unpacked f (n / 256) (n % 256 ∷ ds)
unfolding unpacked
keeps f n ds e = rw (eq_no (n % 256) 0 e, unpacked)

-- Of nothing but zeros nothing is left.
unpack_zero : (k : ℕ) (ds : List ℕ) → unpacked k 0 ds ≡ ds
unfolding unpacked
unpack_zero zero ds = refl
unpack_zero (suc k) ds = drops k 0 ds refl ∙ unpack_zero k ds

-- The last byte of a number of two parts, and what lies before it.
last_byte : (B c m : ℕ) → (c * (256 * B) + m) % 256 ≡ m % 256
last_byte B c m = omega arith

before_last : (B c m : ℕ) → (c * (256 * B) + m) / 256 ≡ c * B + m / 256
before_last B c m = omega arith

-- Equal numbers and equal bytes are unpacked alike.
alike : (k m n b c : ℕ) (ds : List ℕ) → m ≡ n → b ≡ c → unpacked k m (b ∷ ds) ≡ unpacked k n (c ∷ ds)
alike k m n b c ds d e = rw (d, e) refl

-- A number of two parts is unpacked in two steps, the lower part first.
unpack_parts : (k c m : ℕ) (ds : List ℕ) → m < 256 ^ k → unpacked (suc k) (c * 256 ^ k + m) ds ≡ unpacked 1 c (unpacked k m ds)
unfolding unpacked
unpack_parts zero c m ds h = ap (λ (n : ℕ). unpacked 1 n ds) (go m h) ∙ ap (unpacked 1 c) (sym (none m))
  where
    go : (m : ℕ) → m < 256 ^ 0 → c * 256 ^ 0 + m ≡ c
    go m h = omega arith

    none : (m : ℕ) → unpacked 0 m ds ≡ ds
    none m = refl
unpack_parts (suc k) c m ds h = rw (pow-succ' 256 k) (go (ℕ_discrete (m % 256) 0) (λ es. unpack_parts k c (m / 256) es (omega arith)))
  where
    go : Dec (m % 256 ≡ 0) → ((es : List ℕ) → unpacked (suc k) (c * 256 ^ k + m / 256) es ≡ unpacked 1 c (unpacked k (m / 256) es))
        → unpacked (suc (suc k)) (c * (256 * 256 ^ k) + m) ds ≡ unpacked 1 c (unpacked (suc k) m ds)
    go (yes z) ih = drops (suc k) _ ds (last_byte (256 ^ k) c m ∙ z) ∙ ap (λ (n : ℕ). unpacked (suc k) n ds) (before_last (256 ^ k) c m)
        ∙ ih ds ∙ ap (unpacked 1 c) (sym (drops k m ds z))
    go (no z) ih = keeps (suc k) _ ds (λ e. z (sym (last_byte (256 ^ k) c m) ∙ e)) ∙ alike (suc k) _ _ _ _ ds (before_last (256 ^ k) c m) (last_byte (256 ^ k) c m)
        ∙ ih (m % 256 ∷ ds) ∙ ap (unpacked 1 c) (sym (keeps k m ds z))

-- A power is not zero.
positive : (k : ℕ) → 0 < 256 ^ k
positive zero = omega arith
positive (suc k) = rw (pow-succ' 256 k) (omega (arith, positive k))

-- Packed bytes stay below their room.
packed_below : (k : ℕ) (cs : List ℕ) → all letter_of_name cs ≡ true → packed k cs < 256 ^ k
unfolding packed
packed_below zero cs h = omega arith
packed_below (suc k) [] h = positive (suc k)
packed_below (suc k) (c ∷ cs) h = let p = all_first letter_of_name c cs h in
    rw (pow-succ' 256 k) (both_below (256 ^ k) 256 c (packed k cs) (letter_fits c p.0).byte (packed_below k cs p.1))

-- One byte that is not zero.
unpack_one : (c : ℕ) (ds : List ℕ) → Fits c → unpacked 1 c ds ≡ c ∷ ds
unfolding unpacked
unpack_one c ds f = keeps 0 c ds (λ e. omega (arith, f.some, f.byte)) ∙ none (c / 256) (c % 256) (omega (arith, f.byte))
  where
    none : (n b : ℕ) → b ≡ c → unpacked 0 n (b ∷ ds) ≡ c ∷ ds
    none n b e = rw e refl

-- Packed letters are unpacked before what follows.
pub unpack_packed : (k : ℕ) (cs ds : List ℕ) → length cs ≤ k → all letter_of_name cs ≡ true → unpacked k (packed k cs) ds ≡ cs ++ ds
unfolding packed
unpack_packed zero [] ds h e = unpack_zero 0 ds
unpack_packed zero (c ∷ cs) ds h e = absurd (omega arith)
unpack_packed (suc k) [] ds h e = unpack_zero (suc k) ds
unpack_packed (suc k) (c ∷ cs) ds h e = let p = all_first letter_of_name c cs e in
    unpack_parts k c (packed k cs) ds (packed_below k cs p.1) ∙ ap (unpacked 1 c) (unpack_packed k cs ds (omega arith) p.1) ∙ unpack_one c (cs ++ ds) (letter_fits c p.0)

-- The spelling of a name of that text is the text.
pub spelled : (cs : List ℕ) → length cs ≤ 32 → all letter_of_name cs ≡ true → spelling (name (packed 32 cs)) ≡ cs
unfolding spelling
spelled cs h e = unpack_packed 32 cs [] h e ∙ append-nil cs
