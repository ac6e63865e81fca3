-- A field of k bytes at a place: what it holds, or that the end of the file cuts it.
use mathlib.Core.Path.{◌≡◌, refl, ap, ◌∙◌, subst}
use mathlib.Core.List.{List, [], ◌∷◌}
use mathlib.Core.Option.{none, some}
use Prim.Native.Nat.{ℕ, zero, suc, ◌+◌, ◌-◌, ◌<◌, ◌≤◌}
use native.Mathlib.Omega.{arith}
use lib.ListN.{length, get_or}
use Rattle.std.specs.List.{slice_range}
use Rattle.std.specs.Int.{from_le_bytes, w16, w64}
use Rattle.std.proofs.Common.{drop}
use Rattle.std.proofs.lemmas.List.{get_or-drop, get_or-take}
use Rattle.meaning.specs.Base.{found, count}
use Rattle.meaning.specs.Errors.{format}
use Rattle.meaning.specs.Reader.{got, bad, onward, or_bad, front, from, field, little, numeral}
use Rattle.theorems.proofs.Readers.{from_from}
use Rattle.reader.specs.Bytes.{text}
use Rattle.std.specs.Prelude.{Some, None}
use Rattle.reader.specs.Verdicts.{IsField}

-- Both ways of counting say the same.
pub count-length : {A : Type 0} (xs : List A) → count xs ≡ length xs
unfolding count
count-length [] = refl
count-length (x ∷ xs) = ap suc (count-length xs)

pub get_d_from : (at : ℕ) (bytes : List ℕ) → at < length bytes → from at bytes ≡ get_or bytes at 0 ∷ from (at + 1) bytes
unfolding from
get_d_from zero [] h = absurd (omega arith)
get_d_from zero (b ∷ bytes) h = refl
get_d_from (suc at) [] h = absurd (omega arith)
get_d_from (suc at) (b ∷ bytes) h = get_d_from at bytes (omega arith) ∙ ap (λ n. get_or bytes at 0 ∷ from n (b ∷ bytes)) (same at)
  where
    same : (at : ℕ) → suc (at + 1) ≡ suc at + 1
    same at = omega arith

pub past_end : (at : ℕ) (bytes : List ℕ) → length bytes ≤ at → from at bytes ≡ []
unfolding from
past_end zero [] h = refl
past_end zero (b ∷ bytes) h = absurd (omega arith)
past_end (suc at) [] h = refl
past_end (suc at) (b ∷ bytes) h = past_end at bytes (omega arith)

-- The bytes of a field that lies in the file.
pub front_text : (k : ℕ) (bytes : List ℕ) (at : ℕ) → at + k ≤ length bytes → front k (from at bytes) ≡ some (text bytes at k)
unfolding front text found
front_text zero bytes at h = refl
front_text (suc k) bytes at h = rw (get_d_from at bytes (omega arith)) (rw (front_text k bytes (at + 1) (omega arith)) refl)

-- There are none where the end of the file cuts it.
front_cut : (k : ℕ) (bytes : List ℕ) (at : ℕ) → length bytes < at + suc k → front (suc k) (from at bytes) ≡ none
unfolding front found from
front_cut zero bytes at h = rw (past_end at bytes (omega arith)) refl
front_cut (suc k) bytes at h = go (from at bytes) (rest (front_cut k bytes (at + 1) (omega arith)))
  where
    rest : front (suc k) (from (at + 1) bytes) ≡ none → (b : ℕ) (bs : List ℕ) → from at bytes ≡ b ∷ bs → front (suc k) bs ≡ none
    rest ih b bs e = subst (λ ds. front (suc k) ds ≡ none) (ap (λ ds. from 1 ds) e) (ap (λ ds. front (suc k) ds) (from_from at 1 bytes) ∙ ih)

    go : (cs : List ℕ) → ((b : ℕ) (bs : List ℕ) → cs ≡ b ∷ bs → front (suc k) bs ≡ none) → front (suc (suc k)) cs ≡ none
    go [] f = refl
    go (b ∷ bs) f = rw (f b bs refl) refl

-- What such a field is read as.
pub field_is : (k : ℕ) (bytes : List ℕ) (at : ℕ) → at + k ≤ length bytes → field k at (from at bytes) ≡ got (text bytes at k) (at + k) (from (at + k) bytes)
unfolding field or_bad
field_is k bytes at h = rw (front_text k bytes at h, from_from at k bytes) refl

pub field_cut : (k : ℕ) (bytes : List ℕ) (at : ℕ) → length bytes < at + suc k → field (suc k) at (from at bytes) ≡ bad (format at)
unfolding field or_bad
field_cut k bytes at h = rw (front_cut k bytes at h) refl

pub numeral_is : (k : ℕ) (bytes : List ℕ) (at v : ℕ) → at + k ≤ length bytes → v ≡ little (text bytes at k) → IsField k bytes at (Some v)
unfolding numeral onward
numeral_is k bytes at v h e = record { is = (rw (field_is k bytes at h, e) refl, h) }

pub numeral_cut : (k : ℕ) (bytes : List ℕ) (at : ℕ) → length bytes < at + suc k → IsField (suc k) bytes at None
unfolding numeral onward
numeral_cut k bytes at h = record { is = rw (field_cut k bytes at h) refl }

-- A byte of what is lent from a place on.
part_byte : (bytes part : List ℕ) (at i j : ℕ) → part ≡ slice_range bytes at (length bytes) → j < length bytes → at + i ≡ j → get_or part i 0 ≡ get_or bytes j 0
part_byte bytes part at i j e h q = let k : i < length bytes - at = omega arith in
    rw e (get_or-take (length bytes - at) (drop at bytes) i 0 k ∙ get_or-drop at bytes i 0) ∙ ap (λ (n : ℕ). get_or bytes n 0) q

-- A byte as a number, and two that are read one by one.
pub one_byte : (bytes : List ℕ) (at v : ℕ) → v ≡ get_or bytes at 0 → v ≡ little (text bytes at 1)
unfolding text little
one_byte bytes at v e = omega arith

pub two_single_bytes : (bytes : List ℕ) (at v : ℕ) → v ≡ from_le_bytes w16 (get_or bytes at 0 ∷ get_or bytes (at + 1) 0 ∷ []) → v ≡ little (text bytes at 2)
unfolding text little
two_single_bytes bytes at v e = omega (arith, e)

-- Two and eight bytes as numbers, read from what is lent.
pub two_bytes : (bytes part : List ℕ) (at v : ℕ) → part ≡ slice_range bytes at (length bytes) → at + 2 ≤ length bytes → v ≡ from_le_bytes w16 part → v ≡ little (text bytes at 2)
unfolding text little
two_bytes bytes part at v p h e =
    let a = part_byte bytes part at 0 at p (omega arith) (omega arith) in
    let b = part_byte bytes part at 1 (at + 1) p (omega arith) (omega arith) in
    omega (arith, e, a, b)

pub eight_bytes : (bytes part : List ℕ) (at v : ℕ) → part ≡ slice_range bytes at (length bytes) → at + 8 ≤ length bytes → v ≡ from_le_bytes w64 part → v ≡ little (text bytes at 8)
unfolding text little
eight_bytes bytes part at v p h e =
    let a₀ = part_byte bytes part at 0 at p (omega arith) (omega arith) in
    let a₁ = part_byte bytes part at 1 (at + 1) p (omega arith) (omega arith) in
    let a₂ = part_byte bytes part at 2 (at + 1 + 1) p (omega arith) (omega arith) in
    let a₃ = part_byte bytes part at 3 (at + 1 + 1 + 1) p (omega arith) (omega arith) in
    let a₄ = part_byte bytes part at 4 (at + 1 + 1 + 1 + 1) p (omega arith) (omega arith) in
    let a₅ = part_byte bytes part at 5 (at + 1 + 1 + 1 + 1 + 1) p (omega arith) (omega arith) in
    let a₆ = part_byte bytes part at 6 (at + 1 + 1 + 1 + 1 + 1 + 1) p (omega arith) (omega arith) in
    let a₇ = part_byte bytes part at 7 (at + 1 + 1 + 1 + 1 + 1 + 1 + 1) p (omega arith) (omega arith) in
    omega (arith, e, a₀, a₁, a₂, a₃, a₄, a₅, a₆, a₇)
