-- What the functions find of a text: that each of its bytes passes a test, and its bytes as words.
use mathlib.Core.Path.{◌≡◌, refl, sym, ap, ◌∙◌}
use mathlib.Core.Bool.{Bool, true, false}
use mathlib.Core.List.{List, [], ◌∷◌, ◌++◌, append-nil}
use Prim.Native.Nat.{ℕ, zero, suc, ◌+◌, ◌<◌, ◌≤◌}
use native.Mathlib.Omega.{arith}
use borrow.Author.Tests.{eqb-true}
use lib.ListN.{length, get_or}
use Rattle.std.specs.List.{push}
use Rattle.std.proofs.lemmas.List.{append_assoc, length-append}
use Rattle.std.specs.Char.{is_ascii_digit}
use Rattle.std.proofs.Common.{nat_eq}
use Rattle.spelling.proofs.Alphabet.{same_digit}
use Rattle.meaning.specs.Text.{packed}
use Rattle.meaning.specs.Reserved.{all, digit, digits}
use Rattle.meaning.specs.Base.{null, any}
use Rattle.names.specs.declared.Key.{Key}
use Rattle.names.specs.Keys.{bytes_of, Pushed}
use Rattle.names.proofs.Digits.{pushed}
use Rattle.spelling.specs.Forms.{Packs}
use Rattle.spelling.proofs.Spelled.{all_first, all_on}

-- ## tests of every byte
-- Where each byte passes, all do.
each_all : (f : ℕ → Bool) (xs : List ℕ) → ((k : ℕ) → k < length xs → f (get_or xs k 0) ≡ true) → all f xs ≡ true
unfolding all any
each_all f [] h = refl
each_all f (x ∷ xs) h = all_on f x xs (h 0 (omega arith)) ∙ each_all f xs (λ k p. h (suc k) (omega arith))

-- Where all do, each does.
all_one : (f : ℕ → Bool) (xs : List ℕ) → all f xs ≡ true → (k : ℕ) → k < length xs → f (get_or xs k 0) ≡ true
all_one f [] e k h = absurd (omega arith)
all_one f (x ∷ xs) e zero h = (all_first f x xs e).0
all_one f (x ∷ xs) e (suc k) h = all_one f xs (all_first f x xs e).1 k (omega arith)

-- The answer of a test of each byte.
pub all_each : (f : ℕ → Bool) (xs : List ℕ) (r : Bool) → (r ≡ true → (k : ℕ) → k < length xs → f (get_or xs k 0) ≡ true)
    → (((k : ℕ) → k < length xs → f (get_or xs k 0) ≡ true) → r ≡ true) → r ≡ all f xs
all_each f xs true h g = sym (each_all f xs (h refl))
all_each f xs false h g = go (all f xs) refl
  where
    go : (b : Bool) → all f xs ≡ b → false ≡ b
    go true e = g (all_one f xs e)
    go false e = refl

-- Digits are at least one.
pub no_digits : (xs : List ℕ) → true ≡ nat_eq (length xs) 0 → false ≡ digits xs
unfolding digits null
no_digits [] h = refl
no_digits (x ∷ xs) h = absurd (omega (arith, eqb-true (length (x ∷ xs)) 0 (sym h)))

-- Where there is a byte, digits are bytes that are all digits.
pub digits_each : (xs : List ℕ) (r : Bool) → false ≡ nat_eq (length xs) 0 → (r ≡ true → (k : ℕ) → k < length xs → is_ascii_digit (get_or xs k 0) ≡ true)
    → (((k : ℕ) → k < length xs → is_ascii_digit (get_or xs k 0) ≡ true) → r ≡ true) → r ≡ digits xs
unfolding digits null
digits_each [] r e h g = absurd (cc)
digits_each (x ∷ xs) r e h g = all_each digit (x ∷ xs) r (λ t k p. rw (← same_digit (get_or (x ∷ xs) k 0)) (h t k p)) (λ f. g (λ k p. rw (same_digit (get_or (x ∷ xs) k 0)) (f k p)))

-- ## bytes as words
-- The bytes after those that are left are packed.
pub record Packing (text left : List ℕ) (k : Key) : Type 0 where
  pub done : List ℕ
  pub whole : left ++ done ≡ text
  pub packs : Packs done k

-- No byte is packed yet.
pub none_packed : (text left : List ℕ) (k : Key) → left ≡ text → bytes_of k ≡ 0 → k.over ≡ 0 → Packing text left k
unfolding packed
none_packed text left k e z o = record { done = []; whole = append-nil left ∙ e; packs = record { bytes = z; alone = o } }

-- One byte more.
pub one_packed : {text left left' : List ℕ} {b : ℕ} {k r : Key} → Packing text left k → left ≡ push left' b → length text ≤ 32 → Pushed k b r
    → Packing text left' r
one_packed {text} {left} {left'} {b} {k} {r} p e l q =
    let w : left' ++ (b ∷ p.done) ≡ text = sym (append_assoc left' (b ∷ []) p.done) ∙ ap (λ (xs : List ℕ). xs ++ p.done) (sym e) ∙ p.whole in
    let n : length left' + suc (length p.done) ≡ length text = sym (length-append left' (b ∷ p.done)) ∙ ap length w in
    record {
      done = b ∷ p.done;
      whole = w;
      packs = record { bytes = pushed p.done k r b (omega arith) p.packs.bytes q; alone = q.alone };
    }

-- All bytes.
pub all_packed : {text left : List ℕ} {k : Key} → Packing text left k → length left ≡ 0 → Packs text k
all_packed {left = []} p h = rw (← p.whole) p.packs
all_packed {left = x ∷ left} p h = absurd (omega arith)
