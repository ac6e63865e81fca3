-- Counts and numbers of things, from the field of two bytes that holds them.
use mathlib.Core.Path.{◌≡◌, refl}
use mathlib.Core.Bool.{Bool, true, false}
use mathlib.Core.List.{List, [], ◌∷◌}
use mathlib.Core.Option.{Option, none, some}
use Prim.Native.Nat.{ℕ, zero, suc, ◌+◌, ◌<◌, ◌≤◌}
use native.Mathlib.Omega.{arith}
use native.Mathlib.Decide.{dec_lt}
use lib.ListN.{length}
use Rattle.meaning.specs.Base.{ltb, count, nth}
use Rattle.meaning.specs.Errors.{format, limit}
use Rattle.meaning.specs.Reader.{Read, got, bad, onward, or_bad, item, unless, from, numeral, counted, one_of}
use Rattle.theorems.proofs.Tests.{ltb_of, ltb_true}
use Rattle.theorems.proofs.Readers.{one_of_refused}
use Rattle.errors.specs.declared.Refusal.TheVariants.{Format, Limit}
use Rattle.std.specs.Prelude.{Option as Option-of, Some, None, Result, Ok, Err}
use Rattle.std.proofs.Common.{ok_or}
use Rattle.reader.proofs.Fields.{numeral_is, numeral_cut}
use Rattle.reader.specs.Verdicts.{IsField, IsCount, Picks}

-- ## an item's test
pub item_got : {A B : Type 0} (refusal : ℕ → _) (r : ℕ → List ℕ → Read A) (test : A → Option B) (at : ℕ) (bs : List ℕ) (a : A) (b : B) (next : ℕ) (rest : List ℕ)
    → r at bs ≡ got a next rest → test a ≡ some b → item refusal r test at bs ≡ got b next rest
unfolding item onward or_bad
item_got refusal r test at bs a b next rest e f = rw (e, f) refl

pub item_fails : {A B : Type 0} (refusal : ℕ → _) (r : ℕ → List ℕ → Read A) (test : A → Option B) (at : ℕ) (bs : List ℕ) (a : A) (next : ℕ) (rest : List ℕ)
    → r at bs ≡ got a next rest → test a ≡ none → item refusal r test at bs ≡ bad (refusal at)
unfolding item onward or_bad
item_fails refusal r test at bs a next rest e f = rw (e, f) refl

pub item_bad : {A B : Type 0} (refusal : ℕ → _) (r : ℕ → List ℕ → Read A) (test : A → Option B) (at : ℕ) (bs : List ℕ) (x : _)
    → r at bs ≡ bad x → item refusal r test at bs ≡ bad x
unfolding item onward
item_bad refusal r test at bs x e = rw e refl

pub passed : {A : Type 0} (f : A → Bool) (a : A) → f a ≡ false → unless f a ≡ some a
unfolding unless
passed f a e = rw e refl

pub failed : {A : Type 0} (f : A → Bool) (a : A) → f a ≡ true → unless f a ≡ none
unfolding unless
failed f a e = rw e refl

ltb_not : (m n : ℕ) → n ≤ m → ltb m n ≡ false
ltb_not m n h = go (ltb m n) refl
  where
    go : (b : Bool) → ltb m n ≡ b → b ≡ false
    go true e = absurd (let i = ltb_true m n e in omega arith)
    go false e = refl

-- What `ok_or` was asked of.
pub some_was : {A E : Type 0} (o : Option-of A) (e : E) (r : Result A E) (a : A) → r ≡ ok_or o e → r ≡ Ok a → o ≡ Some a
some_was (Some b) e r a h k = cc
some_was None e r a h k = absurd (cc)

pub none_was : {A E : Type 0} (o : Option-of A) (e d : E) (r : Result A E) → r ≡ ok_or o e → r ≡ Err d → (o ≡ None) × (d ≡ e)
none_was (Some b) e d r h k = absurd (cc)
none_was None e d r h k = (refl, cc)

-- ## counts
pub count_cut : (most : ℕ) (bytes : List ℕ) (at : ℕ) → IsField 2 bytes at None → IsCount most bytes at (Err (Format at))
unfolding counted
count_cut most bytes at f = record { is = item_bad limit (numeral 2) _ at _ _ f.is }

pub count_over : (most : ℕ) (bytes : List ℕ) (at n : ℕ) → IsField 2 bytes at (Some n) → most < n → IsCount most bytes at (Err (Limit at))
unfolding counted
count_over most bytes at n f h = record { is = item_fails limit (numeral 2) _ at _ n _ _ f.is.0 (failed (ltb most) n (ltb_of most n h)) }

pub count_is : (most : ℕ) (bytes : List ℕ) (at n : ℕ) → IsField 2 bytes at (Some n) → n ≤ most → IsCount most bytes at (Ok n)
unfolding counted
count_is most bytes at n f h = record { is = (item_got limit (numeral 2) _ at _ n n _ _ f.is.0 (passed (ltb most) n (ltb_not most n h)), h, f.is.1) }

-- ## numbers of things
nth_some : {A : Type 0} (xs : List A) (v : ℕ) → v < count xs → (x : A) × (nth xs v ≡ some x)
unfolding nth count
nth_some [] v h = absurd (omega arith)
nth_some (x ∷ xs) zero h = (x, refl)
nth_some (x ∷ xs) (suc v) h = nth_some xs v (omega arith)

-- One of n things, whatever they are.
pub picked : {A : Type 0} (xs : List A) (n : ℕ) (bytes : List ℕ) (at v : ℕ) → count xs ≡ n → Picks n bytes at (Some v)
    → (x : A) × (nth xs v ≡ some x) × (one_of xs at (from at bytes) ≡ got x (at + 2) (from (at + 2) bytes))
unfolding one_of
picked xs n bytes at v c p =
    let s = nth_some xs v (let h = p.is.1 in omega arith) in
    (s.0, s.1, item_got format (numeral 2) (nth xs) at _ v s.0 _ _ p.is.0.0 s.1)

-- None of them.
pub none_picked : {A : Type 0} (xs : List A) (n : ℕ) (bytes : List ℕ) (at : ℕ) → count xs ≡ n → Picks n bytes at None → one_of xs at (from at bytes) ≡ bad (format at)
unfolding one_of
none_picked xs n bytes at c p = go (dec_lt (length bytes) (at + 2))
  where
    go : Dec (length bytes < at + 2) → one_of xs at (from at bytes) ≡ bad (format at)
    go (yes h) = item_bad format (numeral 2) (nth xs) at _ _ (numeral_cut 1 bytes at h).is
    go (no h) = let f = (numeral_is 2 bytes at _ (omega arith) refl).is in one_of_refused xs at _ _ _ _ f.0 (rw c (p.is _ _ _ f.0))
