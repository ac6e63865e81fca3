-- The logic of readers: P of what was read; a refusal is one of 1 to 3, and its offset lies in the file or at its end.
-- A proof over a `do` block is the block again, line for line.
use mathlib.Core.Path.{◌≡◌, refl, ap, sym, ◌∙◌, subst}
use mathlib.Core.Bool.{Bool, true, false}
use mathlib.Core.List.{List, [], ◌∷◌, ◌++◌}
use mathlib.Core.Option.{Option, none, some}
use Prim.Native.Nat.{ℕ, suc, zero, ◌+◌, ◌≤◌, ◌<◌}
use native.Mathlib.Omega.{arith}
use Rattle.meaning.specs.Base.{if, ltb, found, count, nth}
use Rattle.meaning.specs.Errors.{Refusal, format, limit, reserved, redeclared, room, out_of_steps, too_deep, output, unbound_variable, unification_failure, occurs_check, con_mismatch, arity_mismatch, no_instance, ambiguous, duplicate_instance, unknown_class, unknown_method, missing_superclass, missing_method}
use Rattle.meaning.specs.Reader.{Read, got, bad, Reader, onward, or_bad, item, unless, front, from, field, little, numeral, counted, one_of, tagged, items, section, list_of}
use Rattle.theorems.proofs.Tests.{some_inj, none_some, ltb_false}
use Rattle.theorems.proofs.Grown.{nth_below}

-- One of 1 to 3, at an offset of at most n.
abbrev pub UpTo : ℕ → Refusal → Type 0
UpTo n (format k) = k ≤ n
UpTo n (limit k) = k ≤ n
UpTo n (reserved k) = k ≤ n
UpTo n redeclared = ⊥
UpTo n room = ⊥
UpTo n out_of_steps = ⊥
UpTo n too_deep = ⊥
UpTo n output = ⊥
UpTo n (unbound_variable x) = ⊥
UpTo n (unification_failure a b) = ⊥
UpTo n (occurs_check v t) = ⊥
UpTo n (con_mismatch c d) = ⊥
UpTo n (arity_mismatch c k m) = ⊥
UpTo n (no_instance p) = ⊥
UpTo n (ambiguous p) = ⊥
UpTo n (duplicate_instance p) = ⊥
UpTo n (unknown_class c) = ⊥
UpTo n (unknown_method m) = ⊥
UpTo n (missing_superclass c s) = ⊥
UpTo n (missing_method c a m) = ⊥

-- A refusal that is given with an offset.
abbrev pub Offset : (ℕ → Refusal) → Type 0
Offset refusal = (k n : ℕ) → k ≤ n → UpTo n (refusal k)

-- ## bytes
from_same : (j k : ℕ) (bs : List ℕ) → j ≡ k → from j bs ≡ from k bs
from_same j k bs e = ap (λ n. from n bs) e

from_nil : (k : ℕ) → from k [] ≡ []
unfolding from
from_nil zero = refl
from_nil (suc k) = refl

pub from_from : (j k : ℕ) (bs : List ℕ) → from k (from j bs) ≡ from (j + k) bs
unfolding from
from_from zero k bs = from_same k (0 + k) bs (omega arith)
from_from (suc j) k [] = from_nil k ∙ sym (from_nil (suc j + k))
from_from (suc j) k (b ∷ bs) = from_from j k bs ∙ from_same (suc (j + k)) (suc j + k) (b ∷ bs) (omega arith)

pub front_count : (k : ℕ) (bs cs : List ℕ) → front k bs ≡ some cs → k ≤ count bs
unfolding front count found
front_count zero bs cs e = omega arith
front_count (suc k) [] cs e = absurd (none_some cs e)
front_count (suc k) (b ∷ bs) cs e = go (front k bs) (λ ds i. front_count k bs ds i) e
  where
    go : (o : Option (List ℕ)) → ((ds : List ℕ) → o ≡ some ds → k ≤ count bs) → found o (λ ds. some (b ∷ ds)) ≡ some cs → suc k ≤ suc (count bs)
    go none ih e = absurd (none_some cs e)
    go (some ds) ih e = omega (arith, ih ds refl)

pub from_count : (k : ℕ) (bs : List ℕ) → k ≤ count bs → count (from k bs) + k ≡ count bs
unfolding from count
from_count zero bs h = omega arith
from_count (suc k) [] h = omega arith
from_count (suc k) (b ∷ bs) h = let i = from_count k bs (omega arith) in omega arith

-- ## readers over one file
-- The place after it lies in the file, and holds what follows there.
abbrev pub Within : {A : Type 0} → List ℕ → (A → Type 0) → Read A → Type 0
Within file P (got a next rest) = (next ≤ count file) × (rest ≡ from next file) × P a
Within file P (bad r) = UpTo (count file) r

-- The same of a reader, at any place of the file.
abbrev pub Reads : {A : Type 0} → List ℕ → (A → Type 0) → Reader A → Type 0
Reads file P r = (at : ℕ) → at ≤ count file → Within file P (r at (from at file))

-- One of the things whose number is below a bound.
pub record Smaller {A : Type 0} (xs : List A) (bound : ℕ) (x : A) : Type 0 where
  pub number : ℕ
  pub smaller : number < bound
  pub there : nth xs number ≡ some x

-- P of each element.
abbrev pub Each : {A : Type 0} → (A → Type 0) → List A → Type 0
Each P [] = Unit {0}
Each P (x ∷ xs) = P x × Each P xs

each_nth : {A : Type 0} (P : A → Type 0) (xs : List A) → Each P xs → (n : ℕ) (x : A) → nth xs n ≡ some x → P x
unfolding nth
each_nth P [] h n x e = absurd (none_some x e)
each_nth P (y ∷ xs) h zero x e = subst P (some_inj y x e) h.0
each_nth P (y ∷ xs) h (suc n) x e = each_nth P xs h.1 n x e

each_snoc : {A : Type 0} (P : A → Type 0) (xs : List A) (x : A) → Each P xs → P x → Each P (xs ++ x ∷ [])
each_snoc P [] x h p = (p, tt)
each_snoc P (y ∷ xs) x h p = (h.0, each_snoc P xs x h.1 p)

pub within_map : {A : Type 0} (file : List ℕ) (P Q : A → Type 0) (o : Read A) → ((a : A) → P a → Q a) → Within file P o → Within file Q o
within_map file P Q (got a next rest) f h = (h.0, h.1, f a h.2)
within_map file P Q (bad r) f h = h

-- ## a number below a bound
got_not_bad : {A : Type 0} (r : Refusal) (a : A) (next : ℕ) (rest : List ℕ) → bad r ≡ got a next rest → ⊥
got_not_bad r a next rest e = let z : ◌≡◌ {A = ℕ} 0 1 = cc in omega arith

-- What is accepted was named by a number below the count: a node that names itself or a later one is not.
pub one_of_smaller : {A : Type 0} (xs : List A) (at : ℕ) (bs : List ℕ) (x : A) (next : ℕ) (rest : List ℕ) → one_of xs at bs ≡ got x next rest → Smaller xs (count xs) x
unfolding one_of item onward or_bad
one_of_smaller {A = A} xs at bs x next rest e = go (numeral 2 at bs) e
  where
    number : (n at₁ : ℕ) (bs₁ : List ℕ) (t : Option A) → nth xs n ≡ t → or_bad (format at) t at₁ bs₁ ≡ got x next rest → Smaller xs (count xs) x
    number n at₁ bs₁ none i e = absurd (got_not_bad (format at) x next rest e)
    number n at₁ bs₁ (some y) i e = let j : nth xs n ≡ some x = cc in record { number = n; smaller = nth_below xs n x j; there = j }

    go : (o : Read ℕ) → onward o (λ n. or_bad (format at) (nth xs n)) ≡ got x next rest → Smaller xs (count xs) x
    go (got n at₁ bs₁) e = number n at₁ bs₁ (nth xs n) refl e
    go (bad r) e = absurd (got_not_bad r x next rest e)

nth_past : {A : Type 0} (xs : List A) (n : ℕ) → count xs ≤ n → nth xs n ≡ none
unfolding nth count
nth_past [] n h = refl
nth_past (x ∷ xs) zero h = absurd (omega arith)
nth_past (x ∷ xs) (suc n) h = nth_past xs n (omega arith)

-- Any other number is refused where it stands.
pub one_of_refused : {A : Type 0} (xs : List A) (at : ℕ) (bs : List ℕ) (n next : ℕ) (rest : List ℕ) → numeral 2 at bs ≡ got n next rest → count xs ≤ n → one_of xs at bs ≡ bad (format at)
unfolding one_of item onward or_bad
one_of_refused xs at bs n next rest e h =
    ap (λ o. onward o (λ n. or_bad (format at) (nth xs n))) e ∙ ap (λ t. or_bad (format at) t next rest) (nth_past xs n h)

-- ## readers, one after the other
module _ (file : List ℕ) where
  pub onward_within : {A B : Type 0} (P : A → Type 0) (Q : B → Type 0) (o : Read A) (f : A → Reader B)
      → Within file P o → ((a : A) → P a → Reads file Q (f a)) → Within file Q (onward o f)
  unfolding onward
  onward_within P Q (got a next rest) f h k = subst (λ bs. Within file Q (f a next bs)) (sym h.1) (k a h.2 next h.0)
  onward_within P Q (bad r) f h k = h

  -- One reader after another.
  pub then_reads : {A B : Type 0} (P : A → Type 0) (Q : B → Type 0) (r : Reader A) (f : A → Reader B)
      → Reads file P r → ((a : A) → P a → Reads file Q (f a)) → Reads file Q (λ at bs. onward (r at bs) f)
  then_reads P Q r f h k at i = onward_within P Q (r at (from at file)) f (h at i) k

  pub pure_reads : {A : Type 0} (P : A → Type 0) (a : A) → P a → Reads file P (λ at bs. got a at bs)
  pure_reads P a p at h = (h, refl, p)

  -- An item: what is known of it where it passes its test.
  pub item_reads : {A B : Type 0} (P : A → Type 0) (Q : B → Type 0) (refusal : ℕ → Refusal) (r : Reader A) (test : A → Option B)
      → Offset refusal → Reads file P r → ((a : A) (b : B) → P a → test a ≡ some b → Q b) → Reads file Q (item refusal r test)
  unfolding item or_bad
  item_reads P Q refusal r test o h k at i = onward_within P Q (r at (from at file)) (λ a. or_bad (refusal at) (test a)) (h at i)
      λ a p next j. go (test a) (λ b e. k a b p e) next j
    where
      go : (t : Option _) → ((b : _) → t ≡ some b → Q b) → (next : ℕ) → next ≤ count file → Within file Q (or_bad (refusal at) t next (from next file))
      go none q next j = o at (count file) i
      go (some b) q next j = (j, refl, q b refl)

  pub field_reads : (k : ℕ) → Reads file (λ bs. Unit {0}) (field k)
  unfolding field or_bad
  field_reads k at h = go (front k (from at file)) (λ cs e. front_count k (from at file) cs e)
    where
      go : (t : Option (List ℕ)) → ((cs : List ℕ) → t ≡ some cs → k ≤ count (from at file)) → Within file (λ bs. Unit {0}) (or_bad (format at) t (at + k) (from k (from at file)))
      go none c = h
      go (some cs) c = (omega (arith, from_count at file h, c cs refl), from_from at k file, tt)

  pub numeral_reads : (k : ℕ) → Reads file (λ n. Unit {0}) (numeral k)
  unfolding numeral
  numeral_reads k = then_reads (λ bs. Unit {0}) (λ n. Unit {0}) (field k) _ (field_reads k) λ bs h. pure_reads (λ n. Unit {0}) (little bs) tt

  -- A count is within its limit.
  pub counted_reads : (most : ℕ) → Reads file (λ n. n ≤ most) (counted most)
  unfolding counted unless
  counted_reads most = item_reads (λ n. Unit {0}) (λ n. n ≤ most) limit (numeral 2) _ (λ k n h. h) (numeral_reads 2) λ a n p e. go a n (ltb most a) refl e
    where
      go : (a n : ℕ) (b : Bool) → ltb most a ≡ b → if b none (some a) ≡ some n → n ≤ most
      go a n true i e = absurd (none_some n e)
      go a n false i e = omega (arith, ltb_false most a i, some_inj a n e)

  -- One of these things, by a number that is smaller than their count.
  pub one_of_reads : {A : Type 0} (xs : List A) → Reads file (Smaller xs (count xs)) (one_of xs)
  unfolding one_of
  one_of_reads xs = item_reads (λ n. Unit {0}) (Smaller xs (count xs)) format (numeral 2) (nth xs) (λ k n h. h) (numeral_reads 2)
      λ n x p e. record { number = n; smaller = nth_below xs n x e; there = e }

  -- Whatever the tag says.
  pub tagged_reads : {A : Type 0} (P : A → Type 0) (rs : List (Reader A)) → Each (Reads file P) rs → Reads file P (tagged rs)
  unfolding tagged
  tagged_reads P rs h = then_reads (Reads file P) P (item format (numeral 1) (nth rs)) _
      (item_reads (λ n. Unit {0}) (Reads file P) format (numeral 1) (nth rs) (λ k n h. h) (numeral_reads 1) λ n r p e. each_nth (Reads file P) rs h n r e)
      λ r p. p

  -- Items that keep an invariant of those read so far.
  pub items_read : {A : Type 0} (I : List A → Type 0) (r : List A → Reader A) (n : ℕ) (xs : List A)
      → ((xs : List A) → I xs → Reads file (λ x. I (xs ++ x ∷ [])) (r xs)) → I xs → Reads file I (items r n xs)
  unfolding items
  items_read I r zero xs h i = pure_reads I xs i
  items_read I r (suc n) xs h i = then_reads (λ x. I (xs ++ x ∷ [])) I (r xs) (λ x. items r n (xs ++ x ∷ [])) (h xs i) λ x j. items_read I r n (xs ++ x ∷ []) h j

  pub section_reads : {A : Type 0} (I : List A → Type 0) (most : ℕ) (r : List A → Reader A)
      → ((xs : List A) → I xs → Reads file (λ x. I (xs ++ x ∷ [])) (r xs)) → I [] → Reads file I (section most r)
  unfolding section
  section_reads I most r h i = then_reads (λ n. n ≤ most) I (counted most) (λ n. items r n []) (counted_reads most) λ n l. items_read I r n [] h i

  -- A list, each of whose items is known.
  pub list_reads : {A : Type 0} (P : A → Type 0) (r : Reader A) → Reads file P r → Reads file (Each P) (list_of r)
  unfolding list_of
  list_reads P r h = section_reads (Each P) 64 (λ xs. r) (λ xs i at j. within_map file P (λ x. Each P (xs ++ x ∷ [])) (r at (from at file)) (λ x p. each_snoc P xs x i p) (h at j)) tt
