-- From what a reader has read, back to its parts: what each field held, and where the next one began.
use mathlib.Core.Path.{◌≡◌, refl, sym, ap, ◌∙◌, subst}
use mathlib.Core.Bool.{Bool, true, false}
use mathlib.Core.List.{List}
use mathlib.Core.Option.{Option, none, some}
use Prim.Native.Nat.{ℕ, ◌+◌, ◌-◌, ◌*◌, ◌<◌, ◌≤◌}
use native.Mathlib.Omega.{arith}
use lib.ListN.{length, get_or, get_or-eq_default}
use Rattle.meaning.specs.Base.{if, count, nth}
use Rattle.meaning.specs.Ast.{Name}
use Rattle.meaning.specs.Reserved.{made_variable, made_name}
use Rattle.meaning.specs.File.{variable, word}
use Rattle.meaning.specs.Errors.{Refusal, format, reserved}
use Rattle.meaning.specs.Reader.{Read, got, bad, Reader, onward, or_bad, item, unless, front, from, field, little, numeral, one_of, tagged}
use Rattle.theorems.proofs.Tests.{some_inj, none_some}
use Rattle.theorems.proofs.Readers.{from_from}
use Rattle.theorems.proofs.Grown.{nth_below}
use Rattle.std.specs.Prelude.{Option as Option-of, Some, None, unwrap_or}
use Rattle.reader.specs.Verdicts.{IsField}
use Rattle.reader.proofs.Counts.{item_got, item_bad}
use Rattle.reader.specs.Bytes.{text}
use Rattle.reader.proofs.Fields.{numeral_is}
use Rattle.views.specs.Numbers.{or_zero, value_at, number_at, Named}

-- A refusal is nothing that was read.
pub bad_not_got : {A : Type 0} (r : Refusal) (a : A) (next : ℕ) (rest : List ℕ) → bad r ≡ got a next rest → ⊥
bad_not_got r a next rest e = let z : ◌≡◌ {A = ℕ} 0 1 = cc in omega arith

-- What was read is what the reader ends with.
pub read_is : {A : Type 0} (a b : A) (p next : ℕ) (bs rest : List ℕ) → got a p bs ≡ got b next rest → b ≡ a
read_is a b p next bs rest e = cc

pub read_ends : {A : Type 0} (a b : A) (p next : ℕ) (bs rest : List ℕ) → got a p bs ≡ got b next rest → (next ≡ p) × (rest ≡ bs)
read_ends a b p next bs rest e = (cc, cc)

-- The same number by another name.
pub by_number : {A : Type 0} {xs : List A} {u v : ℕ} {x : A} → u ≡ v → Named xs v x → Named xs u x
by_number e h = record { there = rw e h.there }

-- ## words past the end of the index
pub past_base : (ix : List ℕ) (b i : ℕ) → length ix ≤ b → 0 ≡ get_or ix (b + i) 0
past_base ix b i h = sym (get_or-eq_default ix 0 (omega arith))

pub past_last : (ix : List ℕ) (b i : ℕ) → length ix - b ≤ i → 0 ≡ get_or ix (b + i) 0
past_last ix b i h = sym (get_or-eq_default ix 0 (omega arith))

-- ## the fields that the code reads
pub value_is : (k : ℕ) (bytes : List ℕ) (at : ℕ) (f : Option-of ℕ) (r : ℕ) → IsField k bytes at f → r ≡ unwrap_or f 0 → r ≡ value_at k bytes at
unfolding value_at
value_is k bytes at (Some v) r i e = e ∙ sym (ap or_zero i.is.0)
value_is k bytes at None r i e = e ∙ sym (ap or_zero i.is)

two_parts : (bytes : List ℕ) (at : ℕ) → get_or bytes at 0 + 256 * get_or bytes (at + 1) 0 ≡ little (text bytes at 2)
unfolding text little
two_parts bytes at = omega arith

-- Within the file a number is its two bytes.
pub number_is : (bytes : List ℕ) (at : ℕ) → at + 2 ≤ length bytes → number_at bytes at ≡ get_or bytes at 0 + 256 * get_or bytes (at + 1) 0
number_is bytes at h = sym (value_is 2 bytes at (Some (get_or bytes at 0 + 256 * get_or bytes (at + 1) 0)) _ (numeral_is 2 bytes at _ h (two_parts bytes at)) refl)

-- A number that was read is that of its bytes, and the next place lies behind them.
pub numeral_ends : (k : ℕ) (bytes : List ℕ) (at v next : ℕ) (rest : List ℕ) → numeral k at (from at bytes) ≡ got v next rest
    → (value_at k bytes at ≡ v) × (next ≡ at + k) × (rest ≡ from (at + k) bytes)
unfolding value_at numeral field onward or_bad
numeral_ends k bytes at v next rest e = let h = go (front k (from at bytes)) e in (ap or_zero e, h.0, h.1)
  where
    go : (o : Option (List ℕ)) → onward (or_bad (format at) o (at + k) (from k (from at bytes))) (λ bs at₁ bs₁. got (little bs) at₁ bs₁) ≡ got v next rest
        → (next ≡ at + k) × (rest ≡ from (at + k) bytes)
    go none i = absurd (bad_not_got (format at) v next rest i)
    go (some cs) i = (cc, sym (ends (at + k) (from k (from at bytes)) (little cs) i) ∙ from_from at k bytes)
      where
        ends : (n : ℕ) (bs : List ℕ) (w : ℕ) → got w n bs ≡ got v next rest → bs ≡ rest
        ends n bs w j = cc

-- ## one reader after another
-- What was read in two parts: the first, and what follows it.
pub record Parted {A B : Type 0} (o : Read A) (f : A → Reader B) (b : B) (next : ℕ) (rest : List ℕ) : Type 0 where
  pub value : A
  pub place : ℕ
  pub left : List ℕ
  pub first : o ≡ got value place left
  pub second : f value place left ≡ got b next rest

pub parted : {A B : Type 0} (o : Read A) (f : A → Reader B) (b : B) (next : ℕ) (rest : List ℕ) → onward o f ≡ got b next rest → Parted o f b next rest
unfolding onward
parted (got a p bs) f b next rest e = record { value = a; place = p; left = bs; first = refl; second = e }
parted (bad r) f b next rest e = absurd (bad_not_got r b next rest e)

-- A test that was passed.
or_bad_got : {A : Type 0} (r : Refusal) (t : Option A) (p : ℕ) (bs : List ℕ) (a : A) (next : ℕ) (rest : List ℕ) → or_bad r t p bs ≡ got a next rest
    → (t ≡ some a) × (next ≡ p) × (rest ≡ bs)
unfolding or_bad
or_bad_got r none p bs a next rest e = absurd (bad_not_got r a next rest e)
or_bad_got r (some x) p bs a next rest e = (cc, cc, cc)

-- A field of k bytes that was passed by a test.
pub item_ends : {A : Type 0} (refusal : ℕ → Refusal) (k : ℕ) (test : ℕ → Option A) (bytes : List ℕ) (at : ℕ) (a : A) (next : ℕ) (rest : List ℕ)
    → item refusal (numeral k) test at (from at bytes) ≡ got a next rest → (test (value_at k bytes at) ≡ some a) × (next ≡ at + k) × (rest ≡ from (at + k) bytes)
unfolding item
item_ends refusal k test bytes at a next rest e =
    let q = parted (numeral k at (from at bytes)) (λ v. or_bad (refusal at) (test v)) a next rest e in
    let n = numeral_ends k bytes at q.value q.place q.left q.first in
    let t = or_bad_got (refusal at) (test q.value) q.place q.left a next rest q.second in
    (ap test n.0 ∙ t.0, t.1 ∙ n.1, t.2 ∙ n.2)

-- What lets a thing pass leaves it as it is.
unless_same : {A : Type 0} (f : A → Bool) (a b : A) → unless f a ≡ some b → a ≡ b
unfolding unless
unless_same {A = A} f a b e = go (f a) e
  where
    go : (c : Bool) → if c none (some a) ≡ some b → a ≡ b
    go true i = absurd (none_some b i)
    go false i = some_inj a b i

-- ## readers that always move by as many bytes
-- Wherever it reads, what it reads is such a thing for that place, and the next place lies m bytes behind.
pub record Moves {A : Type 0} (bytes : List ℕ) (m : ℕ) (P : ℕ → A → Type 0) (r : Reader A) : Type 0 where
  pub at : (p : ℕ) (x : A) (next : ℕ) (rest : List ℕ) → r p (from p bytes) ≡ got x next rest → (P p x) × (next ≡ p + m) × (rest ≡ from (p + m) bytes)

pub numeral_moves : (k : ℕ) (bytes : List ℕ) → Moves bytes k (λ p v. value_at k bytes p ≡ v) (numeral k)
numeral_moves k bytes = record { at = λ p v next rest e. numeral_ends k bytes p v next rest e }

pub one_of_moves : {A : Type 0} (xs : List A) (bytes : List ℕ) → Moves bytes 2 (λ p x. Named xs (number_at bytes p) x) (one_of xs)
unfolding one_of
one_of_moves xs bytes = record { at = λ p x next rest e. let i = item_ends format 2 (nth xs) bytes p x next rest e in (record { there = i.0 }, i.1, i.2) }

-- The same where some things are refused.
pub unless_moves : {A : Type 0} (f : A → Bool) (xs : List A) (bytes : List ℕ) → Moves bytes 2 (λ p x. Named xs (number_at bytes p) x) (item reserved (one_of xs) (unless f))
unfolding item
unless_moves f xs bytes = record {
  at = λ p x next rest e.
      let q = parted (one_of xs p (from p bytes)) (λ a. or_bad (reserved p) (unless f a)) x next rest e in
      let i = (one_of_moves xs bytes).at p q.value q.place q.left q.first in
      let t = or_bad_got (reserved p) (unless f q.value) q.place q.left x next rest q.second in
      (subst (λ a. Named xs (number_at bytes p) a) (unless_same f q.value x t.0) i.0, t.1 ∙ i.1, t.2 ∙ i.2);
}

pub variable_moves : (ns : List Name) (bytes : List ℕ) → Moves bytes 2 (λ p x. Named ns (number_at bytes p) x) (variable ns)
unfolding variable
variable_moves ns bytes = unless_moves made_variable ns bytes

pub word_moves : (ns : List Name) (bytes : List ℕ) → Moves bytes 2 (λ p x. Named ns (number_at bytes p) x) (word ns)
unfolding word
word_moves ns bytes = unless_moves made_name ns bytes

-- After such a reader: what it has read, and what follows at its place q.
pub record Went {A B : Type 0} (P : A → Type 0) (f : A → Reader B) (bytes : List ℕ) (q : ℕ) (b : B) (next : ℕ) (rest : List ℕ) : Type 0 where
  pub value : A
  pub such : P value
  pub then : f value q (from q bytes) ≡ got b next rest

pub went : {A B : Type 0} {bytes : List ℕ} {m : ℕ} {P : ℕ → A → Type 0} {r : Reader A} → Moves bytes m P r → (f : A → Reader B) (p q : ℕ) (b : B) (next : ℕ) (rest : List ℕ)
    → p + m ≡ q → onward (r p (from p bytes)) f ≡ got b next rest → Went (P p) f bytes q b next rest
went {bytes = bytes} {m = m} {r = r} g f p q b next rest h e =
    let o = parted (r p (from p bytes)) f b next rest e in
    let i = g.at p o.value o.place o.left o.first in
    record {
      value = o.value;
      such = i.0;
      then =
          subst (λ n. f o.value n (from n bytes) ≡ got b next rest) h
          (subst (λ n. f o.value n (from (p + m) bytes) ≡ got b next rest) i.1
          (subst (λ bs. f o.value o.place bs ≡ got b next rest) i.2 o.second));
    }

-- ## tags
module _ {A : Type 0} (bytes : List ℕ) (rs : List (Reader A)) (at : ℕ) (x : A) (next : ℕ) (rest : List ℕ) (e : tagged rs at (from at bytes) ≡ got x next rest) where
  -- The tag chooses the reader r.
  pub tag_chose : (r : Reader A) (t : ℕ) → IsField 1 bytes at (Some t) → nth rs t ≡ some r → r (at + 1) (from (at + 1) bytes) ≡ got x next rest
  unfolding tagged onward
  tag_chose r t f h = sym (ap (λ (o : Read (Reader A)). onward o (λ s. s)) (item_got format (numeral 1) (nth rs) at _ t r _ _ f.is.0 h)) ∙ e

  -- It is a tag, and not cut.
  pub tag_below : (t : ℕ) → IsField 1 bytes at (Some t) → t < count rs
  unfolding tagged
  tag_below t f =
      let o = parted (item format (numeral 1) (nth rs) at (from at bytes)) (λ s. s) x next rest e in
      let i = item_ends format 1 (nth rs) bytes at o.value o.place o.left o.first in
      nth_below rs t o.value (ap (nth rs) (value_is 1 bytes at (Some t) t f refl) ∙ i.0)

  pub tag_there : IsField 1 bytes at None → ⊥
  unfolding tagged
  tag_there f =
      let o = parted (item format (numeral 1) (nth rs) at (from at bytes)) (λ s. s) x next rest e in
      bad_not_got (format at) o.value o.place o.left (sym (item_bad format (numeral 1) (nth rs) at _ _ f.is) ∙ o.first)
