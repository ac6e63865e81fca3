-- The built-in names, by tests that are computed over all of them; and the table before a file is read.
use mathlib.Core.Path.{◌≡◌, refl, ap, ◌∙◌, subst}
use mathlib.Core.Bool.{Bool, true, false}
use mathlib.Core.List.{List, [], ◌∷◌}
use mathlib.Core.Option.{Option, none, some}
use Prim.Native.Nat.{ℕ, zero, suc, ◌+◌, ◌*◌, ◌^◌, ◌<◌, ◌≤◌}
use native.Mathlib.Decide.{ℕ_discrete, dec_lt}
use native.Mathlib.Omega.{arith}
use lib.ListN.{length, get_or}
use Rattle.meaning.specs.Base.{if, eqb, ltb, count, nth}
use Rattle.meaning.specs.Text.{packed, quoted}
use Rattle.meaning.specs.Ast.{Name, name, called}
use Rattle.names.specs.declared.Key.{Key}
use Rattle.names.specs.Names.{row}
use Rattle.names.specs.Keys.{bytes_of, four}
use Rattle.theorems.proofs.Tests.{eqb_true, eqb_false, ltb_false, none_some}
use Rattle.theorems.proofs.Grown.{nth_below}
use Rattle.rows.specs.BuiltIns.{built_ins, First}
use Rattle.rows.specs.Rows.{row_set, Filled}
use Rattle.rows.proofs.Cells.{row_same, row_other, row_length}

-- ## computed tests
-- A test passes for all numbers below a bound.
abbrev every : (ℕ → Bool) → ℕ → Bool
every f zero = true
every f (suc n) = if (f n) (every f n) false

every_at : (f : ℕ → Bool) (n : ℕ) → every f n ≡ true → (i : ℕ) → i < n → f i ≡ true
every_at f zero e i h = absurd (omega arith)
every_at f (suc n) e i h = go (f n) refl e (ℕ_discrete i n) (λ a k. every_at f n a i k)
  where
    go : (b : Bool) → f n ≡ b → if b (every f n) false ≡ true → Dec (i ≡ n) → (every f n ≡ true → i < n → f i ≡ true) → f i ≡ true
    go true p e (yes q) ih = ap f q ∙ p
    go true p e (no q) ih = ih e (omega arith)
    go false p e d ih = let z : ◌≡◌ {A = ℕ} 0 1 = cc in absurd (omega arith)

-- An optional name is that of a number.
abbrev is_number : Option Name → ℕ → Bool
is_number none n = false
is_number (some (name m)) n = eqb m n

is_that : (o : Option Name) (n : ℕ) → is_number o n ≡ true → o ≡ some (name n)
is_that none n e = let z : ◌≡◌ {A = ℕ} 0 1 = cc in absurd (omega arith)
is_that (some (name m)) n e = ap (λ (k : ℕ). some (name k)) (eqb_true m n e)

-- ## the constant table
-- The first two words of the built-in names, as the code has them.
unfoldable pub first_words : List (List ℕ)
first_words = (5291294155555733504 ∷ 0 ∷ []) ∷ (4787167438565277696 ∷ 0 ∷ []) ∷ (8102654597562393673 ∷ 7958986441470509056 ∷ []) ∷ (8102654597563049026 ∷ 8029755407880683520 ∷ [])
    ∷ (8102654597630345839 ∷ 8028792235694751744 ∷ []) ∷ (8102654597630347630 ∷ 8358680908399640576 ∷ []) ∷ (8102654597747984750 ∷ 8358680908399640576 ∷ []) ∷ (8102654597764836425 ∷ 7958986441470509056 ∷ [])
    ∷ (8102654597781222466 ∷ 8029755407880683520 ∷ []) ∷ (6989586621679009792 ∷ 0 ∷ []) ∷ (7061644215716937728 ∷ 0 ∷ []) ∷ (7133701809754865664 ∷ 0 ∷ [])
    ∷ (7205759403792793600 ∷ 0 ∷ []) ∷ (7277816997830721536 ∷ 0 ∷ []) ∷ (7349874591868649472 ∷ 0 ∷ []) ∷ (7421932185906577408 ∷ 0 ∷ [])
    ∷ (7493989779944505344 ∷ 0 ∷ []) ∷ (7566047373982433280 ∷ 0 ∷ []) ∷ (7638104968020361216 ∷ 0 ∷ []) ∷ (7710162562058289152 ∷ 0 ∷ [])
    ∷ (7782220156096217088 ∷ 0 ∷ []) ∷ (7854277750134145024 ∷ 0 ∷ []) ∷ (7926335344172072960 ∷ 0 ∷ []) ∷ (7998392938210000896 ∷ 0 ∷ [])
    ∷ (8070450532247928832 ∷ 0 ∷ []) ∷ (8142508126285856768 ∷ 0 ∷ []) ∷ (8214565720323784704 ∷ 0 ∷ []) ∷ (8286623314361712640 ∷ 0 ∷ [])
    ∷ (8358680908399640576 ∷ 0 ∷ []) ∷ (8430738502437568512 ∷ 0 ∷ []) ∷ (8502796096475496448 ∷ 0 ∷ []) ∷ (8574853690513424384 ∷ 0 ∷ [])
    ∷ (8646911284551352320 ∷ 0 ∷ []) ∷ (8718968878589280256 ∷ 0 ∷ []) ∷ (8791026472627208192 ∷ 0 ∷ []) ∷ []

right : ℕ → Bool
right b = is_number (nth built_ins b) (four (get_or (get_or first_words b []) 0 0) (get_or (get_or first_words b []) 1 0) 0 0)

all_right : every right 35 ≡ true
unfolding right first_words built_ins nth called packed quoted four eqb ℕ_discrete
all_right = refl

pub built_key : (b o : ℕ) → b < 35 → nth built_ins b ≡ some (name (bytes_of record { over = o; a = get_or (get_or first_words b []) 0 0; b = get_or (get_or first_words b []) 1 0; c = 0; d = 0 }))
unfolding right bytes_of
built_key b o h = is_that (nth built_ins b) _ (every_at right 35 all_right b h)

-- ## facts of the built-in names
-- A name's first byte is not zero.
abbrev is_full : Option Name → Bool
is_full none = false
is_full (some (name n)) = if (ltb n (2 ^ 248)) false true

is_high : (o : Option Name) (n : ℕ) → is_full o ≡ true → o ≡ some (name n) → 2 ^ 248 ≤ n
is_high none n e f = absurd (none_some (name n) f)
is_high (some (name m)) n e f = go (ltb m (2 ^ 248)) refl e
  where
    go : (b : Bool) → ltb m (2 ^ 248) ≡ b → if b false true ≡ true → 2 ^ 248 ≤ n
    go true i e = let z : ◌≡◌ {A = ℕ} 0 1 = cc in absurd (omega arith)
    go false i e = let j : m ≡ n = cc in subst (λ k. 2 ^ 248 ≤ k) j (ltb_false m (2 ^ 248) i)

full : ℕ → Bool
full b = is_full (nth built_ins b)

all_full : every full 35 ≡ true
unfolding full built_ins nth called packed quoted ltb dec_lt
all_full = refl

pub built_full : (b n : ℕ) → b < 35 → nth built_ins b ≡ some (name n) → 2 ^ 248 ≤ n
unfolding full
built_full b n h e = is_high (nth built_ins b) n (every_at full 35 all_full b h) e

-- No two are equal.
abbrev differ : Option Name → Option Name → Bool
differ none p = false
differ (some (name m)) none = false
differ (some (name m)) (some (name n)) = if (eqb m n) false true

never_same : (o p : Option Name) (n : ℕ) → differ o p ≡ true → o ≡ some (name n) → p ≡ some (name n) → ⊥
never_same none p n e f g = none_some (name n) f
never_same (some (name k)) none n e f g = none_some (name n) g
never_same (some (name k)) (some (name l)) n e f g = go (eqb k l) refl e
  where
    go : (b : Bool) → eqb k l ≡ b → if b false true ≡ true → ⊥
    go true i e = let z : ◌≡◌ {A = ℕ} 0 1 = cc in omega arith
    go false i e = eqb_false k l i cc

new : ℕ → Bool
new b = every (λ c. differ (nth built_ins b) (nth built_ins c)) b

all_new : every new 35 ≡ true
unfolding new built_ins nth called packed quoted eqb ℕ_discrete
all_new = refl

pub built_apart : (b c n : ℕ) → c < b → b < 35 → nth built_ins b ≡ some (name n) → nth built_ins c ≡ some (name n) → ⊥
unfolding new
built_apart b c n h k e f = never_same (nth built_ins b) (nth built_ins c) n (every_at (λ c. differ (nth built_ins b) (nth built_ins c)) b (every_at new 35 all_new b k) c h) e f

-- There are 35.
pub built_below : (b : ℕ) (x : Name) → nth built_ins b ≡ some x → b < 35
unfolding built_ins count
built_below b x e = nth_below built_ins b x e

-- ## the rows before a file is read
pub first_built : (r : ℕ) (k : Key) → r < 35 → nth built_ins r ≡ some (name (bytes_of k)) → First r (bytes_of k)
first_built r k h e = record { built = λ i. e; filler = λ i. absurd (omega arith) }

pub first_filler : (r o : ℕ) → 35 ≤ r → First r (bytes_of record { over = o; a = 0; b = 0; c = 0; d = r })
unfolding bytes_of four
first_filler r o h = record { built = λ i. absurd (omega arith); filler = λ i. go (2 ^ 64) r }
  where
    go : (W r : ℕ) → ((0 * W + 0) * W + 0) * W + r ≡ r
    go W r = omega arith

-- The rows before r are written.
pub record Filling (ns : List ℕ) (r : ℕ) : Type 0 where
  pub length : length ns ≡ 4236
  pub upto : r ≤ 1059
  pub first : (j : ℕ) → j < r → First j (row ns j)

pub none_filled : (ns : List ℕ) → length ns ≡ 4236 → Filling ns 0
none_filled ns h = record { length = h; upto = omega arith; first = λ j i. absurd (omega arith) }

pub one_filled : (ns ns' : List ℕ) (r : ℕ) (k : Key) → Filling ns r → r < 1059 → First r (bytes_of k) → ns' ≡ row_set ns r k → Filling ns' (r + 1)
one_filled ns ns' r k f h g e = record {
  length = ap (λ (xs : List ℕ). length xs) e ∙ row_length ns r k ∙ f.length;
  upto = omega arith;
  first = λ j i. go j i (ℕ_discrete j r);
}
  where
    go : (j : ℕ) → j < r + 1 → Dec (j ≡ r) → First j (row ns' j)
    go j i (yes q) = rw (q, e, row_same ns r k (omega (arith, f.length))) g
    go j i (no q) = rw (e, row_other ns r j k q) (f.first j (omega arith))

pub all_filled : (ns : List ℕ) (r : ℕ) → Filling ns r → 1059 ≤ r → Filled ns
all_filled ns r f h = record { first = λ j i. f.first j (omega arith) }
