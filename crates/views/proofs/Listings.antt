-- Lists of the file: the count, then items of as many bytes each. Item j stands j times so many bytes behind the first.
use mathlib.Core.Path.{◌≡◌, refl, sym, ap, ◌∙◌, subst}
use mathlib.Core.List.{List, [], ◌∷◌, ◌++◌}
use mathlib.Core.Option.{some}
use Prim.Native.Nat.{ℕ, zero, suc, ◌+◌, ◌*◌}
use native.Mathlib.Omega.{arith}
use Rattle.meaning.specs.Base.{ltb, count, nth}
use Rattle.meaning.specs.Errors.{limit}
use Rattle.meaning.specs.Reader.{got, Reader, onward, unless, from, counted, items, section, list_of, one_of}
use Rattle.theorems.proofs.Tests.{some_inj, none_some}
use Rattle.std.specs.Prelude.{Result, Ok, Err}
use Rattle.std.specs.Result.{result_unwrap_or}
use Rattle.errors.specs.declared.Refusal.{Refusal}
use Rattle.reader.specs.Verdicts.{IsCount}
use Rattle.views.specs.Numbers.{or_zero, number_at, count_at, CountRead, Named, NamedAll, NamedRows}
use Rattle.views.proofs.Onward.{bad_not_got, read_is, read_ends, parted, item_ends, Moves, Went, went, one_of_moves}

-- ## the count that the code reads
pub count_is : (bytes : List ℕ) (at n : ℕ) → IsCount 64 bytes at (Ok n) → CountRead bytes at n
unfolding count_at
count_is bytes at n c = record { few = c.is.1; exact = sym (ap or_zero c.is.0); is = λ m next rest e. same n m _ next _ rest (sym c.is.0 ∙ e) }
  where
    same : (n m p q : ℕ) (bs cs : List ℕ) → got n p bs ≡ got m q cs → n ≡ m
    same n m p q bs cs i = cc

pub count_none : (bytes : List ℕ) (at : ℕ) (e : _) → IsCount 64 bytes at (Err e) → CountRead bytes at 0
unfolding count_at
count_none bytes at e c = record { few = omega arith; exact = sym (ap or_zero c.is); is = λ m next rest i. absurd (bad_not_got _ m next rest (sym c.is ∙ i)) }

pub count_read : (bytes : List ℕ) (at : ℕ) (o : Result ℕ Refusal) (r : ℕ) → IsCount 64 bytes at o → r ≡ result_unwrap_or o 0 → CountRead bytes at r
count_read bytes at (Ok n) r c e = rw e (count_is bytes at n c)
count_read bytes at (Err x) r c e = rw e (count_none bytes at x c)

pub counted_moves : (most : ℕ) (bytes : List ℕ) (p n next : ℕ) (rest : List ℕ) → counted most p (from p bytes) ≡ got n next rest → (next ≡ p + 2) × (rest ≡ from (p + 2) bytes)
unfolding counted
counted_moves most bytes p n next rest e = let i = item_ends limit 2 (unless (ltb most)) bytes p n next rest e in (i.1, i.2)

-- ## items
none_more : {A : Type 0} (xs : List A) → xs ++ [] ≡ xs
none_more [] = refl
none_more (x ∷ xs) = ap (λ ys. x ∷ ys) (none_more xs)

one_more : {A : Type 0} (xs : List A) (x : A) (ys : List A) → (xs ++ x ∷ []) ++ ys ≡ xs ++ x ∷ ys
one_more [] x ys = refl
one_more (z ∷ xs) x ys = ap (λ zs. z ∷ zs) (one_more xs x ys)

-- The n items from the place p on: item j is such a thing for its own place.
pub record Spaced {A : Type 0} (times : ℕ → ℕ) (P : ℕ → A → Type 0) (n p : ℕ) (us : List A) : Type 0 where
  pub many : count us ≡ n
  pub each : (j : ℕ) (u : A) → nth us j ≡ some u → P (p + times j) u

-- Items read after those in xs, from the place p up to the next one.
record Behind {A : Type 0} (bytes : List ℕ) (times : ℕ → ℕ) (P : ℕ → A → Type 0) (n p : ℕ) (xs us : List A) (next : ℕ) (rest : List ℕ) : Type 0 where
  new : List A
  whole : us ≡ xs ++ new
  listed : Spaced times P n p new
  place : next ≡ p + times n
  left : rest ≡ from (p + times n) bytes

-- A number times the stride, by its two equations: so no product of two unknown numbers comes up.
module _ {A : Type 0} (bytes : List ℕ) (m : ℕ) (times : ℕ → ℕ) (zeroth : times 0 ≡ 0) (more : (n : ℕ) → times (suc n) ≡ m + times n)
    (P : ℕ → A → Type 0) (r : Reader A) (g : Moves bytes m P r) where
  behind_none : (p : ℕ) (xs us : List A) (next : ℕ) (rest : List ℕ) → got xs p (from p bytes) ≡ got us next rest → Behind bytes times P 0 p xs us next rest
  unfolding count nth
  behind_none p xs us next rest e = record {
    new = [];
    whole = parts.0 ∙ sym (none_more xs);
    listed = record { many = refl; each = λ j u i. absurd (none_some u i) };
    place = parts.1 ∙ here;
    left = parts.2 ∙ ap (λ n. from n bytes) here;
  }
    where
      here : p ≡ p + times 0
      here = omega (arith, zeroth)

      split : (ys zs : List A) (n k : ℕ) (bs cs : List ℕ) → got ys n bs ≡ got zs k cs → (zs ≡ ys) × (k ≡ n) × (cs ≡ bs)
      split ys zs n k bs cs i = (cc, cc, cc)

      parts : (us ≡ xs) × (next ≡ p) × (rest ≡ from p bytes)
      parts = split xs us p next (from p bytes) rest e

  step : (n p : ℕ) → p + m + times n ≡ p + times (suc n)
  step n p = omega (arith, more n)

  listed_more : (n p : ℕ) (x : A) (us : List A) → P p x → Spaced times P n (p + m) us → Spaced times P (suc n) p (x ∷ us)
  unfolding count nth
  listed_more n p x us h l = record { many = ap suc l.many; each = λ j u i. go j u i }
    where
      go : (j : ℕ) (u : A) → nth (x ∷ us) j ≡ some u → P (p + times j) u
      go zero u i = subst (λ k. P k u) (let q : p ≡ p + times 0 = omega (arith, zeroth) in q) (subst (λ y. P p y) (some_inj x u i) h)
      go (suc j) u i = subst (λ k. P k u) (step j p) (l.each j u i)

  behind : (n p : ℕ) (xs us : List A) (next : ℕ) (rest : List ℕ) → items (λ ys. r) n xs p (from p bytes) ≡ got us next rest → Behind bytes times P n p xs us next rest
  unfolding items
  behind zero p xs us next rest e = behind_none p xs us next rest e
  behind (suc n) p xs us next rest e =
      let w = went g (λ x. items (λ ys. r) n (xs ++ x ∷ [])) p (p + m) us next rest refl e in
      let b = behind n (p + m) (xs ++ w.value ∷ []) us next rest w.then in
      record {
        new = w.value ∷ b.new;
        whole = b.whole ∙ one_more xs w.value b.new;
        listed = listed_more n p w.value b.new w.such b.listed;
        place = b.place ∙ step n p;
        left = b.left ∙ ap (λ k. from k bytes) (step n p);
      }

  -- After a list whose count is k: its items, and what follows at their end q.
  pub list_went : {B : Type 0} (f : List A → Reader B) (p q k : ℕ) (b : B) (next : ℕ) (rest : List ℕ) → CountRead bytes p k → p + 2 + times k ≡ q
      → onward (list_of r p (from p bytes)) f ≡ got b next rest → Went (Spaced times P k (p + 2)) f bytes q b next rest
  unfolding list_of section
  list_went f p q k b next rest c h e =
      let o = parted (list_of r p (from p bytes)) f b next rest e in
      let n = parted (counted 64 p (from p bytes)) (λ n. items (λ ys. r) n []) o.value o.place o.left o.first in
      let s = c.is n.value n.place n.left n.first in
      let d = counted_moves 64 bytes p n.value n.place n.left n.first in
      let i = subst (λ j. items (λ ys. r) j [] (p + 2) (from (p + 2) bytes) ≡ got o.value o.place o.left) (sym s)
      (subst (λ j. items (λ ys. r) n.value [] j (from (p + 2) bytes) ≡ got o.value o.place o.left) d.0
      (subst (λ bs. items (λ ys. r) n.value [] n.place bs ≡ got o.value o.place o.left) d.1 n.second)) in
      let g = behind k (p + 2) [] o.value o.place o.left i in
      record {
        value = o.value;
        such = subst (λ us. Spaced times P k (p + 2) us) (sym g.whole) g.listed;
        then =
            subst (λ j. f o.value j (from j bytes) ≡ got b next rest) h
            (subst (λ j. f o.value j (from (p + 2 + times k) bytes) ≡ got b next rest) g.place
            (subst (λ bs. f o.value o.place bs ≡ got b next rest) g.left o.second));
      }

-- Items of two bytes: numbers.
pub numbers_went : {A B : Type 0} (bytes : List ℕ) (xs : List A) (f : List A → Reader B) (p q k : ℕ) (b : B) (next : ℕ) (rest : List ℕ) → CountRead bytes p k → p + 2 + 2 * k ≡ q
    → onward (list_of (one_of xs) p (from p bytes)) f ≡ got b next rest → Went (NamedAll bytes xs (p + 2) k) f bytes q b next rest
numbers_went bytes xs f p q k b next rest c h e =
    let w = list_went bytes 2 (λ n. 2 * n) (omega arith) (λ n. omega arith) _ (one_of xs) (one_of_moves xs bytes) f p q k b next rest c h e in
    record { value = w.value; such = record { many = w.such.many; each = w.such.each }; then = w.then }

-- ## rows of two numbers
module _ {A B C : Type 0} (bytes : List ℕ) (xs : List A) (ys : List B) (one : C → A) (two : C → B) (row : A → B → C) (fst : (a : A) (b : B) → one (row a b) ≡ a)
    (snd : (a : A) (b : B) → two (row a b) ≡ b) (r : Reader A) (g : Moves bytes 2 (λ p x. Named xs (number_at bytes p) x) r) where
  -- Where r reads the first number.
  unfoldable pub row_reader : Reader C
  row_reader at bs = onward (r at bs) (λ a at₁ bs₁. onward (one_of ys at₁ bs₁) (λ b at₂ bs₂. got (row a b) at₂ bs₂))

  pub row_moves : Moves bytes 4 (λ p u. (Named xs (number_at bytes p) (one u)) × (Named ys (number_at bytes (p + 2)) (two u))) row_reader
  unfolding row_reader
  row_moves = record {
    at = λ p u next rest e.
        let w = went g _ p (p + 2) u next rest refl e in
        let l = went (one_of_moves ys bytes) (λ b at₂ bs₂. got (row w.value b) at₂ bs₂) (p + 2) (p + 4) u next rest (omega arith) w.then in
        let s = read_is (row w.value l.value) u (p + 4) next (from (p + 4) bytes) rest l.then in
        let t = read_ends (row w.value l.value) u (p + 4) next (from (p + 4) bytes) rest l.then in (
          (
            subst (λ a. Named xs (number_at bytes p) a) (sym (fst w.value l.value) ∙ ap one (sym s)) w.such,
            subst (λ b. Named ys (number_at bytes (p + 2)) b) (sym (snd w.value l.value) ∙ ap two (sym s)) l.such,
          ),
          t.0,
          t.1,
        );
  }

  pub rows_went : {D : Type 0} (f : List C → Reader D) (p q k : ℕ) (b : D) (next : ℕ) (rest : List ℕ) → CountRead bytes p k → p + 2 + 4 * k ≡ q
      → onward (list_of row_reader p (from p bytes)) f ≡ got b next rest → Went (NamedRows bytes xs ys one two (p + 2) k) f bytes q b next rest
  rows_went f p q k b next rest c h e =
      let w = list_went bytes 4 (λ n. 4 * n) (omega arith) (λ n. omega arith) _ row_reader row_moves f p q k b next rest c h e in
      record { value = w.value; such = record { many = w.such.many; first = λ j u i. (w.such.each j u i).0; second = λ j u i. (w.such.each j u i).1 }; then = w.then }
