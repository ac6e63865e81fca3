-- The order of two keys is the order of the first words that differ; they are equal where all words are.
use mathlib.Core.Path.{◌≡◌, refl, ap, sym, ◌∙◌}
use native.Mathlib.Omega.{arith}
use mathlib.Core.Bool.{Bool, true, false, ◌&&◌}
use Prim.Native.Nat.{ℕ, ◌+◌, ◌*◌, ◌^◌, ◌<◌}
use native.Mathlib.Decide.{ℕ_discrete}
use lib.Dec as code
use Rattle.meaning.specs.Base.{eqb, ltb}
use Rattle.meaning.specs.Ast.{TyVar, key, tie, tyvar_before}
use Rattle.names.specs.declared.Key.{Key}
use Rattle.names.specs.Keys.{four, bytes_of, key_number}
use Rattle.std.specs.Prelude.{Option, Some, cond}
use Rattle.std.proofs.Common.{Ordering, Less, Equal, Greater}
use Rattle.std.specs.Ordering.{is_lt, is_some_and, partial_ordering_then, nat_cmp}
use Rattle.names.proofs.Tests.{lt_code, lt_no, eq_code, eq_yes, eq_no}
use Rattle.names.proofs.Words.{four_below, first_differs, first_agrees, first_unequal, second_unequal, same_parts}

-- The lower words of a key are words.
pub record Fit (k : Key) : Type 0 where
  pub a_fits : k.a < 2 ^ 64
  pub b_fits : k.b < 2 ^ 64
  pub c_fits : k.c < 2 ^ 64
  pub d_fits : k.d < 2 ^ 64

-- The bytes of such a key are 32.
bytes_below : {k : Key} → Fit k → bytes_of k < 2 ^ 256
unfolding bytes_of
bytes_below {k} f = four_below k.a k.b k.c k.d f.a_fits f.b_fits f.c_fits f.d_fits

-- ## order
-- A difference in the first word.
pub over_differs : (p q : Key) → Fit p → Fit q → (p.over ≡ q.over → ⊥) → code.ltb p.over q.over ≡ ltb (key_number p) (key_number q)
unfolding key_number
over_differs p q f g n = lt_code p.over q.over ∙ sym (first_differs (2 ^ 256) p.over q.over _ _ n (bytes_below f) (bytes_below g))

-- Below equal first words the bytes decide.
over_agrees : (p q : Key) → p.over ≡ q.over → ltb (key_number p) (key_number q) ≡ ltb (bytes_of p) (bytes_of q)
unfolding key_number
over_agrees p q e = first_agrees (2 ^ 256) p.over q.over _ _ e

-- Below a difference in the first three words the last one says nothing.
last_word : (p q : Key) → Fit p → Fit q → (h h' : ℕ) → (h ≡ h' → ⊥) → ltb (h * 2 ^ 64 + p.d) (h' * 2 ^ 64 + q.d) ≡ ltb h h'
last_word p q f g h h' n = first_differs (2 ^ 64) h h' _ _ n f.d_fits g.d_fits

-- The same for the last two words.
last_words : (p q : Key) → Fit p → Fit q → (h h' : ℕ) → (h ≡ h' → ⊥) → ltb ((h * 2 ^ 64 + p.c) * 2 ^ 64 + p.d) ((h' * 2 ^ 64 + q.c) * 2 ^ 64 + q.d) ≡ ltb h h'
last_words p q f g h h' n = last_word p q f g _ _ (first_unequal (2 ^ 64) h h' _ _ n f.c_fits g.c_fits) ∙ first_differs (2 ^ 64) h h' _ _ n f.c_fits g.c_fits

-- A difference in the second word.
pub a_differs : (p q : Key) → Fit p → Fit q → p.over ≡ q.over → (p.a ≡ q.a → ⊥) → code.ltb p.a q.a ≡ ltb (key_number p) (key_number q)
unfolding bytes_of four
a_differs p q f g e n = lt_code p.a q.a ∙ sym (over_agrees p q e
    ∙ last_words p q f g _ _ (first_unequal (2 ^ 64) _ _ _ _ n f.b_fits g.b_fits) ∙ first_differs (2 ^ 64) p.a q.a _ _ n f.b_fits g.b_fits)

-- A difference in the third word.
pub b_differs : (p q : Key) → Fit p → Fit q → p.over ≡ q.over → p.a ≡ q.a → (p.b ≡ q.b → ⊥) → code.ltb p.b q.b ≡ ltb (key_number p) (key_number q)
unfolding bytes_of four
b_differs p q f g e i n = lt_code p.b q.b ∙ sym (over_agrees p q e
    ∙ last_words p q f g _ _ (rw i (second_unequal (2 ^ 64) _ _ _ n)) ∙ first_agrees (2 ^ 64) p.a q.a _ _ i)

-- A difference in the fourth word.
pub c_differs : (p q : Key) → Fit p → Fit q → p.over ≡ q.over → p.a ≡ q.a → p.b ≡ q.b → (p.c ≡ q.c → ⊥) → code.ltb p.c q.c ≡ ltb (key_number p) (key_number q)
unfolding bytes_of four
c_differs p q f g e i j n = lt_code p.c q.c ∙ sym (over_agrees p q e
    ∙ last_word p q f g _ _ (rw (i, j) (second_unequal (2 ^ 64) _ _ _ n)) ∙ first_agrees (2 ^ 64) _ _ _ _ (cc))

-- All words but the last are equal.
pub d_decides : (p q : Key) → p.over ≡ q.over → p.a ≡ q.a → p.b ≡ q.b → p.c ≡ q.c → code.ltb p.d q.d ≡ ltb (key_number p) (key_number q)
unfolding bytes_of four
d_decides p q e i j k = lt_code p.d q.d ∙ sym (over_agrees p q e ∙ first_agrees (2 ^ 64) _ _ _ _ (cc))

-- ## equality
-- The words of two keys are equal.
pub record SameWords (p q : Key) : Type 0 where
  pub over_same : p.over ≡ q.over
  pub a_same : p.a ≡ q.a
  pub b_same : p.b ≡ q.b
  pub c_same : p.c ≡ q.c
  pub d_same : p.d ≡ q.d

-- Equal keys have equal words.
pub same_words : (p q : Key) → Fit p → Fit q → key_number p ≡ key_number q → SameWords p q
unfolding key_number bytes_of four
same_words p q f g e =
    let h = same_parts (2 ^ 256) p.over q.over (bytes_of p) (bytes_of q) (bytes_below f) (bytes_below g) e in
    let i = same_parts (2 ^ 64) ((p.a * 2 ^ 64 + p.b) * 2 ^ 64 + p.c) ((q.a * 2 ^ 64 + q.b) * 2 ^ 64 + q.c) p.d q.d f.d_fits g.d_fits h.1 in
    let j = same_parts (2 ^ 64) (p.a * 2 ^ 64 + p.b) (q.a * 2 ^ 64 + q.b) p.c q.c f.c_fits g.c_fits i.0 in
    let k = same_parts (2 ^ 64) p.a q.a p.b q.b f.b_fits g.b_fits j.0 in
    record { over_same = h.0; a_same = k.0; b_same = k.1; c_same = j.1; d_same = i.1 }

-- A word differs.
pub unequal : (p q : Key) → Fit p → Fit q → (SameWords p q → ⊥) → false ≡ eqb (key_number p) (key_number q)
unequal p q f g n = sym (eq_no _ _ (λ e. n (same_words p q f g e)))

-- All words but the last are equal.
pub d_tells : (p q : Key) → Fit p → Fit q → p.over ≡ q.over → p.a ≡ q.a → p.b ≡ q.b → p.c ≡ q.c → code.eqb p.d q.d ≡ eqb (key_number p) (key_number q)
unfolding key_number bytes_of four
d_tells p q f g e i j k = eq_code p.d q.d ∙ go (ℕ_discrete p.d q.d)
  where
    go : Dec (p.d ≡ q.d) → eqb p.d q.d ≡ eqb (key_number p) (key_number q)
    go (yes l) = eq_yes _ _ l ∙ sym (eq_yes _ _ (cc))
    go (no n) = eq_no _ _ n ∙ unequal p q f g (λ s. n s.d_same)

-- ## variables
-- Variables of the same bytes are in the order of `tie`.
pub tied_before : (x y : TyVar) (p q : Key) (s r : Bool) → key_number p ≡ key x → key_number q ≡ key y → s ≡ eqb (key_number p) (key_number q) → s ≡ true → r ≡ tie x y → r ≡ tyvar_before x y
unfolding tyvar_before
tied_before x y p q s r e f t u v = rw (← e, ← f, ← t, u) v

-- Others are in the order of their bytes.
pub bytes_before : (x y : TyVar) (p q : Key) (s r : Bool) → key_number p ≡ key x → key_number q ≡ key y → s ≡ eqb (key_number p) (key_number q) → s ≡ false → r ≡ ltb (key_number p) (key_number q) → r ≡ tyvar_before x y
unfolding tyvar_before
bytes_before x y p q s r e f t u v = rw (← e, ← f, ← t, u) v

-- All words are equal, or the keys are not.
pub tells : (p q : Key) → Fit p → Fit q → (code.eqb p.over q.over && (code.eqb p.a q.a && (code.eqb p.b q.b && (code.eqb p.c q.c && code.eqb p.d q.d)))) ≡ eqb (key_number p) (key_number q)
tells p q f g = go (ℕ_discrete p.over q.over) (ℕ_discrete p.a q.a) (ℕ_discrete p.b q.b) (ℕ_discrete p.c q.c)
  where
    go : Dec (p.over ≡ q.over) → Dec (p.a ≡ q.a) → Dec (p.b ≡ q.b) → Dec (p.c ≡ q.c)
        → (code.eqb p.over q.over && (code.eqb p.a q.a && (code.eqb p.b q.b && (code.eqb p.c q.c && code.eqb p.d q.d)))) ≡ eqb (key_number p) (key_number q)
    go (no n) d₁ d₂ d₃ = rw (eq_code p.over q.over ∙ eq_no _ _ n) (unequal p q f g (λ s. n s.over_same))
    go (yes e) (no n) d₂ d₃ = rw (eq_code p.over q.over ∙ eq_yes _ _ e, eq_code p.a q.a ∙ eq_no _ _ n) (unequal p q f g (λ s. n s.a_same))
    go (yes e) (yes i) (no n) d₃ = rw (eq_code p.over q.over ∙ eq_yes _ _ e, eq_code p.a q.a ∙ eq_yes _ _ i, eq_code p.b q.b ∙ eq_no _ _ n) (unequal p q f g (λ s. n s.b_same))
    go (yes e) (yes i) (yes j) (no n) = rw (eq_code p.over q.over ∙ eq_yes _ _ e, eq_code p.a q.a ∙ eq_yes _ _ i, eq_code p.b q.b ∙ eq_yes _ _ j, eq_code p.c q.c ∙ eq_no _ _ n) (unequal p q f g (λ s. n s.c_same))
    go (yes e) (yes i) (yes j) (yes k) = rw (eq_code p.over q.over ∙ eq_yes _ _ e, eq_code p.a q.a ∙ eq_yes _ _ i, eq_code p.b q.b ∙ eq_yes _ _ j, eq_code p.c q.c ∙ eq_yes _ _ k) (d_tells p q f g e i j k)

-- ## derived order
-- Words that differ decide, whatever comes after.
first_word : (a b : ℕ) (p : Option Ordering) → (a ≡ b → ⊥) → is_some_and is_lt (partial_ordering_then (Some (nat_cmp a b)) p) ≡ code.ltb a b
first_word a b p n = go (code.ltb a b) (code.eqb a b) (eq_code a b ∙ eq_no _ _ n)
  where
    go : (l e : Bool) → e ≡ false → is_some_and is_lt (partial_ordering_then (Some (cond l Less (cond e Equal Greater))) p) ≡ l
    go true e h = refl
    go false e h = rw h

-- Equal words leave it to what comes after.
next_word : (a b : ℕ) (p : Option Ordering) → a ≡ b → partial_ordering_then (Some (nat_cmp a b)) p ≡ p
next_word a b p e = go (code.ltb a b) (code.eqb a b) (lt_code a b ∙ rw e (lt_no b b (omega arith))) (eq_code a b ∙ eq_yes _ _ e)
  where
    go : (l m : Bool) → l ≡ false → m ≡ true → partial_ordering_then (Some (cond l Less (cond m Equal Greater))) p ≡ p
    go l m h i = rw (h, i)

-- The words of a key in turn.
abbrev pub words_order : Key → Key → Option Ordering
words_order p q = partial_ordering_then (Some (nat_cmp p.over q.over)) (partial_ordering_then (Some (nat_cmp p.a q.a)) (partial_ordering_then (Some (nat_cmp p.b q.b))
    (partial_ordering_then (Some (nat_cmp p.c q.c)) (Some (nat_cmp p.d q.d)))))

-- That is the order of the keys' numbers.
pub orders : (p q : Key) → Fit p → Fit q → is_some_and is_lt (words_order p q) ≡ ltb (key_number p) (key_number q)
orders p q f g = go (ℕ_discrete p.over q.over) (ℕ_discrete p.a q.a) (ℕ_discrete p.b q.b) (ℕ_discrete p.c q.c)
  where
    last : is_some_and is_lt (Some (nat_cmp p.d q.d)) ≡ code.ltb p.d q.d
    last = tell (code.ltb p.d q.d) (code.eqb p.d q.d)
      where
        tell : (l e : Bool) → is_some_and is_lt (Some (cond l Less (cond e Equal Greater))) ≡ l
        tell true e = refl
        tell false true = refl
        tell false false = refl

    go : Dec (p.over ≡ q.over) → Dec (p.a ≡ q.a) → Dec (p.b ≡ q.b) → Dec (p.c ≡ q.c) → is_some_and is_lt (words_order p q) ≡ ltb (key_number p) (key_number q)
    go (no n) d₁ d₂ d₃ = first_word _ _ _ n ∙ over_differs p q f g n
    go (yes e) (no n) d₂ d₃ = ap (λ o. is_some_and is_lt o) (next_word _ _ _ e) ∙ first_word _ _ _ n ∙ a_differs p q f g e n
    go (yes e) (yes i) (no n) d₃ = ap (λ o. is_some_and is_lt o) (next_word _ _ _ e ∙ next_word _ _ _ i) ∙ first_word _ _ _ n ∙ b_differs p q f g e i n
    go (yes e) (yes i) (yes j) (no n) = ap (λ o. is_some_and is_lt o) (next_word _ _ _ e ∙ next_word _ _ _ i ∙ next_word _ _ _ j) ∙ first_word _ _ _ n ∙ c_differs p q f g e i j n
    go (yes e) (yes i) (yes j) (yes k) = ap (λ o. is_some_and is_lt o) (next_word _ _ _ e ∙ next_word _ _ _ i ∙ next_word _ _ _ j ∙ next_word _ _ _ k) ∙ last ∙ d_decides p q e i j k
