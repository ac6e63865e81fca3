-- Binders with equal predicates: the first of a predicate, and the list of all firsts.
use mathlib.Core.Path.{◌≡◌, refl, ap, sym, ◌∙◌}
use mathlib.Core.Bool.{Bool, true, false}
use mathlib.Core.List.{List, [], ◌∷◌, ◌++◌, append-nil, append_assoc}
use mathlib.Core.Option.{Option, none, some}
use Prim.Native.Nat.{ℕ}
use native.Mathlib.Omega.{arith}
use Rattle.meaning.specs.Base.{if, is_yes, any, first}
use Rattle.meaning.specs.Ast.{Pred, same_pred, Binder}
use Rattle.pending.specs.Owned.{first_of, holds, add_first, firsts_from}

-- ## Tests

-- A decision whose fact holds.
pub yes_is : {P : Type 0} (d : Dec P) → P → is_yes d ≡ true
yes_is (yes p) q = refl
yes_is (no h) q = absurd (h q)

-- One whose fact does not.
pub no_is : {P : Type 0} (d : Dec P) → (P → ⊥) → is_yes d ≡ false
no_is (yes p) n = absurd (n p)
no_is (no h) n = refl

-- What a decision that says yes decided.
pub yes_says : {P : Type 0} (d : Dec P) → is_yes d ≡ true → P
yes_says (yes p) e = p
yes_says (no h) e = absurd (let z : ◌≡◌ {A = ℕ} 0 1 = cc in omega arith)

-- And one that says no.
pub no_says : {P : Type 0} (d : Dec P) → is_yes d ≡ false → P → ⊥
no_says (yes p) e q = let z : ◌≡◌ {A = ℕ} 0 1 = cc in omega arith
no_says (no h) e q = h q

-- ## The first of a predicate

-- A binder with that predicate comes first.
pub first_here : (b : Binder) (bs : List Binder) (p : Pred) → b.1 ≡ p → first_of (b ∷ bs) p ≡ some b
unfolding first
first_here b bs p e = rw (yes_is (same_pred b.1 p) e) refl

-- One with another is passed over.
pub first_there : (b : Binder) (bs : List Binder) (p : Pred) → (b.1 ≡ p → ⊥) → first_of (b ∷ bs) p ≡ first_of bs p
unfolding first
first_there b bs p n = rw (no_is (same_pred b.1 p) n) refl

-- None of no binders.
pub first_none : (p : Pred) → first_of [] p ≡ none
unfolding first
first_none p = refl

-- The first of both lists is that of the first one, if that has one.
pub first_left : {b : Binder} (xs ys : List Binder) (p : Pred) → first_of xs p ≡ some b → first_of (xs ++ ys) p ≡ some b
unfolding first
first_left [] ys p e = cc
first_left {b} (x ∷ xs) ys p e = go (is_yes (same_pred x.1 p)) e (first_left xs ys p)
  where
    go : (t : Bool) → if t (some x) (first_of xs p) ≡ some b → (first_of xs p ≡ some b → first_of (xs ++ ys) p ≡ some b) → if t (some x) (first_of (xs ++ ys) p) ≡ some b
    go true h ih = h
    go false h ih = ih h

-- Else that of the second.
pub first_right : (xs ys : List Binder) (p : Pred) → first_of xs p ≡ none → first_of (xs ++ ys) p ≡ first_of ys p
unfolding first
first_right [] ys p e = refl
first_right (x ∷ xs) ys p e = go (is_yes (same_pred x.1 p)) e (first_right xs ys p)
  where
    go : (t : Bool) → if t (some x) (first_of xs p) ≡ none → (first_of xs p ≡ none → first_of (xs ++ ys) p ≡ first_of ys p) → if t (some x) (first_of (xs ++ ys) p) ≡ first_of ys p
    go true h ih = absurd (let z : ◌≡◌ {A = ℕ} 0 1 = cc in omega arith)
    go false h ih = ih h

-- ## Whether there is one

-- There is none, so none has the predicate.
pub none_holds : (bs : List Binder) (p : Pred) → first_of bs p ≡ none → holds bs p ≡ false
unfolding first any
none_holds [] p e = refl
none_holds (b ∷ bs) p e = go (is_yes (same_pred b.1 p)) e (none_holds bs p)
  where
    go : (t : Bool) → if t (some b) (first_of bs p) ≡ none → (first_of bs p ≡ none → holds bs p ≡ false) → if t true (holds bs p) ≡ false
    go true h ih = absurd (let z : ◌≡◌ {A = ℕ} 0 1 = cc in omega arith)
    go false h ih = ih h

-- There is one, so one has it.
pub some_holds : {x : Binder} (bs : List Binder) (p : Pred) → first_of bs p ≡ some x → holds bs p ≡ true
unfolding first any
some_holds [] p e = absurd (let z : ◌≡◌ {A = ℕ} 0 1 = cc in omega arith)
some_holds {x} (b ∷ bs) p e = go (is_yes (same_pred b.1 p)) e (some_holds bs p)
  where
    go : (t : Bool) → if t (some b) (first_of bs p) ≡ some x → (first_of bs p ≡ some x → holds bs p ≡ true) → if t true (holds bs p) ≡ true
    go true h ih = refl
    go false h ih = ih h

-- ## All firsts

-- A binder whose predicate is there adds nothing.
pub add_known : (ks : List Binder) (b : Binder) → holds ks b.1 ≡ true → add_first ks b ≡ ks
unfolding add_first
add_known ks b e = rw e refl

-- Any other comes last.
pub add-new : (ks : List Binder) (b : Binder) → holds ks b.1 ≡ false → add_first ks b ≡ ks ++ (b ∷ [])
unfolding add_first
add-new ks b e = rw e refl

-- One list, and then the other.
pub firsts_then : (ks xs ys : List Binder) → firsts_from ks (xs ++ ys) ≡ firsts_from (firsts_from ks xs) ys
unfolding firsts_from
firsts_then ks [] ys = refl
firsts_then ks (x ∷ xs) ys = firsts_then (add_first ks x) xs ys

-- The first of a predicate among the firsts is its first of all.
pub first_of_firsts : (ks xs : List Binder) (p : Pred) → first_of (firsts_from ks xs) p ≡ first_of (ks ++ xs) p
unfolding firsts_from
first_of_firsts ks [] p = rw (append-nil ks) refl
first_of_firsts ks (b ∷ xs) p = first_of_firsts (add_first ks b) xs p ∙ go (holds ks b.1) refl
  where
    known : (o : Option Binder) → first_of ks p ≡ o → holds ks b.1 ≡ true → Dec (b.1 ≡ p) → first_of (ks ++ xs) p ≡ first_of (ks ++ (b ∷ xs)) p
    known (some x) f h d = first_left ks xs p f ∙ sym (first_left ks (b ∷ xs) p f)
    known none f h (yes e) = absurd (let u : holds ks b.1 ≡ false = rw e (none_holds ks p f) in let z : ◌≡◌ {A = ℕ} 0 1 = cc in omega arith)
    known none f h (no n) = first_right ks xs p f ∙ sym (first_right ks (b ∷ xs) p f ∙ first_there b xs p n)

    go : (t : Bool) → holds ks b.1 ≡ t → first_of (add_first ks b ++ xs) p ≡ first_of (ks ++ (b ∷ xs)) p
    go true h = rw (add_known ks b h) (known (first_of ks p) refl h (same_pred b.1 p))
    go false h = rw (add-new ks b h) (ap (λ os. first_of os p) (append_assoc ks (b ∷ []) xs))
