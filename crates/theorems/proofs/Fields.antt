-- What is found in a record's fields where they are put together from several lists.
use mathlib.Core.Path.{◌≡◌, refl, ◌∙◌, subst}
use mathlib.Core.Bool.{Bool, true, false}
use mathlib.Core.List.{List, [], ◌∷◌, ◌++◌}
use mathlib.Core.Option.{Option, none, some}
use mathlib.Core.Logic.{◌≢◌}
use Prim.Native.Nat.{ℕ}
use native.Mathlib.Omega.{arith}
use Rattle.meaning.specs.Base.{is_yes, if, first}
use Rattle.meaning.specs.Ast.{Name, Field, method, super, same_field, Core}
use Rattle.meaning.specs.Select.{field_of}
use Rattle.theorems.proofs.Tests.{is_yes_of, is_no_of}

-- A field of that name is found.
abbrev pub HasField : List (Field × Core) → Field → Type 0
HasField fs m = (f : Field × Core) × (field_of fs m ≡ some f)

-- No superclass is among the fields.
abbrev pub NoSupers : List (Field × Core) → Type 0
NoSupers fs = (c s : Name) → field_of fs (super c s) ≡ none

-- The first field is found by its own name.
pub field_here : (m : Field) (e : Core) (fs : List (Field × Core)) → field_of ((m, e) ∷ fs) m ≡ some (m, e)
unfolding field_of first
field_here m e fs = rw (is_yes_of (same_field m m) refl) refl

-- It hides no field of another name.
pub field-later : (m : Field) (e : Core) (fs : List (Field × Core)) (x : Field) → m ≢ x → field_of ((m, e) ∷ fs) x ≡ field_of fs x
unfolding field_of first
field-later m e fs x h = rw (is_no_of (same_field m x) h) refl

-- A field more hides none entirely.
pub more_fields : (f : Field × Core) (fs : List (Field × Core)) (x : Field) → HasField fs x → HasField (f ∷ fs) x
more_fields f fs x h = go (same_field f.0 x)
  where
    go : Dec (f.0 ≡ x) → HasField (f ∷ fs) x
    go (yes e) = (f, subst (λ (y : Field). field_of (f ∷ fs) y ≡ some f) e (field_here f.0 f.1 fs))
    go (no n) = (h.0, field-later f.0 f.1 fs x n ∙ h.1)

-- A method is no superclass.
pub method_not_super : (m c s : Name) → method m ≢ super c s
method_not_super m c s e = let z : ◌≡◌ {A = ℕ} 0 1 = cc in omega arith

-- So a method before them leaves the superclasses' fields.
pub method_before : (m : Name) (e : Core) (fs : List (Field × Core)) → NoSupers fs → NoSupers ((method m, e) ∷ fs)
method_before m e fs h c s = field-later (method m) e fs (super c s) (method_not_super m c s) ∙ h c s

-- What the first fields have is found there.
pub field_left : (xs ys : List (Field × Core)) (m : Field) (f : Field × Core) → field_of xs m ≡ some f → field_of (xs ++ ys) m ≡ some f
unfolding field_of first
field_left [] ys m f e = cc
field_left (x ∷ xs) ys m f e = go (is_yes (same_field x.0 m)) e (field_left xs ys m f)
  where
    go : (b : Bool) → if b (some x) (field_of xs m) ≡ some f → (field_of xs m ≡ some f → field_of (xs ++ ys) m ≡ some f) → if b (some x) (field_of (xs ++ ys) m) ≡ some f
    go true h ih = h
    go false h ih = ih h

-- What they have not is found in the others.
pub field_right : (xs ys : List (Field × Core)) (m : Field) → field_of xs m ≡ none → field_of (xs ++ ys) m ≡ field_of ys m
unfolding field_of first
field_right [] ys m e = refl
field_right (x ∷ xs) ys m e = go (is_yes (same_field x.0 m)) e (field_right xs ys m)
  where
    go : (b : Bool) → if b (some x) (field_of xs m) ≡ none → (field_of xs m ≡ none → field_of (xs ++ ys) m ≡ field_of ys m) → if b (some x) (field_of (xs ++ ys) m) ≡ field_of ys m
    go true h ih = cc
    go false h ih = ih h

-- A field of the first list is one of both.
pub has_left : (xs ys : List (Field × Core)) (m : Field) → HasField xs m → HasField (xs ++ ys) m
has_left xs ys m h = (h.0, field_left xs ys m h.0 h.1)

-- So is a field of the second, if only as the name of an earlier one.
pub has_right : (xs ys : List (Field × Core)) (m : Field) → HasField ys m → HasField (xs ++ ys) m
has_right xs ys m h = go (field_of xs m) refl
  where
    go : (o : Option (Field × Core)) → field_of xs m ≡ o → HasField (xs ++ ys) m
    go none e = (h.0, field_right xs ys m e ∙ h.1)
    go (some f) e = (f, field_left xs ys m f e)
