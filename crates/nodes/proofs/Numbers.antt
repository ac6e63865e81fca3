-- Numbers of things and of names: what the code finds is the definition's verdict.
use mathlib.Core.Path.{◌≡◌, refl, sym, ap, ◌∙◌}
use mathlib.Core.Bool.{Bool, false}
use mathlib.Core.List.{List}
use Prim.Native.Nat.{ℕ, ◌+◌}
use lib.ListN.{get_or}
use Rattle.std.specs.Result.{IsErrAnd}
use Rattle.errors.proofs.Thrown.{thrown}
use Rattle.meaning.specs.Base.{eqb, count}
use Rattle.meaning.specs.Ast.{Name}
use Rattle.meaning.specs.Errors.{reserved}
use Rattle.meaning.specs.Reserved.{made_variable, made_name}
use Rattle.meaning.specs.Reader.{Reader, from, item, unless, one_of, pair}
use Rattle.meaning.specs.File.{variable, word, pred_entry}
use Rattle.theorems.proofs.Tests.{eqb_of, is_no_of}
use Rattle.errors.specs.declared.Refusal.TheVariants.{Format, Reserved}
use Rattle.spelling.specs.Forms.{FormWord}
use Rattle.std.specs.Prelude.{Result, Ok, Err}
use Rattle.errors.specs.declared.Refusal.{Refusal}
use Rattle.std.specs.Prelude.{Some, None}
use Rattle.reader.specs.Verdicts.{Picks}
use Rattle.reader.proofs.Counts.{picked, none_picked, item_got, item_fails, item_bad, passed, failed}
use Rattle.reader.proofs.Sequence.{goes, stops, ends, paired}
use Rattle.nodes.specs.declared.Counts.{Counts}
use Rattle.nodes.specs.declared.Section.{Section}
use Rattle.nodes.specs.declared.Section.TheVariants.{Names, Types, Exprs}
use Rattle.nodes.specs.declared.Use.{Use}
use Rattle.nodes.specs.declared.Use.TheVariants.{Variable, Word}
use Rattle.nodes.specs.Known.{Before, Sized, Known, Gives}
use Rattle.nodes.specs.Rows.{things, many_of, name_for, reserved_form}
use native.Mathlib.Decide.{ℕ_discrete}

-- The things of a section are as many as the code counts.
counts : (n : Counts) (s : Before) (of : Section) → Sized n s → count (things of s) ≡ many_of n of
counts n s Names k = k.names
counts n s Types k = k.types
counts n s Exprs k = k.exprs

pub one_of_at : (n : Counts) (of : Section) (bytes : List ℕ) (at v m : ℕ) → m ≡ many_of n of → Picks m bytes at (Some v)
    → Gives (Sized n) bytes (λ s. one_of (things of s)) at (Ok (at + 2))
one_of_at n of bytes at v m e p = record {
  is = λ s k.
      let q = picked (things of s) m bytes at v (counts n s of k ∙ sym e) p in record { value = q.0; is = q.2; within = p.is.0.1 };
}

pub one_of_none : (n : Counts) (of : Section) (bytes : List ℕ) (at m : ℕ) → m ≡ many_of n of → Picks m bytes at None
    → Gives (Sized n) bytes (λ s. one_of (things of s)) at (Err (Format at))
one_of_none n of bytes at m e p = record { is = λ s k. none_picked (things of s) m bytes at (counts n s of k ∙ sym e) p }

-- ## names for a use
-- The form that no such name may have.
made : Use → Name → Bool
made Variable x = made_variable x
made Word x = made_name x

for_use : (u : Use) (s : Before) → name_for u s ≡ item reserved (one_of s.names) (unless (made u))
unfolding variable word made
for_use Variable s = refl
for_use Word s = refl

made_by : (u : Use) (x : Name) (f : ℕ) → FormWord x f → made u x ≡ eqb f (reserved_form u)
unfolding made
made_by Variable x f h = h.variable
made_by Word x f h = h.word

eqb_no : (a b : ℕ) → (a ≡ b → ⊥) → eqb a b ≡ false
unfolding eqb
eqb_no a b h = is_no_of (ℕ_discrete a b) h

pub name_free : (u : Use) (ix bytes : List ℕ) (n : Counts) (at v : ℕ) → Picks n.names bytes at (Some v) → (get_or ix (1_024 + v) 0 ≡ reserved_form u → ⊥)
    → Gives (Known ix n) bytes (λ s. name_for u s) at (Ok (at + 2))
name_free u ix bytes n at v p h = record {
  is = λ s k.
      let q = picked s.names n.names bytes at v k.sized.names p in
      let f = made_by u q.0 _ (k.forms.at v q.0 q.1) in
      record {
        value = q.0;
        is = ap (λ (r : Reader Name). r at (from at bytes)) (for_use u s) ∙ item_got reserved (one_of s.names) (unless (made u)) at _ q.0 q.0 _ _ q.2 (passed (made u) q.0 (f ∙ eqb_no _ _ h));
        within = p.is.0.1;
      };
}

pub name_reserved : (u : Use) (ix bytes : List ℕ) (n : Counts) (at v : ℕ) → Picks n.names bytes at (Some v) → get_or ix (1_024 + v) 0 ≡ reserved_form u
    → Gives (Known ix n) bytes (λ s. name_for u s) at (Err (Reserved at))
name_reserved u ix bytes n at v p h = record {
  is = λ s k.
      let q = picked s.names n.names bytes at v k.sized.names p in
      let f = made_by u q.0 _ (k.forms.at v q.0 q.1) in
      ap (λ (r : Reader Name). r at (from at bytes)) (for_use u s) ∙ item_fails reserved (one_of s.names) (unless (made u)) at _ q.0 _ _ q.2 (failed (made u) q.0 (f ∙ eqb_of _ _ h));
}

pub name_none : (u : Use) (ix bytes : List ℕ) (n : Counts) (at : ℕ) → Picks n.names bytes at None
    → Gives (Known ix n) bytes (λ s. name_for u s) at (Err (Format at))
name_none u ix bytes n at p = record {
  is = λ s k.
      ap (λ (r : Reader Name). r at (from at bytes)) (for_use u s) ∙ item_bad reserved (one_of s.names) (unless (made u)) at _ _ (none_picked s.names n.names bytes at k.sized.names p);
}

-- ## one reader after another
-- What `?` hands on is the refusal.
pub refused : {A : Type 0} (P : Before → Type 0) (bytes : List ℕ) (read : Before → Reader A) (at : ℕ) (e : Refusal) (r : Result ℕ Refusal) → IsErrAnd r (λ d. d ≡ e)
    → Gives P bytes read at (Err e) → Gives P bytes read at r
refused P bytes read at e r h g = rw (thrown r h) g

-- Counts alone are known where forms are too.
pub sized : {A : Type 0} (ix bytes : List ℕ) (n : Counts) (read : Before → Reader A) (at : ℕ) (r : Result ℕ Refusal) → Gives (Sized n) bytes read at r → Gives (Known ix n) bytes read at r
sized ix bytes n read at r g = record { is = λ s k. g.is s k.sized }

-- A pair: its first part refuses, or the second one has the verdict.
pub pair_bad : {A B : Type 0} (P : Before → Type 0) (bytes : List ℕ) (r₁ : Before → Reader A) (r₂ : Before → Reader B) (at : ℕ) (e : _)
    → Gives P bytes r₁ at (Err e) → Gives P bytes (λ s. pair (r₁ s) (r₂ s)) at (Err e)
unfolding pair
pair_bad P bytes r₁ r₂ at e g = record { is = λ s k. stops (r₁ s at (from at bytes)) _ _ (g.is s k) }

pub pair_on : {A B : Type 0} (P : Before → Type 0) (bytes : List ℕ) (r₁ : Before → Reader A) (r₂ : Before → Reader B) (at p : ℕ) (r : Result ℕ Refusal)
    → Gives P bytes r₁ at (Ok p) → Gives P bytes r₂ p r → Gives P bytes (λ s. pair (r₁ s) (r₂ s)) at r
unfolding pair
pair_on P bytes r₁ r₂ at p r g h = record {
  is = λ s k.
      goes bytes (r₁ s at (from at bytes)) _ p r (g.is s k) λ a. ends bytes (r₂ s p (from p bytes)) (λ b. (a, b)) r (h.is s k);
}

-- A class and a type.
pub pred_pair : (n : Counts) (bytes : List ℕ) (at : ℕ) (r : Result ℕ Refusal) → Gives (Sized n) bytes (λ s. pair (one_of s.names) (one_of s.types)) at r
    → Gives (Sized n) bytes (λ s. pred_entry s.names s.types) at r
unfolding pred_entry
pred_pair n bytes at r g = record { is = λ s k. paired bytes (one_of s.names) (one_of s.types) _ at (from at bytes) r (g.is s k) }
