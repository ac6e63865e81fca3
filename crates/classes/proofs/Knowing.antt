-- Laws of the loop over superclasses, and of `supers_known` one by one.
use mathlib.Core.Path.{◌≡◌, refl, ◌∙◌}
use mathlib.Core.Bool.{Bool, true, false, not, true≢false, false≢true}
use mathlib.Core.List.{List, [], ◌∷◌, map}
use mathlib.Core.Option.{Option, none, some}
use Prim.Native.Nat.{ℕ, zero, suc, ◌+◌, ◌<◌, ◌≤◌}
use native.Mathlib.Decide.{dec_lt}
use native.Mathlib.Omega.{arith}
use lib.ListN.{length, get_or}
use Rattle.meaning.specs.Ast.{Name}
use Rattle.meaning.specs.Errors.{missing_superclass}
use Rattle.meaning.specs.Budget.{done, refused, after, or_refuse}
use Rattle.meaning.specs.Classes.{ClassEnv, ClassInfo, class_of, supers_known}
use Rattle.names.specs.Names.{name_of}
use Rattle.supers.specs.ClassTable.{declared_at}
use Rattle.supers.proofs.ClassLaws.{turned_true, turned_false}
use Rattle.classes.specs.Growing.{is_some, Declared}
use Rattle.classes.specs.Adding.{Knows}
use Rattle.std.specs.Prelude.{Ok, Err}

-- The first i superclasses are declared.
pub record Sure (cl ss : List ℕ) (i : ℕ) : Type 0 where
  pub is : (j : ℕ) → j < i → declared_at cl (get_or ss j 0) ≡ true

-- Before the loop.
pub sure_none : (cl ss : List ℕ) → Sure cl ss 0
sure_none cl ss = record { is = λ j h. absurd (omega arith) }

-- One more is declared.
pub sure_next : {cl ss : List ℕ} {i : ℕ} {r : Bool} → Sure cl ss i → r ≡ declared_at cl (get_or ss i 0) → not r ≡ false → Sure cl ss (i + 1)
sure_next {cl} {ss} {i} S e h = record { is = λ j k. go j k (dec_lt j i) }
  where
    go : (j : ℕ) → j < i + 1 → Dec (j < i) → declared_at cl (get_or ss j 0) ≡ true
    go j k (yes x) = S.is j x
    go j k (no x) = let z : j ≡ i = omega arith in rw z (turned_false e h)

module _ {ns cl : List ℕ} {ce : ClassEnv} (D : Declared ns cl ce) (c : Name) (left : ℕ) where
  -- A superclass that is declared is passed.
  known_one : (s : ℕ) (rest : List Name) → declared_at cl s ≡ true → supers_known ce c (name_of ns s ∷ rest) left ≡ supers_known ce c rest left
  unfolding supers_known or_refuse after
  known_one s rest h = go (class_of ce (name_of ns s)) refl (D.is s ∙ h)
    where
      go : (o : Option ClassInfo) → class_of ce (name_of ns s) ≡ o → is_some (class_of ce (name_of ns s)) ≡ true → supers_known ce c (name_of ns s ∷ rest) left ≡ supers_known ce c rest left
      go none e f = absurd (false≢true (rw (← f, e)))
      go (some ci) e f = rw e

  -- One that is not is refused.
  missing_one : (s : ℕ) (rest : List Name) → declared_at cl s ≡ false → supers_known ce c (name_of ns s ∷ rest) left ≡ refused (missing_superclass c (name_of ns s)) left
  unfolding supers_known or_refuse after
  missing_one s rest h = go (class_of ce (name_of ns s)) refl (D.is s ∙ h)
    where
      go : (o : Option ClassInfo) → class_of ce (name_of ns s) ≡ o → is_some (class_of ce (name_of ns s)) ≡ false → supers_known ce c (name_of ns s ∷ rest) left ≡ refused (missing_superclass c (name_of ns s)) left
      go none e f = rw e
      go (some ci) e f = absurd (true≢false (rw (← f, e)))

  -- All are declared.
  all_known : (ss : List ℕ) → ((j : ℕ) → j < length ss → declared_at cl (get_or ss j 0) ≡ true) → supers_known ce c (map (name_of ns) ss) left ≡ done tt left
  unfolding supers_known
  all_known [] h = refl
  all_known (s ∷ ss) h = known_one s (map (name_of ns) ss) (h 0 (omega arith)) ∙ all_known ss (λ j k. h (suc j) (omega arith))

  -- All before number i are, and that one is not.
  one_missing : (ss : List ℕ) (i : ℕ) → ((j : ℕ) → j < i → declared_at cl (get_or ss j 0) ≡ true) → i < length ss → declared_at cl (get_or ss i 0) ≡ false
      → supers_known ce c (map (name_of ns) ss) left ≡ refused (missing_superclass c (name_of ns (get_or ss i 0))) left
  one_missing [] i h k e = absurd (omega arith)
  one_missing (s ∷ ss) zero h k e = missing_one s (map (name_of ns) ss) e
  one_missing (s ∷ ss) (suc i) h k e = known_one s (map (name_of ns) ss) (h 0 (omega arith)) ∙ one_missing ss i (λ j x. h (suc j) (omega arith)) (omega arith) e

-- The loop is through.
pub knows_all : {cl ss : List ℕ} {i : ℕ} → Sure cl ss i → length ss ≤ i → Knows cl ss (Ok tt)
knows_all {cl} {ss} {i} S h = record {
  rows = λ j k. S.is j (omega arith);
  answer = λ ns ce D c left. all_known D c left ss (λ j k. S.is j (omega arith));
}

-- One is missing.
pub knows_missing : {cl ss : List ℕ} {i : ℕ} {r : Bool} → Sure cl ss i → i < length ss → r ≡ declared_at cl (get_or ss i 0) → not r ≡ true → Knows cl ss (Err (get_or ss i 0))
knows_missing {cl} {ss} {i} S h e f = record {
  rows = tt;
  answer = λ ns ce D c left. one_missing D c left ss i S.is h (turned_true e f);
}
