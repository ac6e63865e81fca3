-- Tables of zeros are those of the class environment with no classes.
use mathlib.Core.Path.{◌≡◌, refl, sym, ap, ◌∙◌}
use mathlib.Core.Bool.{false, false≢true}
use mathlib.Core.List.{List, map}
use Prim.Native.Nat.{ℕ, ◌+◌, ◌*◌, ◌≤◌}
use native.Mathlib.Omega.{arith}
use lib.Dec.{ltb}
use lib.ListN.{length, get_or}
use borrow.Author.Tests.{le-ltb}
use Rattle.meaning.specs.Base.{found}
use Rattle.meaning.specs.Map.{get}
use Rattle.meaning.specs.Classes.{supers_of, no_classes, lookup_method}
use Rattle.names.specs.Names.{name_of}
use Rattle.supers.specs.ClassTable.{declared_at, Supers}
use Rattle.supers.proofs.ClassLaws.{none_class, supers_end}
use Rattle.classes.specs.Growing.{Declared, ClassTable}
use Rattle.classes.specs.Method.{Methods}
use Rattle.classes.proofs.Grown.{and_false}
use Rattle.classes.proofs.Looking.{looks_none}

module _ (cl : List ℕ) (zeros : (j : ℕ) → get_or cl j 0 ≡ 0) where
  -- No class is declared.
  zero_row : (c : ℕ) → declared_at cl c ≡ false
  unfolding declared_at
  zero_row c = let z = zeros (2 * c) in rw (le-ltb (2 * c + 1) (get_or cl (2 * c) 0) (omega arith)) (and_false (ltb (2 * c + 1) (length cl)))

  -- It is a class table.
  pub empty_table : (rows : ℕ) → 2 * rows ≤ length cl → ClassTable cl rows (2 * rows)
  empty_table rows h = record {
    first = omega arith;
    fits = h;
    after = λ c k e. absurd (false≢true (sym (zero_row c) ∙ e));
    before = λ c k e. absurd (false≢true (sym (zero_row c) ∙ e));
    names = λ j k. let z = zeros j in omega arith;
  }

  -- It has the classes that there are.
  pub empty_declared : (ns : List ℕ) → Declared ns cl no_classes
  unfolding get
  empty_declared ns = record { is = λ c. sym (zero_row c) }

  -- It has their superclasses.
  pub empty_supers : (ns : List ℕ) → Supers ns cl no_classes
  unfolding get supers_of
  empty_supers ns = record { is = λ c. sym (ap (map (name_of ns)) (supers_end cl c 0 (sym (none_class cl c 0 (zero_row c))))) }

-- And a method table of zeros.
pub empty_methods : (mt : List ℕ) → ((j : ℕ) → get_or mt j 0 ≡ 0) → (ns w : List ℕ) (top : ℕ) → Methods ns w top mt no_classes
unfolding get found lookup_method
empty_methods mt zeros ns w top = record { is = λ m. rw (← (looks_none mt m (zeros (2 * m))).at) refl }
