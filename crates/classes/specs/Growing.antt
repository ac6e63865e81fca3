-- The class table as it grows: which classes are declared, and what always holds of its words.
use Rattle.std.specs.Prelude.{◌≡◌, Bool, true, false, List, ℕ, ◌+◌, ◌*◌, ◌<◌, ◌≤◌, length, get_or}
use Rattle.std.proofs.Math.Option.{Option, none, some}
use Rattle.meaning.specs.Classes.{ClassEnv, class_of}
use Rattle.names.specs.Names.{name_of}
use Rattle.supers.specs.ClassTable.{declared_at}

-- There is something.
abbrev pub is_some : {A : Type 0} → Option A → Bool
is_some none = false
is_some (some a) = true

-- The class table has the classes that the class environment has.
pub record Declared (ns cl : List ℕ) (ce : ClassEnv) : Type 0 where
  pub is : (c : ℕ) → is_some (class_of ce (name_of ns c)) ≡ declared_at cl c

-- The rows of so many names, and after them, up to word `used`, the superclasses of the classes that are declared: each
-- class has its own stretch there. What lies behind is free, and no word after the rows leads out of them.
pub record ClassTable (cl : List ℕ) (rows used : ℕ) : Type 0 where
  pub first : 2 * rows ≤ used
  pub fits : used ≤ length cl
  pub after : (c : ℕ) → c < rows → declared_at cl c ≡ true → 2 * rows ≤ get_or cl (2 * c) 0
  pub before : (c : ℕ) → c < rows → declared_at cl c ≡ true → get_or cl (2 * c) 0 + get_or cl (2 * c + 1) 0 ≤ used
  pub names : (j : ℕ) → 2 * rows ≤ j → get_or cl j 0 ≤ rows

-- The first i words of ss stand in w' from word at on; all other words are those of w.
pub record Copied (w w' : List ℕ) (at : ℕ) (ss : List ℕ) (i : ℕ) : Type 0 where
  pub long : length w' ≡ length w
  pub new : (j : ℕ) → j < i → get_or w' (at + j) 0 ≡ get_or ss j 0
  pub low : (j : ℕ) → j < at → get_or w' j 0 ≡ get_or w j 0
  pub high : (j : ℕ) → at + i ≤ j → get_or w' j 0 ≡ get_or w j 0
