-- The class table: for the class of name c, word 2 * c is a place and word 2 * c + 1 a count; from that place on stand the
-- names of its superclasses, in declared order.
use Rattle.std.specs.Prelude.{◌≡◌, Bool, ◌&&◌, List, [], ◌∷◌, map, ℕ, zero, suc, ◌+◌, ◌*◌, ◌-◌, ltb, length, get_or}
use Rattle.meaning.specs.Base.{if}
use Rattle.meaning.specs.Classes.{ClassEnv, class_of, supers_of}
use Rattle.names.specs.Names.{name_of}
use Rattle.std.specs.Prelude.{Option, Some, None}

-- A class is declared where its row leads to a place after the row. So no word after the rows is taken for a row: the words
-- there are names that have rows, and lead to a place before.
unfoldable pub declared_at : List ℕ → ℕ → Bool
declared_at cl c = ltb (2 * c + 1) (length cl) && ltb (2 * c + 1) (get_or cl (2 * c) 0)

-- The i-th superclass of the class of name c; there is none where a number leads out of the table.
unfoldable pub super_at : List ℕ → ℕ → ℕ → Option ℕ
super_at cl c i =
    if (declared_at cl c) (if (ltb i (get_or cl (2 * c + 1) 0)) (
    if (ltb (get_or cl (2 * c) 0 + i) (length cl)) (Some (get_or cl (get_or cl (2 * c) 0 + i) 0)) None) None) None

-- A superclass and those after it, or none.
abbrev pub with_next : (Option ℕ) → List ℕ → List ℕ
with_next (Some s) ss = s ∷ ss
with_next None ss = []

-- The superclasses from the i-th on, with so much fuel.
unfoldable pub supers_f : ℕ → List ℕ → ℕ → ℕ → List ℕ
supers_f zero cl c i = []
supers_f (suc f) cl c i = with_next (super_at cl c i) (supers_f f cl c (suc i))

-- The superclasses from the i-th on; there are no more than the table has words.
abbrev pub supers_from : List ℕ → ℕ → ℕ → List ℕ
supers_from cl c i = supers_f (length cl - i) cl c i

-- The superclasses.
abbrev pub super_words_of : List ℕ → ℕ → List ℕ
super_words_of cl c = supers_from cl c 0

-- The table says what the class environment has.
pub record Supers (ns cl : List ℕ) (ce : ClassEnv) : Type 0 where
  pub is : (c : ℕ) → supers_of (class_of ce (name_of ns c)) ≡ map (name_of ns) (super_words_of cl c)
