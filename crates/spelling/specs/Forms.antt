-- What the functions of this crate say of a text.
use Rattle.std.specs.Prelude.{◌≡◌, Bool, true, false, List, ℕ}
use Rattle.meaning.specs.Base.{eqb}
use Rattle.meaning.specs.Text.{packed}
use Rattle.meaning.specs.Ast.{Name}
use Rattle.meaning.specs.Reserved.{made_variable, made_name}
use Rattle.names.specs.declared.Key.{Key}
use Rattle.names.specs.Keys.{bytes_of}
use Rattle.spelling.specs.declared.Form.{Form}
use Rattle.spelling.specs.declared.Form.TheVariants.{Free, Variable, Word}

-- The words hold the bytes of a text, and zeros after them.
pub record Packs (cs : List ℕ) (k : Key) : Type 0 where
  pub bytes : bytes_of k ≡ packed 32 cs
  pub alone : k.over ≡ 0

-- The form is that of a type variable that the checker makes.
abbrev pub like_variable : Form → Bool
like_variable Free = false
like_variable Variable = true
like_variable Word = false

-- The form is that of another name that the checker makes.
abbrev pub like_word : Form → Bool
like_word Free = false
like_word Variable = false
like_word Word = true

-- A name has a form: no name is like a variable and like a word at once.
pub record FormIs (x : Name) (f : Form) : Type 0 where
  pub variable : made_variable x ≡ like_variable f
  pub word : made_name x ≡ like_word f

-- A name's form as a word of the index: 1 where the checker makes such type variables, 2 where it makes such names, else
-- another number.
pub record FormWord (x : Name) (w : ℕ) : Type 0 where
  pub variable : made_variable x ≡ eqb w 1
  pub word : made_name x ≡ eqb w 2
