-- The names that every session knows: the types, the primitives and the letters of printed types.
use Rattle.std.specs.Prelude.{◌≡◌, List, [], ◌∷◌, ℕ, ◌≤◌, ◌<◌}
use Rattle.std.proofs.Math.Option.{some}
use Rattle.meaning.specs.Base.{nth}
use Rattle.meaning.specs.Ast.{Name, name, called}
use Rattle.names.specs.Names.{name_of}

-- In the order of their rows, 0 to 34.
unfoldable pub built_ins : List Name
built_ins = called "Int" ∷ called "Bool" ∷ called "primAddInt" ∷ called "primAndBool"
    ∷ called "primEqBool" ∷ called "primEqInt" ∷ called "primLtInt" ∷ called "primMulInt" ∷ called "primNotBool"
    ∷ called "a" ∷ called "b" ∷ called "c" ∷ called "d" ∷ called "e" ∷ called "f" ∷ called "g" ∷ called "h" ∷ called "i"
    ∷ called "j" ∷ called "k" ∷ called "l" ∷ called "m" ∷ called "n" ∷ called "o" ∷ called "p" ∷ called "q" ∷ called "r"
    ∷ called "s" ∷ called "t" ∷ called "u" ∷ called "v" ∷ called "w" ∷ called "x" ∷ called "y" ∷ called "z" ∷ []

-- They are the first names of a table.
pub record BuiltIns (ns : List ℕ) : Type 0 where
  pub is : (b : ℕ) (x : Name) → nth built_ins b ≡ some x → name_of ns b ≡ x

-- What row r holds before a file is read: a built-in name; or, from row 35 on, the row's own number, which is no name.
pub record First (r bytes : ℕ) : Type 0 where
  pub built : r < 35 → nth built_ins r ≡ some (name bytes)
  pub filler : 35 ≤ r → bytes ≡ r
