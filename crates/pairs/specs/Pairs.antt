-- Substitutions as pairs of words on the stack, which lies above the table in the same words.
use Rattle.std.specs.Prelude.{◌≡◌, List, [], ◌∷◌, ℕ, zero, suc, ◌+◌, ◌*◌, ◌<◌, ◌≤◌, length, get_or}
use Rattle.meaning.specs.Base.{if, eqb}
use Rattle.meaning.specs.Subst.{Subst}
use Rattle.names.specs.Names.{tyvar_of, first_node}
use Rattle.ast.specs.Table.{tree, Kept}
use Rattle.std.specs.Prelude.{Option, Some, None}

-- The k pairs from word at: a variable's word and a type's word each.
unfoldable pub sub_at : List ℕ → List ℕ → ℕ → ℕ → Subst
sub_at ns w at zero = []
sub_at ns w at (suc k) = (tyvar_of ns (get_or w at 0), tree ns w (get_or w (at + 1) 0)) ∷ sub_at ns w (at + 2) k

-- The type's word that the k pairs from at have for the variable's word x.
unfoldable pub find_at : List ℕ → ℕ → ℕ → ℕ → Option ℕ
find_at w at zero x = None
find_at w at (suc k) x = if (eqb (get_or w at 0) x) (Some (get_or w (at + 1) 0)) (find_at w (at + 2) k x)

-- The types of the k pairs from at are words of the table.
pub record Below (w : List ℕ) (top at k : ℕ) : Type 0 where
  pub node : (i : ℕ) → i < k → get_or w (at + 2 * i + 1) 0 < first_node + top

-- The k pairs from at lie in the words, and their types in the table.
pub record Sub (w : List ℕ) (top at k : ℕ) : Type 0 where
  pub fits : at + 2 * k ≤ length w
  pub bound : Below w top at k

-- The table below top stands, and so do the words from hi on.
pub record Stands (w w' : List ℕ) (top hi : ℕ) : Type 0 where
  pub low : Kept w w' top
  pub high : (i : ℕ) → hi ≤ i → get_or w' i 0 ≡ get_or w i 0
