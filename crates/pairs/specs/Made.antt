-- Substitutions that are made of nothing: none, and one pair.
use Rattle.std.specs.Prelude.{◌≡◌, List, ℕ, ◌+◌, ◌*◌, ◌-◌, ◌<◌, ◌≤◌, get_or}
use Rattle.meaning.specs.Subst.{empty, singleton}
use Rattle.names.specs.Names.{tyvar_of}
use Rattle.ast.specs.Table.{tree, Node}
use Rattle.pairs.specs.Pairs.{sub_at, Sub}

-- The n pairs from a are none, where the stack ends at sp.
pub record Empty (sp a n : ℕ) : Type 0 where
  pub begins : a ≡ sp
  pub none : n ≡ 0
  pub is : (ns w : List ℕ) → sub_at ns w a n ≡ empty

-- The n pairs from a are one, of the words v and t, just below sp; all other words stand.
pub record Single (w w' : List ℕ) (sp v t a n : ℕ) : Type 0 where
  pub begins : a ≡ sp - 2
  pub one : n ≡ 1
  pub low : (i : ℕ) → i < sp - 2 → get_or w' i 0 ≡ get_or w i 0
  pub high : (i : ℕ) → sp ≤ i → get_or w' i 0 ≡ get_or w i 0
  pub is : (ns : List ℕ) (top : ℕ) → 4 * top + 2 ≤ sp → Node w top t → sub_at ns w' (sp - 2) 1 ≡ singleton (tyvar_of ns v) (tree ns w t)
  pub sub : (top : ℕ) → 4 * top + 2 ≤ sp → Node w top t → Sub w' top (sp - 2) 1
