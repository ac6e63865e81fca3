-- The parts of matching that the code has as functions of their own.
use Rattle.std.specs.Prelude.{◌≡◌, List, ℕ, ◌+◌, ◌<◌}
use Rattle.meaning.specs.Ast.{Ty}
use Rattle.meaning.specs.Budget.{Steps, ◌>>=◌}
use Rattle.meaning.specs.Subst.{Subst, merge}
use Rattle.names.specs.Names.{first_nullary, first_node}
use Rattle.ast.specs.Table.{shape_of}
use Rattle.ast.specs.declared.Shape.TheVariants.{Con}

-- One pair of types, merged into s: what `match_ty` does at each argument, and at an arrow's right sides.
unfoldable pub match_one : (Ty → Ty → Steps Subst) → Subst → Ty → Ty → Steps Subst
match_one m s x y = do
  s₁ ← m x y
  merge s s₁

-- Two arrows.
unfoldable pub match_arrow : (Ty → Ty → Steps Subst) → Ty → Ty → Ty → Ty → Steps Subst
match_arrow m p₁ r₁ p₂ r₂ = do
  s₁ ← m p₁ p₂
  match_one m s₁ r₁ r₂

-- Two words that are constructors, as the code has looked at them.
pub record Shapes (w : List ℕ) (s t c xs d ys : ℕ) : Type 0 where
  pub first : Con c xs ≡ shape_of w s
  pub second : Con d ys ≡ shape_of w t

-- Two classes' numbers are numbers of names.
pub record Classes (c d : ℕ) : Type 0 where
  pub first : first_nullary + c < first_node
  pub second : first_nullary + d < first_node
