-- The words of the two built-in types.
use mathlib.Core.Path.{ap, ◌∙◌}
use Prim.Native.Nat.{◌+◌}
use native.Mathlib.Omega.{arith}
use Rattle.meaning.specs.Ast.{con, nil, int, bool}
use Rattle.names.specs.Names.{first_nullary}
use Rattle.ast.specs.Table.{Stands}
use Rattle.ast.proofs.Laws.{low_con}

-- The constructor without arguments of name 0.
pub stands_int : Stands (first_nullary + 0) int
unfolding int
stands_int = record { low = omega arith; is = λ ns w B. low_con ns w 0 (omega arith) ∙ ap (λ c. con c nil) B.int_name }

-- The one of name 1.
pub stands_bool : Stands (first_nullary + 1) bool
unfolding bool
stands_bool = record { low = omega arith; is = λ ns w B. low_con ns w 1 (omega arith) ∙ ap (λ c. con c nil) B.bool_name }
