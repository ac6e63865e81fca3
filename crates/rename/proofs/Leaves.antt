-- There are no more variables in a type than nodes.
use Prim.Native.Nat.{◌≤◌}
use native.Mathlib.Omega.{arith}
use Rattle.meaning.specs.Ast.{Ty, Tys, var, con, arrow, nil, ◌◂◌, size, sizes}
use Rattle.rename.specs.Renaming.{leaves, leaves_list}

mutual
  unfolding leaves size

  -- Of a type.
  pub leaves_size : (t : Ty) → leaves t ≤ size t
  leaves_size (var x) = omega arith
  leaves_size (con c ts) = let h = leaves_sizes ts in omega arith
  leaves_size (arrow a b) = let h = leaves_size a in let k = leaves_size b in omega arith

  -- Of a list of types.
  pub leaves_sizes : (ts : Tys) → leaves_list ts ≤ sizes ts
  leaves_sizes nil = omega arith
  leaves_sizes (t ◂ ts) = let h = leaves_size t in let k = leaves_sizes ts in omega arith
