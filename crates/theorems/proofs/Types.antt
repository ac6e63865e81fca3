-- The constructors of types take apart, and differ from each other.
use mathlib.Core.Path.{◌≡◌}
use Prim.Native.Nat.{ℕ}
use native.Mathlib.Omega.{arith}
use Rattle.meaning.specs.Ast.{Name, TyVar, Ty, Tys, var, con, arrow, ◌◂◌}

pub heads : (x y : Ty) (xs ys : Tys) → x ◂ xs ≡ y ◂ ys → x ≡ y
heads x y xs ys e = cc

pub tails : (x y : Ty) (xs ys : Tys) → x ◂ xs ≡ y ◂ ys → xs ≡ ys
tails x y xs ys e = cc

pub con_name : (c d : Name) (xs ys : Tys) → con c xs ≡ con d ys → c ≡ d
con_name c d xs ys e = cc

pub con_args : (c d : Name) (xs ys : Tys) → con c xs ≡ con d ys → xs ≡ ys
con_args c d xs ys e = cc

pub arrow_left : (a b c d : Ty) → arrow a b ≡ arrow c d → a ≡ c
arrow_left a b c d e = cc

pub arrow_right : (a b c d : Ty) → arrow a b ≡ arrow c d → b ≡ d
arrow_right a b c d e = cc

pub con_not_var : (c : Name) (xs : Tys) (v : TyVar) → con c xs ≡ var v → ⊥
con_not_var c xs v e = let z : ◌≡◌ {A = ℕ} 0 1 = cc in omega arith

pub arrow_not_var : (a b : Ty) (v : TyVar) → arrow a b ≡ var v → ⊥
arrow_not_var a b v e = let z : ◌≡◌ {A = ℕ} 0 1 = cc in omega arith

pub con_not_arrow : (c : Name) (xs : Tys) (a b : Ty) → con c xs ≡ arrow a b → ⊥
con_not_arrow c xs a b e = let z : ◌≡◌ {A = ℕ} 0 1 = cc in omega arith
