-- Names are compared as the variables of their numbers; and what a pass takes.
use mathlib.Core.Path.{◌≡◌, refl, sym, ◌∙◌}
use mathlib.Core.Bool.{Bool, true, false, not}
use mathlib.Core.List.{List}
use Prim.Native.Nat.{ℕ, ◌*◌, ◌<◌}
use native.Mathlib.Omega.{arith}
use lib.ListN.{get_or}
use Rattle.meaning.specs.Base.{if, eqb, ltb}
use Rattle.meaning.specs.Ast.{Name, name, name_before, named, key, tie, tyvar_before}
use Rattle.names.specs.Names.{name_of, tyvar_of}
use Rattle.names.proofs.Tests.{lt_no, eq_yes, eq_no}
use Rattle.names.proofs.Where.{is_named}
use Rattle.theorems.proofs.Tests.{eqb_true}
use Rattle.order.specs.Sorting.{idle, due}

-- Named variables are in the order of their names.
same_order : (x y : Name) → tyvar_before (named x) (named y) ≡ name_before x y
unfolding tyvar_before name_before key tie
same_order (name m) (name n) = go (eqb m n) refl
  where
    go : (b : Bool) → eqb m n ≡ b → if b false (ltb m n) ≡ ltb m n
    go true e = let f = eqb_true m n e in sym (lt_no m n (omega arith))
    go false e = refl

-- A small word is the variable of its name.
named_word : (ns : List ℕ) (i : ℕ) → i < 1_059 → tyvar_of ns i ≡ named (name_of ns i)
unfolding tyvar_of
named_word ns i h = rw (is_named i (omega arith))

-- So the order of two words is that of their names.
pub names_before : (ns : List ℕ) (i j : ℕ) (b : Bool) → i < 1_059 → j < 1_059 → b ≡ tyvar_before (tyvar_of ns i) (tyvar_of ns j) → b ≡ name_before (name_of ns i) (name_of ns j)
names_before ns i j b h k e = e ∙ rw (named_word ns i h, named_word ns j k) (same_order (name_of ns i) (name_of ns j))

-- An idle row.
pub due-idle : (ns : List ℕ) (low : Bool) (r : ℕ) → get_or ns (4 * r) 0 ≡ 0 → low ≡ due ns low r
unfolding due idle
due-idle ns true r e = sym (eq_yes _ 0 e)
due-idle ns false r e = rw (eq_yes _ 0 e)

-- Another one.
pub due_other : (ns : List ℕ) (low : Bool) (r : ℕ) → (get_or ns (4 * r) 0 ≡ 0 → ⊥) → not low ≡ due ns low r
unfolding due idle
due_other ns true r h = sym (eq_no _ 0 h)
due_other ns false r h = rw (eq_no _ 0 h)
