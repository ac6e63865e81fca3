-- The constant table, by computing each of its seven rows.
use mathlib.Core.Path.{◌≡◌, refl}
use mathlib.Core.Bool.{true}
use mathlib.Core.List.{List, [], ◌∷◌}
use Prim.Native.Nat.{ℕ, zero, suc, ◌+◌, ◌<◌, ◌≤◌}
use native.Mathlib.Omega.{arith}
use native.Mathlib.Decide.{ℕ_discrete, dec_lt}
use lib.ListN.{get_or}
use lib.Dec.{lit<, lit≤}
use Rattle.meaning.specs.Base.{eqb, ltb, nth, null, keep}
use Rattle.meaning.specs.Text.{packed, quoted}
use Rattle.meaning.specs.Ast.{called, same_name, name_before, int, bool}
use Rattle.meaning.specs.Map.{names, insert, elem}
use Rattle.meaning.specs.Subst.{ftv_type, ftv_preds, ftv_qual, without, ftv_scheme}
use Rattle.meaning.specs.Session.{primitives}
use Rattle.names.specs.Names.{name_of}
use Rattle.rows.specs.BuiltIns.{built_ins, BuiltIns}
use Rattle.primitives.specs.declared.Primitive.{Primitive}
use Rattle.primitives.specs.Prims.{title, kind, arity, arrows, firsts, base_ty, curried, Row}

-- What holds of seven numbers holds of all below 7.
by_seven : (P : ℕ → Type 0) → P 0 → P 1 → P 2 → P 3 → P 4 → P 5 → P 6 → (p : ℕ) → p < 7 → P p
by_seven P a b c d e f g zero h = a
by_seven P a b c d e f g (suc zero) h = b
by_seven P a b c d e f g (suc (suc zero)) h = c
by_seven P a b c d e f g (suc (suc (suc zero))) h = d
by_seven P a b c d e f g (suc (suc (suc (suc zero)))) h = e
by_seven P a b c d e f g (suc (suc (suc (suc (suc zero))))) h = f
by_seven P a b c d e f g (suc (suc (suc (suc (suc (suc zero)))))) h = g
by_seven P a b c d e f g (suc (suc (suc (suc (suc (suc (suc p))))))) h = absurd (omega arith)

-- One row of the table.
abbrev row : ℕ → ℕ → ℕ → ℕ → Primitive
row n a m r = record { number = n; argument = a; many = m; result = r }

-- The table's rows, as the code has them.
unfoldable pub prim_rows : List Primitive
prim_rows = row 2 0 2 0 ∷ row 3 1 2 1 ∷ row 4 1 2 1 ∷ row 5 0 2 1 ∷ row 6 0 2 1 ∷ row 7 0 2 0 ∷ row 8 1 1 1 ∷ []

-- A row of it.
abbrev pub prim_row : ℕ → Primitive
prim_row p = get_or prim_rows p (row 0 0 0 0)

-- Each row is that of its primitive.
pub row_says : (p : ℕ) → p < 7 → Row p (prim_row p)
unfolding prim_rows title kind nth primitives arity curried base_ty eqb ℕ_discrete
row_says p h = by_seven (λ p. Row p (prim_row p)) (record { number = refl; many = refl; argument = lit< tt; result = lit< tt; is = refl })
    (record { number = refl; many = refl; argument = lit< tt; result = lit< tt; is = refl })
    (record { number = refl; many = refl; argument = lit< tt; result = lit< tt; is = refl })
    (record { number = refl; many = refl; argument = lit< tt; result = lit< tt; is = refl })
    (record { number = refl; many = refl; argument = lit< tt; result = lit< tt; is = refl })
    (record { number = refl; many = refl; argument = lit< tt; result = lit< tt; is = refl })
    (record { number = refl; many = refl; argument = lit< tt; result = lit< tt; is = refl }) p h

-- Its name has that number.
pub title_is : {ns : List ℕ} → BuiltIns ns → (p : ℕ) → p < 7 → name_of ns (p + 2) ≡ title p
unfolding built_ins title nth primitives
title_is {ns} B p h = by_seven (λ p. name_of ns (p + 2) ≡ title p) (B.is 2 (called "primAddInt") refl) (B.is 3 (called "primAndBool") refl) (B.is 4 (called "primEqBool") refl)
    (B.is 5 (called "primEqInt") refl) (B.is 6 (called "primLtInt") refl) (B.is 7 (called "primMulInt") refl) (B.is 8 (called "primNotBool") refl) p h

-- Its scheme has no free variables.
pub kind_closed : (p : ℕ) → p < 7 → null (ftv_scheme (kind p)) ≡ true
unfolding kind nth primitives null keep ftv_scheme without ftv_qual ftv_preds ftv_type int bool elem
kind_closed p h = by_seven (λ p. null (ftv_scheme (kind p)) ≡ true) refl refl refl refl refl refl refl p h

-- Inserted after those before it, it is the last.
pub firsts_next : (p : ℕ) → p < 7 → insert names (title p, kind p) (firsts p primitives) ≡ firsts (suc p) primitives
unfolding title kind nth primitives firsts insert same_name name_before eqb ltb ℕ_discrete dec_lt called packed quoted
firsts_next p h = by_seven (λ p. insert names (title p, kind p) (firsts p primitives) ≡ firsts (suc p) primitives) refl refl refl refl refl refl refl p h

-- At last all are there.
pub firsts_all : firsts 7 primitives ≡ primitives
unfolding firsts primitives
firsts_all = refl

-- They have 13 arrows.
pub arrows_all : arrows 7 ≡ 13
unfolding arrows arity eqb ℕ_discrete
arrows_all = refl

-- And with the next one never more.
pub arrows_most : (p : ℕ) → p < 7 → arrows p + arity p ≤ 13
unfolding arrows arity eqb ℕ_discrete
arrows_most p h = by_seven (λ p. arrows p + arity p ≤ 13) (lit≤ tt) (lit≤ tt) (lit≤ tt) (lit≤ tt) (lit≤ tt) (lit≤ tt) (lit≤ tt) p h
