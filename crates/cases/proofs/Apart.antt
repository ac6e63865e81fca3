-- Names that were tested pairwise are a table of names.
use mathlib.Core.Path.{◌≡◌, sym, ap, ◌∙◌}
use mathlib.Core.Bool.{true}
use mathlib.Core.List.{List}
use Prim.Native.Nat.{ℕ, ◌+◌, ◌*◌, ◌/◌, ◌^◌, ◌<◌}
use native.Mathlib.Decide.{dec_lt}
use native.Mathlib.Omega.{arith}
use lib.ListN.{length, get_or}
use Rattle.meaning.specs.Ast.{named, name, tyvar_before}
use Rattle.theorems.proofs.ByteOrder.{tyvars_ordered}
use Rattle.names.specs.Names.{row, name_of, tyvar_of, Names}
use Rattle.names.proofs.Tests.{lt_yes}
use Rattle.names.proofs.Where.{is_named}
use Rattle.cases.specs.Tested.{Apart, New}

-- The name of a row of the table.
row_name : (ns : List ℕ) (i : ℕ) → 4 * i + 3 < length ns → name_of ns i ≡ name (row ns i)
unfolding name_of
row_name ns i h = rw (lt_yes (4 * i + 3) (length ns) h)

-- A small number is the word of the variable by that name.
small_word : (ns : List ℕ) (i : ℕ) → i < 1024 → tyvar_of ns i ≡ named (name_of ns i)
unfolding tyvar_of
small_word ns i h = rw (is_named i (omega arith))

-- Numbers of equal names are the same variable.
same_variable : (ns : List ℕ) (i j : ℕ) → i < 1024 → j < 1024 → 4 * i + 3 < length ns → 4 * j + 3 < length ns → row ns i ≡ row ns j → tyvar_of ns i ≡ tyvar_of ns j
same_variable ns i j a b h k e =
    small_word ns i a ∙ ap named (row_name ns i h ∙ ap name e ∙ sym (row_name ns j k)) ∙ sym (small_word ns j b)

-- A variable that comes before another has another name.
pub one_before : (ns : List ℕ) (i j : ℕ) → i < 1024 → j < 1024 → true ≡ tyvar_before (tyvar_of ns i) (tyvar_of ns j) → Apart ns i j
one_before ns i j a b f = record { differ = differ }
  where
    differ : 4 * i + 3 < length ns → 4 * j + 3 < length ns → row ns i ≡ row ns j → ⊥
    differ h k e = tyvars_ordered.irrefl (tyvar_of ns j) (sym (f ∙ ap (λ x. tyvar_before x (tyvar_of ns j)) (same_variable ns i j a b h k e)))

-- Either way round.
pub turned : (ns : List ℕ) (i j : ℕ) → Apart ns i j → Apart ns j i
turned ns i j a = record { differ = λ h k e. a.differ k h (sym e) }

-- Names each of which is new are a table.
pub all_new : (ns : List ℕ) → ((i : ℕ) → get_or ns i 0 < 2 ^ 64) → ((i : ℕ) → i < length ns / 4 → New ns i) → Names ns
all_new ns words new = record { words = words; distinct = distinct }
  where
    distinct : (i j : ℕ) → 4 * i + 3 < length ns → 4 * j + 3 < length ns → row ns i ≡ row ns j → i ≡ j
    distinct i j h k e = go (dec_lt i j) (dec_lt j i)
      where
        go : Dec (i < j) → Dec (j < i) → i ≡ j
        go (yes l) d = absurd (((new j (omega arith)).apart i l).differ k h (sym e))
        go (no l) (yes m) = absurd (((new i (omega arith)).apart j m).differ h k e)
        go (no l) (no m) = omega arith
