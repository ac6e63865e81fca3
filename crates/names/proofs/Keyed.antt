-- The bytes and the tie of the variable that a word stands for, by what the word says.
use mathlib.Core.Path.{◌≡◌, refl, sym, ◌∙◌}
use mathlib.Core.Bool.{true, false}
use mathlib.Core.List.{List}
use Prim.Native.Nat.{ℕ, ◌+◌, ◌*◌, ◌^◌, ◌<◌, ◌≤◌}
use native.Mathlib.Omega.{arith}
use lib.ListN.{length, get_or}
use lib.Dec as code
use Rattle.meaning.specs.Ast.{Name, TyVar, named, fresh, key, tie}
use Rattle.names.specs.declared.Kind.{Kind}
use Rattle.names.specs.declared.Kind.TheVariants.{Node, Named, Fresh, Nullary}
use Rattle.names.specs.declared.Key.{Key}
use Rattle.names.specs.Names.{kind_of, row, name_of, variable_of, tyvar_of}
use Rattle.names.specs.Keys.{four, bytes_of, key_number}
use Rattle.names.proofs.Tests.{lt_yes, lt_no, lt_code}
use Rattle.names.proofs.Words.{four_places}

-- A sum with nothing before it.
no_more : (B m : ℕ) → 0 * B + m ≡ m
no_more B m = omega arith

-- A small number over all that have 32 bytes.
over_all : (o n : ℕ) → key_number record { over = o; a = 0; b = 0; c = 0; d = n } ≡ o * 2 ^ 256 + n
unfolding key_number bytes_of four
over_all o n = go (o * 2 ^ 256)
  where
    go : (m : ℕ) → m + (0 + n) ≡ m + n
    go m = omega arith

-- A name of the table is its four words.
pub key_in : (ns : List ℕ) (i : ℕ) → 4 * i + 3 < length ns
    → key_number record { over = 0; a = get_or ns (4 * i) 0; b = get_or ns (4 * i + 1) 0; c = get_or ns (4 * i + 2) 0; d = get_or ns (4 * i + 3) 0 } ≡ key (named (name_of ns i))
unfolding key name_of row key_number bytes_of
key_in ns i h = rw (lt_yes (4 * i + 3) (length ns) h) (no_more (2 ^ 256) _ ∙ sym (four_places (get_or ns (4 * i) 0) (get_or ns (4 * i + 1) 0) (get_or ns (4 * i + 2) 0) (get_or ns (4 * i + 3) 0)))

-- A number out of the table lies over all names.
pub key_out : (ns : List ℕ) (i : ℕ) → length ns ≤ 4 * i + 3 → key_number record { over = 1; a = 0; b = 0; c = 0; d = i } ≡ key (named (name_of ns i))
unfolding key name_of
key_out ns i h = rw (lt_no (4 * i + 3) (length ns) h) (over_all 1 i)

-- A word that says Node.
pub key_node : (ns : List ℕ) (t n : ℕ) (s : Kind) → s ≡ kind_of t → s ≡ Node n → key_number record { over = 4; a = 0; b = 0; c = 0; d = n } ≡ key (tyvar_of ns t)
unfolding key tyvar_of
key_node ns t n s e f = rw (← e, f) (over_all 4 n)

-- A word that says Nullary.
pub key_nullary : (ns : List ℕ) (t i : ℕ) (s : Kind) → s ≡ kind_of t → s ≡ Nullary i → key_number record { over = 2; a = 0; b = 0; c = 0; d = i } ≡ key (tyvar_of ns t)
unfolding key tyvar_of
key_nullary ns t i s e f = rw (← e, f) (over_all 2 i)

-- A word that says Named.
pub key_named : (ns : List ℕ) (t i : ℕ) (s : Kind) (k : Key) → s ≡ kind_of t → s ≡ Named i → key_number k ≡ key (named (name_of ns i)) → key_number k ≡ key (tyvar_of ns t)
unfolding tyvar_of
key_named ns t i s k e f h = rw (← e, f) h

-- A word that says Fresh.
pub key_fresh : (ns : List ℕ) (t i : ℕ) (s : Kind) (k : Key) → s ≡ kind_of t → s ≡ Fresh i → key_number k ≡ key (fresh i) → key_number k ≡ key (tyvar_of ns t)
unfolding tyvar_of
key_fresh ns t i s k e f h = rw (← e, f) h

-- ## ties
-- Nothing is before a name of the same bytes.
before_named : (x : TyVar) (n : Name) → false ≡ tie x (named n)
unfolding tie
before_named (named m) n = refl
before_named (fresh k) n = refl

-- A word that says no made variable.
abbrev pub NotMade : Kind → Type 0
NotMade s = (k : ℕ) → s ≡ Fresh k → ⊥

-- A made variable is one.
made_tag : (k : ℕ) → NotMade (Fresh k) → ⊥
made_tag k h = h k refl

-- The second word says no made variable.
not_second : (x : TyVar) (ns : List ℕ) (t : Kind) → NotMade t → false ≡ tie x (variable_of ns t)
not_second x ns (Node n) h = before_named x _
not_second x ns (Named i) h = before_named x _
not_second x ns (Fresh k) h = absurd (made_tag k h)
not_second x ns (Nullary i) h = before_named x _

-- Only the second word says a made variable.
not_first : (k : ℕ) (ns : List ℕ) (t : Kind) → NotMade t → true ≡ tie (variable_of ns t) (fresh k)
unfolding tie
not_first k ns (Node n) h = refl
not_first k ns (Named i) h = refl
not_first k ns (Fresh l) h = absurd (made_tag l h)
not_first k ns (Nullary i) h = refl

-- The same of words.
pub second_named : (x y : ℕ) (t : Kind) → t ≡ kind_of y → NotMade t → (ns : List ℕ) → false ≡ tie (tyvar_of ns x) (tyvar_of ns y)
unfolding tyvar_of
second_named x y t e h ns = rw (← e) (not_second _ ns t h)

-- A name is before a made variable of the same bytes.
pub first_named : (x y n : ℕ) (s t : Kind) → s ≡ kind_of x → t ≡ kind_of y → NotMade s → t ≡ Fresh n → (ns : List ℕ) → true ≡ tie (tyvar_of ns x) (tyvar_of ns y)
unfolding tyvar_of
first_named x y n s t e f h i ns = rw (← e, ← f, i) (not_first n ns s h)

-- Two made variables are in the order of their numbers.
pub both_made : (x y m n : ℕ) (s t : Kind) → s ≡ kind_of x → t ≡ kind_of y → s ≡ Fresh m → t ≡ Fresh n → (ns : List ℕ) → code.ltb m n ≡ tie (tyvar_of ns x) (tyvar_of ns y)
unfolding tyvar_of tie
both_made x y m n s t e f h i ns = rw (← e, ← f, h, i) (lt_code m n)
