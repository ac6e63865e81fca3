-- The forms of names by the forms of their texts.
use mathlib.Core.Path.{◌≡◌, refl, sym, ap, ◌∙◌}
use mathlib.Core.Bool.{Bool, true, false, ◌||◌}
use mathlib.Core.List.{List, [], ◌∷◌}
use mathlib.Core.Option.{none, some}
use Prim.Native.Nat.{ℕ, ◌≤◌}
use Prim.Native.String.{String}
use native.Mathlib.Omega.{arith}
use native.Mathlib.Decide.{ℕ_discrete}
use lib.ListN.{length}
use Rattle.meaning.specs.Base.{if, eqb, null}
use Rattle.meaning.specs.Text.{packed, quoted}
use Rattle.meaning.specs.Ast.{name}
use Rattle.meaning.specs.Reserved.{letter_of_name, all, past, digits, begins, made_variable, made_name}
use lib.Pointwise.{pointwise}
use Rattle.std.proofs.Common.{nat_eq}
use Rattle.std.specs.List.{starts_with}
use Rattle.theorems.proofs.Tests.{eqb_true, or_left}
use Rattle.spelling.proofs.Prefixes.{whole, front}
use Rattle.spelling.specs.declared.Form.TheVariants.{Free, Variable, Word}
use Rattle.spelling.specs.Texts.{follows, starts, word_text}
use Rattle.spelling.specs.Forms.{FormIs}
use Rattle.spelling.proofs.Spelled.{spelled}

-- A text of letters, not longer than a name.
pub record NameText (cs : List ℕ) : Type 0 where
  pub short : length cs ≤ 32
  pub letters : all letter_of_name cs ≡ true

-- The beginning of a name is the beginning of its text.
begins_text : {cs : List ℕ} → NameText cs → (s : String) (f : List ℕ → Bool) → begins s f (name (packed 32 cs)) ≡ follows (quoted s []) f cs
unfolding begins follows
begins_text t s f = ap (follows (quoted s []) f) (spelled _ t.short t.letters)

-- Names like made variables.
variable_text : {cs : List ℕ} → NameText cs → made_variable (name (packed 32 cs)) ≡ follows (116 ∷ []) digits cs
unfolding made_variable quoted
variable_text t = begins_text t "t" digits

-- Names like other made names.
made_text : {cs : List ℕ} → NameText cs → made_name (name (packed 32 cs)) ≡ word_text cs
unfolding made_name word_text starts
made_text t = rw (begins_text t "self" null, begins_text t "d" digits, begins_text t "d_ctx_" (λ ds. true), begins_text t "__super_" (λ ds. true)) refl

-- No text is like both: one begins with `t`, the others do not.
apart : (cs : List ℕ) → follows (116 ∷ []) digits cs ≡ true → word_text cs ≡ false
unfolding follows starts word_text quoted past eqb ℕ_discrete
apart [] e = let z : ◌≡◌ {A = ℕ} 0 1 = cc in absurd (omega arith)
apart (c ∷ cs) e = go (eqb 116 c) refl e
  where
    go : (x : Bool) → eqb 116 c ≡ x → elim (if x (past [] cs) none) [ none ↦ false | some ds ↦ digits ds ] ≡ true → word_text (c ∷ cs) ≡ false
    go true i e = rw (sym (eqb_true 116 c i)) refl
    go false i e = let z : ◌≡◌ {A = ℕ} 0 1 = cc in absurd (omega arith)

-- ## ways out
pub is_variable : {cs : List ℕ} {r : Bool} → NameText cs → r ≡ follows (116 ∷ []) digits cs → r ≡ true → FormIs (name (packed 32 cs)) Variable
is_variable {cs} {r} t e h = record { variable = variable_text t ∙ sym e ∙ h; word = made_text t ∙ apart cs (sym e ∙ h) }

pub is_word : {cs : List ℕ} {r q : Bool} → NameText cs → r ≡ follows (116 ∷ []) digits cs → r ≡ false → q ≡ word_text cs → q ≡ true → FormIs (name (packed 32 cs)) Word
is_word {cs} {r} {q} t e h f i = record { variable = variable_text t ∙ sym e ∙ h; word = made_text t ∙ sym f ∙ i }

pub is_free : {cs : List ℕ} {r q : Bool} → NameText cs → r ≡ follows (116 ∷ []) digits cs → r ≡ false → q ≡ word_text cs → q ≡ false → FormIs (name (packed 32 cs)) Free
is_free {cs} {r} {q} t e h f i = record { variable = variable_text t ∙ sym e ∙ h; word = made_text t ∙ sym f ∙ i }

-- ## texts like words
-- One test or another, where only as much is looked at as decides.
pub first_of : (a b : Bool) {r v : Bool} → r ≡ a → r ≡ true → v ≡ r → v ≡ (a || b)
first_of a b e h i = i ∙ h ∙ sym (or_left a b (sym e ∙ h))

pub second_of : (a b : Bool) {r s v : Bool} → r ≡ a → r ≡ false → v ≡ s → s ≡ b → v ≡ (a || b)
second_of a b e h i k = i ∙ k ∙ sym (go a (sym e ∙ h))
  where
    go : (x : Bool) → x ≡ false → (x || b) ≡ b
    go x f = rw f refl

-- The first two tests, the first three, and all four, as the library makes them: `self`, `d` and digits, `d_ctx_`, `__super_`.
abbrev pub two_tests : List ℕ → Bool
two_tests cs = pointwise nat_eq cs (115 ∷ 101 ∷ 108 ∷ 102 ∷ []) || follows (100 ∷ []) digits cs

abbrev pub three_tests : List ℕ → Bool
three_tests cs = two_tests cs || starts_with nat_eq cs (100 ∷ 95 ∷ 99 ∷ 116 ∷ 120 ∷ 95 ∷ [])

abbrev pub four_tests : List ℕ → Bool
four_tests cs = three_tests cs || starts_with nat_eq cs (95 ∷ 95 ∷ 115 ∷ 117 ∷ 112 ∷ 101 ∷ 114 ∷ 95 ∷ [])

pub four_tests_word : (cs : List ℕ) → four_tests cs ≡ word_text cs
unfolding word_text quoted
four_tests_word cs = rw (whole (115 ∷ 101 ∷ 108 ∷ 102 ∷ []) cs, front (100 ∷ 95 ∷ 99 ∷ 116 ∷ 120 ∷ 95 ∷ []) cs, front (95 ∷ 95 ∷ 115 ∷ 117 ∷ 112 ∷ 101 ∷ 114 ∷ 95 ∷ []) cs) refl
