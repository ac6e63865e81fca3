-- Beginnings of texts: byte by byte, and as bytes of a number.
use mathlib.Core.Path.{◌≡◌, refl, sym, ap, ◌∙◌}
use mathlib.Core.Bool.{Bool, true, false, ◌&&◌}
use mathlib.Core.List.{List, [], ◌∷◌}
use mathlib.Core.Option.{none, some}
use Prim.Native.Nat.{ℕ, ◌-◌, ◌<◌, ◌≤◌}
use native.Mathlib.Decide.{ℕ_discrete}
use native.Mathlib.Omega.{arith}
use lib.ListN.{length, get_or, take, drop}
use Rattle.std.proofs.lemmas.List.{take_all}
use lib.Pointwise.{pointwise}
use borrow.Author.Tests.{eq-eqb, ne_eqb}
use Rattle.std.proofs.Common.{nat_eq}
use Rattle.std.specs.List.{starts_with}
use Rattle.meaning.specs.Base.{if, null}
use Rattle.meaning.specs.Reserved.{past, digits}
use Rattle.names.proofs.Tests.{eq_yes, eq_no}
use Rattle.spelling.specs.Texts.{follows, starts}

-- ## one byte
-- What follows, where the first byte was compared.
abbrev compared : Bool → List ℕ → (List ℕ → Bool) → List ℕ → Bool
compared x bs f cs = elim (if x (past bs cs) none) [ none ↦ false | some ds ↦ f ds ]

-- Equal first bytes: the others decide.
byte_on : (b c : ℕ) (bs cs : List ℕ) (f : List ℕ → Bool) → b ≡ c → follows (b ∷ bs) f (c ∷ cs) ≡ follows bs f cs
unfolding follows past
byte_on b c bs cs f e = ap (λ (x : Bool). compared x bs f cs) (eq_yes b c e)

-- Unequal ones end it.
byte_off : (b c : ℕ) (bs cs : List ℕ) (f : List ℕ → Bool) → (b ≡ c → ⊥) → follows (b ∷ bs) f (c ∷ cs) ≡ false
unfolding follows past
byte_off b c bs cs f e = ap (λ (x : Bool). compared x bs f cs) (eq_no b c e)

-- ## a letter and digits
-- No text.
pub no_letter : (letter : ℕ) (cs : List ℕ) → length cs < 1 → false ≡ follows (letter ∷ []) digits cs
unfolding follows past
no_letter letter [] h = refl
no_letter letter (c ∷ cs) h = absurd (omega arith)

-- That letter: the other bytes decide.
pub that_letter : (letter : ℕ) (cs : List ℕ) (r : Bool) → 1 ≤ length cs → get_or cs 0 0 ≡ letter → r ≡ digits (take (length cs - 1) (drop 1 cs)) → r ≡ follows (letter ∷ []) digits cs
unfolding follows past
that_letter letter [] r h e d = absurd (omega arith)
that_letter letter (c ∷ cs) r h e d = d ∙ ap digits (take_all (length (c ∷ cs) - 1) cs (omega arith)) ∙ sym (byte_on letter c [] cs digits (sym e))

-- Another letter.
pub another_letter : (letter : ℕ) (cs : List ℕ) → 1 ≤ length cs → (get_or cs 0 0 ≡ letter → ⊥) → nat_eq (get_or cs 0 0) letter ≡ follows (letter ∷ []) digits cs
another_letter letter [] h n = absurd (omega arith)
another_letter letter (c ∷ cs) h n = ne_eqb c letter n ∙ sym (byte_off letter c [] cs digits (λ e. n (sym e)))

-- ## the library's tests
-- The bytes are these, as the library compares them.
pub whole : (bs cs : List ℕ) → pointwise nat_eq cs bs ≡ follows bs null cs
unfolding follows past null
whole [] [] = refl
whole [] (c ∷ cs) = refl
whole (b ∷ bs) [] = refl
whole (b ∷ bs) (c ∷ cs) = elim (ℕ_discrete b c) [
  | yes e ↦ ap (λ (x : Bool). x && pointwise nat_eq cs bs) (eq-eqb c b (sym e)) ∙ whole bs cs ∙ sym (byte_on b c bs cs null e)
  | no n ↦ ap (λ (x : Bool). x && pointwise nat_eq cs bs) (ne_eqb c b (λ e. n (sym e))) ∙ sym (byte_off b c bs cs null n)
]

-- The text begins so, as the library looks.
pub front : (bs cs : List ℕ) → starts_with nat_eq cs bs ≡ starts bs cs
unfolding starts follows past
front [] cs = refl
front (b ∷ bs) [] = refl
front (b ∷ bs) (c ∷ cs) = elim (ℕ_discrete b c) [
  | yes e ↦ ap (λ (x : Bool). x && starts_with nat_eq cs bs) (eq-eqb b c e) ∙ front bs cs ∙ sym (byte_on b c bs cs (λ ds. true) e)
  | no n ↦ ap (λ (x : Bool). x && starts_with nat_eq cs bs) (ne_eqb b c n) ∙ sym (byte_off b c bs cs (λ ds. true) n)
]
