-- Variables that become variables: which word a variable's word becomes, and the substitutions that do the same.
use Rattle.std.specs.Prelude.{◌≡◌, List, [], ◌∷◌, ℕ, zero, suc, ◌+◌}
use Rattle.std.proofs.Math.Option.{Option, none, some}
use Rattle.meaning.specs.Base.{if, eqb}
use Rattle.meaning.specs.Ast.{TyVar, fresh, Ty, Tys, var, con, arrow, nil, ◌◂◌}
use Rattle.meaning.specs.Map.{tyvars, insert}
use Rattle.meaning.specs.Subst.{Subst, look}
use Rattle.names.specs.Names.{tyvar_of}
use Rattle.ast.specs.Table.{cell_of}
use Rattle.ast.specs.declared.Cell.{Cell}
use Rattle.ast.specs.declared.Cell.TheVariants.{Nil, Cons}

-- A place, counted from one element further to the front.
abbrev pub later : Option ℕ → Option ℕ
later none = none
later (some i) = some (suc i)

-- The place of the word x in what a cell says, by its place in the rest.
abbrev pub of_place : ℕ → (ℕ → Option ℕ) → Cell → Option ℕ
of_place x p Nil = none
of_place x p (Cons a b) = if (eqb a x) (some 0) (later (p b))

-- The same with so much fuel.
unfoldable pub pos_f : ℕ → List ℕ → ℕ → ℕ → Option ℕ
pos_f zero w l x = none
pos_f (suc f) w l x = of_place x (λ m. pos_f f w m x) (cell_of w l)

-- The number of the first cell of the list l whose first word is x; the first cell is number 0.
unfoldable pub pos_in : List ℕ → ℕ → ℕ → Option ℕ
pos_in w l x = pos_f (suc l) w l x

-- The number of the first of some words that is x.
unfoldable pub pos_at : List ℕ → ℕ → Option ℕ
pos_at [] x = none
pos_at (y ∷ ls) x = if (eqb y x) (some 0) (later (pos_at ls x))

-- The number of the name of the letter `a`; the other letters follow.
abbrev pub first_letter : ℕ
first_letter = 9

-- The word at a place from a first word on, or another one where there is no place.
abbrev pub or_word : ℕ → ℕ → Option ℕ → ℕ
or_word to y none = y
or_word to y (some i) = to + i

-- What the variable's word x becomes: the i-th of the list vs becomes to + i, and the i-th of the words ls the i-th letter.
unfoldable pub renamed_word : List ℕ → ℕ → ℕ → List ℕ → ℕ → ℕ
renamed_word w vs to ls x = or_word to (or_word first_letter x (pos_at ls x)) (pos_in w vs x)

-- The substitution does to every variable what `renamed_word` does to its word.
pub record Renames (ns w : List ℕ) (vs to : ℕ) (ls : List ℕ) (s : Subst) : Type 0 where
  pub at : (x : ℕ) → look s (tyvar_of ns x) ≡ var (tyvar_of ns (renamed_word w vs to ls x))

-- The variables of a type, each as often as it stands there.
unfoldable mutual
  pub leaves : Ty → ℕ
  leaves (var x) = 1
  leaves (con c ts) = leaves_list ts
  leaves (arrow a b) = leaves a + leaves b

  pub leaves_list : Tys → ℕ
  leaves_list nil = 0
  leaves_list (t ◂ ts) = leaves t + leaves_list ts

-- The substitution that `fresh_all` builds: a made variable for each, by rising numbers from k on.
unfoldable pub freshened : ℕ → List TyVar → Subst
freshened k [] = []
freshened k (v ∷ vs) = insert tyvars (v, var (fresh k)) (freshened (suc k) vs)
