-- What the walks of this crate look for: of the variables that occur somewhere and are none of the list E, the one of least
-- word from some word on, or the last one in byte order before another.
use Rattle.std.specs.Prelude.{◌≡◌, Bool, true, false, List, ◌⊎◌, ℕ, ◌+◌, ◌<◌, ◌≤◌, Option, Some, None}
use Rattle.meaning.specs.Ast.{TyVar, tyvar_before}
use Rattle.meaning.specs.Map.{tyvars, elem}
use Rattle.names.specs.Names.{first_node, tyvar_of}

-- r is the least word from `from` on and below `best` whose variable is one of occ and none of E; or `best`, where there is none.
pub record Least (ns : List ℕ) (E : List TyVar) (occ : TyVar → Bool) (from best r : ℕ) : Type 0 where
  pub below : r ≤ best
  pub found : r < best → (from ≤ r) × ((occ (tyvar_of ns r) ≡ true) × (elem tyvars (tyvar_of ns r) E ≡ false))
  pub least : (x : ℕ) → from ≤ x → x < r → occ (tyvar_of ns x) ≡ true → elem tyvars (tyvar_of ns x) E ≡ true

-- The variable lies before the picked one, if one was picked.
abbrev pub Under : List ℕ → Option ℕ → TyVar → Type 0
Under ns None v = Unit {0}
Under ns (Some y) v = tyvar_before v (tyvar_of ns y) ≡ true

-- One was picked, and it is not before the variable.
abbrev pub Upto : List ℕ → Option ℕ → TyVar → Type 0
Upto ns None v = ⊥
Upto ns (Some y) v = tyvar_before (tyvar_of ns y) v ≡ false

-- The answer says whether the variable lies before the picked one, if one was picked.
abbrev pub IsUnder : List ℕ → Option ℕ → TyVar → Bool → Type 0
IsUnder ns None v r = r ≡ true
IsUnder ns (Some y) v r = r ≡ tyvar_before v (tyvar_of ns y)

-- Whether it lies after it.
abbrev pub IsOver : List ℕ → Option ℕ → TyVar → Bool → Type 0
IsOver ns None v r = r ≡ true
IsOver ns (Some y) v r = r ≡ tyvar_before (tyvar_of ns y) v

-- What was picked is a word of the table of top nodes, one of occ, none of E, and lies before `last`.
abbrev pub Fits : List ℕ → List TyVar → (TyVar → Bool) → ℕ → Option ℕ → Option ℕ → Type 0
Fits ns E occ top last None = ⊥
Fits ns E occ top last (Some x) =
    (x < first_node + top) × ((occ (tyvar_of ns x) ≡ true) × ((elem tyvars (tyvar_of ns x) E ≡ false) × Under ns last (tyvar_of ns x)))

-- r is the last variable of those that are one of occ, none of E and before `last`; or `best`, where none of them is after it.
pub record Last (ns : List ℕ) (E : List TyVar) (occ : TyVar → Bool) (top : ℕ) (last best r : Option ℕ) : Type 0 where
  pub found : (r ≡ best) ⊎ Fits ns E occ top last r
  pub most : (v : TyVar) → occ v ≡ true → elem tyvars v E ≡ false → Under ns last v → Upto ns r v
  pub up : (v : TyVar) → Upto ns best v → Upto ns r v
