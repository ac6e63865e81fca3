-- Maps: pairs in the order of their keys.
use Rattle.std.specs.Prelude.{◌≡◌, Bool, true, false, not}
use mathlib.Core.List.{List, [], ◌∷◌, foldr}
use Rattle.std.proofs.Math.Option.{Option, none, some}
use Rattle.meaning.specs.Base.{is_yes, if, keep}
use Rattle.meaning.specs.Ast.{Name, same_name, name_before, TyVar, same_tyvar, tyvar_before, DictName, same_dict}

-- What a map asks of its keys: equality, and an order.
pub record Keys (K : Type 0) : Type 0 where
  pub same : (x y : K) → Dec (x ≡ y)
  pub before : K → K → Bool

-- Names in byte order.
abbrev pub names : Keys Name
names = record { same = same_name; before = name_before }

-- Type variables, likewise.
abbrev pub tyvars : Keys TyVar
tyvars = record { same = same_tyvar; before = tyvar_before }

-- Dictionary names: the order of their map is never looked at, so a new one goes last.
abbrev pub dicts : Keys DictName
dicts = record { same = same_dict; before = λ x y. false }

-- Equality of keys as a test.
abbrev pub is : {K : Type 0} → Keys K → K → K → Bool
is k x y = is_yes (k.same x y)

-- A map: the type of the keys, and that of what they lead to.
abbrev pub Map : Type 0 → Type 0 → Type 0
Map K A = List (K × A)

-- `get`.
unfoldable pub get : {K A : Type 0} → Keys K → K → Map K A → Option A
get k x [] = none
get k x (p ∷ s) = if (is k x p.0) (some p.1) (get k x s)

-- `insert`: in place of an older pair of the same key, else where the order has it.
unfoldable pub insert : {K A : Type 0} → Keys K → K × A → Map K A → Map K A
insert k p [] = p ∷ []
insert k p (q ∷ s) = if (is k p.0 q.0) (p ∷ s) (if (k.before p.0 q.0) (p ∷ (q ∷ s)) (q ∷ insert k p s))

-- `remove`.
unfoldable pub remove : {K A : Type 0} → Keys K → K → Map K A → Map K A
remove k x s = keep (λ p. not (is k x p.0)) s

-- All pairs of the first, and those of the second whose keys the first has not (`entry(..).or_insert`).
abbrev pub or_insert : {K A : Type 0} → Keys K → Map K A → Map K A → Map K A
or_insert k s other = foldr (insert k) other s

-- The key is in the list.
unfoldable pub elem : {K : Type 0} → Keys K → K → List K → Bool
elem k x [] = false
elem k x (y ∷ ys) = if (is k x y) true (elem k x ys)
