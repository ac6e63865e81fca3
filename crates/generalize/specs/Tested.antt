-- The test for ambiguous predicates. The type of each predicate that is left is a variable.
use Rattle.std.specs.Prelude.{◌≡◌, Bool, false, not, ◌&&◌, List, ℕ, Result, Ok, Err}
use Rattle.std.proofs.Math.Option.{none, some}
use Rattle.meaning.specs.Base.{first}
use Rattle.meaning.specs.Ast.{TyVar, Ty, var, con, arrow, Pred, pred}
use Rattle.meaning.specs.Map.{tyvars, elem}
use Rattle.names.specs.Names.{name_of}
use Rattle.ast.specs.Table.{tree, Node}
use Rattle.supers.specs.declared.rows.Row.{Row}
use Rattle.supers.specs.declared.rows.Row.TheVariants.{Pending, Replaced}
use Rattle.errors.specs.declared.Refusal.{Refusal}
use Rattle.errors.specs.declared.Refusal.TheVariants.{Ambiguous}

-- The type is a variable that neither the binding's type nor the environment has: fs are the variables of the one and es those
-- of the other.
unfoldable pub strays : List TyVar → List TyVar → Ty → Bool
strays fs es (var x) = not (elem tyvars x fs) && not (elem tyvars x es)
strays fs es (con c ts) = false
strays fs es (arrow a b) = false

-- The predicate's type is one.
abbrev pub stray_pred : List TyVar → List TyVar → Pred → Bool
stray_pred fs es p = strays fs es p.ty

-- The row is pending and its type is one.
abbrev pub stray_row : List TyVar → List TyVar → List ℕ → List ℕ → Row → Bool
stray_row fs es ns w (Pending d c t) = strays fs es (tree ns w t)
stray_row fs es ns w (Replaced d x) = false

-- A pending row is refused, with its class and its type.
abbrev pub refusing : Row → Result (Unit {0}) Refusal
refusing (Pending d c t) = Err (Ambiguous c t)
refusing (Replaced d x) = Ok tt

-- The first one that is ambiguous has class c and type t, with which it is refused.
pub record FirstStray (fs es : List TyVar) (ns w : List ℕ) (top : ℕ) (ps : List Pred) (e : Refusal) : Type 0 where
  pub class : ℕ
  pub type : ℕ
  pub is : e ≡ Ambiguous class type
  pub found : first (stray_pred fs es) ps ≡ some (pred (name_of ns class) (tree ns w type))
  pub node : Node w top type

-- None of some predicates is ambiguous, or the first one that is is refused.
abbrev pub ClearAs : List TyVar → List TyVar → List ℕ → List ℕ → ℕ → List Pred → Result (Unit {0}) Refusal → Type 0
ClearAs fs es ns w top ps (Ok u) = first (stray_pred fs es) ps ≡ none
ClearAs fs es ns w top ps (Err e) = FirstStray fs es ns w top ps e

pub record Tests (fs es : List TyVar) (ns w : List ℕ) (top : ℕ) (ps : List Pred) (r : Result (Unit {0}) Refusal) : Type 0 where
  pub says : ClearAs fs es ns w top ps r
