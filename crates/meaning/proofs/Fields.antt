-- Selection on two small environments: which field a pick finds, and whose arguments a stored record sees.
use mathlib.Core.Path.{refl}
use mathlib.Core.List.{List, [], ◌∷◌}
use Prim.Native.Nat.{ℕ}
use native.Mathlib.Decide.{ℕ_discrete}
use Rattle.meaning.specs.Base.{first, nth}
use Rattle.meaning.specs.Text.{quoted, packed}
use Rattle.meaning.specs.Ast.{Name, called, same_name, ctx, Field, method, same_field, Ty, var, int, bool, Pred, pred, Core, cdict, dict_app, dict_rec, cnil, ◌◃◌}
use Rattle.meaning.specs.Subst.{occurs}
use Rattle.meaning.specs.Plain.{sub}
use Rattle.meaning.specs.Classes.{ClassEnv, InstanceInfo}
use Rattle.meaning.specs.Derives.{Takes}
use Rattle.meaning.specs.Select.{Dict, Dicts, dict, alone, ◌and◌, nth_dict, field_of, outward, a_name, a_record, applied_to, no_more, and_more, Picks, picks}

abbrev eq : Name
eq = called "Eq"

abbrev instance_of : List Pred → Ty → List (Field × Core) → InstanceInfo
instance_of context t fields = record { context = context; head = pred eq t; methods = fields }

-- An instance at a type without variables is taken by the map that changes nothing.
taken : (context : List Pred) (fields : List (Field × Core)) → Takes (instance_of context int fields) (pred eq int) var
unfolding sub int
taken context fields = record { class_is = refl; head_is = refl; others_stay = λ x e. refl }

abbrev twice : Field
twice = method (called "twice")

-- Two fields of one name: the first names the instance's own number, the second another one.
abbrev two_fields : ClassEnv
two_fields = record {
  classes = [];
  method_of = [];
  instances =
      instance_of [] int ((twice, dict_rec eq int 0) ∷ (twice, dict_rec eq int 1) ∷ []) ∷ instance_of [] int [] ∷ [];
}

unchanged : Ty → Dicts → ℕ → Dict
unchanged t vs i = dict eq t i (outward int var var) vs

first_picked : Picks two_fields (unchanged int alone 0) twice (unchanged int alone 0)
unfolding unchanged first nth field_of same_field same_name called quoted packed ℕ_discrete sub int outward occurs
first_picked = picks refl refl (a_record refl (taken [] _) refl)

-- An instance whose field is a record applied to a second dictionary: inside that record, context 0 is that argument
-- and not the one of the record storing it.
abbrev stored : ClassEnv
stored = record {
  classes = [];
  method_of = [];
  instances =
      instance_of (pred eq bool ∷ []) int ((twice, dict_app (dict_rec eq int 1) (dict_rec eq int 2 ◃ cnil)) ∷ [])
      ∷ instance_of (pred eq bool ∷ []) int ((twice, cdict (ctx eq 0)) ∷ [])
      ∷ instance_of [] int []
      ∷ [];
}

outer : Dict
outer = unchanged int (◌and◌ (unchanged bool alone 9) alone) 0

-- The field of the outer record, and the same field of what that gives.
own_argument : (w : Dict) × Picks stored outer twice w × Picks stored w twice (unchanged int alone 2)
unfolding outer unchanged first nth nth_dict field_of same_field same_name called quoted packed ℕ_discrete sub int outward occurs
own_argument = (
  unchanged int (◌and◌ (unchanged int alone 2) alone) 1,
  picks refl refl (applied_to refl (taken _ _) (and_more (a_record refl (taken [] []) refl) no_more) refl),
  picks refl refl (a_name refl),
)
