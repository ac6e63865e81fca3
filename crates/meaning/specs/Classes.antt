-- 001, classes.rs: class environments, superclass walks, resolution.
use Rattle.std.specs.Prelude.{Bool, true, false, List, [], ◌∷◌, ◌++◌, ℕ, suc, zero}
use Rattle.std.proofs.Math.Option.{Option, none, some}
use Rattle.meaning.specs.Base.{is_yes, if, found, first}
use Rattle.meaning.specs.Ast.{Name, same_name, Field, super, Ty, Pred, pred, same_pred, Core, Cores, dict_app, dict_proj, dict_rec, cnil, ◌◃◌, ClassDecl}
use Rattle.meaning.specs.Errors.{too_deep, no_instance, unknown_class, missing_superclass, duplicate_instance}
use Rattle.meaning.specs.Budget.{Steps, ◌>>=◌, pure, refuse, step, depth, attempt, or_refuse}
use Rattle.meaning.specs.Map.{Map, names, get, insert}
use Rattle.meaning.specs.Subst.{Subst, apply_type, apply_preds}
use Rattle.meaning.specs.Unify.{match_ty, match_pred}

-- A dictionary at hand, and what it is one of.
abbrev pub Given : Type 0
Given = Core × Pred

-- A class as it was declared; the Rust copies the declaration's fields.
abbrev pub ClassInfo : Type 0
ClassInfo = ClassDecl

-- An accepted instance: the fields of its dictionary are its methods, its defaults and its superclasses' dictionaries.
pub record InstanceInfo : Type 0 where
  pub context : List Pred
  pub head : Pred
  pub methods : List (Field × Core)

-- Classes by name, the class that last declared a method, instances in the order of their acceptance.
pub record ClassEnv : Type 0 where
  pub classes : Map Name ClassInfo
  pub method_of : Map Name Name
  pub instances : List InstanceInfo

-- `ClassEnv::new`.
abbrev pub no_classes : ClassEnv
no_classes = record { classes = []; method_of = []; instances = [] }

-- `class`.
abbrev pub class_of : ClassEnv → Name → Option ClassInfo
class_of ce c = get names c ce.classes

-- Each superclass has been declared.
unfoldable pub supers_known : ClassEnv → Name → List Name → Steps (Unit {0})
supers_known ce c [] = pure tt
supers_known ce c (s ∷ ss) = do
  _ ← or_refuse (missing_superclass c s) (class_of ce s)
  supers_known ce c ss

-- Each signature's name belongs to this class from now on.
unfoldable pub methods_of : Name → List (Name × Ty) → Map Name Name → Map Name Name
methods_of c [] m = m
methods_of c (g ∷ gs) m = methods_of c gs (insert names (g.0, c) m)

-- A class environment with one more class.
unfoldable pub with_class : ClassInfo → ClassEnv → ClassEnv
with_class ci ce = record { classes = insert names (ci.name, ci) ce.classes; method_of = methods_of ci.name ci.sigs ce.method_of; instances = ce.instances }

-- `add_class`.
unfoldable pub add_class : ClassEnv → ClassInfo → Steps ClassEnv
add_class ce ci = do
  _ ← supers_known ce ci.name ci.supers
  pure (with_class ci ce)

-- Whether a match was found, and if not, whether the other way round there is one.
unfoldable pub or_back : Option Subst → Ty → Ty → Steps Bool
or_back (some s) a b = pure true
or_back none a b = do
  r ← attempt (match_ty b a)
  pure (elim r [ none ↦ false | some s ↦ true ])

-- `overlaps`: one type matches the other.
unfoldable pub overlaps : Ty → Ty → Steps Bool
overlaps a b = do
  r ← attempt (match_ty a b)
  or_back r a b

-- No earlier head of the same class overlaps the new one, in order.
unfoldable pub none_overlaps : List InstanceInfo → Pred → Steps (Unit {0})
none_overlaps [] h = pure tt
none_overlaps (i ∷ rest) h = if (is_yes (same_name i.head.class h.class))
    (do
      o ← overlaps i.head.ty h.ty
      if o (refuse (duplicate_instance h)) (none_overlaps rest h))
    (none_overlaps rest h)

-- A class environment with one more instance, the last.
unfoldable pub with_instance : InstanceInfo → ClassEnv → ClassEnv
with_instance i ce = record { classes = ce.classes; method_of = ce.method_of; instances = ce.instances ++ (i ∷ []) }

-- `add_instance`.
unfoldable pub add_instance : ClassEnv → InstanceInfo → Steps ClassEnv
add_instance ce i = do
  _ ← or_refuse (unknown_class i.head.class) (class_of ce i.head.class)
  _ ← none_overlaps ce.instances i.head
  pure (with_instance i ce)

-- `lookup_method`: the class of a method, and its first signature of that name there.
unfoldable pub lookup_method : ClassEnv → Name → Option (ClassInfo × Ty)
lookup_method ce m =
    found (get names m ce.method_of) λ c.
    found (class_of ce c) λ ci.
    found (first (λ (g : Name × Ty). is_yes (same_name g.0 m)) ci.sigs) λ g.
    some (ci, g.1)

-- The superclasses of a class, in declared order; a class that is not declared has none.
unfoldable pub supers_of : Option ClassInfo → List Name
supers_of none = []
supers_of (some ci) = ci.supers

-- What was found, or else what the rest finds.
unfoldable pub or_next : Option Core → Steps (Option Core) → Steps (Option Core)
or_next (some e) m = pure (some e)
or_next none m = m

-- The entries above one, superclass by superclass.
unfoldable pub by_supers : (Core → Pred → Steps (Option Core)) → Core → Pred → List Name → Steps (Option Core)
by_supers walk e p [] = pure none
by_supers walk e p (s ∷ ss) = do
  r ← walk (dict_proj e (super p.class s)) (pred s p.ty)
  or_next r (by_supers walk e p ss)

-- `by_super` as a walk, with so much depth left: the entry, then each superclass's list in declared order, up to the
-- first entry that `hit` takes. One step for each entry compared, the first too.
unfoldable pub by_super_in : ℕ → ClassEnv → (Core → Pred → Bool) → Core → Pred → Steps (Option Core)
by_super_in zero ce hit e p = refuse too_deep
by_super_in (suc k) ce hit e p =
    step (if (hit e p) (pure (some e)) (by_supers (λ e₁ p₁. by_super_in k ce hit e₁ p₁) e p (supers_of (class_of ce p.class))))

-- `by_super`, searched.
abbrev pub by_super : ClassEnv → (Core → Pred → Bool) → Core → Pred → Steps (Option Core)
by_super ce hit e p = by_super_in depth ce hit e p

-- The first entry of the givens' lists that `hit` takes.
unfoldable pub from_givens : ClassEnv → List Given → (Core → Pred → Bool) → Steps (Option Core)
from_givens ce [] hit = pure none
from_givens ce (g ∷ gs) hit = do
  r ← by_super ce hit g.0 g.1
  or_next r (from_givens ce gs hit)

-- `resolve_from_givens`, and the first loop of `resolve`: the first entry equal to the goal.
abbrev pub resolve_from_givens : ClassEnv → List Given → Pred → Steps (Option Core)
resolve_from_givens ce gs p = from_givens ce gs (λ e q. is_yes (same_pred q p))

-- An instance whose head matches: its number, and the match.
pub record Chosen : Type 0 where
  pub index : ℕ
  pub inst : InstanceInfo
  pub fills : Subst

-- This instance if it matches, else what the later ones give.
unfoldable pub chosen : ℕ → InstanceInfo → Option Subst → Steps (Option Chosen) → Steps (Option Chosen)
chosen k i none m = m
chosen k i (some s) m = pure (some (record { index = k; inst = i; fills = s }))

-- `by_inst`, from instance number k on: the first instance whose head matches. (The match is kept: `resolve`'s second
-- match of the same head gives it again, for no step.)
unfoldable pub by_inst : ℕ → List InstanceInfo → Pred → Steps (Option Chosen)
by_inst k [] p = pure none
by_inst k (i ∷ rest) p = if (is_yes (same_name i.head.class p.class))
    (do
      r ← attempt (match_pred i.head p)
      chosen k i r (by_inst (suc k) rest p))
    (by_inst (suc k) rest p)

-- The subgoals, one after the other.
unfoldable pub all_resolved : (Pred → Steps Core) → List Pred → Steps Cores
all_resolved r [] = pure cnil
all_resolved r (p ∷ ps) = do
  e ← r p
  es ← all_resolved r ps
  pure (e ◃ es)

-- A record alone, or applied to its subgoals' dictionaries.
unfoldable pub applied : Core → Cores → Core
applied e cnil = e
applied e (a ◃ es) = dict_app e (a ◃ es)

-- The dictionary of an instance: contexts filled, subgoals resolved, then the head filled (`build_instance_dict`).
-- Context variables absent from the head stay as written.
unfoldable pub from_instance : (Pred → Steps Core) → Pred → Option Chosen → Steps Core
from_instance r p none = refuse (no_instance p)
from_instance r p (some i) = do
  subgoals ← apply_preds i.fills i.inst.context
  sub-dicts ← all_resolved r subgoals
  head_ty ← apply_type i.fills i.inst.head.ty
  pure (applied (dict_rec i.inst.head.class head_ty i.index) sub-dicts)

-- What the givens gave, or else an instance's dictionary.
unfoldable pub or_instance : (Pred → Steps Core) → ClassEnv → Pred → Option Core → Steps Core
or_instance r ce p (some e) = pure e
or_instance r ce p none = do
  i ← by_inst 0 ce.instances p
  from_instance r p i

-- `resolve` of one goal; `r` goes one deeper.
unfoldable pub resolve_node : (Pred → Steps Core) → ClassEnv → List Given → Pred → Steps Core
resolve_node r ce gs p = do
  e ← resolve_from_givens ce gs p
  or_instance r ce p e

-- `resolve` with so much depth left: one step a goal.
unfoldable pub resolve_in : ℕ → ClassEnv → List Given → Pred → Steps Core
resolve_in zero ce gs p = refuse too_deep
resolve_in (suc k) ce gs p = step (resolve_node (λ q. resolve_in k ce gs q) ce gs p)

-- `resolve`.
abbrev pub resolve : ClassEnv → List Given → Pred → Steps Core
resolve ce gs p = resolve_in depth ce gs p
