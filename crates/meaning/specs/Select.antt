-- Selection, demand 3: what a path of superclass fields and then a method finds in a dictionary.
use Rattle.std.specs.Prelude.{◌≡◌, ℕ, suc, zero}
use mathlib.Core.List.{List, [], Memᴰ}
use Rattle.std.proofs.Math.Option.{Option, none, some}
use Rattle.meaning.specs.Base.{is_yes, if, first, nth}
use Rattle.meaning.specs.Ast.{Name, ctx, Field, method, super, same_field, Ty, var, pred, Core, Cores, cdict, dict_app, dict_proj, dict_rec, cnil, ◌◃◌}
use Rattle.meaning.specs.Budget.{done}
use Rattle.meaning.specs.Subst.{occurs}
use Rattle.meaning.specs.Plain.{Fill, sub}
use Rattle.meaning.specs.Classes.{ClassEnv, ClassInfo, InstanceInfo, class_of, resolve}
use Rattle.meaning.specs.Session.{Checker, Reached}
use Rattle.meaning.specs.Derives.{Takes}

-- A dictionary as selection sees it: its class and type, the number of its instance, the match that made it, and the
-- dictionaries that it is applied to.
mutual
  pub data Dict : Type 0 where
    dict : Name → Ty → ℕ → Fill → Dicts → Dict

  pub data Dicts : Type 0 where
    alone : Dicts
    ◌and◌ : Dict → Dicts → Dicts

-- The argument of that number.
unfoldable pub nth_dict : Dicts → ℕ → Option Dict
nth_dict alone j = none
nth_dict (◌and◌ v vs) zero = some v
nth_dict (◌and◌ v vs) (suc j) = nth_dict vs j

-- A pick finds the first field of that name.
unfoldable pub field_of : List (Field × Core) → Field → Option (Field × Core)
field_of fs m = first (λ (f : Field × Core). is_yes (same_field f.0 m)) fs

-- The match of a stored record, filled by the match that made the record storing it: the types which it gives, for the
-- head's own variables; the others stay as written.
unfoldable pub outward : Ty → Fill → Fill → Fill
outward head θ η x = if (occurs x head) (sub θ (η x)) (var x)

-- Reads ce vs θ e v: in a record that is applied to vs and was made by the match θ, the stored dictionary e is v.
-- Picks ce v m w: the superclass field m of v is w.
mutual
  pub data Reads (ce : ClassEnv) : Dicts → Fill → Core → Dict → Type 0 where
    -- a name becomes its argument
    a_name : {vs : Dicts} {θ : Fill} {c : Name} {j : ℕ} {v : Dict}
        → nth_dict vs j ≡ some v → Reads ce vs θ (cdict (ctx c j)) v
    -- a projection is picked in turn
    a_field : {vs : Dicts} {θ : Fill} {e : Core} {m : Field} {v w : Dict}
        → Reads ce vs θ e v → Picks ce v m w → Reads ce vs θ (dict_proj e m) w
    -- a record stays
    a_record : {vs : Dicts} {θ η : Fill} {c : Name} {a : Ty} {i : ℕ} {inst : InstanceInfo} {v : Dict}
        → nth ce.instances i ≡ some inst → Takes inst (pred c a) η
        → v ≡ dict c (sub θ a) i (outward inst.head.ty θ η) alone
        → Reads ce vs θ (dict_rec c a i) v
    -- and the arguments it is applied to are treated likewise
    applied_to : {vs ws : Dicts} {θ η : Fill} {c : Name} {a : Ty} {i : ℕ} {es : Cores} {inst : InstanceInfo} {v : Dict}
        → nth ce.instances i ≡ some inst → Takes inst (pred c a) η
        → ReadAll ce vs θ es ws
        → v ≡ dict c (sub θ a) i (outward inst.head.ty θ η) ws
        → Reads ce vs θ (dict_app (dict_rec c a i) es) v

  pub data ReadAll (ce : ClassEnv) : Dicts → Fill → Cores → Dicts → Type 0 where
    no_more : {vs : Dicts} {θ : Fill} → ReadAll ce vs θ cnil alone
    and_more : {vs ws : Dicts} {θ : Fill} {e : Core} {es : Cores} {w : Dict}
        → Reads ce vs θ e w → ReadAll ce vs θ es ws → ReadAll ce vs θ (e ◃ es) (◌and◌ w ws)

  pub data Picks (ce : ClassEnv) : Dict → Field → Dict → Type 0 where
    picks : {c : Name} {a : Ty} {i : ℕ} {θ : Fill} {vs : Dicts} {m : Field} {inst : InstanceInfo} {f : Field × Core} {w : Dict}
        → nth ce.instances i ≡ some inst
        → field_of inst.methods m ≡ some f
        → Reads ce vs θ f.1 w
        → Picks ce (dict c a i θ vs) m w

-- A way from a class up to one of its superclasses.
pub data Way (ce : ClassEnv) : Name → Name → Type 0 where
  here : {c : Name} → Way ce c c
  up : {c s e : Name} {ci : ClassInfo} → class_of ce c ≡ some ci → Memᴰ s ci.supers → Way ce s e → Way ce c e

-- The superclass fields of a way, picked one after the other, lead from one dictionary to another.
pub data Follows (ce : ClassEnv) : (c e : Name) → Way ce c e → Dict → Dict → Type 0 where
  stops : {c : Name} {v : Dict} → Follows ce c c here v v
  goes : {c s e : Name} {ci : ClassInfo} {k : class_of ce c ≡ some ci} {h : Memᴰ s ci.supers} {p : Way ce s e} {v w u : Dict}
      → Picks ce v (super c s) w → Follows ce s e p w u → Follows ce c e (up k h p) v u

-- The method's field is found in a record of that class and type, whose instance was accepted and whose head, filled
-- by the record's match, is the type.
pub record Found (ce : ClassEnv) (e : Name) (a : Ty) (m : Name) (u : Dict) : Type 0 where
  pub number : ℕ
  pub inst : InstanceInfo
  pub fills : Fill
  pub arguments : Dicts
  pub field : Field × Core
  pub is_record : u ≡ dict e a number fills arguments
  pub accepted : nth ce.instances number ≡ some inst
  pub right_class : inst.head.class ≡ e
  pub right_type : sub fills inst.head.ty ≡ a
  pub has_field : field_of inst.methods (method m) ≡ some field

-- Demand 3: from any dictionary that resolution gives with nothing assumed, in any session that declarations reach,
-- every path of superclass fields and then a method finds its field.
abbrev pub Demand3 : Type 0
Demand3 = (ck : Checker) → Reached ck
    → (c : Name) (a : Ty) (n left : ℕ) (e : Core) → resolve ck.class_env [] (pred c a) n ≡ done e left
    → (v : Dict) × Reads ck.class_env alone var e v
    × ((z : Name) (p : Way ck.class_env c z) (ci : ClassInfo) (g : Name × Ty) → class_of ck.class_env z ≡ some ci → Memᴰ g ci.sigs
    → (u : Dict) × Follows ck.class_env c z p v u × Found ck.class_env z a g.0 u)
