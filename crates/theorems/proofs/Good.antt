-- Dictionaries in which every path of superclass fields can be followed, and what such a path and then a method finds.
use mathlib.Core.Path.{◌≡◌, ◌∙◌}
use mathlib.Core.List.{Memᴰ}
use mathlib.Core.Option.{some}
use Prim.Native.Nat.{ℕ}
use Rattle.meaning.specs.Base.{nth}
use Rattle.meaning.specs.Ast.{Name, Field, method, super, Ty, Core}
use Rattle.meaning.specs.Plain.{Fill, sub}
use Rattle.meaning.specs.Classes.{ClassEnv, ClassInfo, InstanceInfo, class_of}
use Rattle.meaning.specs.Select.{Dict, Dicts, dict, field_of, Picks, Way, here, up, Follows, stops, goes, Found}

-- Good ce P c v: v is a record of class c, of an accepted instance whose head, filled by the record's match, is the
-- record's type; P holds of that type; the class's methods are there; and each superclass field can be picked and is
-- good again.
pub data Good (ce : ClassEnv) (P : Ty → Type 0) : Name → Dict → Type 0 where
  good : {c : Name} {a : Ty} {i : ℕ} {θ : Fill} {vs : Dicts} {inst : InstanceInfo}
      → nth ce.instances i ≡ some inst
      → inst.head.class ≡ c
      → sub θ inst.head.ty ≡ a
      → P a
      → ((ci : ClassInfo) → class_of ce c ≡ some ci → (g : Name × Ty) → Memᴰ g ci.sigs
      → (f : Field × Core) × (field_of inst.methods (method g.0) ≡ some f))
      → (w : (ci : ClassInfo) → class_of ce c ≡ some ci → (s : Name) → Memᴰ s ci.supers → Dict)
      → ((ci : ClassInfo) (k : class_of ce c ≡ some ci) (s : Name) (h : Memᴰ s ci.supers) → Picks ce (dict c a i θ vs) (super c s) (w ci k s h))
      → ((ci : ClassInfo) (k : class_of ce c ≡ some ci) (s : Name) (h : Memᴰ s ci.supers) → Good ce P s (w ci k s h))
      → Good ce P c (dict c a i θ vs)

-- Everything on the way is at one type.
abbrev pub At : Ty → Ty → Type 0
At a b = b ≡ a

-- Less may be asked of the types; the dictionaries on the way stay the same.
pub weaker : {ce : ClassEnv} {P Q : Ty → Type 0} {c : Name} {v : Dict} → ((b : Ty) → P b → Q b) → Good ce P c v → Good ce Q c v
weaker f (good {a = a} at class fills here_is methods w ps gs) = good at class fills (f a here_is) methods w ps (λ ci k s h. weaker f (gs ci k s h))

-- What demand 3 asks: from a dictionary that is good at a type, every way up and then a method finds its field there.
pub way_found : {ce : ClassEnv} {a : Ty} {c z : Name} {v : Dict} → Good ce (At a) c v → (p : Way ce c z)
    → (ci : ClassInfo) (g : Name × Ty) → class_of ce z ≡ some ci → Memᴰ g ci.sigs
    → (u : Dict) × Follows ce c z p v u × Found ce z a g.0 u
way_found (good {c = c} {a = b} {i = i} {θ = θ} {vs = vs} {inst = inst} at class fills same methods w ps gs) here ci g k m =
    let f = methods ci k g m in (
      dict c b i θ vs,
      stops,
      record { number = i; inst = inst; fills = θ; arguments = vs; field = f.0; is_record = (λ j. dict c (same j) i θ vs); accepted = at; right_class = class; right_type = fills ∙ same; has_field = f.1 },
    )
way_found (good at class fills same methods w ps gs) (up {s = s} {ci = cj} known h p) ci g k m =
    let r = way_found (gs cj known s h) p ci g k m in
    (r.0, goes (ps cj known s h) r.1, r.2)
