-- What an accepted instance has: its methods, and a derivation for each superclass from its context and from what stood
-- when it was accepted.
use mathlib.Core.Path.{◌≡◌}
use mathlib.Core.List.{Memᴰ}
use mathlib.Core.Option.{some}
use Prim.Native.Nat.{ℕ, ◌<◌}
use Rattle.meaning.specs.Base.{nth}
use Rattle.meaning.specs.Ast.{Name, Field, method, super, Ty, pred, Core}
use Rattle.meaning.specs.Classes.{ClassEnv, ClassInfo, InstanceInfo, class_of}
use Rattle.meaning.specs.Declare.{context_givens}
use Rattle.meaning.specs.Derives.{Derives}
use Rattle.meaning.specs.Select.{field_of}

-- An environment that stood before: all of it still stands, and its instances have numbers below n.
pub record Older (old ce : ClassEnv) (n : ℕ) : Type 0 where
  pub insts : (j : ℕ) (inst : InstanceInfo) → nth old.instances j ≡ some inst → (nth ce.instances j ≡ some inst) × (j < n)
  pub infos : (c : Name) (ci : ClassInfo) → class_of old c ≡ some ci → class_of ce c ≡ some ci

-- The instance of number i.
pub record SoundAt (ce : ClassEnv) (i : ℕ) (inst : InstanceInfo) : Type 0 where
  pub then_stood : ClassEnv
  pub older : Older then_stood ce i
  pub info : ClassInfo
  pub has_class : class_of ce inst.head.class ≡ some info
  pub has_methods : (g : Name × Ty) → Memᴰ g info.sigs → (f : Field × Core) × (field_of inst.methods (method g.0) ≡ some f)
  pub has_supers : (s : Name) → Memᴰ s info.supers
      → (f : Field × Core) × (field_of inst.methods (super inst.head.class s) ≡ some f)
      × Derives then_stood (context_givens inst.head inst.context) (pred s inst.head.ty) f.1

-- Each class stands under its own name, and each instance is sound.
pub record Sound (ce : ClassEnv) : Type 0 where
  pub names_right : (c : Name) (ci : ClassInfo) → class_of ce c ≡ some ci → ci.name ≡ c
  pub at : (i : ℕ) (inst : InstanceInfo) → nth ce.instances i ≡ some inst → SoundAt ce i inst
