-- The ways out of `add_instance`; and what a new class or a new instance leaves as it was.
use mathlib.Core.Path.{◌≡◌, refl, ◌∙◌}
use mathlib.Core.Bool.{Bool, true, false, not, true≢false, false≢true}
use mathlib.Core.List.{List}
use mathlib.Core.Option.{Option as Maybe, none, some}
use Prim.Native.Nat.{ℕ}
use native.Mathlib.Omega.{arith}
use Rattle.meaning.specs.Ast.{Name, Pred}
use Rattle.meaning.specs.Errors.{unknown_class}
use Rattle.meaning.specs.Budget.{refused, after, or_refuse, pure}
use Rattle.meaning.specs.Classes.{ClassEnv, ClassInfo, InstanceInfo, class_of, with_class, none_overlaps, with_instance, add_instance, lookup_method}
use Rattle.names.specs.Names.{name_of}
use Rattle.errors.specs.declared.Refusal.TheVariants.{UnknownClass}
use Rattle.pairs.proofs.Frames.{stands_refl}
use Rattle.instances.specs.Picks.{ApartAs, GivesApart}
use Rattle.instances.specs.Apart.{Apart}
use Rattle.instances.specs.Apart.{All, Refused}
use Rattle.supers.specs.ClassTable.{declared_at, Supers}
use Rattle.supers.proofs.ClassLaws.{turned_true, turned_false}
use Rattle.classes.specs.Growing.{is_some, Declared}
use Rattle.classes.specs.Adding.{AcceptedAs, GivesInstance}
use Rattle.classes.specs.Method.{method_at, MethodAs, Methods}
use Rattle.std.specs.Prelude.{Option, Some, None}
use Rattle.classes.specs.declared.Method.{Method}

module _ {ns cl : List ℕ} {ce : ClassEnv} (D : Declared ns cl ce) (i : InstanceInfo) (c left : ℕ) (h : i.head.class ≡ name_of ns c) where
  -- The class is not declared: 19.
  class_unknown : declared_at cl c ≡ false → add_instance ce i left ≡ refused (unknown_class (name_of ns c)) left
  unfolding add_instance or_refuse after
  class_unknown k = go (class_of ce (name_of ns c)) refl (D.is c ∙ k)
    where
      go : (o : Maybe ClassInfo) → class_of ce (name_of ns c) ≡ o → is_some (class_of ce (name_of ns c)) ≡ false → add_instance ce i left ≡ refused (unknown_class (name_of ns c)) left
      go none e f = rw (h, e)
      go (some ci) e f = absurd (true≢false (rw (← f, e)))

  -- It is: the heads tell.
  class_there : declared_at cl c ≡ true → add_instance ce i left ≡ after (none_overlaps ce.instances i.head left) (λ u. pure (with_instance i ce))
  unfolding add_instance or_refuse after
  class_there k = go (class_of ce (name_of ns c)) refl (D.is c ∙ k)
    where
      go : (o : Maybe ClassInfo) → class_of ce (name_of ns c) ≡ o → is_some (class_of ce (name_of ns c)) ≡ true → add_instance ce i left ≡ after (none_overlaps ce.instances i.head left) (λ u. pure (with_instance i ce))
      go none e f = absurd (false≢true (rw (← f, e)))
      go (some ci) e f = rw (h, e)

-- The class of a head.
class_is : (i : InstanceInfo) (p : Pred) → i.head ≡ p → i.head.class ≡ p.class
class_is i p e = rw e

module _ {ns cl w : List ℕ} (c : ℕ) {p : Pred} (q : p.class ≡ name_of ns c) {r : Bool} (e : r ≡ declared_at cl c) where
  -- The class is not declared.
  pub accepts_unknown : {il : List ℕ} {top left sp : ℕ} → not r ≡ true → GivesInstance ns cl w w il top left sp p (Refused (UnknownClass c) top left)
  accepts_unknown {il} {top} {left} {sp} k = record {
    stands = stands_refl w top sp;
    answer = λ ce i D I h. record {
      is = class_unknown D i c left (class_is i p h ∙ q) (turned_true e k);
      types = tt;
      more = omega arith;
      down = omega arith;
    };
  }

  -- It is, and the heads have told.
  pub accepts_apart : {w' il : List ℕ} {top left sp : ℕ} {a : Apart} → not r ≡ false → GivesApart ns w w' il top left sp p a → GivesInstance ns cl w w' il top left sp p a
  unfolding after
  accepts_apart {w'} {il} {top} {left} {sp} {a} k G = record {
    stands = G.stands;
    answer = λ ce i D I h. go ce i (class_there D i c left (class_is i p h ∙ q) (turned_false e k)) h a (G.answer ce.instances I);
  }
    where
      go : (ce : ClassEnv) (i : InstanceInfo) → add_instance ce i left ≡ after (none_overlaps ce.instances i.head left) (λ u. pure (with_instance i ce)) → i.head ≡ p
          → (x : Apart) → ApartAs ns w' top left (none_overlaps ce.instances p left) x → AcceptedAs ns w' top left ce i x
      go ce i o h (All l) g = (o ∙ rw (h, g.0), g.1)
      go ce i o h (Refused u t' l) g = record { is = o ∙ rw (h, g.is); types = g.types; more = g.more; down = g.down }

-- ## One table after the other's addition

-- A new class leaves the instances.
pub class_instances : (ci : ClassInfo) (ce : ClassEnv) → (with_class ci ce).instances ≡ ce.instances
unfolding with_class
class_instances ci ce = refl

-- A new instance leaves the classes, their superclasses and the methods.
pub instance_declared : {ns cl : List ℕ} {ce : ClassEnv} (i : InstanceInfo) → Declared ns cl ce → Declared ns cl (with_instance i ce)
unfolding with_instance
instance_declared i D = record { is = D.is }

pub instance_supers : {ns cl : List ℕ} {ce : ClassEnv} (i : InstanceInfo) → Supers ns cl ce → Supers ns cl (with_instance i ce)
unfolding with_instance
instance_supers i S = record { is = S.is }

pub instance_methods : {ns w : List ℕ} {top : ℕ} {mt : List ℕ} {ce : ClassEnv} (i : InstanceInfo) → Methods ns w top mt ce → Methods ns w top mt (with_instance i ce)
unfolding with_instance lookup_method
instance_methods {ns} {w} {top} {mt} {ce} i M = record { is = λ m. go (name_of ns m) (method_at mt m) (M.is m) }
  where
    go : (n : Name) (r : Option Method) → MethodAs ns w top ce n r → MethodAs ns w top (with_instance i ce) n r
    go n (Some q) o = record { info = o.info; class = o.class; node = o.node; is = o.is }
    go n None o = o
