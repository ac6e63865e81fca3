-- One more class or one more instance keeps a class environment sound: what stood still stands, under its own name and
-- number.
use mathlib.Core.Path.{◌≡◌, refl, sym, ◌∙◌, ap, subst}
use mathlib.Core.List.{List, [], ◌∷◌, ◌++◌}
use mathlib.Core.Option.{none, some}
use mathlib.Core.Logic.{◌⊎◌, inl, inr}
use Prim.Native.Nat.{ℕ, suc, zero, ◌<◌}
use native.Mathlib.Omega.{arith}
use Rattle.meaning.specs.Base.{count, nth}
use Rattle.meaning.specs.Ast.{Name, same_name, Field, Pred, Core, ClassDecl, InstanceDecl}
use Rattle.meaning.specs.Map.{names, get, insert}
use Rattle.meaning.specs.Classes.{ClassEnv, ClassInfo, InstanceInfo, class_of, with_class, with_instance}
use Rattle.meaning.specs.Declare.{context_givens}
use Rattle.theorems.proofs.Tests.{some_inj, none_some}
use Rattle.theorems.proofs.Maps.{get_insert_same, get_insert_other}
use Rattle.theorems.proofs.Sound.{Older, SoundAt, Sound}
use Rattle.theorems.proofs.Accepted.{Derived, Added}

-- ## numbers
-- What stands first keeps its number.
pub nth_left : {A : Type 0} (xs ys : List A) (j : ℕ) (x : A) → nth xs j ≡ some x → nth (xs ++ ys) j ≡ some x
unfolding nth
nth_left [] ys j x e = absurd (none_some x e)
nth_left (a ∷ xs) ys zero x e = e
nth_left (a ∷ xs) ys (suc j) x e = nth_left xs ys j x e

-- A number that is taken lies below the count.
pub nth_below : {A : Type 0} (xs : List A) (j : ℕ) (x : A) → nth xs j ≡ some x → j < count xs
unfolding nth count
nth_below [] j x e = absurd (none_some x e)
nth_below (a ∷ xs) zero x e = omega arith
nth_below (a ∷ xs) (suc j) x e = let h = nth_below xs j x e in omega arith

-- With one more at the end, a number is an old one, or the last.
pub nth_last : {A : Type 0} (xs : List A) (y : A) (i : ℕ) (x : A) → nth (xs ++ (y ∷ [])) i ≡ some x → (nth xs i ≡ some x) ⊎ ((i ≡ count xs) × (x ≡ y))
unfolding nth count
nth_last [] y zero x e = inr (refl, sym (some_inj y x e))
nth_last [] y (suc i) x e = absurd (none_some x e)
nth_last (a ∷ xs) y zero x e = inl e
nth_last (a ∷ xs) y (suc i) x e = go (nth_last xs y i x e)
  where
    go : (nth xs i ≡ some x) ⊎ ((i ≡ count xs) × (x ≡ y)) → (nth xs i ≡ some x) ⊎ ((suc i ≡ suc (count xs)) × (x ≡ y))
    go (inl h) = inl h
    go (inr h) = inr (ap suc h.0, h.1)

-- ## an environment that grows
-- All of the first still stands in the second.
record Grows (ce ce' : ClassEnv) : Type 0 where
  pub infos : (c : Name) (ci : ClassInfo) → class_of ce c ≡ some ci → class_of ce' c ≡ some ci
  pub insts : (j : ℕ) (inst : InstanceInfo) → nth ce.instances j ≡ some inst → nth ce'.instances j ≡ some inst

-- A sound instance stays sound: what stood then still stands.
still_sound : (ce ce' : ClassEnv) (i : ℕ) (inst : InstanceInfo) → Grows ce ce' → SoundAt ce i inst → SoundAt ce' i inst
still_sound ce ce' i inst g s = record {
  then_stood = s.then_stood;
  older = record {
    insts = λ j x e. let h = s.older.insts j x e in (g.insts j x h.0, h.1);
    infos = λ c ci e. g.infos c ci (s.older.infos c ci e);
  };
  info = s.info;
  has_class = g.infos inst.head.class s.info s.has_class;
  has_methods = s.has_methods;
  has_supers = s.has_supers;
}

-- ## a class
class_grows : (k : ClassDecl) (ce : ClassEnv) → class_of ce k.name ≡ none → Grows ce (with_class k ce)
unfolding with_class
class_grows k ce free = record { infos = λ c ci e. go c ci e (same_name c k.name); insts = λ j inst e. e }
  where
    go : (c : Name) (ci : ClassInfo) → class_of ce c ≡ some ci → Dec (c ≡ k.name) → get names c (insert names (k.name, k) ce.classes) ≡ some ci
    go c ci e (yes i) = absurd (none_some ci (sym free ∙ ap (class_of ce) (sym i) ∙ e))
    go c ci e (no n) = get_insert_other names c (k.name, k) ce.classes n ∙ e

class_names : (k : ClassDecl) (ce : ClassEnv) → Sound ce → (c : Name) (ci : ClassInfo) → class_of (with_class k ce) c ≡ some ci → ci.name ≡ c
unfolding with_class
class_names k ce s c ci e = go (same_name c k.name)
  where
    go : Dec (c ≡ k.name) → ci.name ≡ c
    go (yes i) =
        let h : some k ≡ some ci = sym (get_insert_same names k.name k ce.classes) ∙ ap (λ (x : Name). get names x (insert names (k.name, k) ce.classes)) (sym i) ∙ e in
        ap (λ (x : ClassInfo). x.name) (sym (some_inj k ci h)) ∙ sym i
    go (no n) = s.names_right c ci (sym (get_insert_other names c (k.name, k) ce.classes n) ∙ e)

same_instances : (k : ClassDecl) (ce : ClassEnv) → (with_class k ce).instances ≡ ce.instances
unfolding with_class
same_instances k ce = refl

-- A class under a new name harms nothing.
pub class_sound : (k : ClassDecl) (ce : ClassEnv) → class_of ce k.name ≡ none → Sound ce → Sound (with_class k ce)
class_sound k ce free s = record {
  names_right = class_names k ce s;
  at = λ i inst e. still_sound ce (with_class k ce) i inst (class_grows k ce free) (s.at i inst (ap (λ (xs : List InstanceInfo). nth xs i) (sym (same_instances k ce)) ∙ e));
}

-- ## an instance
instance_grows : (x : InstanceInfo) (ce : ClassEnv) → Grows ce (with_instance x ce)
unfolding with_instance
instance_grows x ce = record { infos = λ c ci e. e; insts = λ j inst e. nth_left ce.instances (x ∷ []) j inst e }

-- The environment before the newest instance.
just_before : (x : InstanceInfo) (ce : ClassEnv) → Older ce (with_instance x ce) (count ce.instances)
just_before x ce = let g = instance_grows x ce in
    record { insts = λ j inst e. (g.insts j inst e, nth_below ce.instances j inst e); infos = g.infos }

-- The derivations that `SoundAt` asks for.
abbrev Supers : ClassEnv → ClassInfo → List (Field × Core) → List Pred → Pred → Type 0
Supers ce ci fs context head = Derived ce (context_givens head context) head.class head.ty ci.supers fs

newest_supers : (ce : ClassEnv) (k : InstanceDecl) (ce' : ClassEnv) → Sound ce → (a : Added ce k ce') → Supers ce a.info a.inst.methods a.inst.context a.inst.head
newest_supers ce k ce' s a =
    subst (λ (h : Pred). Supers ce a.info a.inst.methods a.inst.context h) (sym a.head_is)
    (subst (λ (c : List Pred). Supers ce a.info a.inst.methods c k.head) (sym a.context_is)
    (subst (λ (c : Name). Derived ce (context_givens k.head k.context) c k.head.ty a.info.supers a.inst.methods)
    (s.names_right k.head.class a.info a.has_class) a.has_supers))

newest_sound : (ce : ClassEnv) (k : InstanceDecl) (ce' : ClassEnv) → Sound ce → (a : Added ce k ce') → SoundAt (with_instance a.inst ce) (count ce.instances) a.inst
newest_sound ce k ce' s a = record {
  then_stood = ce;
  older = just_before a.inst ce;
  info = a.info;
  has_class = (instance_grows a.inst ce).infos a.inst.head.class a.info (ap (λ (h : Pred). class_of ce h.class) a.head_is ∙ a.has_class);
  has_methods = a.has_methods;
  has_supers = newest_supers ce k ce' s a;
}

same_classes : (x : InstanceInfo) (ce : ClassEnv) (c : Name) → class_of (with_instance x ce) c ≡ class_of ce c
unfolding with_instance
same_classes x ce c = refl

one_instance_more : (x : InstanceInfo) (ce : ClassEnv) → (with_instance x ce).instances ≡ ce.instances ++ (x ∷ [])
unfolding with_instance
one_instance_more x ce = refl

-- An accepted instance is sound, and the old ones keep their numbers.
pub instance_sound : (ce : ClassEnv) (k : InstanceDecl) (ce' : ClassEnv) → Sound ce → Added ce k ce' → Sound ce'
instance_sound ce k ce' s a = subst Sound (sym a.becomes) whole
  where
    new_env : ClassEnv
    new_env = with_instance a.inst ce

    one : (i : ℕ) (inst : InstanceInfo) → (nth ce.instances i ≡ some inst) ⊎ ((i ≡ count ce.instances) × (inst ≡ a.inst)) → SoundAt new_env i inst
    one i inst (inl h) = still_sound ce new_env i inst (instance_grows a.inst ce) (s.at i inst h)
    one i inst (inr h) =
        subst (λ (j : ℕ). SoundAt new_env j inst) (sym h.0)
        (subst (λ (x : InstanceInfo). SoundAt new_env (count ce.instances) x) (sym h.1) (newest_sound ce k ce' s a))

    whole : Sound new_env
    whole = record {
      names_right = λ c ci e. s.names_right c ci (sym (same_classes a.inst ce c) ∙ e);
      at = λ i inst e. one i inst (nth_last ce.instances a.inst i inst (ap (λ (xs : List InstanceInfo). nth xs i) (sym (one_instance_more a.inst ce)) ∙ e));
    }
