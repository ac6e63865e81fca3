-- What an accepted class or instance has added to the class environment, and what was found on the way.
use mathlib.Core.Path.{◌≡◌, refl, sym, ◌∙◌, ap, subst}
use mathlib.Core.Bool.{Bool, true, false, true≢false, false≢true}
use mathlib.Core.List.Memᴰ
use mathlib.Core.List.{List, [], ◌∷◌, ◌++◌, Memᴰ}
use mathlib.Core.Option.{Option, none, some}
use mathlib.Core.Logic.{◌≢◌, ◌⊎◌, inl, inr}
use Prim.Native.Nat.{ℕ}
use Rattle.meaning.specs.Base.{is_yes, if, any, first}
use Rattle.meaning.specs.Ast.{Name, same_name, Field, method, super, Ty, pred, Expr, Core, ClassDecl, InstanceDecl, class_decl}
use Rattle.meaning.specs.Errors.{unknown_class}
use Rattle.meaning.specs.Budget.{Out, done, refused, or_refuse, depth}
use Rattle.meaning.specs.Subst.{Subst, singleton}
use Rattle.meaning.specs.Classes.{ClassEnv, ClassInfo, InstanceInfo, Given, class_of, resolve, with_class, add_class, with_instance, add_instance}
use Rattle.meaning.specs.Infer.{State}
use Rattle.meaning.specs.Declare.{context_givens, process_class_decl, method_cores, default_cores, super_cores, process_instance_decl}
use Rattle.meaning.specs.Derives.{Derives}
use Rattle.meaning.specs.Select.{field_of}
use Rattle.meaning.specs.Session.{Checker, accepted, refuses, answer, declare_class, run_decl}
use Rattle.theorems.proofs.Says.{Says, Any, and_then, weaken, past}
use Rattle.theorems.proofs.Fields.{HasField, NoSupers, field_here, field-later, more_fields, method_before, field_right, has_left, has_right}
use Rattle.theorems.proofs.Resolved.{resolve_says}
use Rattle.theorems.proofs.Runs.{RunSays, run_then, run_past, lift_says, or_refuse_says, either_run, weaken_run}

-- ## a class
add_class_says : (ce : ClassEnv) (k : ClassDecl) (n : ℕ) → Says (λ ce'. ce' ≡ with_class k ce) Any (add_class ce k n)
unfolding add_class
add_class_says ce k n = past (λ ce'. ce' ≡ with_class k ce) _ _ λ u m. refl

-- An accepted class is the environment's newest class, and its instances are those of before.
pub class_says : (ce : ClassEnv) (k : ClassDecl) (st : State) (n : ℕ) → RunSays (λ ce'. ce' ≡ with_class k ce) (process_class_decl ce k st n)
unfolding process_class_decl
class_says ce k st n =
    run_past (λ ce'. ce' ≡ with_class k ce) _ _ λ u st₁ n₁.
    run_then (λ ce'. ce' ≡ with_class k ce) (λ ce'. ce' ≡ with_class k ce) _ _ (lift_says _ (add_class ce k n₁) st₁ (add_class_says ce k n₁)) λ ce₁ e st₂ n₂. e

answered : (budget : ℕ) (ck : Checker) (k : ClassDecl) (o : Out (ClassEnv × State)) → RunSays (λ ce'. ce' ≡ with_class k ck.class_env) o
    → (answer budget ck (λ a. accepted) (λ ce. ce) o).result ≡ accepted → (answer budget ck (λ a. accepted) (λ ce. ce) o).checker.class_env ≡ with_class k ck.class_env
unfolding answer refuses
answered budget ck k (done r left) h e = h
answered budget ck k (refused r left) h e = cc

-- Only a class of a new name is accepted.
pub class_accepted : (budget : ℕ) (ck : Checker) (k : ClassDecl) → (run_decl budget ck (class_decl k)).result ≡ accepted
    → (class_of ck.class_env k.name ≡ none) × ((run_decl budget ck (class_decl k)).checker.class_env ≡ with_class k ck.class_env)
unfolding run_decl declare_class refuses
class_accepted budget ck k = go (class_of ck.class_env k.name)
  where
    go : (o : Option ClassInfo) → (declare_class budget ck k o).result ≡ accepted → (o ≡ none) × ((declare_class budget ck k o).checker.class_env ≡ with_class k ck.class_env)
    go (some ci) e = (cc, cc)
    go none e = (refl, answered budget ck k (process_class_decl ck.class_env k ck.state budget) (class_says ck.class_env k ck.state budget) e)

-- ## the methods of an instance
-- The instance writes a method of that name.
abbrev writes : List (Name × Expr) → Name → Bool
writes ms x = any (λ (m : Name × Expr). is_yes (same_name m.0 x)) ms

-- Each written method has its field, and no superclass is among the fields.
abbrev Written : List (Name × Expr) → List (Field × Core) → Type 0
Written ms fs = NoSupers fs × ((x : Name) → writes ms x ≡ true → HasField fs (method x))

no_fields : NoSupers []
unfolding field_of first
no_fields c s = refl

none_written : Written [] []
unfolding any
none_written = (no_fields, λ x e. absurd (false≢true e))

one_written : (m : Name × Expr) (ms : List (Name × Expr)) (e : Core) (fs : List (Field × Core)) → Written ms fs → Written (m ∷ ms) ((method m.0, e) ∷ fs)
unfolding any
one_written m ms e fs h = (method_before m.0 e fs h.0, λ x. go x (same_name m.0 x))
  where
    go : (x : Name) (d : Dec (m.0 ≡ x)) → if (is_yes d) true (writes ms x) ≡ true → HasField ((method m.0, e) ∷ fs) (method x)
    go x (yes i) j = subst (λ (y : Name). HasField ((method m.0, e) ∷ fs) (method y)) i ((method m.0, e), field_here (method m.0) e fs)
    go x (no i) j = more_fields (method m.0, e) fs (method x) (h.1 x j)

methods_say : (ce : ClassEnv) (ci : ClassInfo) (s : Subst) (gs : List Given) (ms : List (Name × Expr)) (st : State) (n : ℕ)
    → RunSays (Written ms) (method_cores ce ci s gs ms st n)
unfolding method_cores
methods_say ce ci s gs [] st n = none_written
methods_say ce ci s gs (m ∷ ms) st n =
    run_past (Written (m ∷ ms)) _ _ λ e st₁ n₁.
    run_then (Written ms) (Written (m ∷ ms)) _ _ (methods_say ce ci s gs ms st₁ n₁) λ es h st₂ n₂. one_written m ms e es h

-- Each signature whose method is not written has its field, and no superclass is among the fields.
abbrev Defaulted : List (Name × Expr) → List (Name × Ty) → List (Field × Core) → Type 0
Defaulted ms gs fs = NoSupers fs × ((g : Name × Ty) → Memᴰ g gs → writes ms g.0 ≡ false → HasField fs (method g.0))

none_defaulted : (ms : List (Name × Expr)) → Defaulted ms [] []
none_defaulted ms = (no_fields, λ g m e. absurd (Memᴰ.not-nil m))

not_defaulted : (ms : List (Name × Expr)) (g : Name × Ty) (gs : List (Name × Ty)) (fs : List (Field × Core)) → writes ms g.0 ≡ true → Defaulted ms gs fs → Defaulted ms (g ∷ gs) fs
not_defaulted ms g gs fs t h = (h.0, λ x m. go x (Memᴰ.cases_cons m))
  where
    go : (x : Name × Ty) → (x ≡ g) ⊎ Memᴰ x gs → writes ms x.0 ≡ false → HasField fs (method x.0)
    go x (inl e) f = absurd (true≢false (sym t ∙ ap (λ (y : Name × Ty). writes ms y.0) (sym e) ∙ f))
    go x (inr m) f = h.1 x m f

one_defaulted : (ms : List (Name × Expr)) (g : Name × Ty) (gs : List (Name × Ty)) (e : Core) (fs : List (Field × Core)) → Defaulted ms gs fs → Defaulted ms (g ∷ gs) ((method g.0, e) ∷ fs)
one_defaulted ms g gs e fs h = (method_before g.0 e fs h.0, λ x m. go x (Memᴰ.cases_cons m))
  where
    go : (x : Name × Ty) → (x ≡ g) ⊎ Memᴰ x gs → writes ms x.0 ≡ false → HasField ((method g.0, e) ∷ fs) (method x.0)
    go x (inl i) f = subst (λ (y : Name × Ty). HasField ((method g.0, e) ∷ fs) (method y.0)) (sym i) ((method g.0, e), field_here (method g.0) e fs)
    go x (inr m) f = more_fields (method g.0, e) fs (method x.0) (h.1 x m f)

defaults_say : (ce : ClassEnv) (ci : ClassInfo) (a : Ty) (ms : List (Name × Expr)) (gs : List (Name × Ty)) (st : State) (n : ℕ)
    → RunSays (Defaulted ms gs) (default_cores ce ci a ms gs st n)
unfolding default_cores
defaults_say ce ci a ms [] st n = none_defaulted ms
defaults_say ce ci a ms (g ∷ gs) st n =
    either_run (Defaulted ms (g ∷ gs)) (writes ms g.0) _ _ st n
    (λ t. weaken_run (Defaulted ms gs) (Defaulted ms (g ∷ gs)) (default_cores ce ci a ms gs st n) (defaults_say ce ci a ms gs st n) λ fs h. not_defaulted ms g gs fs t h)
    (λ f. run_past (Defaulted ms (g ∷ gs)) _ _ λ e st₁ n₁.
    run_then (Defaulted ms gs) (Defaulted ms (g ∷ gs)) _ _ (defaults_say ce ci a ms gs st₁ n₁) λ es h st₂ n₂. one_defaulted ms g gs e es h)

-- ## its superclasses
-- The first field of each superclass holds a derivation: one listed twice has two such fields.
abbrev pub Derived : ClassEnv → List Given → Name → Ty → List Name → List (Field × Core) → Type 0
Derived ce gs c a ss fs = (s : Name) → Memᴰ s ss → (f : Field × Core) × (field_of fs (super c s) ≡ some f) × Derives ce gs (pred s a) f.1

one_derived : (ce : ClassEnv) (gs : List Given) (c : Name) (a : Ty) (s : Name) (ss : List Name) (e : Core) (fs : List (Field × Core))
    → Derives ce gs (pred s a) e → Derived ce gs c a ss fs → Derived ce gs c a (s ∷ ss) ((super c s, e) ∷ fs)
one_derived ce gs c a s ss e fs h k x m = go (same_name s x) (Memᴰ.cases_cons m)
  where
    another : s ≢ x → super c s ≢ super c x
    another n i = n cc

    go : Dec (s ≡ x) → (x ≡ s) ⊎ Memᴰ x ss → (f : Field × Core) × (field_of ((super c s, e) ∷ fs) (super c x) ≡ some f) × Derives ce gs (pred x a) f.1
    go (yes i) j = ((super c s, e), subst (λ (y : Name). field_of ((super c s, e) ∷ fs) (super c y) ≡ some (super c s, e)) i (field_here (super c s) e fs), subst (λ (y : Name). Derives ce gs (pred y a) e) i h)
    go (no n) (inl j) = absurd (n (sym j))
    go (no n) (inr m) = let r = k x m in (r.0, field-later (super c s) e fs (super c x) (another n) ∙ r.1, r.2)

supers_say : (ce : ClassEnv) (ci : ClassInfo) (a : Ty) (gs : List Given) (ss : List Name) (n : ℕ)
    → Says (Derived ce gs ci.name a ss) Any (super_cores ce ci a gs ss n)
unfolding super_cores
supers_say ce ci a gs [] n = λ s m. absurd (Memᴰ.not-nil m)
supers_say ce ci a gs (s ∷ ss) n =
    and_then (Derives ce gs (pred s a)) Any (Derived ce gs ci.name a (s ∷ ss)) (resolve ce gs (pred s a) n) _ (resolve_says depth ce gs (pred s a) n) λ e h m.
    and_then (Derived ce gs ci.name a ss) Any (Derived ce gs ci.name a (s ∷ ss)) (super_cores ce ci a gs ss m) _ (supers_say ce ci a gs ss m) λ es k l.
    one_derived ce gs ci.name a s ss e es h k

-- ## the instance
-- What an accepted instance has added: itself, last, with a field for each method of its class and a derivation for each
-- superclass, made in the environment before it.
pub record Added (ce : ClassEnv) (k : InstanceDecl) (ce' : ClassEnv) : Type 0 where
  pub inst : InstanceInfo
  pub info : ClassInfo
  pub becomes : ce' ≡ with_instance inst ce
  pub context_is : inst.context ≡ k.context
  pub head_is : inst.head ≡ k.head
  pub has_class : class_of ce k.head.class ≡ some info
  pub has_methods : (g : Name × Ty) → Memᴰ g info.sigs → HasField inst.methods (method g.0)
  pub has_supers : Derived ce (context_givens k.head k.context) info.name k.head.ty info.supers inst.methods

add_instance_says : (ce : ClassEnv) (i : InstanceInfo) (n : ℕ) → Says (λ ce'. ce' ≡ with_instance i ce) Any (add_instance ce i n)
unfolding add_instance
add_instance_says ce i n = past (λ ce'. ce' ≡ with_instance i ce) _ _ λ u m. past (λ ce'. ce' ≡ with_instance i ce) _ _ λ v l. refl

-- A method is the instance's own or a default.
all_methods : (ms : List (Name × Expr)) (gs : List (Name × Ty)) (own defaults supers : List (Field × Core)) → Written ms own → Defaulted ms gs defaults
    → (g : Name × Ty) → Memᴰ g gs → HasField (own ++ defaults ++ supers) (method g.0)
all_methods ms gs own defaults supers h k g m = go (writes ms g.0) refl
  where
    go : (b : Bool) → writes ms g.0 ≡ b → HasField (own ++ defaults ++ supers) (method g.0)
    go true e = has_left (own ++ defaults) supers (method g.0) (has_left own defaults (method g.0) (h.1 g.0 e))
    go false e = has_left (own ++ defaults) supers (method g.0) (has_right own defaults (method g.0) (k.1 g m e))

-- No method stands before a superclass's field.
all_supers : (ce : ClassEnv) (gs : List Given) (c : Name) (a : Ty) (ss : List Name) (own defaults supers : List (Field × Core)) → NoSupers own → NoSupers defaults
    → Derived ce gs c a ss supers → Derived ce gs c a ss (own ++ defaults ++ supers)
all_supers ce gs c a ss own defaults supers h k d s m =
    let r = d s m in (r.0, field_right (own ++ defaults) supers (super c s) (field_right own defaults (super c s) (h c s) ∙ k c s) ∙ r.1, r.2)

-- An accepted instance has all that its class asks of it.
pub instance_says : (ce : ClassEnv) (k : InstanceDecl) (st : State) (n : ℕ) → RunSays (Added ce k) (process_instance_decl ce k st n)
unfolding process_instance_decl
instance_says ce k st n =
    run_past (Added ce k) _ _ λ u st₁ n₁.
    run_then (λ ci. class_of ce k.head.class ≡ some ci) (Added ce k) _ _ (lift_says _ (or_refuse (unknown_class k.head.class) (class_of ce k.head.class) n₁) st₁ (or_refuse_says _ _ n₁)) λ ci known st₂ n₂.
    run_then (Written k.methods) (Added ce k) _ _ (methods_say ce ci (singleton ci.tyvar k.head.ty) gs k.methods st₂ n₂) λ own h st₃ n₃.
    run_then (Defaulted k.methods ci.sigs) (Added ce k) _ _ (defaults_say ce ci k.head.ty k.methods ci.sigs st₃ n₃) λ defaults d st₄ n₄.
    run_then (Derived ce gs ci.name k.head.ty ci.supers) (Added ce k) _ _
    (lift_says _ (super_cores ce ci k.head.ty gs ci.supers n₄) st₄ (supers_say ce ci k.head.ty gs ci.supers n₄)) λ supers s st₅ n₅.
    run_past (Added ce k) _ _ λ v st₆ n₆.
    lift_says (Added ce k) (add_instance ce (made own defaults supers) n₆) st₆
    (weaken (λ ce'. ce' ≡ with_instance (made own defaults supers) ce) Any (Added ce k) Any (add_instance ce (made own defaults supers) n₆)
    (add_instance_says ce (made own defaults supers) n₆) (λ ce' e. added ci known own h defaults d supers s ce' e) λ r x. x)
  where
    gs : List Given
    gs = context_givens k.head k.context

    made : List (Field × Core) → List (Field × Core) → List (Field × Core) → InstanceInfo
    made own defaults supers = record { context = k.context; head = k.head; methods = own ++ defaults ++ supers }

    added : (ci : ClassInfo) → class_of ce k.head.class ≡ some ci → (own : List (Field × Core)) → Written k.methods own → (defaults : List (Field × Core)) → Defaulted k.methods ci.sigs defaults
        → (supers : List (Field × Core)) → Derived ce gs ci.name k.head.ty ci.supers supers → (ce' : ClassEnv) → ce' ≡ with_instance (made own defaults supers) ce → Added ce k ce'
    added ci known own h defaults d supers s ce' e = record {
      inst = made own defaults supers;
      info = ci;
      becomes = e;
      context_is = refl;
      head_is = refl;
      has_class = known;
      has_methods = all_methods k.methods ci.sigs own defaults supers h d;
      has_supers = all_supers ce gs ci.name k.head.ty ci.supers own defaults supers h.0 d.0 s;
    }
