-- Every checker that declarations reach has a sound class environment.
use mathlib.Core.Path.{◌≡◌, refl, sym, subst}
use mathlib.Core.Option.{Option, none, some}
use Prim.Native.Nat.{ℕ}
use Rattle.meaning.specs.Base.{nth}
use Rattle.meaning.specs.Ast.{ClassDecl, Decl, class_decl, instance_decl, let_decl, check_decl}
use Rattle.meaning.specs.Errors.{Refusal, limit, room, redeclared}
use Rattle.meaning.specs.Budget.{Out, done, refused}
use Rattle.meaning.specs.Map.{get}
use Rattle.meaning.specs.Classes.{ClassEnv, ClassInfo, class_of, with_class}
use Rattle.meaning.specs.Infer.{State}
use Rattle.meaning.specs.Declare.{process_class_decl, process_instance_decl, process_let_decl, check_expr}
use Rattle.meaning.specs.Session.{Checker, Result, Answer, new, refuses, answer, declare_class, run_decl, declare, Reached, at_first, after_call}
use Rattle.theorems.proofs.Tests.{none_some}
use Rattle.theorems.proofs.Sound.{Sound}
use Rattle.theorems.proofs.Runs.{RunSays, weaken_run}
use Rattle.theorems.proofs.Refused.{declare_cases}
use Rattle.theorems.proofs.Accepted.{Added, class_says, instance_says}
use Rattle.theorems.proofs.Grown.{class_sound, instance_sound}

-- Whatever the answer, the class environment after it is sound.
abbrev Keeps : Answer → Type 0
Keeps a = Sound a.checker.class_env

refuses_keeps : (ck : Checker) (r : Refusal) (spent : ℕ) → Sound ck.class_env → Keeps (refuses ck r spent)
unfolding refuses
refuses_keeps ck r spent s = s

answer_keeps : {A : Type 0} (budget : ℕ) (ck : Checker) (says : A → Result) (ce : A → ClassEnv) (o : Out (A × State))
    → Sound ck.class_env → RunSays (λ a. Sound (ce a)) o → Keeps (answer budget ck says ce o)
unfolding answer
answer_keeps budget ck says ce (done r left) s h = h
answer_keeps budget ck says ce (refused r left) s h = refuses_keeps ck r _ s

-- A declaration that changes no class and no instance.
answer_same : {A : Type 0} (budget : ℕ) (ck : Checker) (says : A → Result) (o : Out (A × State)) → Sound ck.class_env → Keeps (answer budget ck says (λ a. ck.class_env) o)
unfolding answer
answer_same budget ck says (done r left) s = s
answer_same budget ck says (refused r left) s = refuses_keeps ck r _ s

class_keeps : (budget : ℕ) (ck : Checker) (k : ClassDecl) (o : Option ClassInfo) → class_of ck.class_env k.name ≡ o → Sound ck.class_env → Keeps (declare_class budget ck k o)
unfolding declare_class
class_keeps budget ck k (some ci) e s = refuses_keeps ck redeclared 0 s
class_keeps budget ck k none e s = answer_keeps budget ck _ (λ ce. ce) (process_class_decl ck.class_env k ck.state budget) s
    (weaken_run (λ ce. ce ≡ with_class k ck.class_env) Sound (process_class_decl ck.class_env k ck.state budget) (class_says ck.class_env k ck.state budget)
    λ ce i. subst Sound (sym i) (class_sound k ck.class_env e s))

run_keeps : (budget : ℕ) (ck : Checker) (k : Decl) → Sound ck.class_env → Keeps (run_decl budget ck k)
unfolding run_decl
run_keeps budget ck (class_decl k) s = class_keeps budget ck k (class_of ck.class_env k.name) refl s
run_keeps budget ck (instance_decl k) s = answer_keeps budget ck _ (λ ce. ce) (process_instance_decl ck.class_env k ck.state budget) s
    (weaken_run (Added ck.class_env k) Sound (process_instance_decl ck.class_env k ck.state budget) (instance_says ck.class_env k ck.state budget)
    λ ce a. instance_sound ck.class_env k ce s a)
run_keeps budget ck (let_decl x e) s = answer_same budget ck _ (process_let_decl ck.class_env x e ck.state budget) s
run_keeps budget ck (check_decl e) s = answer_same budget ck _ (check_expr ck.class_env e ck.state budget) s

-- No declaration, accepted or refused, harms a sound environment.
pub declare_sound : (budget work binders : ℕ) (k : Decl) (ck : Checker) → Sound ck.class_env → Sound (declare budget work binders k ck).checker.class_env
declare_sound budget work binders k ck s =
    declare_cases Keeps budget work binders k ck (refuses_keeps ck (limit 0) 0 s) (refuses_keeps ck room 0 s) (run_keeps budget ck k s)

new_sound : Sound new.class_env
unfolding new get nth
new_sound = record { names_right = λ c ci e. absurd (none_some ci e); at = λ i inst e. absurd (none_some inst e) }

-- So whatever a session declares, resolution stands on sound instances.
pub sound_reached : (ck : Checker) → Reached ck → Sound ck.class_env
sound_reached ck at_first = new_sound
sound_reached ck (after_call {ck = ck₀} r budget work binders k) = declare_sound budget work binders k ck₀ (sound_reached ck₀ r)
