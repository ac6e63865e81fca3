-- A refused declaration leaves the checker exactly as it stood, counters and all.
use mathlib.Core.Path.{◌≡◌, refl}
use mathlib.Core.Bool.{Bool, true, false}
use mathlib.Core.Option.{Option, none, some}
use Prim.Native.Nat.{ℕ}
use Rattle.meaning.specs.Ast.{Decl, ClassDecl, class_decl, instance_decl, let_decl, check_decl}
use Rattle.meaning.specs.Errors.{Refusal, limit, room, redeclared}
use Rattle.meaning.specs.Budget.{Out, done, refused}
use Rattle.meaning.specs.Classes.{ClassEnv, ClassInfo, class_of}
use Rattle.meaning.specs.Infer.{State}
use Rattle.meaning.specs.Declare.{process_class_decl, process_instance_decl, process_let_decl, check_expr}
use Rattle.meaning.specs.Session.{Checker, Result, refusal, Answer, refuses, answer, declare_class, run_decl, over_limit, no_room, declare}

-- If this is a refusal, the checker is the one before.
abbrev Stands : Checker → Answer → Type 0
Stands ck a = (r : Refusal) → a.result ≡ refusal r → a.checker ≡ ck

refuses_stands : (ck : Checker) (q : Refusal) (spent : ℕ) → Stands ck (refuses ck q spent)
unfolding refuses
refuses_stands ck q spent r e = refl

-- What an answer says is no refusal.
answer_stands : {A : Type 0} (budget : ℕ) (ck : Checker) (says : A → Result) (ce : A → ClassEnv) → ((a : A) (r : Refusal) (x y : Checker) → says a ≡ refusal r → x ≡ y)
    → (o : Out (A × State)) → Stands ck (answer budget ck says ce o)
unfolding answer
answer_stands budget ck says ce never (done a left) r e = never a.0 r _ ck e
answer_stands budget ck says ce never (refused q left) r e = refuses_stands ck q _ r e

class_stands : (budget : ℕ) (ck : Checker) (k : ClassDecl) (o : Option ClassInfo) → Stands ck (declare_class budget ck k o)
unfolding declare_class
class_stands budget ck k (some ci) = refuses_stands ck redeclared 0
class_stands budget ck k none = answer_stands budget ck _ _ (λ a r x y e. cc) (process_class_decl ck.class_env k ck.state budget)

run_stands : (budget : ℕ) (ck : Checker) (k : Decl) → Stands ck (run_decl budget ck k)
unfolding run_decl
run_stands budget ck (class_decl k) = class_stands budget ck k (class_of ck.class_env k.name)
run_stands budget ck (instance_decl k) = answer_stands budget ck _ _ (λ a r x y e. cc) (process_instance_decl ck.class_env k ck.state budget)
run_stands budget ck (let_decl x e) = answer_stands budget ck _ _ (λ a r x y e. cc) (process_let_decl ck.class_env x e ck.state budget)
run_stands budget ck (check_decl e) = answer_stands budget ck _ _ (λ a r x y e. cc) (check_expr ck.class_env e ck.state budget)

-- A property of all three ways that `declare` goes.
pub declare_cases : (P : Answer → Type 0) (budget work binders : ℕ) (k : Decl) (ck : Checker)
    → P (refuses ck (limit 0) 0) → P (refuses ck room 0) → P (run_decl budget ck k) → P (declare budget work binders k ck)
unfolding declare
declare_cases P budget work binders k ck l m o = go (over_limit budget) (no_room budget work binders ck)
  where
    go : (a b : Bool) → P (elim a [ true ↦ refuses ck (limit 0) 0 | false ↦ elim b [ true ↦ refuses ck room 0 | false ↦ run_decl budget ck k ] ])
    go true b = l
    go false true = m
    go false false = o

-- Who is refused may go on as if nothing had been asked.
pub refused_stands : (budget work binders : ℕ) (k : Decl) (ck : Checker) (r : Refusal) → (declare budget work binders k ck).result ≡ refusal r → (declare budget work binders k ck).checker ≡ ck
refused_stands budget work binders k ck =
    declare_cases (Stands ck) budget work binders k ck (refuses_stands ck (limit 0) 0) (refuses_stands ck room 0) (run_stands budget ck k)
