-- Sessions: the checker, what it keeps, and a declaration as a call with budget, work buffer and binder list.
use Rattle.std.specs.Prelude.{Bool, true, false, ◌||◌, List, [], ◌∷◌, ℕ, ◌+◌, ◌*◌, ◌-◌}
use Rattle.std.proofs.Math.Option.{Option, none, some}
use Rattle.meaning.specs.Base.{if, ltb, total}
use Rattle.meaning.specs.Ast.{Name, called, Ty, arrow, int, bool, size, Qual, Scheme, Core, ClassDecl, Decl, class_decl, instance_decl, let_decl, check_decl}
use Rattle.meaning.specs.Errors.{Refusal, limit, room, redeclared}
use Rattle.meaning.specs.Budget.{Out, done, refused}
use Rattle.meaning.specs.Classes.{ClassEnv, ClassInfo, InstanceInfo, class_of, no_classes}
use Rattle.meaning.specs.Generalize.{Env}
use Rattle.meaning.specs.Infer.{State, mono}
use Rattle.meaning.specs.Declare.{sig_nodes, pred_nodes, field_nodes, process_class_decl, process_instance_decl, process_let_decl, check_expr}

-- `Checker`: what inference changes, and the classes and instances that stand still meanwhile.
pub record Checker : Type 0 where
  pub state : State
  pub class_env : ClassEnv

-- Two numbers to something.
abbrev int_int : Ty → Ty
int_int u = arrow int (arrow int u)

-- `primitives`, in the byte order of the names.
unfoldable pub primitives : Env
primitives =
    (called "primAddInt", mono (int_int int))
    ∷ (called "primAndBool", mono (arrow bool (arrow bool bool)))
    ∷ (called "primEqBool", mono (arrow bool (arrow bool bool)))
    ∷ (called "primEqInt", mono (int_int bool))
    ∷ (called "primLtInt", mono (int_int bool))
    ∷ (called "primMulInt", mono (int_int int))
    ∷ (called "primNotBool", mono (arrow bool bool))
    ∷ []

-- `Checker::new`.
unfoldable pub new : Checker
new = record { state = record { env = primitives; tv_counter = 0; dv_counter = 0 }; class_env = no_classes }

-- Kept nodes of a scheme: of its predicates' types and of its type.
unfoldable pub scheme_nodes : Scheme → ℕ
scheme_nodes c = pred_nodes c.qual.preds + size c.qual.ty

-- Kept nodes of the environment.
unfoldable pub env_nodes : Env → ℕ
env_nodes env = total (λ (p : Name × Scheme). scheme_nodes p.1) env

-- Kept nodes of an instance: of its contexts, its head and its fields.
unfoldable pub instance_nodes : InstanceInfo → ℕ
instance_nodes i = pred_nodes i.context + (size i.head.ty + field_nodes i.methods)

-- Kept nodes of classes and instances.
unfoldable pub class_nodes : ClassEnv → ℕ
class_nodes ce = total (λ (p : Name × ClassInfo). sig_nodes p.1.sigs) ce.classes + total instance_nodes ce.instances

-- All kept nodes. A new session keeps 33.
unfoldable pub kept : Checker → ℕ
kept ck = env_nodes ck.state.env + class_nodes ck.class_env

-- What a declaration answers: a class or an instance, a let's scheme, a check's type and term, or a refusal.
pub data Result : Type 0 where
  accepted : Result
  scheme_of : Scheme → Result
  typed : Qual → Core → Result
  refusal : Refusal → Result

-- The answer, the steps spent, and the checker after the call.
pub record Answer : Type 0 where
  pub result : Result
  pub spent : ℕ
  pub checker : Checker

-- Refused: the checker stays exactly as it stood, counters and all.
unfoldable pub refuses : Checker → Refusal → ℕ → Answer
refuses ck r spent = record { result = refusal r; spent = spent; checker = ck }

-- A computation's outcome as an answer.
unfoldable pub answer : {A : Type 0} → ℕ → Checker → (A → Result) → (A → ClassEnv) → Out (A × State) → Answer
answer budget ck says ce (done r left) = record { result = says r.0; spent = budget - left; checker = record { state = r.1; class_env = ce r.0 } }
answer budget ck says ce (refused r left) = refuses ck r (budget - left)

-- REDECLARED comes before the class itself is looked at.
unfoldable pub declare_class : ℕ → Checker → ClassDecl → Option ClassInfo → Answer
declare_class budget ck k (some ci) = refuses ck redeclared 0
declare_class budget ck k none = answer budget ck (λ _. accepted) (λ ce. ce) (process_class_decl ck.class_env k ck.state budget)

-- A declaration after LIMIT and ROOM.
unfoldable pub run_decl : ℕ → Checker → Decl → Answer
run_decl budget ck (class_decl k) = declare_class budget ck k (class_of ck.class_env k.name)
run_decl budget ck (instance_decl k) = answer budget ck (λ _. accepted) (λ ce. ce) (process_instance_decl ck.class_env k ck.state budget)
run_decl budget ck (let_decl x e) = answer budget ck scheme_of (λ _. ck.class_env) (process_let_decl ck.class_env x e ck.state budget)
run_decl budget ck (check_decl e) = answer budget ck (λ r. typed r.0 r.1) (λ _. ck.class_env) (check_expr ck.class_env e ck.state budget)

-- LIMIT: a budget above 1,000,000.
unfoldable pub over_limit : ℕ → Bool
over_limit budget = ltb 1_000_000 budget

-- ROOM: 64 x (budget + kept) exceeds the work buffer's bytes, or the budget the binder list's length.
unfoldable pub no_room : (budget work binders : ℕ) → Checker → Bool
no_room budget work binders ck = ltb work (64 * (budget + kept ck)) || ltb binders budget

-- A declaration: LIMIT, ROOM, REDECLARED, then the order of 000.
unfoldable pub declare : (budget work binders : ℕ) → Decl → Checker → Answer
declare budget work binders k ck = elim (over_limit budget) [
  | true ↦ refuses ck (limit 0) 0
  | false ↦
      elim (no_room budget work binders ck) [ true ↦ refuses ck room 0 | false ↦ run_decl budget ck k ]
]

-- The answers of declarations one after the other.
unfoldable pub session : (budget work binders : ℕ) → List Decl → Checker → List Answer
session budget work binders [] ck = []
session budget work binders (k ∷ ks) ck = let a = declare budget work binders k ck in a ∷ session budget work binders ks a.checker

-- A checker that declarations reach from a new session, in any order, with whatever each call is lent.
pub data Reached : Checker → Type 0 where
  at_first : Reached new
  after_call : {ck : Checker} → Reached ck → (budget work binders : ℕ) (k : Decl) → Reached (declare budget work binders k ck).checker

-- One call: what the caller lends, and the declaration.
pub record Call : Type 0 where
  pub budget : ℕ
  pub work : ℕ
  pub binders : ℕ
  pub decl : Decl

-- Its answer.
abbrev pub call : Call → Checker → Answer
call c ck = declare c.budget c.work c.binders c.decl ck

-- The answers of calls one after the other, each with what it is lent.
unfoldable pub calls : List Call → Checker → List Answer
calls [] ck = []
calls (c ∷ cs) ck = call c ck ∷ calls cs (call c ck).checker

-- The checker after them.
unfoldable pub after_calls : List Call → Checker → Checker
after_calls [] ck = ck
after_calls (c ∷ cs) ck = after_calls cs (call c ck).checker

-- No refusal.
unfoldable pub is_accepted : Result → Bool
is_accepted accepted = true
is_accepted (scheme_of c) = true
is_accepted (typed q e) = true
is_accepted (refusal r) = false

-- The calls that were accepted.
unfoldable pub accepted_calls : List Call → Checker → List Call
accepted_calls [] ck = []
accepted_calls (c ∷ cs) ck = if (is_accepted (call c ck).result) (c ∷ accepted_calls cs (call c ck).checker) (accepted_calls cs (call c ck).checker)
