-- An accepted declaration keeps no more new nodes than the steps it spent.
use mathlib.Core.Path.{◌≡◌, refl, ap}
use mathlib.Core.Bool.{Bool, true, false}
use mathlib.Core.Option.{Option, none, some}
use Prim.Native.Nat.{ℕ, ◌+◌, ◌≤◌}
use native.Mathlib.Omega.{arith}
use Rattle.meaning.specs.Ast.{Name, Qual, Scheme, Expr, Core, ClassDecl, InstanceDecl, Decl, class_decl, instance_decl, let_decl, check_decl}
use Rattle.meaning.specs.Errors.{limit, room}
use Rattle.meaning.specs.Budget.{Out, done, refused}
use Rattle.meaning.specs.Map.{names, insert}
use Rattle.meaning.specs.Classes.{ClassEnv, ClassInfo, class_of}
use Rattle.meaning.specs.Infer.{State}
use Rattle.meaning.specs.Declare.{process_class_decl, process_instance_decl, process_let_decl, check_expr}
use Rattle.meaning.specs.Session.{Checker, env_nodes, instance_nodes, class_nodes, kept, Result, Answer, refuses, answer, declare_class, run_decl, over_limit, no_room, declare}
use Rattle.theorems.proofs.Says.{Says, Any, of_done}
use Rattle.theorems.proofs.FallsDeclare.{check_falls}
use Rattle.theorems.proofs.Gives.{falls_gives}
use Rattle.theorems.proofs.Nodes.{env_nodes-insert, insert_sigs_nodes, with_class_nodes, with_instance_nodes}
use Rattle.theorems.proofs.Paid.{let_paid, class_paid, instance_paid}

-- Inference gives the environment back as it was; a let adds its scheme.
abbrev pub EnvStands : Decl → Checker → Type 0
EnvStands (class_decl k) ck = Unit {0}
EnvStands (instance_decl k) ck = (n : ℕ) → Says (λ (r : ClassEnv × State). r.1.env ≡ ck.state.env) Any (process_instance_decl ck.class_env k ck.state n)
EnvStands (let_decl x e) ck = (n : ℕ) → Says (λ (r : Scheme × State). r.1.env ≡ insert names (x, r.0) ck.state.env) Any (process_let_decl ck.class_env x e ck.state n)
EnvStands (check_decl e) ck = (n : ℕ) → Says (λ (r : (Qual × Core) × State). r.1.env ≡ ck.state.env) Any (check_expr ck.class_env e ck.state n)

-- What the checker after an answer keeps was kept before or has been spent.
abbrev Pays : Checker → Answer → Type 0
Pays ck a = kept a.checker ≤ kept ck + a.spent

-- What an answer leaves and what it adds are no more than the budget.
abbrev Within : {A : Type 0} → ℕ → Checker → (A → ClassEnv) → A × State → ℕ → Type 0
Within n ck ce r left = left + (env_nodes r.1.env + class_nodes (ce r.0)) ≤ n + kept ck

answer_pays : {A : Type 0} (budget : ℕ) (ck : Checker) (says : A → Result) (ce : A → ClassEnv) (o : Out (A × State))
    → ((r : A × State) (left : ℕ) → o ≡ done r left → (left ≤ budget) × Within budget ck ce r left)
    → Pays ck (answer budget ck says ce o)
unfolding answer refuses kept
answer_pays budget ck says ce (done r left) h = let k = h r left refl in omega arith
answer_pays budget ck says ce (refused r left) h = omega arith

let_pays : (budget : ℕ) (x : Name) (e : Expr) (ck : Checker) → EnvStands (let_decl x e) ck
    → (r : Scheme × State) (left : ℕ) → process_let_decl ck.class_env x e ck.state budget ≡ done r left
    → (left ≤ budget) × Within budget ck (λ _. ck.class_env) r left
unfolding kept
let_pays budget x e ck stands r left i =
    let h = (let_paid ck.class_env x e ck.state budget).given r left i in
    let j = ap env_nodes (of_done _ _ _ r left (stands budget) i) in
    let k = env_nodes-insert x r.0 ck.state.env in
    (omega arith, omega arith)

check_pays : (budget : ℕ) (e : Expr) (ck : Checker) → EnvStands (check_decl e) ck
    → (r : (Qual × Core) × State) (left : ℕ) → check_expr ck.class_env e ck.state budget ≡ done r left
    → (left ≤ budget) × Within budget ck (λ _. ck.class_env) r left
unfolding kept
check_pays budget e ck stands r left i =
    let h = (falls_gives budget (check_falls ck.class_env e ck.state)).given r left i in
    let j = ap env_nodes (of_done _ _ _ r left (stands budget) i) in
    (omega arith, omega arith)

instance_pays : (budget : ℕ) (k : InstanceDecl) (ck : Checker) → EnvStands (instance_decl k) ck
    → (r : ClassEnv × State) (left : ℕ) → process_instance_decl ck.class_env k ck.state budget ≡ done r left
    → (left ≤ budget) × Within budget ck (λ ce. ce) r left
unfolding kept instance_nodes
instance_pays budget k ck stands r left i =
    let h = (instance_paid ck.class_env k ck.state budget).given r left i in
    let p = h.paid in
    let j = ap env_nodes (of_done _ _ _ r left (stands budget) i) in
    let c = ap class_nodes h.classes_are in
    let w = with_instance_nodes (record { context = k.context; head = k.head; methods = h.fields }) ck.class_env in
    (omega arith, omega arith)

class_pays : (budget : ℕ) (k : ClassDecl) (ck : Checker)
    → (r : ClassEnv × State) (left : ℕ) → process_class_decl ck.class_env k ck.state budget ≡ done r left
    → (left ≤ budget) × Within budget ck (λ ce. ce) r left
unfolding kept
class_pays budget k ck r left i =
    let h = (class_paid ck.class_env k ck.state budget).given r left i in
    let p = h.paid in
    let j = ap env_nodes h.env_is in
    let c = ap class_nodes h.classes_are in
    let s = insert_sigs_nodes k k.sigs ck.state.env in
    let w = with_class_nodes k ck.class_env in
    (omega arith, omega arith)

declare_class_pays : (budget : ℕ) (k : ClassDecl) (ck : Checker) (o : Option ClassInfo) → Pays ck (declare_class budget ck k o)
unfolding declare_class refuses
declare_class_pays budget k ck none = answer_pays budget ck _ _ _ (class_pays budget k ck)
declare_class_pays budget k ck (some ci) = omega arith

run_pays : (budget : ℕ) (k : Decl) (ck : Checker) → EnvStands k ck → Pays ck (run_decl budget ck k)
unfolding run_decl
run_pays budget (class_decl k) ck stands = declare_class_pays budget k ck (class_of ck.class_env k.name)
run_pays budget (instance_decl k) ck stands = answer_pays budget ck _ _ _ (instance_pays budget k ck stands)
run_pays budget (let_decl x e) ck stands = answer_pays budget ck _ _ _ (let_pays budget x e ck stands)
run_pays budget (check_decl e) ck stands = answer_pays budget ck _ _ _ (check_pays budget e ck stands)

-- A declaration's new nodes are no more than the steps it spent, accepted or not: so a session's total of steps bounds
-- what it keeps.
pub kept_paid : (budget work binders : ℕ) (k : Decl) (ck : Checker) → EnvStands k ck
    → kept (declare budget work binders k ck).checker ≤ kept ck + (declare budget work binders k ck).spent
unfolding declare refuses
kept_paid budget work binders k ck stands = go (over_limit budget) (no_room budget work binders ck) (run_pays budget k ck stands)
  where
    go : (a b : Bool) → Pays ck (run_decl budget ck k)
        → Pays ck (elim a [ true ↦ refuses ck (limit 0) 0 | false ↦ elim b [ true ↦ refuses ck room 0 | false ↦ run_decl budget ck k ] ])
    go true b h = omega arith
    go false true h = omega arith
    go false false h = h
