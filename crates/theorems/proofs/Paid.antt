-- What a declaration adds has been paid for, step by node.
use mathlib.Core.Path.{◌≡◌, refl, ap, ◌∙◌}
use mathlib.Core.List.{List, [], ◌++◌}
use Prim.Native.Nat.{ℕ, ◌+◌, ◌*◌, ◌≤◌}
use native.Mathlib.Omega.{arith}
use Rattle.meaning.specs.Base.{count}
use Rattle.meaning.specs.Ast.{Name, Field, Ty, size, Expr, Core, ClassDecl, InstanceDecl}
use Rattle.meaning.specs.Budget.{depth}
use Rattle.meaning.specs.Classes.{ClassEnv, ClassInfo, InstanceInfo, with_class, with_instance, add_class, add_instance}
use Rattle.meaning.specs.Generalize.{Pending, Env, generalize_binding}
use Rattle.meaning.specs.Infer.{State, with_env}
use Rattle.meaning.specs.Declare.{sig_nodes, pred_nodes, field_nodes, insert_sigs, process_class_decl, process_instance_decl, process_let_decl}
use Rattle.meaning.specs.Session.{scheme_nodes}
use Rattle.theorems.proofs.Spends.{pure_falls, lift_falls, or_refuse_falls}
use Rattle.theorems.proofs.Falls.{apply_falls, pending_falls, supers_known_falls, none_overlaps_falls, reduce_falls}
use Rattle.theorems.proofs.FallsInfer.{simplified_falls, unless_ambiguous_falls, env_insert_falls, infer_falls}
use Rattle.theorems.proofs.FallsDeclare.{deferred_falls, method_cores_falls, default_cores_falls, super_cores_falls}
use Rattle.theorems.proofs.Gives.{Gives, gives, then_gives, gives_more, falls_gives, lift_gives, lift_keeps, spend_gives}
use Rattle.theorems.proofs.Renamed.{canonical_paid}

-- The scheme of a binding.
pub generalize_paid : (ce : ClassEnv) (env : Env) (t : Ty) (ps : Pending) (e : Core) (n : ℕ)
    → Gives (λ r left. scheme_nodes r.0 + left ≤ n) (generalize_binding ce env t ps e n)
unfolding generalize_binding
generalize_paid ce env t ps e n =
    then_gives (falls_gives n (reduce_falls ce [] _ _)) λ r n₁ h₁.
    then_gives (falls_gives n₁ (simplified_falls ce ps e _ _)) λ k n₂ h₂.
    then_gives (falls_gives n₂ (unless_ambiguous_falls _)) λ _ n₃ h₃.
    then_gives (canonical_paid _ _ _ n₃) λ c n₄ h₄.
    gives _ n₄ (omega arith)

-- A let: its scheme's nodes have been spent.
pub let_paid : (ce : ClassEnv) (x : Name) (e : Expr) (st : State) (n : ℕ) → Gives (λ r left. scheme_nodes r.0 + left ≤ n) (process_let_decl ce x e st n)
unfolding process_let_decl
let_paid ce x e st n =
    then_gives (falls_gives n (infer_falls depth ce e st)) λ i n₁ h₁.
    then_gives (falls_gives n₁ (lift_falls i.1 (pending_falls _ _))) λ ps n₂ h₂.
    then_gives (falls_gives n₂ (lift_falls ps.1 (apply_falls depth _ _))) λ u n₃ h₃.
    then_gives (falls_gives n₃ pure_falls) λ env n₄ h₄.
    then_gives (lift_gives env.1 (generalize_paid ce _ _ _ _ n₄)) λ g n₅ h₅.
    then_gives (falls_gives n₅ (lift_falls g.1 (deferred_falls _))) λ d n₆ h₆.
    then_gives (falls_gives n₆ (env_insert_falls x _ d.1)) λ o n₇ h₇.
    gives _ n₇ (omega arith)

-- A class that is added, and what was spent on it.
pub record ClassPaid (ce : ClassEnv) (k : ClassDecl) (st : State) (n : ℕ) (r : ClassEnv × State) (left : ℕ) : Type 0 where
  pub classes_are : r.0 ≡ with_class k ce
  pub env_is : r.1.env ≡ insert_sigs k k.sigs st.env
  pub paid : left + (2 * sig_nodes k.sigs + count k.sigs) ≤ n

add_class_gives : (ce : ClassEnv) (ci : ClassInfo) (n : ℕ) → Gives (λ ce₁ left. (ce₁ ≡ with_class ci ce) × (left ≤ n)) (add_class ce ci n)
unfolding add_class
add_class_gives ce ci n = then_gives (falls_gives n (supers_known_falls ce ci.name ci.supers)) λ _ n₁ h. gives _ n₁ (refl, h)

-- A class spends twice its signatures' nodes and one for each: once for the class, once for the methods' schemes.
pub class_paid : (ce : ClassEnv) (k : ClassDecl) (st : State) (n : ℕ) → Gives (ClassPaid ce k st n) (process_class_decl ce k st n)
unfolding process_class_decl with_env
class_paid ce k st n =
    then_gives (lift_keeps st (spend_gives _ n)) λ s n₁ h₁.
    then_gives (lift_keeps s.1 (add_class_gives ce k n₁)) λ c n₂ h₂.
    gives _ n₂ (record { classes_are = h₂.1.0; env_is = ap (λ (st₁ : State). insert_sigs k k.sigs st₁.env) (h₂.0 ∙ h₁.0); paid = omega arith })

-- An instance that is added, and what was spent on it.
pub record InstancePaid (ce : ClassEnv) (k : InstanceDecl) (n : ℕ) (r : ClassEnv × State) (left : ℕ) : Type 0 where
  pub fields : List (Field × Core)
  pub classes_are : r.0 ≡ with_instance (record { context = k.context; head = k.head; methods = fields }) ce
  pub paid : left + (pred_nodes k.context + size k.head.ty) + field_nodes fields ≤ n

add_instance_gives : (ce : ClassEnv) (i : InstanceInfo) (n : ℕ) → Gives (λ ce₁ left. (ce₁ ≡ with_instance i ce) × (left ≤ n)) (add_instance ce i n)
unfolding add_instance
add_instance_gives ce i n =
    then_gives (falls_gives n (or_refuse_falls _ _)) λ _ n₁ h₁.
    then_gives (falls_gives n₁ (none_overlaps_falls ce.instances i.head)) λ _ n₂ h₂.
    gives _ n₂ (refl, omega arith)

-- An instance spends the nodes of its context and head at first and those of its fields at last.
pub instance_paid : (ce : ClassEnv) (k : InstanceDecl) (st : State) (n : ℕ) → Gives (InstancePaid ce k n) (process_instance_decl ce k st n)
unfolding process_instance_decl
instance_paid ce k st n =
    then_gives (lift_gives st (spend_gives _ n)) λ s n₁ h₁.
    then_gives (falls_gives n₁ (lift_falls s.1 (or_refuse_falls _ _))) λ ci n₂ h₂.
    then_gives (falls_gives n₂ (method_cores_falls ce ci.0 _ _ k.methods ci.1)) λ own n₃ h₃.
    then_gives (falls_gives n₃ (default_cores_falls ce ci.0 _ k.methods _ own.1)) λ defaults n₄ h₄.
    then_gives (falls_gives n₄ (lift_falls defaults.1 (super_cores_falls ce ci.0 _ _ _))) λ supers n₅ h₅.
    then_gives (lift_gives supers.1 (spend_gives _ n₅)) λ t n₆ h₆.
    gives_more (lift_gives t.1 (add_instance_gives ce _ n₆)) λ c n₇ h₇.
    record { fields = own.0 ++ defaults.0 ++ supers.0; classes_are = h₇.0; paid = omega arith }
