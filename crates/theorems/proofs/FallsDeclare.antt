-- No step is given back: the declarations. Each proof is the `do` block again.
use mathlib.Core.List.{List, [], ◌∷◌}
use Rattle.meaning.specs.Base.{is_yes, any}
use Rattle.meaning.specs.Ast.{Name, same_name, Ty, Pred, Expr, ClassDecl, InstanceDecl}
use Rattle.meaning.specs.Budget.{depth}
use Rattle.meaning.specs.Subst.{Subst}
use Rattle.meaning.specs.Classes.{ClassEnv, ClassInfo, Given}
use Rattle.meaning.specs.Generalize.{Pending}
use Rattle.meaning.specs.Declare.{process_class_decl, all_discharged, method_core, method_cores, default_core, default_cores, super_cores, process_instance_decl, none_deferred, process_let_decl, check_expr}
use Rattle.theorems.proofs.Spends.{Falls, RunFalls, pure_falls, refuse_falls, then_falls, lift_falls, spend_falls, if_run_falls, or_refuse_falls}
use Rattle.theorems.proofs.Falls.{apply_falls, pending_falls, compose_falls, unify_falls, add_class_falls, add_instance_falls, resolve_falls, reduce_falls}
use Rattle.theorems.proofs.FallsInfer.{subst_falls, generalize_falls, finalize_falls, env_insert_falls, infer_falls}

-- A class.
pub process_class_falls : (ce : ClassEnv) (k : ClassDecl) → RunFalls (process_class_decl ce k)
unfolding process_class_decl
process_class_falls ce k st =
    then_falls (lift_falls st (spend_falls _)) λ r.
    then_falls (lift_falls r.1 (add_class_falls ce k)) λ c. pure_falls

-- Whether anything is left over.
pub discharged_falls : (ps : List Pred) → Falls (all_discharged ps)
unfolding all_discharged
discharged_falls [] = pure_falls
discharged_falls (p ∷ ps) = refuse_falls

-- Whether anything is deferred.
pub deferred_falls : (bs : Pending) → Falls (none_deferred bs)
unfolding none_deferred
deferred_falls bs = discharged_falls _

method_core_falls : (ce : ClassEnv) (ci : ClassInfo) (s : Subst) (gs : List Given) (m : Name) (e : Expr) → RunFalls (method_core ce ci s gs m e)
unfolding method_core
method_core_falls ce ci s gs m e st =
    then_falls (lift_falls st (or_refuse_falls _ _)) λ sig.
    then_falls (lift_falls sig.1 (apply_falls depth _ _)) λ expected-ty.
    then_falls (infer_falls depth ce e expected-ty.1) λ i.
    then_falls (lift_falls i.1 (apply_falls depth _ _)) λ a.
    then_falls (lift_falls a.1 (apply_falls depth _ _)) λ b.
    then_falls (lift_falls b.1 (unify_falls depth _ _)) λ s-u.
    then_falls (lift_falls s-u.1 (compose_falls _ _)) λ s-final.
    then_falls (lift_falls s-final.1 (pending_falls _ _)) λ body-preds.
    then_falls (lift_falls body-preds.1 (reduce_falls ce gs _ _)) λ r.
    then_falls (lift_falls r.1 (discharged_falls _)) λ d.
    lift_falls d.1 (subst_falls depth _ _)

-- The methods of an instance.
pub method_cores_falls : (ce : ClassEnv) (ci : ClassInfo) (s : Subst) (gs : List Given) (ms : List (Name × Expr)) → RunFalls (method_cores ce ci s gs ms)
unfolding method_cores
method_cores_falls ce ci s gs [] st = pure_falls
method_cores_falls ce ci s gs (m ∷ ms) st =
    then_falls (method_core_falls ce ci s gs m.0 m.1 st) λ e.
    then_falls (method_cores_falls ce ci s gs ms e.1) λ es. pure_falls

default_core_falls : (ce : ClassEnv) (ci : ClassInfo) (a : Ty) (m : Name) → RunFalls (default_core ce ci a m)
unfolding default_core
default_core_falls ce ci a m st =
    then_falls (lift_falls st (or_refuse_falls _ _)) λ f.
    then_falls (infer_falls depth ce _ f.1) λ i.
    lift_falls i.1 (subst_falls depth _ _)

-- The defaults that it takes.
pub default_cores_falls : (ce : ClassEnv) (ci : ClassInfo) (a : Ty) (ms : List (Name × Expr)) (gs : List (Name × Ty)) → RunFalls (default_cores ce ci a ms gs)
unfolding default_cores
default_cores_falls ce ci a ms [] st = pure_falls
default_cores_falls ce ci a ms (g ∷ gs) st = if_run_falls (any (λ (m : Name × Expr). is_yes (same_name m.0 g.0)) ms)
    (λ st₁. default_cores_falls ce ci a ms gs st₁)
    (λ st₁. then_falls (default_core_falls ce ci a g.0 st₁) λ e. then_falls (default_cores_falls ce ci a ms gs e.1) λ es. pure_falls) st

-- The dictionaries of its superclasses.
pub super_cores_falls : (ce : ClassEnv) (ci : ClassInfo) (a : Ty) (gs : List Given) (ss : List Name) → Falls (super_cores ce ci a gs ss)
unfolding super_cores
super_cores_falls ce ci a gs [] = pure_falls
super_cores_falls ce ci a gs (s ∷ ss) = then_falls (resolve_falls depth ce gs _) λ e. then_falls (super_cores_falls ce ci a gs ss) λ es. pure_falls

-- An instance.
pub process_instance_falls : (ce : ClassEnv) (k : InstanceDecl) → RunFalls (process_instance_decl ce k)
unfolding process_instance_decl
process_instance_falls ce k st =
    then_falls (lift_falls st (spend_falls _)) λ r.
    then_falls (lift_falls r.1 (or_refuse_falls _ _)) λ ci.
    then_falls (method_cores_falls ce ci.0 _ _ k.methods ci.1) λ own.
    then_falls (default_cores_falls ce ci.0 _ k.methods _ own.1) λ defaults.
    then_falls (lift_falls defaults.1 (super_cores_falls ce ci.0 _ _ _)) λ supers.
    then_falls (lift_falls supers.1 (spend_falls _)) λ t.
    lift_falls t.1 (add_instance_falls ce _)

-- A let.
pub process_let_falls : (ce : ClassEnv) (x : Name) (e : Expr) → RunFalls (process_let_decl ce x e)
unfolding process_let_decl
process_let_falls ce x e st =
    then_falls (infer_falls depth ce e st) λ i.
    then_falls (lift_falls i.1 (pending_falls _ _)) λ ps.
    then_falls (lift_falls ps.1 (apply_falls depth _ _)) λ u.
    then_falls pure_falls λ env.
    then_falls (lift_falls env.1 (generalize_falls ce _ _ _ _)) λ g.
    then_falls (lift_falls g.1 (deferred_falls _)) λ d.
    then_falls (env_insert_falls x _ d.1) λ o. pure_falls

-- A checked expression.
pub check_falls : (ce : ClassEnv) (e : Expr) → RunFalls (check_expr ce e)
unfolding check_expr
check_falls ce e st =
    then_falls (infer_falls depth ce e st) λ i.
    then_falls (lift_falls i.1 (apply_falls depth _ _)) λ u.
    then_falls (lift_falls u.1 (pending_falls _ _)) λ ps.
    lift_falls ps.1 (finalize_falls ce _ _ _)
