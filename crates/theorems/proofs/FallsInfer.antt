-- No step is given back: core terms, generalization and inference. Each proof is the `do` block again.
use mathlib.Core.List.{List, [], ◌∷◌}
use mathlib.Core.Option.{Option, none, some}
use Prim.Native.Nat.{ℕ, suc, zero}
use Rattle.meaning.specs.Ast.{Name, TyVar, DictName, Ty, Pred, Qual, Scheme, Expr, evar, eint, ebool, eabs, eapp, elet, Core, Cores, cvar, cdict, cint, cbool, cabs, capp, clet, dict_abs, dict_app, dict_proj, dict_rec, cnil, ◌◃◌, Binder}
use Rattle.meaning.specs.Budget.{Steps, depth}
use Rattle.meaning.specs.Map.{Map}
use Rattle.meaning.specs.Subst.{Subst}
use Rattle.meaning.specs.Classes.{ClassEnv, ClassInfo}
use Rattle.meaning.specs.Reduce.{Discharged}
use Rattle.meaning.specs.Cores.{each_core, subst_node, subst_in, apply_core_node, apply_core_in, canonical_scheme_and_core, canonicalize_pair}
use Rattle.meaning.specs.Generalize.{Pending, Env, simplified, unless_ambiguous, generalize_binding, finalize_expr}
use Rattle.meaning.specs.Infer.{Run, Inferred, fresh_tyvar, fresh_dictvar, env_insert, env_restore, apply_schemes, apply_env, fresh_all, instantiate_preds, instantiate, var_core, infer_var, infer_abs, infer_app, infer_let, infer_node, infer_in}
use Rattle.theorems.proofs.Spends.{Falls, RunFalls, pure_falls, refuse_falls, then_falls, lift_falls, step_falls, or_refuse_falls}
use Rattle.theorems.proofs.Falls.{apply_falls, pred_falls, pending_falls, qual_falls, scheme_falls, compose_falls, unify_falls, reduce_falls, simplify_falls}

-- ## core terms
each_core_falls : (f : Core → Steps Core) → ((e : Core) → Falls (f e)) → (es : Cores) → Falls (each_core f es)
unfolding each_core
each_core_falls f h cnil = pure_falls
each_core_falls f h (e ◃ es) = then_falls (h e) λ u. then_falls (each_core_falls f h es) λ us. pure_falls

subst_node_falls : (f : Map DictName Core → Core → Steps Core) → ((s : Map DictName Core) (e : Core) → Falls (f s e)) → (s : Map DictName Core) (e : Core) → Falls (subst_node f s e)
unfolding subst_node
subst_node_falls f h s (cvar x) = pure_falls
subst_node_falls f h s (cdict d) = pure_falls
subst_node_falls f h s (cint i) = pure_falls
subst_node_falls f h s (cbool b) = pure_falls
subst_node_falls f h s (cabs x e) = then_falls (h _ e) λ u. pure_falls
subst_node_falls f h s (capp g e) = then_falls (h _ g) λ u. then_falls (h _ e) λ v. pure_falls
subst_node_falls f h s (clet x e₁ e₂) = then_falls (h _ e₁) λ u. then_falls (h _ e₂) λ v. pure_falls
subst_node_falls f h s (dict_abs bs e) = then_falls (h _ e) λ u. pure_falls
subst_node_falls f h s (dict_app g es) = then_falls (h _ g) λ u. then_falls (each_core_falls (f s) (h s) es) λ us. pure_falls
subst_node_falls f h s (dict_proj e m) = then_falls (h _ e) λ u. pure_falls
subst_node_falls f h s (dict_rec c a i) = pure_falls

-- Replacing dictionary names in a term.
pub subst_falls : (d : ℕ) (s : Map DictName Core) (e : Core) → Falls (subst_in d s e)
unfolding subst_in
subst_falls zero s e = refuse_falls
subst_falls (suc d) s e = step_falls (subst_node_falls _ (λ s₁ e₁. subst_falls d s₁ e₁) s e)

apply_core_node_falls : (f : Core → Steps Core) (s : Subst) → ((e : Core) → Falls (f e)) → (e : Core) → Falls (apply_core_node f s e)
unfolding apply_core_node
apply_core_node_falls f s h (cvar x) = pure_falls
apply_core_node_falls f s h (cdict d) = pure_falls
apply_core_node_falls f s h (cint i) = pure_falls
apply_core_node_falls f s h (cbool b) = pure_falls
apply_core_node_falls f s h (cabs x e) = then_falls (h e) λ u. pure_falls
apply_core_node_falls f s h (capp g e) = then_falls (h g) λ u. then_falls (h e) λ v. pure_falls
apply_core_node_falls f s h (clet x e₁ e₂) = then_falls (h e₁) λ u. then_falls (h e₂) λ v. pure_falls
apply_core_node_falls f s h (dict_abs bs e) = then_falls (pending_falls s bs) λ cs. then_falls (h e) λ u. pure_falls
apply_core_node_falls f s h (dict_app g es) = then_falls (h g) λ u. then_falls (each_core_falls f h es) λ us. pure_falls
apply_core_node_falls f s h (dict_proj e m) = then_falls (h e) λ u. pure_falls
apply_core_node_falls f s h (dict_rec c a i) = then_falls (apply_falls depth s a) λ u. pure_falls

-- Applying a substitution to a term's types.
pub apply_core_falls : (d : ℕ) (s : Subst) (e : Core) → Falls (apply_core_in d s e)
unfolding apply_core_in
apply_core_falls zero s e = refuse_falls
apply_core_falls (suc d) s e = step_falls (apply_core_node_falls _ s (λ u. apply_core_falls d s u) e)

-- Canonical names, of a binding.
pub canonical_falls : (vs : List TyVar) (q : Qual) (e : Core) → Falls (canonical_scheme_and_core vs q e)
unfolding canonical_scheme_and_core
canonical_falls vs q e = then_falls (qual_falls _ q) λ q₁. then_falls (apply_core_falls depth _ e) λ e₁. pure_falls

-- And of an expression.
pub canonicalize_falls : (q : Qual) (e : Core) → Falls (canonicalize_pair q e)
unfolding canonicalize_pair
canonicalize_falls q e = then_falls (qual_falls _ q) λ q₁. then_falls (apply_core_falls depth _ e) λ e₁. pure_falls

-- ## generalization
-- What a binding and an expression have in common.
pub simplified_falls : (ce : ClassEnv) (ps : Pending) (e : Core) (bs : List Binder) (ds : List Discharged) → Falls (simplified ce ps e bs ds)
unfolding simplified
simplified_falls ce ps e bs ds = then_falls (simplify_falls ce bs _) λ r. then_falls (subst_falls depth _ e) λ e₁. pure_falls

-- The test for an ambiguous predicate.
pub unless_ambiguous_falls : (o : Option Pred) → Falls (unless_ambiguous o)
unfolding unless_ambiguous
unless_ambiguous_falls none = pure_falls
unless_ambiguous_falls (some p) = refuse_falls

-- Generalizing a binding.
pub generalize_falls : (ce : ClassEnv) (env : Env) (t : Ty) (ps : Pending) (e : Core) → Falls (generalize_binding ce env t ps e)
unfolding generalize_binding
generalize_falls ce env t ps e =
    then_falls (reduce_falls ce [] _ _) λ r.
    then_falls (simplified_falls ce ps e _ _) λ k.
    then_falls (unless_ambiguous_falls _) λ _.
    then_falls (canonical_falls _ _ _) λ c. pure_falls

-- Finishing an expression.
pub finalize_falls : (ce : ClassEnv) (t : Ty) (ps : Pending) (e : Core) → Falls (finalize_expr ce t ps e)
unfolding finalize_expr
finalize_falls ce t ps e =
    then_falls (reduce_falls ce [] _ _) λ r.
    then_falls (simplified_falls ce ps e _ _) λ k.
    canonicalize_falls _ _

-- ## inference
fresh_tyvar_falls : RunFalls fresh_tyvar
unfolding fresh_tyvar
fresh_tyvar_falls st = pure_falls

fresh_dictvar_falls : RunFalls fresh_dictvar
unfolding fresh_dictvar
fresh_dictvar_falls st = pure_falls

-- A name in the environment.
pub env_insert_falls : (x : Name) (c : Scheme) → RunFalls (env_insert x c)
unfolding env_insert
env_insert_falls x c st = pure_falls

env_restore_falls : (x : Name) (o : Option Scheme) → RunFalls (env_restore x o)
unfolding env_restore
env_restore_falls x none st = pure_falls
env_restore_falls x (some c) st = pure_falls

schemes_falls : (s : Subst) (env : Env) → Falls (apply_schemes s env)
unfolding apply_schemes
schemes_falls s [] = pure_falls
schemes_falls s (p ∷ env) = then_falls (scheme_falls s p.1) λ c. then_falls (schemes_falls s env) λ rest. pure_falls

-- Applying a substitution to the environment.
pub apply_env_falls : (s : Subst) → RunFalls (apply_env s)
unfolding apply_env
apply_env_falls s st = then_falls (schemes_falls s st.env) λ env. pure_falls

fresh_all_falls : (vs : List TyVar) → RunFalls (fresh_all vs)
unfolding fresh_all
fresh_all_falls [] st = pure_falls
fresh_all_falls (v ∷ vs) st = then_falls (fresh_tyvar_falls st) λ x. then_falls (fresh_all_falls vs x.1) λ s. pure_falls

instantiate_preds_falls : (s : Subst) (ps : List Pred) → RunFalls (instantiate_preds s ps)
unfolding instantiate_preds
instantiate_preds_falls s [] st = pure_falls
instantiate_preds_falls s (p ∷ ps) st =
    then_falls (fresh_dictvar_falls st) λ d.
    then_falls (lift_falls d.1 (pred_falls s p)) λ q.
    then_falls (instantiate_preds_falls s ps q.1) λ qs. pure_falls

-- An instance of a scheme.
pub instantiate_falls : (c : Scheme) → RunFalls (instantiate c)
unfolding instantiate
instantiate_falls c st =
    then_falls (fresh_all_falls c.vars st) λ s.
    then_falls (lift_falls s.1 (apply_falls depth _ _)) λ u.
    then_falls (instantiate_preds_falls s.0 _ u.1) λ ps. pure_falls

var_core_falls : (x : Name) (ps : Pending) (o : Option (ClassInfo × Ty)) → Falls (var_core x ps o)
unfolding var_core
var_core_falls x ps none = pure_falls
var_core_falls x ps (some r) = then_falls (or_refuse_falls _ _) λ b. pure_falls

infer_var_falls : (ce : ClassEnv) (x : Name) → RunFalls (infer_var ce x)
unfolding infer_var
infer_var_falls ce x st =
    then_falls pure_falls λ env.
    then_falls (lift_falls env.1 (or_refuse_falls _ _)) λ c.
    then_falls (instantiate_falls c.0 c.1) λ u.
    then_falls (lift_falls u.1 (var_core_falls x _ _)) λ e. pure_falls

module _ (infer : Expr → Run Inferred) (h : (e : Expr) → RunFalls (infer e)) where
  infer_abs_falls : (x : Name) (e : Expr) → RunFalls (infer_abs infer x e)
  unfolding infer_abs
  infer_abs_falls x e st =
      then_falls (fresh_tyvar_falls st) λ a.
      then_falls (env_insert_falls x _ a.1) λ prev.
      then_falls (h e prev.1) λ i.
      then_falls (env_restore_falls x prev.0 i.1) λ r.
      then_falls (lift_falls r.1 (apply_falls depth _ _)) λ u. pure_falls

  infer_app_falls : (f x : Expr) → RunFalls (infer_app infer f x)
  unfolding infer_app
  infer_app_falls f x st =
      then_falls (fresh_tyvar_falls st) λ a.
      then_falls (h f a.1) λ i.
      then_falls (apply_env_falls _ i.1) λ r.
      then_falls (h x r.1) λ j.
      then_falls (lift_falls j.1 (apply_falls depth _ _)) λ f-ty₂.
      then_falls (lift_falls f-ty₂.1 (unify_falls depth _ _)) λ s₃.
      then_falls (lift_falls s₃.1 (compose_falls _ _)) λ s₂₁.
      then_falls (lift_falls s₂₁.1 (compose_falls _ _)) λ s.
      then_falls (lift_falls s.1 (apply_falls depth _ _)) λ u.
      then_falls (lift_falls u.1 (pending_falls _ _)) λ ps.
      then_falls (lift_falls ps.1 (pending_falls _ _)) λ qs. pure_falls

  infer_let_falls : (ce : ClassEnv) (v : Name) (e₁ e₂ : Expr) → RunFalls (infer_let ce infer v e₁ e₂)
  unfolding infer_let
  infer_let_falls ce v e₁ e₂ st =
      then_falls (h e₁ st) λ i.
      then_falls (apply_env_falls _ i.1) λ r.
      then_falls (lift_falls r.1 (pending_falls _ _)) λ ps.
      then_falls pure_falls λ env.
      then_falls (lift_falls env.1 (generalize_falls ce _ _ _ _)) λ g.
      then_falls (env_insert_falls v _ g.1) λ prev.
      then_falls (h e₂ prev.1) λ j.
      then_falls (env_restore_falls v prev.0 j.1) λ t.
      then_falls (lift_falls t.1 (pending_falls _ _)) λ qs.
      then_falls (lift_falls qs.1 (compose_falls _ _)) λ s. pure_falls

  infer_node_falls : (ce : ClassEnv) (e : Expr) → RunFalls (infer_node ce infer e)
  unfolding infer_node
  infer_node_falls ce (evar x) st = infer_var_falls ce x st
  infer_node_falls ce (eint i) st = pure_falls
  infer_node_falls ce (ebool b) st = pure_falls
  infer_node_falls ce (eabs x e) st = infer_abs_falls x e st
  infer_node_falls ce (eapp f x) st = infer_app_falls f x st
  infer_node_falls ce (elet v e₁ e₂) st = infer_let_falls ce v e₁ e₂ st

-- Inference.
pub infer_falls : (d : ℕ) (ce : ClassEnv) (e : Expr) → RunFalls (infer_in d ce e)
unfolding infer_in
infer_falls zero ce e st = refuse_falls
infer_falls (suc d) ce e st = step_falls (infer_node_falls _ (λ u. infer_falls d ce u) ce e st)
