-- Only made variables reach the renaming of canonical names, in every session: whatever a renaming does to other
-- variables, no declaration of a checker that declarations reach tells it from the canonical one.
use mathlib.Core.Path.{◌≡◌, refl, ap}
use mathlib.Core.Bool.{Bool, true, false}
use mathlib.Core.List.{List, [], ◌∷◌}
use Prim.Native.Nat.{ℕ}
use Rattle.meaning.specs.Base.{is_yes, if, any, ltb}
use Rattle.meaning.specs.Ast.{Name, same_name, TyVar, named, fresh, method, Ty, Expr, InstanceDecl, Decl, class_decl, instance_decl, let_decl, check_decl}
use Rattle.meaning.specs.Errors.{limit, room}
use Rattle.meaning.specs.Budget.{depth}
use Rattle.meaning.specs.Subst.{Subst, singleton, apply_type, apply_preds_pending}
use Rattle.meaning.specs.Classes.{ClassEnv, ClassInfo, Given}
use Rattle.meaning.specs.Cores.{internal_before, sort_by, renamer_from}
use Rattle.meaning.specs.Generalize.{generalize_binding}
use Rattle.meaning.specs.Infer.{◌>>=◌, pure, lift, ask_env, env_insert, infer_in, infer_expr}
use Rattle.meaning.specs.Declare.{context_givens, method_core, method_cores, default_core, default_cores, process_instance_decl, process_let_decl, check_expr}
use Rattle.meaning.specs.Session.{Checker, Answer, refuses, answer, run_decl, over_limit, no_room, declare, session, Reached, after_call}
use Rattle.theorems.proofs.Says.{Says, Any}
use Rattle.theorems.proofs.Runs.{Nothing}
use Rattle.theorems.proofs.Twins.{alone_any}
use Rattle.theorems.proofs.Closed.{reached_firm}
use Rattle.theorems.proofs.Made.{IsMade, MadeSubst, MadeTy, MadePending, MadeEnv, apply_made, pending_made}
use Rattle.theorems.proofs.MadeSchemes.{env_made}
use Rattle.theorems.proofs.OtherNames.{Renamer}
use Rattle.theorems.proofs.OtherRuns.{method_by, methods_by, default_by, defaults_by, instance_by, let_by, check_by, run_by, declare_by, session_by}
use Rattle.theorems.proofs.MadeGeneralized.{OnMade, generalize_made_by, finalize_made_by}
use Rattle.theorems.proofs.MadeOrder.{order_on_made}
use Rattle.theorems.proofs.InferMade.{Making, made_pure, made_then, made_lift, made_lifted, made_past, ask_made, env_insert_made, infer_made_by, infer_made}

-- The schemes of a checker's environment have no free variable, so none that is named.
pub reached_made : (ck : Checker) → Reached ck → MadeEnv ck.state.env
reached_made ck h = env_made ck.state.env (reached_firm ck h).closed

-- So all that is inferred there is over made variables.
pub reached_infers_made : (ck : Checker) → Reached ck → (d : ℕ) (e : Expr) (n : ℕ)
    → Says (λ r. (MadeSubst r.0.0 × MadeTy r.0.1 × MadePending r.0.2) × MadeEnv r.1.env) Any (infer_in d ck.class_env e ck.state n)
reached_infers_made ck h d e n = infer_made d ck.class_env e ck.state n (reached_made ck h)

module _ (ren : Renamer) (agrees : OnMade ren) (ce : ClassEnv) where
  -- ## an instance
  -- A method is inferred alone; its signature's named variables come in after that.
  method_made : (ci : ClassInfo) (s : Subst) (gs : List Given) (m : Name) (e : Expr) → Making Nothing (method_core ce ci s gs m e) (method_by ren ce ci s gs m e)
  unfolding method_core method_by
  method_made ci s gs m e =
      made_past _ _ _ _ λ sig.
      made_past _ _ _ _ λ expected.
      made_then _ _ (infer_expr ce e) _ _ _ (infer_made_by ren agrees ce depth e) λ r h.
      made_past _ _ _ _ λ a.
      made_past _ _ _ _ λ b.
      made_past _ _ _ _ λ s-u.
      made_past _ _ _ _ λ s-final.
      made_past _ _ _ _ λ preds.
      made_past _ _ _ _ λ reduced.
      made_past _ _ _ _ λ _. made_lift Nothing _ _ (λ n. alone_any _)

  methods_made : (ci : ClassInfo) (s : Subst) (gs : List Given) (ms : List (Name × Expr)) → Making Nothing (method_cores ce ci s gs ms) (methods_by ren ce ci s gs ms)
  unfolding method_cores methods_by
  methods_made ci s gs [] = made_pure Nothing [] tt
  methods_made ci s gs (m ∷ ms) =
      made_then _ _ (method_core ce ci s gs m.0 m.1) _ _ _ (method_made ci s gs m.0 m.1) λ e z.
      made_then _ _ (method_cores ce ci s gs ms) _ _ _ (methods_made ci s gs ms) λ es z. made_pure Nothing _ tt

  default_made : (ci : ClassInfo) (a : Ty) (m : Name) → Making Nothing (default_core ce ci a m) (default_by ren ce ci a m)
  unfolding default_core default_by
  default_made ci a m =
      made_past _ _ _ _ λ f.
      made_then _ _ (infer_expr ce f.1) _ _ _ (infer_made_by ren agrees ce depth f.1) λ r h. made_lift Nothing _ _ (λ n. alone_any _)

  defaults_made : (ci : ClassInfo) (a : Ty) (ms : List (Name × Expr)) (gs : List (Name × Ty)) → Making Nothing (default_cores ce ci a ms gs) (defaults_by ren ce ci a ms gs)
  unfolding default_cores defaults_by
  defaults_made ci a ms [] = made_pure Nothing [] tt
  defaults_made ci a ms (g ∷ gs) = go (any (λ (m : Name × Expr). is_yes (same_name m.0 g.0)) ms) (defaults_made ci a ms gs)
    where
      go : (b : Bool) → Making Nothing (default_cores ce ci a ms gs) (defaults_by ren ce ci a ms gs)
          → Making Nothing (if b (default_cores ce ci a ms gs) (◌>>=◌ (default_core ce ci a g.0) λ e. ◌>>=◌ (default_cores ce ci a ms gs) λ es. pure ((method g.0, e) ∷ es)))
          (if b (defaults_by ren ce ci a ms gs) (◌>>=◌ (default_by ren ce ci a g.0) λ e. ◌>>=◌ (defaults_by ren ce ci a ms gs) λ es. pure ((method g.0, e) ∷ es)))
      go true ih = ih
      go false ih =
          made_then _ _ (default_core ce ci a g.0) _ _ _ (default_made ci a g.0) λ e z.
          made_then _ _ (default_cores ce ci a ms gs) _ _ _ ih λ es z. made_pure Nothing _ tt

  -- No method and no default of an instance renames another variable than made ones.
  pub instance_made : (k : InstanceDecl) → Making Nothing (process_instance_decl ce k) (instance_by ren ce k)
  unfolding process_instance_decl instance_by
  instance_made k =
      made_past _ _ _ _ λ _.
      made_past _ _ _ _ λ ci.
      made_then _ _ _ _ _ _ (methods_made ci (singleton ci.tyvar k.head.ty) (context_givens k.head k.context) k.methods) λ own z.
      made_then _ _ _ _ _ _ (defaults_made ci k.head.ty k.methods ci.sigs) λ defaults z.
      made_past _ _ _ _ λ supers.
      made_past _ _ _ _ λ _. made_lift Nothing _ _ (λ n. alone_any _)

  -- ## a let and a check
  -- Nor does a let, whose type is generalized.
  pub let_made : (x : Name) (e : Expr) → Making Nothing (process_let_decl ce x e) (let_by ren ce x e)
  unfolding process_let_decl let_by
  let_made x e =
      made_then _ _ (infer_expr ce e) _ _ _ (infer_made_by ren agrees ce depth e) λ r h.
      made_lifted MadePending _ (apply_preds_pending r.0 r.2) _ _ (λ n. pending_made r.0 r.2 n h.0 h.2) λ ps hp.
      made_lifted MadeTy _ (apply_type r.0 r.1) _ _ (λ n. apply_made r.0 r.1 n h.0 h.1) λ u hu.
      made_then _ _ ask_env _ _ _ ask_made λ env w.
      made_then _ _ (lift (generalize_binding ce env u ps r.3)) _ _ _ (made_lift _ _ _ (λ n. generalize_made_by ren agrees ce u ps r.3 n hu hp env)) λ g i.
      made_past _ _ _ _ λ _.
      made_then _ _ (env_insert x g.0) _ _ _ (env_insert_made x g.0 i.0) λ prev p.
      made_pure Nothing _ tt

  -- Nor does a checked expression, whose type is finalized.
  pub check_made : (e : Expr) → Making Nothing (check_expr ce e) (check_by ren ce e)
  unfolding check_expr check_by
  check_made e =
      made_then _ _ (infer_expr ce e) _ _ _ (infer_made_by ren agrees ce depth e) λ r h.
      made_lifted MadeTy _ (apply_type r.0 r.1) _ _ (λ n. apply_made r.0 r.1 n h.0 h.1) λ u hu.
      made_lifted MadePending _ (apply_preds_pending r.0 r.2) _ _ (λ n. pending_made r.0 r.2 n h.0 h.2) λ ps hp.
      made_lift _ _ _ (λ n. finalize_made_by ren agrees ce u ps r.3 n hu hp)

-- ## sessions
module _ (ren : Renamer) (agrees : OnMade ren) where
  run_same : (budget : ℕ) (ck : Checker) (k : Decl) → MadeEnv ck.state.env → run_by ren budget ck k ≡ run_decl budget ck k
  unfolding run_decl run_by
  run_same budget ck (class_decl k) w = refl
  run_same budget ck (instance_decl k) w = ap (answer budget ck _ _) (instance_made ren agrees ck.class_env k ck.state budget w).same
  run_same budget ck (let_decl x e) w = ap (answer budget ck _ _) (let_made ren agrees ck.class_env x e ck.state budget w).same
  run_same budget ck (check_decl e) w = ap (answer budget ck _ _) (check_made ren agrees ck.class_env e ck.state budget w).same

  -- A declaration answers the same with the other renaming, steps and all.
  pub declare_renames_made : (budget work binders : ℕ) (k : Decl) (ck : Checker) → Reached ck → declare_by ren budget work binders k ck ≡ declare budget work binders k ck
  unfolding declare declare_by
  declare_renames_made budget work binders k ck h = ap limited (run_same budget ck k (reached_made ck h))
    where
      limited : Answer → Answer
      limited a = elim (over_limit budget) [ true ↦ refuses ck (limit 0) 0 | false ↦ elim (no_room budget work binders ck) [ true ↦ refuses ck room 0 | false ↦ a ] ]

  -- And so does every session.
  pub session_renames_made : (budget work binders : ℕ) (ks : List Decl) (ck : Checker) → Reached ck
      → session_by ren budget work binders ks ck ≡ session budget work binders ks ck
  unfolding session session_by
  session_renames_made budget work binders [] ck h = refl
  session_renames_made budget work binders (k ∷ ks) ck h =
      rw (declare_renames_made budget work binders k ck h)
      (ap (λ (rest : List Answer). declare budget work binders k ck ∷ rest) (session_renames_made budget work binders ks (declare budget work binders k ck).checker (after_call h budget work binders k)))

-- The numbers alone, and nothing of a named variable.
abbrev pub by_number : TyVar → TyVar → Bool
by_number (named x) y = false
by_number (fresh m) (named y) = false
by_number (fresh m) (fresh n) = ltb m n

-- That order is enough: what the internal one says of named variables never shows.
pub number_is_enough : (budget work binders : ℕ) (ks : List Decl) (ck : Checker) → Reached ck
    → session_by (λ vs. renamer_from 0 (sort_by by_number vs)) budget work binders ks ck ≡ session budget work binders ks ck
unfolding internal_before
number_is_enough = session_renames_made (λ vs. renamer_from 0 (sort_by by_number vs)) (order_on_made by_number same)
  where
    same : (x y : TyVar) → IsMade x → IsMade y → by_number x y ≡ internal_before x y
    same (named x) y i j = absurd i
    same (fresh m) (named y) i j = absurd j
    same (fresh m) (fresh n) i j = refl
