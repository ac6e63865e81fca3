-- Inference makes the variables of what it infers, and its generalizations see no other renaming of canonical names.
use mathlib.Core.Path.{◌≡◌, refl, sym, subst}
use mathlib.Core.Bool.{true, false}
use mathlib.Core.List.{List, [], ◌∷◌}
use mathlib.Core.Option.{Option, none, some}
use Prim.Native.Nat.{ℕ, suc, zero}
use Rattle.meaning.specs.Ast.{Name, TyVar, same_tyvar, Ty, var, arrow, Pred, Scheme, Expr, evar, eint, ebool, eabs, eapp, elet}
use Rattle.meaning.specs.Errors.{unbound_variable}
use Rattle.meaning.specs.Budget.{Steps, step, or_refuse, depth}
use Rattle.meaning.specs.Map.{names, tyvars, get, insert, elem}
use Rattle.meaning.specs.Subst.{Subst, or_var, look, apply_type, apply_pred, apply_preds_pending, compose, occurs}
use Rattle.meaning.specs.Unify.{unify}
use Rattle.meaning.specs.Plain.{sub}
use Rattle.meaning.specs.Classes.{ClassEnv}
use Rattle.meaning.specs.Cores.{canonical_renamer}
use Rattle.meaning.specs.Generalize.{Pending, generalize_binding}
use Rattle.meaning.specs.Infer.{State, Run, ◌>>=◌, pure, lift, ask_env, with_env, fresh_tyvar, fresh_dictvar, env_insert, env_restore, apply_schemes, apply_env, fresh_all, instantiate_preds, instantiate, Inferred, mono, infer_var, infer_abs, infer_app, infer_let, infer_node, infer_in}
use Rattle.theorems.proofs.Says.{Says, Any, weaken, anything}
use Rattle.theorems.proofs.Maps.{get_insert_same, get_insert_other}
use Rattle.theorems.proofs.Applied.{apply_says, pred_says}
use Rattle.theorems.proofs.FreeVars.{occurs_preds}
use Rattle.theorems.proofs.Generalized.{sub_occurs}
use Rattle.theorems.proofs.Runs.{Nothing, or_refuse_says}
use Rattle.theorems.proofs.Twins.{Both, alone, both_then}
use Rattle.theorems.proofs.Made.{IsMade, MadeTy, MadePending, MadeSubst, MadeScheme, MadeAt, MadeEnv, made_var, made_arrow, made_int, made_bool, made_append, made_empty, apply_made, pending_made, compose_made, unify_made}
use Rattle.theorems.proofs.MadeSchemes.{unbound_made, mono_made, apply_schemes_made, insert_made, remove_made}
use Rattle.theorems.proofs.OtherNames.{Renamer}
use Rattle.theorems.proofs.OtherRuns.{infer_let_by, infer_node_by, infer_by}
use Rattle.theorems.proofs.MadeGeneralized.{OnMade, generalize_made_by}
use Rattle.theorems.proofs.Tests.{or_left, or_right}

-- ## computations from environments of such schemes to such environments
-- P of the answer, and the environment afterwards.
pub record Ran {A : Type 0} (P : A → Type 0) (r : A × State) : Type 0 where
  pub answers : P r.0
  pub leaves : MadeEnv r.1.env

-- Two computations that do the same there.
abbrev pub Making : {A : Type 0} → (A → Type 0) → Run A → Run A → Type 0
Making P m m₁ = (st : State) (n : ℕ) → MadeEnv st.env → Both (Ran P) (m st n) (m₁ st n)

-- An answer that leaves the state.
pub made_pure : {A : Type 0} (P : A → Type 0) (a : A) → P a → Making P (pure a) (pure a)
made_pure P a h st n w = alone (record { answers = h; leaves = w })

-- One after another.
pub made_then : {A B : Type 0} (P : A → Type 0) (Q : B → Type 0) (m m₁ : Run A) (f f₁ : A → Run B) → Making P m m₁ → ((a : A) → P a → Making Q (f a) (f₁ a))
    → Making Q (◌>>=◌ m f) (◌>>=◌ m₁ f₁)
made_then P Q m m₁ f f₁ h k st n w = both_then (Ran P) (Ran Q) (m st n) (m₁ st n) _ _ (h st n w) λ r i l. k r.0 i.answers r.1 l i.leaves

-- What changes no state.
pub made_lift : {A : Type 0} (P : A → Type 0) (m m₁ : Steps A) → ((n : ℕ) → Both P (m n) (m₁ n)) → Making P (lift m) (lift m₁)
made_lift P m m₁ h st n w = both_then P (Ran P) (m n) (m₁ n) _ _ (h n) λ a i l. alone (record { answers = i; leaves = w })

-- The rest after it.
pub made_lifted : {A B : Type 0} (P : A → Type 0) (Q : B → Type 0) (m : Steps A) (f f₁ : A → Run B) → ((n : ℕ) → Says P Any (m n)) → ((a : A) → P a → Making Q (f a) (f₁ a))
    → Making Q (◌>>=◌ (lift m) f) (◌>>=◌ (lift m) f₁)
made_lifted P Q m f f₁ h k = made_then P Q (lift m) (lift m) f f₁ (made_lift P m m (λ n. alone (h n))) k

-- The rest after what nothing is said of.
pub made_past : {A B : Type 0} (Q : B → Type 0) (m : Steps A) (f f₁ : A → Run B) → ((a : A) → Making Q (f a) (f₁ a)) → Making Q (◌>>=◌ (lift m) f) (◌>>=◌ (lift m) f₁)
made_past Q m f f₁ k = made_lifted Nothing Q m f f₁ (λ n. anything (m n)) λ a z. k a

-- ## the parts of inference
tyvar_made : Making IsMade fresh_tyvar fresh_tyvar
unfolding fresh_tyvar
tyvar_made st n w = alone (record { answers = tt; leaves = w })

dictvar_made : Making Nothing fresh_dictvar fresh_dictvar
unfolding fresh_dictvar
dictvar_made st n w = alone (record { answers = tt; leaves = w })

-- The environment itself.
pub ask_made : Making MadeEnv ask_env ask_env
ask_made st n w = alone (record { answers = w; leaves = w })

-- A scheme put in, and what stood there.
pub env_insert_made : (x : Name) (c : Scheme) → MadeScheme c → Making MadeAt (env_insert x c) (env_insert x c)
unfolding env_insert with_env
env_insert_made x c h st n w = alone (record { answers = w x; leaves = insert_made x c st.env h w })

restore_made : (x : Name) (o : Option Scheme) → MadeAt o → Making Nothing (env_restore x o) (env_restore x o)
unfolding env_restore with_env
restore_made x none h st n w = alone (record { answers = tt; leaves = remove_made x st.env w })
restore_made x (some c) h st n w = alone (record { answers = tt; leaves = insert_made x c st.env h w })

apply_env_made : (s : Subst) → MadeSubst s → Making Nothing (apply_env s) (apply_env s)
unfolding apply_env with_env
apply_env_made s h st n w =
    both_then _ _ (apply_schemes s st.env n) _ _ _ (alone (apply_schemes_made s st.env n h)) λ env k m.
    alone (record { answers = tt; leaves = λ x. k x (w x) })

-- Bound variables become made ones, and every other one stays.
abbrev Fresh : List TyVar → Subst → Type 0
Fresh vs s = (x : TyVar) → (elem tyvars x vs ≡ false → IsMade x) → MadeTy (look s x)

fresh_all_made : (vs : List TyVar) → Making (Fresh vs) (fresh_all vs) (fresh_all vs)
unfolding fresh_all elem get or_var
fresh_all_made [] = made_pure _ [] λ x h. made_var x (h refl)
fresh_all_made (v ∷ vs) =
    made_then _ _ fresh_tyvar _ _ _ tyvar_made λ x h.
    made_then _ _ (fresh_all vs) _ _ _ (fresh_all_made vs) λ s k.
    made_pure (Fresh (v ∷ vs)) _ λ y i. go x s h k y i (same_tyvar y v) refl
  where
    go : (x : TyVar) (s : Subst) → IsMade x → Fresh vs s → (y : TyVar) → (elem tyvars y (v ∷ vs) ≡ false → IsMade y) → (d : Dec (y ≡ v)) → same_tyvar y v ≡ d
        → MadeTy (look (insert tyvars (v, var x) s) y)
    go x s h k y i (yes e) j = rw (e, get_insert_same tyvars v (var x) s) (made_var x h)
    go x s h k y i (no e) j = rw (get_insert_other tyvars y (v, var x) s e) (k y (λ f. i (rw j f)))

fresh_fills : (vs : List TyVar) (s : Subst) (t : Ty) → Fresh vs s → ((x : TyVar) → occurs x t ≡ true → elem tyvars x vs ≡ false → IsMade x) → MadeTy (sub (look s) t)
fresh_fills vs s t k h y e = sub_occurs (look s) y (IsMade y) t (λ x i j. k x (h x i) y j) e

preds_made : (vs : List TyVar) (s : Subst) (ps : List Pred) → Fresh vs s → ((x : TyVar) → occurs_preds x ps ≡ true → elem tyvars x vs ≡ false → IsMade x)
    → Making MadePending (instantiate_preds s ps) (instantiate_preds s ps)
unfolding instantiate_preds
preds_made vs s [] k h = made_pure MadePending [] tt
preds_made vs s (p ∷ ps) k h =
    made_then _ _ fresh_dictvar _ _ _ dictvar_made λ d z.
    made_lifted (λ (q : Pred). MadeTy q.ty) _ (apply_pred s p) _ _ (λ n. weaken _ _ _ _ (apply_pred s p n) (pred_says s p n)
    (λ q e. subst (λ (q : Pred). MadeTy q.ty) (sym e) (fresh_fills vs s p.ty k (λ x o. h x (or_left (occurs x p.ty) (occurs_preds x ps) o)))) (λ r z. tt)) λ q i.
    made_then _ _ (instantiate_preds s ps) _ _ _ (preds_made vs s ps k (λ x o. h x (or_right (occurs x p.ty) (occurs_preds x ps) o))) λ qs j.
    made_pure MadePending _ (i, j)

-- A scheme at new variables.
pub instantiate_made : (c : Scheme) → MadeScheme c → Making (λ r. MadeTy r.0 × MadePending r.1) (instantiate c) (instantiate c)
unfolding instantiate
instantiate_made c h =
    made_then _ _ (fresh_all c.vars) _ _ _ (fresh_all_made c.vars) λ s k.
    made_lifted MadeTy _ (apply_type s c.qual.ty) _ _ (λ n. weaken _ _ _ _ (apply_type s c.qual.ty n) (apply_says depth s c.qual.ty n)
    (λ u e. subst MadeTy (sym e) (fresh_fills c.vars s c.qual.ty k (λ x o. unbound_made c h x (or_right (occurs_preds x c.qual.preds) (occurs x c.qual.ty) o)))) (λ r z. tt)) λ u i.
    made_then _ _ (instantiate_preds s c.qual.preds) _ _ _
    (preds_made c.vars s c.qual.preds k (λ x o. unbound_made c h x (or_left (occurs_preds x c.qual.preds) (occurs x c.qual.ty) o))) λ ps j.
    made_pure (λ (r : Ty × Pending). MadeTy r.0 × MadePending r.1) _ (i, j)

-- ## inference
-- The substitution, the type and the pending predicates are made.
abbrev pub MadeInferred : Inferred → Type 0
MadeInferred r = MadeSubst r.0 × MadeTy r.1 × MadePending r.2

var_made : (ce : ClassEnv) (x : Name) → Making MadeInferred (infer_var ce x) (infer_var ce x)
unfolding infer_var
var_made ce x =
    made_then _ _ ask_env _ _ _ ask_made λ env w.
    made_lifted (λ c. get names x env ≡ some c) _ (or_refuse (unbound_variable x) (get names x env)) _ _ (λ n. or_refuse_says (unbound_variable x) (get names x env) n) λ c e.
    made_then _ _ (instantiate c) _ _ _ (instantiate_made c (rw e at (w x))) λ r h.
    made_past _ _ _ _ λ core.
    made_pure MadeInferred _ (made_empty, h.0, h.1)

module _ (infer infer₁ : Expr → Run Inferred) (h : (e : Expr) → Making MadeInferred (infer e) (infer₁ e)) where
  abs_made : (x : Name) (e : Expr) → Making MadeInferred (infer_abs infer x e) (infer_abs infer₁ x e)
  unfolding infer_abs
  abs_made x e =
      made_then _ _ fresh_tyvar _ _ _ tyvar_made λ a i.
      made_then _ _ (env_insert x (mono (var a))) _ _ _ (env_insert_made x (mono (var a)) (mono_made (var a) (made_var a i))) λ prev p.
      made_then _ _ (infer e) _ _ _ (h e) λ r m.
      made_then _ _ (env_restore x prev) _ _ _ (restore_made x prev p) λ _ z.
      made_lifted MadeTy _ (apply_type r.0 (var a)) _ _ (λ n. apply_made r.0 (var a) n m.0 (made_var a i)) λ u k.
      made_pure MadeInferred _ (m.0, made_arrow u r.1 k m.1, m.2)

  app_made : (f x : Expr) → Making MadeInferred (infer_app infer f x) (infer_app infer₁ f x)
  unfolding infer_app
  app_made f x =
      made_then _ _ fresh_tyvar _ _ _ tyvar_made λ a i.
      made_then _ _ (infer f) _ _ _ (h f) λ r m.
      made_then _ _ (apply_env r.0) _ _ _ (apply_env_made r.0 m.0) λ _ z.
      made_then _ _ (infer x) _ _ _ (h x) λ q l.
      made_lifted MadeTy _ (apply_type q.0 r.1) _ _ (λ n. apply_made q.0 r.1 n l.0 m.1) λ f-ty k.
      made_lifted MadeSubst _ (unify f-ty (arrow q.1 (var a))) _ _ (λ n. unify_made depth f-ty (arrow q.1 (var a)) n k (made_arrow q.1 (var a) l.1 (made_var a i))) λ s₃ k₃.
      made_lifted MadeSubst _ (compose q.0 r.0) _ _ (λ n. compose_made q.0 r.0 n l.0 m.0) λ s₂₁ k₂₁.
      made_lifted MadeSubst _ (compose s₃ s₂₁) _ _ (λ n. compose_made s₃ s₂₁ n k₃ k₂₁) λ s ks.
      made_lifted MadeTy _ (apply_type s₃ (var a)) _ _ (λ n. apply_made s₃ (var a) n k₃ (made_var a i)) λ u ku.
      made_lifted MadePending _ (apply_preds_pending s r.2) _ _ (λ n. pending_made s r.2 n ks m.2) λ ps kp.
      made_lifted MadePending _ (apply_preds_pending s q.2) _ _ (λ n. pending_made s q.2 n ks l.2) λ qs kq.
      made_pure MadeInferred _ (ks, ku, made_append ps qs kp kq)

module _ (ren : Renamer) (agrees : OnMade ren) (ce : ClassEnv) where
  module _ (infer infer₁ : Expr → Run Inferred) (h : (e : Expr) → Making MadeInferred (infer e) (infer₁ e)) where
    let_made : (v : Name) (e₁ e₂ : Expr) → Making MadeInferred (infer_let ce infer v e₁ e₂) (infer_let_by ren ce infer₁ v e₁ e₂)
    unfolding infer_let infer_let_by
    let_made v e₁ e₂ =
        made_then _ _ (infer e₁) _ _ _ (h e₁) λ r m.
        made_then _ _ (apply_env r.0) _ _ _ (apply_env_made r.0 m.0) λ _ z.
        made_lifted MadePending _ (apply_preds_pending r.0 r.2) _ _ (λ n. pending_made r.0 r.2 n m.0 m.2) λ ps k.
        made_then _ _ ask_env _ _ _ ask_made λ env w.
        made_then _ _ (lift (generalize_binding ce env r.1 ps r.3)) _ _ _ (made_lift _ _ _ (λ n. generalize_made_by ren agrees ce r.1 ps r.3 n m.1 k env)) λ g i.
        made_then _ _ (env_insert v g.0) _ _ _ (env_insert_made v g.0 i.0) λ prev p.
        made_then _ _ (infer e₂) _ _ _ (h e₂) λ q l.
        made_then _ _ (env_restore v prev) _ _ _ (restore_made v prev p) λ _ z.
        made_lifted MadePending _ (apply_preds_pending q.0 g.2) _ _ (λ n. pending_made q.0 g.2 n l.0 i.1) λ qs kq.
        made_lifted MadeSubst _ (compose q.0 r.0) _ _ (λ n. compose_made q.0 r.0 n l.0 m.0) λ s ks.
        made_pure MadeInferred _ (ks, l.1, made_append qs q.2 kq l.2)

    node_made : (e : Expr) → Making MadeInferred (infer_node ce infer e) (infer_node_by ren ce infer₁ e)
    unfolding infer_node infer_node_by
    node_made (evar x) = var_made ce x
    node_made (eint i) = made_pure MadeInferred _ (made_empty, made_int, tt)
    node_made (ebool b) = made_pure MadeInferred _ (made_empty, made_bool, tt)
    node_made (eabs x e) = abs_made infer infer₁ h x e
    node_made (eapp f x) = app_made infer infer₁ h f x
    node_made (elet v e₁ e₂) = let_made v e₁ e₂

  -- With another renaming that is canonical on made variables, inference does the same, at every depth.
  pub infer_made_by : (d : ℕ) (e : Expr) → Making MadeInferred (infer_in d ce e) (infer_by ren d ce e)
  unfolding infer_in infer_by step
  infer_made_by zero e st n w = record { same = refl; says = tt }
  infer_made_by (suc d) e st zero w = record { same = refl; says = tt }
  infer_made_by (suc d) e st (suc n) w = node_made (λ u. infer_in d ce u) (λ u. infer_by ren d ce u) (λ u. infer_made_by d u) e st n w

-- Inference in an environment of schemes whose free variables were made: so are those of all that it gives.
pub infer_made : (d : ℕ) (ce : ClassEnv) (e : Expr) (st : State) (n : ℕ) → MadeEnv st.env
    → Says (λ r. (MadeSubst r.0.0 × MadeTy r.0.1 × MadePending r.0.2) × MadeEnv r.1.env) Any (infer_in d ce e st n)
infer_made d ce e st n w =
    weaken _ _ _ _ (infer_in d ce e st n) (infer_made_by canonical_renamer (λ vs h. refl) ce d e st n w).says (λ r h. (h.answers, h.leaves)) (λ r z. z)
