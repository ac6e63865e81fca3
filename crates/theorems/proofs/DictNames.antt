-- Inference and the names of dictionaries: each name is made once, pending names rise, and the abstractions inside the
-- term bind other names than those that are pending.
use mathlib.Core.Path.{◌≡◌, refl, ap, sym, ◌∙◌, subst}
use mathlib.Core.List.Memᴰ
use mathlib.Core.List.{List, [], ◌∷◌, ◌++◌, Memᴰ}
use mathlib.Core.Option.{Option, none, some}
use mathlib.Core.Logic.{◌⊎◌, inl, inr}
use Prim.Native.Nat.{ℕ, suc, zero}
use native.Mathlib.Omega.{arith}
use Rattle.meaning.specs.Base.{is_yes, first}
use Rattle.meaning.specs.Ast.{Name, same_name, TyVar, DictName, dvar, Ty, var, arrow, Pred, Scheme, Expr, evar, eint, ebool, eabs, eapp, elet, Core, Binder}
use Rattle.meaning.specs.Errors.{unbound_variable, unknown_method}
use Rattle.meaning.specs.Budget.{Steps, step, or_refuse}
use Rattle.meaning.specs.Map.{Map, names, dicts, get}
use Rattle.meaning.specs.Subst.{Subst, apply_type, apply_pred, apply_preds_pending, compose}
use Rattle.meaning.specs.Unify.{unify}
use Rattle.meaning.specs.Classes.{ClassEnv, ClassInfo, lookup_method}
use Rattle.meaning.specs.Generalize.{Pending, generalize_binding}
use Rattle.meaning.specs.Infer.{State, Run, ◌>>=◌, pure, lift, ask_env, with_env, fresh_tyvar, fresh_dictvar, env_insert, env_restore, apply_schemes, apply_env, fresh_all, instantiate_preds, instantiate, Inferred, args_of, plain_core, var_core, mono, infer_var, infer_abs, infer_app, infer_let, infer_node, infer_in}
use Rattle.theorems.proofs.Says.{Says, Any, and_then, past, weaken, anything}
use Rattle.theorems.proofs.Runs.{Nothing}
use Rattle.theorems.proofs.Bound.{names_of, Bound, BoundIn, NoneBound, Bare, bound_less, pending_names}
use Rattle.theorems.proofs.RisingNames.{Rising, NotIn, rising_bounds, rising_within, rising_append, within_apart, within_wider}
use Rattle.theorems.proofs.NamesGeneralized.{Own, Named, bare_bound, generalize_named}

-- ## computations that make names
-- G of the counter that is left and of the answer.
pub record Left {A : Type 0} (G : ℕ → A → Type 0) (r : A × State) : Type 0 where
  pub holds : G r.1.dv_counter r.0

-- From a state whose counter is `at`, G of what comes.
abbrev pub Ends : {A : Type 0} → (ℕ → A → Type 0) → ℕ → Run A → Type 0
Ends G at m = (st : State) (n : ℕ) → st.dv_counter ≡ at → Says (Left G) Any (m st n)

-- No name is made.
abbrev pub Keeps : {A : Type 0} → Run A → Type 0
Keeps m = (st : State) (n : ℕ) → Says (λ r. r.1.dv_counter ≡ st.dv_counter) Any (m st n)

-- An answer.
ends_pure : {A : Type 0} (G : ℕ → A → Type 0) (at : ℕ) (a : A) → G at a → Ends G at (pure a)
ends_pure G at a h st n e = record { holds = subst (λ (i : ℕ). G i a) (sym e) h }

-- One after another.
ends_then : {A B : Type 0} (G : ℕ → A → Type 0) (H : ℕ → B → Type 0) (at : ℕ) (m : Run A) (f : A → Run B)
    → Ends G at m → ((a : A) (mid : ℕ) → G mid a → Ends H mid (f a)) → Ends H at (◌>>=◌ m f)
ends_then G H at m f h k st n e = and_then (Left G) Any (Left H) (m st n) _ (h st n e) λ r i l. k r.0 r.1.dv_counter i.holds r.1 l refl

-- After what makes no name.
ends_past : {A B : Type 0} (H : ℕ → B → Type 0) (at : ℕ) (m : Run A) (f : A → Run B) → Keeps m → ((a : A) → Ends H at (f a)) → Ends H at (◌>>=◌ m f)
ends_past H at m f h k st n e = and_then _ Any (Left H) (m st n) _ (h st n) λ r i l. k r.0 r.1 l (i ∙ e)

-- After what changes no state, with what is known of its answer.
ends_lift : {A B : Type 0} (P : A → Type 0) (H : ℕ → B → Type 0) (at : ℕ) (m : Steps A) (f : A → Run B)
    → ((n : ℕ) → Says P Any (m n)) → ((a : A) → P a → Ends H at (f a)) → Ends H at (◌>>=◌ (lift m) f)
ends_lift P H at m f h k st n e = and_then (λ (r : _ × State). P r.0 × (r.1.dv_counter ≡ at)) Any (Left H) (lift m st n) _
    (and_then P Any _ (m n) _ (h n) λ a i l. (i, e)) λ r i l. k r.0 i.0 r.1 l i.1

-- After what nothing is said of.
ends_any : {A B : Type 0} (H : ℕ → B → Type 0) (at : ℕ) (m : Steps A) (f : A → Run B) → ((a : A) → Ends H at (f a)) → Ends H at (◌>>=◌ (lift m) f)
ends_any H at m f k = ends_lift Nothing H at m f (λ n. anything (m n)) λ a z. k a

-- ## the parts of inference
tyvar_keeps : Keeps fresh_tyvar
unfolding fresh_tyvar
tyvar_keeps st n = refl

ask_keeps : Keeps ask_env
ask_keeps st n = refl

insert_keeps : (x : Name) (c : Scheme) → Keeps (env_insert x c)
unfolding env_insert with_env
insert_keeps x c st n = refl

restore_keeps : (x : Name) (o : Option Scheme) → Keeps (env_restore x o)
unfolding env_restore with_env
restore_keeps x none st n = refl
restore_keeps x (some c) st n = refl

apply_env_keeps : (s : Subst) → Keeps (apply_env s)
unfolding apply_env with_env
apply_env_keeps s st n = past _ (apply_schemes s st.env n) _ λ env m. refl

fresh_all_keeps : (vs : List TyVar) → Keeps (fresh_all vs)
unfolding fresh_all
fresh_all_keeps [] st n = refl
fresh_all_keeps (v ∷ vs) st n =
    and_then _ _ _ (fresh_tyvar st n) _ (tyvar_keeps st n) λ r i l.
    and_then _ _ _ (fresh_all vs r.1 l) _ (fresh_all_keeps vs r.1 l) λ q j k. j ∙ i

-- A name for each predicate, one number after the other.
preds_rise : (s : Subst) (ps : List Pred) (at : ℕ) → Ends (λ hi qs. Rising at hi (names_of qs)) at (instantiate_preds s ps)
unfolding instantiate_preds fresh_dictvar
preds_rise s [] at = ends_pure _ at [] (omega arith)
preds_rise s (p ∷ ps) at =
    ends_then (λ hi d. (d ≡ dvar at) × (hi ≡ suc at)) _ at fresh_dictvar _ (λ st n e. record { holds = rw e (refl, refl) }) λ d mid h.
    ends_any _ mid (apply_pred s p) _ λ q.
    ends_then _ _ mid (instantiate_preds s ps) _ (preds_rise s ps mid) λ qs hi r.
    ends_pure _ hi _ (at, h.0, omega arith, subst (λ (i : ℕ). Rising i hi (names_of qs)) h.1 r)

-- A scheme's predicates get rising names.
instantiate_rises : (c : Scheme) (at : ℕ) → Ends (λ hi r. Rising at hi (names_of r.1)) at (instantiate c)
unfolding instantiate
instantiate_rises c at =
    ends_past _ at (fresh_all c.vars) _ (fresh_all_keeps c.vars) λ s.
    ends_any _ at (apply_type s c.qual.ty) _ λ u.
    ends_then _ _ at (instantiate_preds s c.qual.preds) _ (preds_rise s c.qual.preds at) λ ps hi r.
    ends_pure _ hi _ r

-- ## the term of a name
args_bare : (ps : Pending) → BoundIn (λ d. ⊥) (args_of ps)
unfolding args_of
args_bare [] = tt
args_bare (b ∷ bs) = (tt, args_bare bs)

plain_bare : (x : Name) (ps : Pending) → Bare (plain_core x ps)
unfolding plain_core
plain_bare x [] = tt
plain_bare x (b ∷ bs) = (tt, args_bare (b ∷ bs))

var_bare : (x : Name) (ps : Pending) (o : Option (ClassInfo × Ty)) (n : ℕ) → Says Bare Any (var_core x ps o n)
unfolding var_core
var_bare x ps none n = plain_bare x ps
var_bare x ps (some r) n = past Bare (or_refuse (unknown_method x) (first (λ (b : Binder). is_yes (same_name b.1.class r.0.name)) ps) n) _ λ b m. tt

-- ## inference
-- The pending names rise within the bounds, and the term binds others within them.
abbrev pub NamedInferred : ℕ → ℕ → Inferred → Type 0
NamedInferred lo hi r = Named lo hi (names_of r.2) r.3

-- Inference that makes names so.
abbrev Naming : Run Inferred → Type 0
Naming m = (lo : ℕ) → Ends (NamedInferred lo) lo m

-- The names of two lists in one.
names-append : (bs cs : Pending) → names_of (bs ++ cs) ≡ names_of bs ++ names_of cs
names-append [] cs = refl
names-append (b ∷ bs) cs = ap (λ (l : List DictName). b.0 ∷ l) (names-append bs cs)

-- Names of the one term are names of both, and none that is pending.
module _ (lo mid hi : ℕ) (ds es : List DictName) (first : Rising lo mid ds) (second : Rising mid hi es) where
  own_left : (d : DictName) → Own lo mid ds d → Own lo hi (ds ++ es) d
  own_left d (w, x) = (within_wider lo lo hi mid d (omega arith) (rising_bounds mid hi es second) w, λ m. go (Memᴰ.append_cases ds m))
    where
      go : Memᴰ d ds ⊎ Memᴰ d es → ⊥
      go (inl m) = x m
      go (inr m) = within_apart lo mid hi d w (rising_within mid hi es second d m)

  own_right : (d : DictName) → Own mid hi es d → Own lo hi (ds ++ es) d
  own_right d (w, x) = (within_wider lo mid hi hi d (rising_bounds lo mid ds first) (omega arith) w, λ m. go (Memᴰ.append_cases ds m))
    where
      go : Memᴰ d ds ⊎ Memᴰ d es → ⊥
      go (inl m) = within_apart lo mid hi d (rising_within lo mid ds first d m) w
      go (inr m) = x m

-- Two terms side by side, with the pending names of both.
joined : (lo mid hi : ℕ) (ps qs bs cs : Pending) (e f : Core) → names_of bs ≡ names_of ps → names_of cs ≡ names_of qs
    → Named lo mid (names_of ps) e → Named mid hi (names_of qs) f
    → Rising lo hi (names_of (bs ++ cs)) × Bound (Own lo hi (names_of (bs ++ cs))) e × Bound (Own lo hi (names_of (bs ++ cs))) f
joined lo mid hi ps qs bs cs e f i j h k =
    let n : names_of (bs ++ cs) ≡ names_of ps ++ names_of qs = names-append bs cs ∙ rw (i, j) refl in
    let r = rising_append lo mid hi (names_of ps) (names_of qs) h.rises k.rises in
    let a = bound_less _ _ (own_left lo mid hi (names_of ps) (names_of qs) h.rises k.rises) e h.apart in
    let b = bound_less _ _ (own_right lo mid hi (names_of ps) (names_of qs) h.rises k.rises) f k.apart in
    rw n (r, a, b)

var_names : (ce : ClassEnv) (x : Name) → Naming (infer_var ce x)
unfolding infer_var
var_names ce x lo =
    ends_past _ lo ask_env _ ask_keeps λ env.
    ends_any _ lo (or_refuse (unbound_variable x) (get names x env)) _ λ c.
    ends_then _ _ lo (instantiate c) _ (instantiate_rises c lo) λ r hi h.
    ends_lift Bare _ hi (var_core x r.1 (lookup_method ce x)) _ (λ n. var_bare x r.1 (lookup_method ce x) n) λ e k.
    ends_pure (NamedInferred lo) hi _ (record { rises = h; apart = bare_bound _ e k })

module _ (infer : Expr → Run Inferred) (h : (e : Expr) → Naming (infer e)) where
  abs_names : (x : Name) (e : Expr) → Naming (infer_abs infer x e)
  unfolding infer_abs
  abs_names x e lo =
      ends_past _ lo fresh_tyvar _ tyvar_keeps λ a.
      ends_past _ lo (env_insert x (mono (var a))) _ (insert_keeps x (mono (var a))) λ prev.
      ends_then _ _ lo (infer e) _ (h e lo) λ r hi i.
      ends_past _ hi (env_restore x prev) _ (restore_keeps x prev) λ _.
      ends_any _ hi (apply_type r.0 (var a)) _ λ u.
      ends_pure (NamedInferred lo) hi _ (record { rises = i.rises; apart = i.apart })

  app_names : (f x : Expr) → Naming (infer_app infer f x)
  unfolding infer_app
  app_names f x lo =
      ends_past _ lo fresh_tyvar _ tyvar_keeps λ a.
      ends_then _ _ lo (infer f) _ (h f lo) λ r mid i.
      ends_past _ mid (apply_env r.0) _ (apply_env_keeps r.0) λ _.
      ends_then _ _ mid (infer x) _ (h x mid) λ q hi j.
      ends_any _ hi (apply_type q.0 r.1) _ λ f-ty.
      ends_any _ hi (unify f-ty (arrow q.1 (var a))) _ λ s₃.
      ends_any _ hi (compose q.0 r.0) _ λ s₂₁.
      ends_any _ hi (compose s₃ s₂₁) _ λ s.
      ends_any _ hi (apply_type s₃ (var a)) _ λ u.
      ends_lift _ _ hi (apply_preds_pending s r.2) _ (pending_names s r.2) λ ps k.
      ends_lift _ _ hi (apply_preds_pending s q.2) _ (pending_names s q.2) λ qs l.
      ends_pure (NamedInferred lo) hi _ (let y = joined lo mid hi r.2 q.2 ps qs r.3 q.3 k l i j in record { rises = y.0; apart = (y.1, y.2) })

  let_names : (ce : ClassEnv) (v : Name) (e₁ e₂ : Expr) → Naming (infer_let ce infer v e₁ e₂)
  unfolding infer_let
  let_names ce v e₁ e₂ lo =
      ends_then _ _ lo (infer e₁) _ (h e₁ lo) λ r mid i.
      ends_past _ mid (apply_env r.0) _ (apply_env_keeps r.0) λ _.
      ends_lift _ _ mid (apply_preds_pending r.0 r.2) _ (pending_names r.0 r.2) λ ps k.
      ends_past _ mid ask_env _ ask_keeps λ env.
      ends_lift _ _ mid (generalize_binding ce env r.1 ps r.3) _
      (λ n. generalize_named lo mid ps (rw k i.rises) ce env r.1 r.3 n (rw k i.apart)) λ g y.
      ends_past _ mid (env_insert v g.0) _ (insert_keeps v g.0) λ prev.
      ends_then _ _ mid (infer e₂) _ (h e₂ mid) λ q hi j.
      ends_past _ hi (env_restore v prev) _ (restore_keeps v prev) λ _.
      ends_lift _ _ hi (apply_preds_pending q.0 g.2) _ (pending_names q.0 g.2) λ qs l.
      ends_any _ hi (compose q.0 r.0) _ λ s.
      ends_pure (NamedInferred lo) hi _ (let z = joined lo mid hi g.2 q.2 qs q.2 g.1 q.3 l refl y j in record { rises = z.0; apart = (z.1, z.2) })

  node_names : (ce : ClassEnv) (e : Expr) → Naming (infer_node ce infer e)
  unfolding infer_node
  node_names ce (evar x) = var_names ce x
  node_names ce (eint i) = λ lo. ends_pure (NamedInferred lo) lo _ (record { rises = omega arith; apart = tt })
  node_names ce (ebool b) = λ lo. ends_pure (NamedInferred lo) lo _ (record { rises = omega arith; apart = tt })
  node_names ce (eabs x e) = abs_names x e
  node_names ce (eapp f x) = app_names f x
  node_names ce (elet v e₁ e₂) = let_names ce v e₁ e₂

naming : (k : ℕ) (ce : ClassEnv) (e : Expr) → Naming (infer_in k ce e)
unfolding infer_in step
naming zero ce e lo st n i = tt
naming (suc k) ce e lo st zero i = tt
naming (suc k) ce e lo st (suc n) i = node_names (λ u. infer_in k ce u) (λ u. naming k ce u) ce e lo st n i

-- Inference: pending names are `d` and rising numbers from the counter of before on, below the one of after; and what
-- the abstractions inside the term bind are others of these.
pub infer_names : (k : ℕ) (ce : ClassEnv) (e : Expr) (st : State) (n : ℕ)
    → Says (λ r. Named st.dv_counter r.1.dv_counter (names_of r.0.2) r.0.3) Any (infer_in k ce e st n)
infer_names k ce e st n = weaken _ _ _ _ (infer_in k ce e st n) (naming k ce e st.dv_counter st n refl) (λ r h. h.holds) (λ r z. z)

-- A map whose keys are pending names: no abstraction inside the term binds one of them.
pub named_apart : (lo hi : ℕ) (ds : List DictName) (e : Core) → Named lo hi ds e
    → (sub : Map DictName Core) → ((d : DictName) → NotIn d ds → get dicts d sub ≡ none) → NoneBound sub e
named_apart lo hi ds e h sub k = bound_less _ _ (λ d x. k d x.1) e h.apart

-- The same of what an inference has given.
pub infer_apart : (k : ℕ) (ce : ClassEnv) (e : Expr) (st : State) (n : ℕ)
    → Says (λ r. (sub : Map DictName Core) → ((d : DictName) → NotIn d (names_of r.0.2) → get dicts d sub ≡ none) → NoneBound sub r.0.3) Any (infer_in k ce e st n)
infer_apart k ce e st n = weaken _ _ _ _ (infer_in k ce e st n) (infer_names k ce e st n) (λ r h. named_apart _ _ _ _ h) (λ r z. z)
