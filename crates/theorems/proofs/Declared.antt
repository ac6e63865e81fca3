-- What a declaration does to an environment of closed schemes: a class adds its signatures, a let its scheme, others nothing.
use mathlib.Core.Path.{◌≡◌, refl, ap, sym, ◌∙◌, subst}
use mathlib.Core.Bool.{Bool, true, false}
use mathlib.Core.List.{List, [], ◌∷◌}
use Prim.Native.Nat.{ℕ}
use Rattle.meaning.specs.Base.{is_yes, if, any}
use Rattle.meaning.specs.Ast.{Name, same_name, method, Ty, Scheme, Expr, Core, ClassDecl, InstanceDecl}
use Rattle.meaning.specs.Budget.{Out, done, refused, Steps, after, depth}
use Rattle.meaning.specs.Map.{names, insert}
use Rattle.meaning.specs.Subst.{Subst, singleton}
use Rattle.meaning.specs.Classes.{ClassEnv, ClassInfo, Given}
use Rattle.meaning.specs.Generalize.{Env, Pending, generalize_binding}
use Rattle.meaning.specs.Infer.{State, Run, ◌>>=◌, pure, lift, ask_env, with_env, env_insert, infer_expr}
use Rattle.meaning.specs.Declare.{insert_sigs, process_class_decl, context_givens, method_core, method_cores, default_core, default_cores, process_instance_decl, process_let_decl, check_expr}
use Rattle.theorems.proofs.Says.{Says, Any, and_then, weaken, anything}
use Rattle.theorems.proofs.Ordered.{Sorted}
use Rattle.theorems.proofs.Stays.{AllClosed, keeps_same}
use Rattle.theorems.proofs.Stands.{Kept, Standing, unchanged, lift_stands, then_stands, lifted_stands, infer_keeps, infer_stands}

-- ## computations that keep every environment
method_keeps : (ce : ClassEnv) (ci : ClassInfo) (s : Subst) (gs : List Given) (m : Name) (e : Expr) → Standing (method_core ce ci s gs m e)
unfolding method_core
method_keeps ce ci s gs m e =
    lifted_stands _ _ λ sig.
    lifted_stands _ _ λ expected.
    then_stands (infer_expr ce e) _ (infer_keeps depth ce e) λ r.
    lifted_stands _ _ λ a.
    lifted_stands _ _ λ b.
    lifted_stands _ _ λ s-u.
    lifted_stands _ _ λ s-final.
    lifted_stands _ _ λ preds.
    lifted_stands _ _ λ reduced.
    lifted_stands _ _ λ _. lift_stands _

methods_keep : (ce : ClassEnv) (ci : ClassInfo) (s : Subst) (gs : List Given) (ms : List (Name × Expr)) → Standing (method_cores ce ci s gs ms)
unfolding method_cores
methods_keep ce ci s gs [] = unchanged
methods_keep ce ci s gs (m ∷ ms) =
    then_stands (method_core ce ci s gs m.0 m.1) _ (method_keeps ce ci s gs m.0 m.1) λ e.
    then_stands (method_cores ce ci s gs ms) _ (methods_keep ce ci s gs ms) λ es. unchanged

default_keeps : (ce : ClassEnv) (ci : ClassInfo) (a : Ty) (m : Name) → Standing (default_core ce ci a m)
unfolding default_core
default_keeps ce ci a m =
    lifted_stands _ _ λ f.
    then_stands (infer_expr ce f.1) _ (infer_keeps depth ce f.1) λ r. lift_stands _

defaults_keep : (ce : ClassEnv) (ci : ClassInfo) (a : Ty) (ms : List (Name × Expr)) (gs : List (Name × Ty)) → Standing (default_cores ce ci a ms gs)
unfolding default_cores
defaults_keep ce ci a ms [] = unchanged
defaults_keep ce ci a ms (g ∷ gs) = go (any (λ (m : Name × Expr). is_yes (same_name m.0 g.0)) ms) (defaults_keep ce ci a ms gs)
  where
    go : (b : Bool) → Standing (default_cores ce ci a ms gs)
        → Standing (if b (default_cores ce ci a ms gs) (◌>>=◌ (default_core ce ci a g.0) λ e. ◌>>=◌ (default_cores ce ci a ms gs) λ es. pure ((method g.0, e) ∷ es)))
    go true ih = ih
    go false ih = then_stands (default_core ce ci a g.0) _ (default_keeps ce ci a g.0) λ e. then_stands (default_cores ce ci a ms gs) _ ih λ es. unchanged

instance_keeps : (ce : ClassEnv) (k : InstanceDecl) → Standing (process_instance_decl ce k)
unfolding process_instance_decl
instance_keeps ce k =
    lifted_stands _ _ λ _.
    lifted_stands _ _ λ ci.
    then_stands _ _ (methods_keep ce ci (singleton ci.tyvar k.head.ty) (context_givens k.head k.context) k.methods) λ own.
    then_stands _ _ (defaults_keep ce ci k.head.ty k.methods ci.sigs) λ defaults.
    lifted_stands _ _ λ supers.
    lifted_stands _ _ λ _. lift_stands _

check_keeps : (ce : ClassEnv) (e : Expr) → Standing (check_expr ce e)
unfolding check_expr
check_keeps ce e =
    then_stands (infer_expr ce e) _ (infer_keeps depth ce e) λ r.
    lifted_stands _ _ λ u.
    lifted_stands _ _ λ ps. lift_stands _

-- ## computations from one environment on
-- Q holds of the answer wherever that environment stands.
abbrev From : {A : Type 0} → Env → (A × State → Type 0) → Run A → Type 0
From env Q m = (st : State) (n : ℕ) → st.env ≡ env → Says Q Any (m st n)

lifted_out : {A B : Type 0} (Q : B × State → Type 0) (P : A → Type 0) (o : Out A) (f : A → Run B) (st : State) → Says P Any o
    → ((a : A) → P a → (k : ℕ) → Says Q Any (f a st k)) → Says Q Any (after {A = A × State} (after o (λ a. done (a, st))) (λ r. f r.0 r.1))
unfolding after
lifted_out Q P (done a n) f st h k = k a h n
lifted_out Q P (refused r n) f st h k = tt

-- The rest after what changes no state.
from_such : {A B : Type 0} (env : Env) (Q : B × State → Type 0) (P : A → Type 0) (m : Steps A) (f : A → Run B) → ((n : ℕ) → Says P Any (m n))
    → ((a : A) → P a → From env Q (f a)) → From env Q (◌>>=◌ (lift m) f)
from_such env Q P m f h k st n i = lifted_out Q P (m n) f st (h n) λ a p l. k a p st l i

from_lifted : {A B : Type 0} (env : Env) (Q : B × State → Type 0) (m : Steps A) (f : A → Run B) → ((a : A) → From env Q (f a)) → From env Q (◌>>=◌ (lift m) f)
from_lifted env Q m f k = from_such env Q (λ a. Unit {0}) m f (λ n. anything (m n)) λ a z. k a

from_then : {A B : Type 0} (env : Env) (Q : B × State → Type 0) (m : Run A) (f : A → Run B) → From env (λ r. r.1.env ≡ env) m
    → ((a : A) → From env Q (f a)) → From env Q (◌>>=◌ m f)
from_then env Q m f h k st n i = and_then (λ r. r.1.env ≡ env) Any Q (m st n) _ (h st n i) λ r j l. k r.0 r.1 l j

from_ask : {B : Type 0} (env : Env) (Q : B × State → Type 0) (f : Env → Run B) → ((env₁ : Env) → env₁ ≡ env → From env Q (f env₁)) → From env Q (◌>>=◌ ask_env f)
unfolding after
from_ask env Q f h st n i = h st.env i st n i

-- A scheme put in and given back.
from_insert : (env : Env) (Q : Scheme × State → Type 0) (x : Name) (c : Scheme) → ((st : State) → st.env ≡ env → Q (c, with_env (insert names (x, c) st.env) st))
    → From env Q (◌>>=◌ (env_insert x c) (λ _. pure c))
unfolding after env_insert
from_insert env Q x c h st n i = h st i

-- ## environments of closed schemes
-- What keeps every environment gives one of closed schemes back as it was.
pub as_it_was : {A : Type 0} (m : Run A) → Standing m → (st : State) (n : ℕ) → Sorted names st.env → AllClosed st.env → Says (λ r. r.1.env ≡ st.env) Any (m st n)
as_it_was m h st n w k = weaken (Kept st.env) Any (λ r. r.1.env ≡ st.env) Any (m st n) (h st n) (λ r i. keeps_same st.env r.1.env i w k) (λ r z. z)

-- The methods of an instance leave the environment.
pub methods_stand : (ce : ClassEnv) (ci : ClassInfo) (s : Subst) (gs : List Given) (ms : List (Name × Expr)) (st : State) (n : ℕ) → Sorted names st.env → AllClosed st.env
    → Says (λ r. r.1.env ≡ st.env) Any (method_cores ce ci s gs ms st n)
methods_stand ce ci s gs ms = as_it_was (method_cores ce ci s gs ms) (methods_keep ce ci s gs ms)

-- The defaults that an instance takes leave it.
pub defaults_stand : (ce : ClassEnv) (ci : ClassInfo) (a : Ty) (ms : List (Name × Expr)) (gs : List (Name × Ty)) (st : State) (n : ℕ) → Sorted names st.env → AllClosed st.env
    → Says (λ r. r.1.env ≡ st.env) Any (default_cores ce ci a ms gs st n)
defaults_stand ce ci a ms gs = as_it_was (default_cores ce ci a ms gs) (defaults_keep ce ci a ms gs)

-- An instance leaves it.
pub instance_stands : (ce : ClassEnv) (k : InstanceDecl) (st : State) (n : ℕ) → Sorted names st.env → AllClosed st.env
    → Says (λ r. r.1.env ≡ st.env) Any (process_instance_decl ce k st n)
instance_stands ce k = as_it_was (process_instance_decl ce k) (instance_keeps ce k)

-- A checked expression leaves it.
pub check_stands : (ce : ClassEnv) (e : Expr) (st : State) (n : ℕ) → Sorted names st.env → AllClosed st.env
    → Says (λ r. r.1.env ≡ st.env) Any (check_expr ce e st n)
check_stands ce e = as_it_was (check_expr ce e) (check_keeps ce e)

class_from : (ce : ClassEnv) (k : ClassDecl) (env : Env) → From env (λ r. r.1.env ≡ insert_sigs k k.sigs env) (process_class_decl ce k)
unfolding process_class_decl with_env
class_from ce k env =
    from_lifted env _ _ _ λ _.
    from_lifted env _ _ _ λ ce₁ st n i. ap (insert_sigs k k.sigs) i

-- A class puts its signatures in, whatever stood there.
pub class_adds : (ce : ClassEnv) (k : ClassDecl) (st : State) (n : ℕ) → Says (λ r. r.1.env ≡ insert_sigs k k.sigs st.env) Any (process_class_decl ce k st n)
class_adds ce k st n = class_from ce k st.env st n refl

let_from : (P : Scheme → Type 0) (ce : ClassEnv) (x : Name) (e : Expr) (env : Env) → Sorted names env → AllClosed env
    → ((u : Ty) (ps : Pending) (f : Core) (m : ℕ) → Says (λ g. P g.0) Any (generalize_binding ce env u ps f m))
    → From env (λ r. (r.1.env ≡ insert names (x, r.0) env) × P r.0) (process_let_decl ce x e)
unfolding process_let_decl with_env
let_from P ce x e env w k h =
    from_then env _ (infer_expr ce e) _ (λ st n i. weaken _ _ _ _ (infer_expr ce e st n) (infer_stands depth ce e st n (rw i w) (rw i k)) (λ r j. j ∙ i) (λ r z. z)) λ r.
    from_lifted env _ _ _ λ ps.
    from_lifted env _ _ _ λ u.
    from_ask env _ _ λ env₁ j.
    from_such env _ (λ (g : Scheme × Core × Pending). P g.0) _ _ (λ m. subst (λ (v : Env). Says (λ g. P g.0) Any (generalize_binding ce v u ps r.3 m)) (sym j) (h u ps r.3 m)) λ g p.
    from_lifted env _ _ _ λ _.
    from_insert env _ x g.0 λ st l. (ap (λ (v : Env). insert names (x, g.0) v) l, p)

-- A let puts its scheme in, and of the scheme there holds what holds of all that generalization gives there.
pub let_adds_such : (P : Scheme → Type 0) (ce : ClassEnv) (x : Name) (e : Expr) (st : State) (n : ℕ) → Sorted names st.env → AllClosed st.env
    → ((u : Ty) (ps : Pending) (f : Core) (m : ℕ) → Says (λ g. P g.0) Any (generalize_binding ce st.env u ps f m))
    → Says (λ r. (r.1.env ≡ insert names (x, r.0) st.env) × P r.0) Any (process_let_decl ce x e st n)
let_adds_such P ce x e st n w k h = let_from P ce x e st.env w k h st n refl

-- A let puts its scheme in, and does nothing else to the environment.
pub let_adds : (ce : ClassEnv) (x : Name) (e : Expr) (st : State) (n : ℕ) → Sorted names st.env → AllClosed st.env
    → Says (λ r. r.1.env ≡ insert names (x, r.0) st.env) Any (process_let_decl ce x e st n)
let_adds ce x e st n w k =
    weaken _ _ _ _ (process_let_decl ce x e st n) (let_adds_such (λ c. Unit {0}) ce x e st n w k (λ u ps f m. anything (generalize_binding ce st.env u ps f m))) (λ r h. h.0) (λ r z. z)
