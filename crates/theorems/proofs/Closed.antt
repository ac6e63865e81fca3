-- The top-level environment of a checker is in order, and none of its schemes has a free variable.
use mathlib.Core.Path.{◌≡◌, refl, sym, ◌∙◌, subst}
use mathlib.Core.Bool.{Bool, true, false}
use mathlib.Core.List.{List, [], ◌∷◌}
use mathlib.Core.Option.{Option, none, some}
use Prim.Native.Nat.{ℕ}
use native.Mathlib.Decide.{dec_lt}
use Rattle.meaning.specs.Base.{null, keep, ltb}
use Rattle.meaning.specs.Text.{quoted, packed}
use Rattle.meaning.specs.Ast.{Name, same_name, name_before, called, tyvar_before, Ty, var, int, bool, pred, Qual, qual, Scheme, ClassDecl, Decl, class_decl, instance_decl, let_decl, check_decl}
use Rattle.meaning.specs.Errors.{limit, room}
use Rattle.meaning.specs.Budget.{Out, done, refused}
use Rattle.meaning.specs.Map.{names, get, insert}
use Rattle.meaning.specs.Subst.{ftv_scheme, ftv_qual, ftv_preds, ftv_type, without}
use Rattle.meaning.specs.Cores.{sort_by}
use Rattle.meaning.specs.Classes.{ClassEnv, ClassInfo, class_of}
use Rattle.meaning.specs.Generalize.{Env}
use Rattle.meaning.specs.Infer.{State}
use Rattle.meaning.specs.Declare.{sig_scheme, insert_sigs, process_class_decl, process_instance_decl, process_let_decl, check_expr}
use Rattle.meaning.specs.Session.{Checker, primitives, new, Result, Answer, refuses, answer, declare_class, run_decl, over_limit, no_room, declare, Reached, at_first, after_call}
use Rattle.theorems.proofs.Says.{Says, Any, weaken}
use Rattle.theorems.proofs.Tests.{none_some, some_inj}
use Rattle.theorems.proofs.Maps.{get_insert_same, get_insert_other}
use Rattle.theorems.proofs.Ordered.{Sorted, sorted_insert}
use Rattle.theorems.proofs.ByteOrder.{names_ordered}
use Rattle.theorems.proofs.FreeVars.{elem-sort_by, elem-ftv_qual}
use Rattle.theorems.proofs.Stays.{Closed, AllClosed}
use Rattle.theorems.proofs.Declared.{instance_stands, check_stands, class_adds, let_adds_such}
use Rattle.theorems.proofs.Generalized.{closed_if, no_free, generalize_closed}

-- ## the primitives
-- Each scheme of the list is closed, hidden ones too.
abbrev EachClosed : Env → Type 0
EachClosed [] = Unit {0}
EachClosed (p ∷ env) = Closed p.1 × EachClosed env

primitives_closed : EachClosed primitives
unfolding primitives ftv_scheme ftv_qual ftv_preds ftv_type without keep null int bool
primitives_closed = (refl, (refl, (refl, (refl, (refl, (refl, (refl, tt)))))))

primitives_sorted : Sorted names primitives
unfolding primitives name_before called packed quoted ltb dec_lt
primitives_sorted = (
  (refl, (refl, (refl, (refl, (refl, (refl, tt)))))),
  (
    (refl, (refl, (refl, (refl, (refl, tt))))),
    (
      (refl, (refl, (refl, (refl, tt)))),
      (
        (refl, (refl, (refl, tt))),
        (
          (refl, (refl, tt)),
          (
            (refl, tt),
            (tt, tt),
          ),
        ),
      ),
    ),
  ),
)

each_closed : (env : Env) → EachClosed env → AllClosed env
unfolding get
each_closed [] k x c e = absurd (none_some c e)
each_closed (p ∷ env) k x c e = go (same_name x p.0) refl (each_closed env k.1 x c)
  where
    go : (d : Dec (x ≡ p.0)) → same_name x p.0 ≡ d → (get names x env ≡ some c → Closed c) → Closed c
    go (yes i) j ih =
        let f : some p.1 ≡ some c = rw j at e in
        subst Closed (some_inj p.1 c f) k.0
    go (no i) j ih =
        let f : get names x env ≡ some c = rw j at e in
        ih f

-- ## declarations
-- An environment in order, its schemes closed.
pub record Firm (env : Env) : Type 0 where
  pub sorted : Sorted names env
  pub closed : AllClosed env

-- A closed scheme may be put in.
pub firm_insert : (x : Name) (c : Scheme) (env : Env) → Closed c → Firm env → Firm (insert names (x, c) env)
firm_insert x c env h f = record { sorted = sorted_insert names names_ordered (x, c) env f.sorted; closed = λ y d e. go y d e (same_name y x) }
  where
    go : (y : Name) (d : Scheme) → get names y (insert names (x, c) env) ≡ some d → Dec (y ≡ x) → Closed d
    go y d e (yes i) =
        let g : get names y (insert names (x, c) env) ≡ some c = rw i (get_insert_same names x c env) in
        subst Closed (some_inj c d (sym g ∙ e)) h
    go y d e (no i) = f.closed y d (sym (get_insert_other names y (x, c) env i) ∙ e)

-- A signature's scheme binds all of its variables.
pub sig_closed : (k : ClassDecl) (u : Ty) → Closed (sig_scheme k u)
unfolding sig_scheme
sig_closed k u = closed_if (sort_by tyvar_before (ftv_qual q)) q λ x o. elem-sort_by tyvar_before x (ftv_qual q) ∙ elem-ftv_qual x q ∙ o
  where
    q : Qual
    q = qual (pred k.name (var k.tyvar) ∷ []) u

sigs_firm : (k : ClassDecl) (gs : List (Name × Ty)) (env : Env) → Firm env → Firm (insert_sigs k gs env)
unfolding insert_sigs
sigs_firm k [] env f = f
sigs_firm k (g ∷ gs) env f = sigs_firm k gs (insert names (g.0, sig_scheme k g.1) env) (firm_insert g.0 (sig_scheme k g.1) env (sig_closed k g.1) f)

-- The environment of an answer is firm if it is where the declaration succeeds.
answer_firm : {A : Type 0} (budget : ℕ) (ck : Checker) (says : A → Result) (ce : A → ClassEnv) (o : Out (A × State)) → Firm ck.state.env
    → Says (λ r. Firm r.1.env) Any o → Firm (answer budget ck says ce o).checker.state.env
unfolding answer refuses
answer_firm budget ck says ce (done r left) f h = h
answer_firm budget ck says ce (refused r left) f h = f

pub run_firm : (budget : ℕ) (ck : Checker) (k : Decl) → Firm ck.state.env → Firm (run_decl budget ck k).checker.state.env
unfolding run_decl declare_class refuses
run_firm budget ck (class_decl k) f = go (class_of ck.class_env k.name)
  where
    go : (o : Option ClassInfo) → Firm (declare_class budget ck k o).checker.state.env
    go (some ci) = f
    go none =
        answer_firm budget ck _ _ (process_class_decl ck.class_env k ck.state budget) f
        (weaken _ _ _ _ (process_class_decl ck.class_env k ck.state budget) (class_adds ck.class_env k ck.state budget)
        (λ r e. subst Firm (sym e) (sigs_firm k k.sigs ck.state.env f)) (λ r z. z))
run_firm budget ck (instance_decl k) f =
    answer_firm budget ck _ _ (process_instance_decl ck.class_env k ck.state budget) f
    (weaken _ _ _ _ (process_instance_decl ck.class_env k ck.state budget) (instance_stands ck.class_env k ck.state budget f.sorted f.closed)
    (λ r e. subst Firm (sym e) f) (λ r z. z))
run_firm budget ck (let_decl x e) f =
    answer_firm budget ck _ _ (process_let_decl ck.class_env x e ck.state budget) f
    (weaken _ _ _ _ (process_let_decl ck.class_env x e ck.state budget)
    (let_adds_such Closed ck.class_env x e ck.state budget f.sorted f.closed
    (generalize_closed ck.class_env ck.state.env (no_free ck.state.env f.sorted f.closed)))
    (λ r h. subst Firm (sym h.0) (firm_insert x r.0 ck.state.env h.1 f)) (λ r z. z))
run_firm budget ck (check_decl e) f =
    answer_firm budget ck _ _ (check_expr ck.class_env e ck.state budget) f
    (weaken _ _ _ _ (check_expr ck.class_env e ck.state budget) (check_stands ck.class_env e ck.state budget f.sorted f.closed)
    (λ r e. subst Firm (sym e) f) (λ r z. z))

-- A declaration leaves a firm environment firm, whatever it is lent.
pub declare_firm : (budget work binders : ℕ) (k : Decl) (ck : Checker) → Firm ck.state.env → Firm (declare budget work binders k ck).checker.state.env
unfolding declare refuses
declare_firm budget work binders k ck f = go (over_limit budget) (no_room budget work binders ck)
  where
    go : (a b : Bool) → Firm (elim a as (λ _. Answer) [ true ↦ refuses ck (limit 0) 0 | false ↦ elim b [ true ↦ refuses ck room 0 | false ↦ run_decl budget ck k ] ]).checker.state.env
    go true b = f
    go false true = f
    go false false = run_firm budget ck k f

new_firm : Firm new.state.env
unfolding new
new_firm = record { sorted = primitives_sorted; closed = each_closed primitives primitives_closed }

-- The environment of every checker that declarations reach is firm.
pub reached_firm : (ck : Checker) → Reached ck → Firm ck.state.env
reached_firm ck at_first = new_firm
reached_firm ck (after_call h budget work binders k) = declare_firm budget work binders k _ (reached_firm _ h)

-- So it is in order and its schemes have no free variable: no substitution changes them, and no top-level type is open.
pub env_closed : (ck : Checker) → Reached ck → Sorted names ck.state.env × ((x : Name) (c : Scheme) → get names x ck.state.env ≡ some c → Closed c)
env_closed ck h = let f = reached_firm ck h in (f.sorted, f.closed)
