-- Types over made variables: substitution, composition and unification bring no other variable in.
use mathlib.Core.Path.{◌≡◌, refl, sym, ◌∙◌, subst}
use mathlib.Core.Bool.{true, false≢true}
use mathlib.Core.List.{List, [], ◌∷◌, ◌++◌}
use mathlib.Core.Option.{Option, none, some}
use Prim.Native.Nat.{ℕ}
use native.Mathlib.Omega.{arith}
use Rattle.meaning.specs.Ast.{Name, TyVar, named, fresh, same_tyvar, Ty, var, arrow, int, bool, Pred, Qual, qual, Scheme}
use Rattle.meaning.specs.Budget.{depth}
use Rattle.meaning.specs.Map.{names, tyvars, get, elem}
use Rattle.meaning.specs.Subst.{Subst, or_var, look, apply_type, apply_pred, apply_preds_pending, compose, ftv_scheme, occurs}
use Rattle.meaning.specs.Unify.{unify_in}
use Rattle.meaning.specs.Plain.{Fill, sub}
use Rattle.meaning.specs.Generalize.{Pending, Env, preds_of}
use Rattle.theorems.proofs.Says.{Says, Any, after_says, and_then, weaken}
use Rattle.theorems.proofs.Tests.{is_yes_true, or_cases}
use Rattle.theorems.proofs.Fills.{sub-agree, sub_var, sub_same}
use Rattle.theorems.proofs.Applied.{apply_says, pred_says, compose_looks}
use Rattle.theorems.proofs.Unified.{Mgu, unify_says}
use Rattle.theorems.proofs.FreeVars.{occurs_preds, occurs_qual}
use Rattle.theorems.proofs.Generalized.{sub_occurs}

-- The checker made the variable.
abbrev pub IsMade : TyVar → Type 0
IsMade (named x) = ⊥
IsMade (fresh n) = Unit {0}

-- Every variable of the type was made.
abbrev pub MadeTy : Ty → Type 0
MadeTy t = (x : TyVar) → occurs x t ≡ true → IsMade x

-- The same of each predicate.
abbrev pub MadePreds : List Pred → Type 0
MadePreds [] = Unit {0}
MadePreds (p ∷ ps) = MadeTy p.ty × MadePreds ps

-- Of those that wait for a dictionary.
abbrev pub MadePending : Pending → Type 0
MadePending bs = MadePreds (preds_of bs)

-- Every variable of a qualified type was made.
abbrev pub MadeQual : Qual → Type 0
MadeQual q = (x : TyVar) → occurs_qual x q ≡ true → IsMade x

-- What stands for a made variable is a type over made ones.
abbrev pub MadeSubst : Subst → Type 0
MadeSubst s = (x : TyVar) → IsMade x → MadeTy (look s x)

-- The free variables of a scheme were made; those that it binds may have names.
abbrev pub MadeScheme : Scheme → Type 0
MadeScheme c = (x : TyVar) → elem tyvars x (ftv_scheme c) ≡ true → IsMade x

-- Where there is a scheme.
abbrev pub MadeAt : Option Scheme → Type 0
MadeAt none = Unit {0}
MadeAt (some c) = MadeScheme c

-- Every scheme that is found is one of those.
abbrev pub MadeEnv : Env → Type 0
MadeEnv env = (x : Name) → MadeAt (get names x env)

-- ## types and predicates
-- A made variable is a type over made ones.
pub made_var : (x : TyVar) → IsMade x → MadeTy (var x)
unfolding occurs
made_var x h y e = subst IsMade (sym (is_yes_true (same_tyvar y x) e)) h

-- An arrow between two such types is one.
pub made_arrow : (a b : Ty) → MadeTy a → MadeTy b → MadeTy (arrow a b)
unfolding occurs
made_arrow a b h k x e = or_cases (occurs x a) (occurs x b) e (IsMade x) (h x) (k x)

-- An integer's type has no variable.
pub made_int : MadeTy int
unfolding int occurs
made_int x e = absurd (false≢true e)

-- Nor has a truth value's.
pub made_bool : MadeTy bool
unfolding bool occurs
made_bool x e = absurd (false≢true e)

-- A qualified type over made variables, from its parts.
pub made_qual : (ps : List Pred) (t : Ty) → MadePreds ps → MadeTy t → MadeQual (qual ps t)
made_qual ps t h k x e = or_cases (occurs_preds x ps) (occurs x t) e (IsMade x) (of_preds_lem ps h) (k x)
  where
    of_preds_lem : (ps : List Pred) → MadePreds ps → occurs_preds x ps ≡ true → IsMade x
    of_preds_lem [] h e = absurd (false≢true e)
    of_preds_lem (p ∷ ps) h e = or_cases (occurs x p.ty) (occurs_preds x ps) e (IsMade x) (h.0 x) (of_preds_lem ps h.1)

-- Two lists of pending predicates in one.
pub made_append : (bs cs : Pending) → MadePending bs → MadePending cs → MadePending (bs ++ cs)
made_append [] cs h k = k
made_append (b ∷ bs) cs h k = (h.0, made_append bs cs h.1 k)

-- ## substitutions
-- The empty one leaves made variables.
pub made_empty : MadeSubst []
unfolding get or_var
made_empty x h = made_var x h

-- A variable of a filled type comes from what fills a made one.
pub made_sub : (θ : Fill) (t : Ty) → ((x : TyVar) → IsMade x → MadeTy (θ x)) → MadeTy t → MadeTy (sub θ t)
made_sub θ t h k y e = sub_occurs θ y (IsMade y) t (λ x i j. h x (k x i) y j) e

-- Application.
pub apply_made : (s : Subst) (t : Ty) (n : ℕ) → MadeSubst s → MadeTy t → Says MadeTy Any (apply_type s t n)
apply_made s t n h k = weaken _ _ _ _ (apply_type s t n) (apply_says depth s t n) (λ u e. subst MadeTy (sym e) (made_sub (look s) t h k)) (λ r z. tt)

-- Application to pending predicates.
pub pending_made : (s : Subst) (bs : Pending) (n : ℕ) → MadeSubst s → MadePending bs → Says MadePending Any (apply_preds_pending s bs n)
unfolding apply_preds_pending
pending_made s [] n h k = tt
pending_made s (b ∷ bs) n h k =
    after_says _ _ _ _ (apply_pred s b.1 n) _ (pred_says s b.1 n) (λ r z. tt) λ q e m.
    and_then _ _ _ (apply_preds_pending s bs m) _ (pending_made s bs m h k.1) λ qs i l.
    (subst (λ (p : Pred). MadeTy p.ty) (sym e) (made_sub (look s) b.1.ty h k.0), i)

-- Composition.
pub compose_made : (self other : Subst) (n : ℕ) → MadeSubst self → MadeSubst other → Says MadeSubst Any (compose self other n)
compose_made self other n h k =
    weaken _ _ _ _ (compose self other n) (compose_looks self other n) (λ s e x i. subst MadeTy (sym (e x)) (made_sub (look self) (look other x) h (k x i))) (λ r z. tt)

-- A most general unifier of types over made variables brings no named one: some unifier grows every named variable and
-- does else what the general one does, and to factor through that one it must find no named variable there.
pub unifier_made : (a b : Ty) (s : Subst) → Mgu a b s → MadeTy a → MadeTy b → MadeSubst s
unifier_made a b s m h k (named x) i = absurd i
unifier_made a b s m h k (fresh n) i = go
  where
    θ : Fill
    θ (named x) = arrow (var (named x)) (var (named x))
    θ (fresh n) = look s (fresh n)

    as_s : (x : TyVar) → IsMade x → θ x ≡ look s x
    as_s (named x) i = absurd i
    as_s (fresh n) i = refl

    unifies : sub θ a ≡ sub θ b
    unifies = sub-agree θ (look s) a (λ x o. as_s x (h x o)) ∙ m.unifies ∙ sym (sub-agree θ (look s) b (λ x o. as_s x (k x o)))

    fixed : sub θ (look s (fresh n)) ≡ sub var (look s (fresh n))
    fixed = m.general θ unifies (fresh n) ∙ sym (sub_var (look s (fresh n)))

    go : MadeTy (look s (fresh n))
    go (named x) o =
        let e : arrow (var (named x)) (var (named x)) ≡ var (named x) = sub_same θ var (look s (fresh n)) fixed (named x) o in
        let z : ◌≡◌ {A = ℕ} 0 1 = cc in
        omega arith
    go (fresh x) o = tt

-- Unification.
pub unify_made : (d : ℕ) (a b : Ty) (n : ℕ) → MadeTy a → MadeTy b → Says MadeSubst Any (unify_in d a b n)
unify_made d a b n h k = weaken _ _ _ _ (unify_in d a b n) (unify_says d a b n) (λ s m. unifier_made a b s m h k) (λ r z. tt)
