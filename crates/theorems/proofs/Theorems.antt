-- The results, in reader's form. Each is about the definitions of crate `meaning` alone; `unify`, `match_ty` and `resolve`
-- are the budgeted ones, with whatever steps a caller gives them.
use mathlib.Core.Path.{◌≡◌}
use mathlib.Core.List.{List}
use mathlib.Core.Logic.{◌≢◌}
use Prim.Native.Nat.{ℕ, ◌+◌, ◌≤◌}
use Rattle.meaning.specs.Ast.{TyVar, Ty, size, Pred, Core, Binder, Decl, class_decl, instance_decl, let_decl, check_decl}
use Rattle.meaning.specs.Errors.{Refusal, format, limit, reserved, redeclared, room, out_of_steps, too_deep, output, unbound_variable, unification_failure, occurs_check, con_mismatch, arity_mismatch, no_instance, ambiguous, duplicate_instance, unknown_class, unknown_method, missing_superclass, missing_method, number}
use Rattle.meaning.specs.Budget.{done, refused, depth}
use Rattle.meaning.specs.Map.{tyvars}
use Rattle.meaning.specs.Subst.{Subst, look}
use Rattle.meaning.specs.Unify.{unify, match_ty}
use Rattle.meaning.specs.Plain.{Fill, sub, filled}
use Rattle.meaning.specs.Classes.{ClassEnv, Given, resolve}
use Rattle.meaning.specs.Reduce.{Discharged, Removed, reduce, simplify_context}
use Rattle.meaning.specs.Session.{Checker, Reached, refusal, kept, declare}
use Rattle.meaning.specs.Derives.{Derives, HeadsApart}
use Rattle.meaning.specs.Select.{Demand3}
use Rattle.theorems.proofs.Says.{Any, Definite, of_done, of_refused}
use Rattle.theorems.proofs.Unified.{Mgu, NoUnifier, unify_says}
use Rattle.theorems.proofs.UnifyRefuses.{OfUnify, unify_refuses}
use Rattle.theorems.proofs.Ordered.{Sorted}
use Rattle.theorems.proofs.UnifyOrdered.{unify_ordered}
use Rattle.theorems.proofs.Steady.{More, unify_steady}
use Rattle.theorems.proofs.Joins.{Holds}
use Rattle.theorems.proofs.Matched.{Exact, NoMatch, match_says, match_fills}
use Rattle.theorems.proofs.MatchCost.{Leaves, match_cost}
use Rattle.theorems.proofs.Resolved.{resolve_says, resolve_complete}
use Rattle.theorems.proofs.Reduced.{Reduced, reduce_says}
use Rattle.theorems.proofs.Simplified.{Simplified, simplify_says}
use Rattle.theorems.proofs.Refused.{refused_stands}
use Rattle.theorems.proofs.Closed.{Firm, reached_firm}
use Rattle.theorems.proofs.Declared.{instance_stands, let_adds, check_stands}
use Rattle.theorems.proofs.Kept.{EnvStands, kept_paid}
use Rattle.theorems.proofs.Demand3.{demand3}

-- A refusal that is neither 6 nor 7, of a computation that refuses with nothing else of 1 to 8.
definite : (r : Refusal) → OfUnify r → number r ≢ 6 → number r ≢ 7 → Definite r
unfolding number
definite (format k) o p q = o
definite (limit k) o p q = o
definite (reserved k) o p q = o
definite redeclared o p q = o
definite room o p q = o
definite out_of_steps o p q = p (λ i. 6)
definite too_deep o p q = q (λ i. 7)
definite output o p q = o
definite (unbound_variable x) o p q = tt
definite (unification_failure a b) o p q = tt
definite (occurs_check v t) o p q = tt
definite (con_mismatch c d) o p q = tt
definite (arity_mismatch c m n) o p q = tt
definite (no_instance x) o p q = tt
definite (ambiguous x) o p q = tt
definite (duplicate_instance x) o p q = tt
definite (unknown_class c) o p q = tt
definite (unknown_method m) o p q = tt
definite (missing_superclass c s) o p q = tt
definite (missing_method c a m) o p q = tt

-- ## Unification

module _ (a b : Ty) (steps : ℕ) where
  -- What unify finds unifies.
  pub unify_sound : (s : Subst) (left : ℕ) → unify a b steps ≡ done s left → filled s a ≡ filled s b
  unify_sound s left e = (of_done (Mgu a b) (NoUnifier a b) (unify a b steps) s left (unify_says depth a b steps) e).unifies

  -- And is most general: every unifier factors through it.
  pub unify_general : (s : Subst) (left : ℕ) → unify a b steps ≡ done s left → (θ : Fill) → sub θ a ≡ sub θ b → (x : TyVar) → sub θ (look s x) ≡ θ x
  unify_general s left e = (of_done (Mgu a b) (NoUnifier a b) (unify a b steps) s left (unify_says depth a b steps) e).general

  -- Where it refuses, but for 6 or 7, no unifier exists; and it refuses with nothing but 6, 7, 12, 13, 14 or 15.
  pub unify_complete : (r : Refusal) (left : ℕ) → unify a b steps ≡ refused r left → OfUnify r × (number r ≢ 6 → number r ≢ 7 → (θ : Fill) → sub θ a ≢ sub θ b)
  unify_complete r left e =
      let o = of_refused (λ s. Unit {0}) OfUnify (unify a b steps) r left (unify_refuses depth a b steps) e in
      (o, λ p q. of_refused (Mgu a b) (NoUnifier a b) (unify a b steps) r left (unify_says depth a b steps) e (definite r o p q))

  -- What it finds is idempotent.
  pub unify_idempotent : (s : Subst) (left : ℕ) → unify a b steps ≡ done s left → (x : TyVar) → filled s (look s x) ≡ look s x
  unify_idempotent s left e = unify_general s left e (look s) (unify_sound s left e)

  -- Its pairs are in the byte order of their names, each name once.
  pub unify_in_order : (s : Subst) (left : ℕ) → unify a b steps ≡ done s left → Sorted tyvars s
  unify_in_order s left e = of_done (Sorted tyvars) Any (unify a b steps) s left (unify_ordered depth a b steps) e

  -- More budget changes no answer, and is left over; nor any refusal but 6.
  pub unify_more : (k : ℕ) → More k (unify a b steps) (unify a b (steps + k))
  unify_more k = unify_steady depth a b steps k

-- ## Matching

module _ (p t : Ty) (steps : ℕ) where
  -- The pattern, filled, is the target.
  pub match_sound : (s : Subst) (left : ℕ) → match_ty p t steps ≡ done s left → filled s p ≡ t
  match_sound s left e = match_fills (of_done (Exact p t) (NoMatch p t) (match_ty p t steps) s left (match_says depth p t steps) e)

  -- The maps that take the pattern to the target are just those that have the answer's pairs.
  pub match_exact : (s : Subst) (left : ℕ) → match_ty p t steps ≡ done s left → (θ : Fill) → (Holds θ s → sub θ p ≡ t) × (sub θ p ≡ t → Holds θ s)
  match_exact s left e θ = let m = of_done (Exact p t) (NoMatch p t) (match_ty p t steps) s left (match_says depth p t steps) e in (m.to θ, m.of θ)

  -- A definite refusal is given only where no map does it.
  pub match_complete : (r : Refusal) (left : ℕ) → match_ty p t steps ≡ refused r left → Definite r → (θ : Fill) → sub θ p ≢ t
  match_complete r left e = of_refused (Exact p t) (NoMatch p t) (match_ty p t steps) r left (match_says depth p t steps) e

  -- No more pairs are entered than the pattern has nodes, whatever comes of it.
  pub match_frugal : Leaves (λ left. steps ≤ left + size p) (match_ty p t steps)
  match_frugal = match_cost depth p t steps

-- ## Resolution

module _ (ce : ClassEnv) (gs : List Given) (p : Pred) (steps : ℕ) where
  -- A dictionary comes with a derivation whose shape it has.
  pub resolve_derives : (e : Core) (left : ℕ) → resolve ce gs p steps ≡ done e left → Derives ce gs p e
  resolve_derives e left g = of_done (Derives ce gs p) Any (resolve ce gs p steps) e left (resolve_says depth ce gs p steps) g

  -- Where no two heads of a class fit a common type, a refusal that is no limit is given only where nothing derives the
  -- goal, with givens and without: a dictionary is given exactly when a derivation exists.
  pub resolve_decides : HeadsApart ce → (r : Refusal) (left : ℕ) → resolve ce gs p steps ≡ refused r left → Definite r → (e : Core) → Derives ce gs p e → ⊥
  resolve_decides apart r left g = of_refused (λ e. Unit {0}) (λ r. Definite r → (e : Core) → Derives ce gs p e → ⊥) (resolve ce gs p steps) r left (resolve_complete ce apart gs depth p steps) g

-- ## reduce and simplify_context

pub reduce_promise : (ce : ClassEnv) (gs : List Given) (ps : List Pred) (steps left : ℕ) (out : List Discharged × List Pred) → reduce ce gs ps steps ≡ done out left → Reduced ce gs ps out
reduce_promise ce gs ps steps left out e = of_done (Reduced ce gs ps) Any (reduce ce gs ps steps) out left (reduce_says ce gs ps steps) e

pub simplify_promise : (ce : ClassEnv) (bs : List Binder) (steps left : ℕ) (out : List Binder × List Removed) → simplify_context ce bs steps ≡ done out left → Simplified ce bs out
simplify_promise ce bs steps left out e = of_done (Simplified ce bs) Any (simplify_context ce bs steps) out left (simplify_says ce bs steps) e

-- ## Declarations

-- A refused declaration changes nothing: environment, classes, instances, both counters, and so the kept nodes.
pub refused_changes_nothing : (budget work binders : ℕ) (k : Decl) (ck : Checker) (r : Refusal)
    → (declare budget work binders k ck).result ≡ refusal r → (declare budget work binders k ck).checker ≡ ck
refused_changes_nothing = refused_stands

stands : (k : Decl) (ck : Checker) → Firm ck.state.env → EnvStands k ck
stands (class_decl k) ck f = tt
stands (instance_decl k) ck f = λ n. instance_stands ck.class_env k ck.state n f.sorted f.closed
stands (let_decl x e) ck f = λ n. let_adds ck.class_env x e ck.state n f.sorted f.closed
stands (check_decl e) ck f = λ n. check_stands ck.class_env e ck.state n f.sorted f.closed

-- In every session that declarations reach, a declaration keeps no more new nodes than the steps it spent.
pub kept_is_paid : (ck : Checker) → Reached ck → (budget work binders : ℕ) (k : Decl)
    → kept (declare budget work binders k ck).checker ≤ kept ck + (declare budget work binders k ck).spent
kept_is_paid ck r budget work binders k = kept_paid budget work binders k ck (stands k ck (reached_firm ck r))

-- ## Demand 3

-- From any dictionary that resolution gives with nothing assumed, every path of superclass fields and then a method finds
-- its field, in a record of the right class, type and accepted instance. It reads over the resolution above: alone it
-- would hold of a checker that refuses everything.
pub demand_3 : Demand3
demand_3 = demand3
