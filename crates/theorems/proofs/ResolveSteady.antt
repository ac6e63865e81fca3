-- Resolution's answer is no matter of the budget: two resolutions of one predicate that succeed give one dictionary.
use mathlib.Core.Path.{◌≡◌, refl, subst}
use mathlib.Core.Bool.{Bool, true, false}
use mathlib.Core.List.{List, [], ◌∷◌}
use mathlib.Core.Option.{Option, none, some}
use Prim.Native.Nat.{ℕ, suc, zero, ◌+◌}
use native.Mathlib.Omega.{arith}
use Rattle.meaning.specs.Base.{is_yes, if}
use Rattle.meaning.specs.Ast.{Name, same_name, super, Pred, pred, same_pred, Core, dict_proj}
use Rattle.meaning.specs.Errors.{added}
use Rattle.meaning.specs.Budget.{Out, done, refused, Steps, settled, attempt, depth}
use Rattle.meaning.specs.Subst.{Subst, apply_type, apply_pred, apply_preds}
use Rattle.meaning.specs.Unify.{match_pred}
use Rattle.meaning.specs.Classes.{ClassEnv, InstanceInfo, Given, class_of, supers_of, or_next, by_supers, by_super_in, by_super, from_givens, resolve_from_givens, Chosen, chosen, by_inst, all_resolved, from_instance, or_instance, resolve_node, resolve_in, resolve}
use Rattle.meaning.specs.Reduce.{is_head_normal, reduce_one}
use Rattle.theorems.proofs.Attempted.{definite_of}
use Rattle.theorems.proofs.Steady.{More, Steady, definite_stays, pure_steady, refuse_steady, then_steady, if_steady, step_steady, apply_steady, match_steady}

-- ## what resolution is made of
-- Want of steps stays a refusal where an attempt is made; every other refusal comes again.
settled_more : {A : Type 0} (k : ℕ) (o o' : Out A) → More k o o' → More k (settled o) (settled o')
unfolding settled
settled_more k (done a n) o' h = rw h refl
settled_more {A} k (refused r n) o' h = go (added r) refl
  where
    go : (b : Bool) → added r ≡ b → More k (if b (refused r n) (done none n)) (settled o')
    go true e = λ d. rw (h d) (rw e refl)
    go false e = rw (h (definite_stays r (definite_of r e))) (rw e refl)

-- An attempt.
pub attempt_steady : {A : Type 0} (m : Steps A) → Steady m → Steady (attempt m)
attempt_steady m h n k = settled_more k (m n) (m (n + k)) (h n k)

or_next_steady : (r : Option Core) (m : Steps (Option Core)) → Steady m → Steady (or_next r m)
unfolding or_next
or_next_steady none m h = h
or_next_steady (some e) m h = pure_steady (some e)

supers_steady : (walk : Core → Pred → Steps (Option Core)) → ((e : Core) (p : Pred) → Steady (walk e p)) → (e : Core) (p : Pred) (ss : List Name) → Steady (by_supers walk e p ss)
unfolding by_supers
supers_steady walk h e p [] = pure_steady none
supers_steady walk h e p (s ∷ ss) =
    then_steady (walk (dict_proj e (super p.class s)) (pred s p.ty)) _ (h _ _) λ r.
    or_next_steady r _ (supers_steady walk h e p ss)

-- The walk over superclasses.
pub walk_steady : (d : ℕ) (ce : ClassEnv) (hit : Core → Pred → Bool) (e : Core) (p : Pred) → Steady (by_super_in d ce hit e p)
unfolding by_super_in
walk_steady zero ce hit e p = refuse_steady _
walk_steady (suc d) ce hit e p = step_steady _ (if_steady (hit e p) _ _ (pure_steady (some e)) (supers_steady _ (λ f q. walk_steady d ce hit f q) e p (supers_of (class_of ce p.class))))

-- The search over givens.
pub givens_steady : (ce : ClassEnv) (gs : List Given) (hit : Core → Pred → Bool) → Steady (from_givens ce gs hit)
unfolding from_givens
givens_steady ce [] hit = pure_steady none
givens_steady ce (g ∷ gs) hit =
    then_steady (by_super ce hit g.0 g.1) _ (walk_steady depth ce hit g.0 g.1) λ r.
    or_next_steady r _ (givens_steady ce gs hit)

match_pred_steady : (p q : Pred) → Steady (match_pred p q)
unfolding match_pred
match_pred_steady p q = if_steady (is_yes (same_name p.class q.class)) _ _ (match_steady depth p.ty q.ty) (refuse_steady _)

chosen_steady : (k : ℕ) (i : InstanceInfo) (r : Option Subst) (m : Steps (Option Chosen)) → Steady m → Steady (chosen k i r m)
unfolding chosen
chosen_steady k i none m h = h
chosen_steady k i (some s) m h = pure_steady _

-- The search over instances.
pub by_inst_steady : (k : ℕ) (is : List InstanceInfo) (p : Pred) → Steady (by_inst k is p)
unfolding by_inst
by_inst_steady k [] p = pure_steady none
by_inst_steady k (i ∷ is) p =
    if_steady (is_yes (same_name i.head.class p.class)) _ _
    (then_steady (attempt (match_pred i.head p)) _ (attempt_steady (match_pred i.head p) (match_pred_steady i.head p)) λ r.
    chosen_steady k i r _ (by_inst_steady (suc k) is p)) (by_inst_steady (suc k) is p)

apply_pred_steady : (s : Subst) (p : Pred) → Steady (apply_pred s p)
unfolding apply_pred
apply_pred_steady s p = then_steady (apply_type s p.ty) _ (apply_steady depth s p.ty) λ u. pure_steady _

apply_preds_steady : (s : Subst) (ps : List Pred) → Steady (apply_preds s ps)
unfolding apply_preds
apply_preds_steady s [] = pure_steady []
apply_preds_steady s (p ∷ ps) = then_steady (apply_pred s p) _ (apply_pred_steady s p) λ q. then_steady (apply_preds s ps) _ (apply_preds_steady s ps) λ qs. pure_steady (q ∷ qs)

-- ## resolution
module _ (r : Pred → Steps Core) (h : (q : Pred) → Steady (r q)) where
  all_steady : (ps : List Pred) → Steady (all_resolved r ps)
  unfolding all_resolved
  all_steady [] = pure_steady _
  all_steady (p ∷ ps) = then_steady (r p) _ (h p) λ e. then_steady (all_resolved r ps) _ (all_steady ps) λ es. pure_steady _

  instance_steady : (p : Pred) (c : Option Chosen) → Steady (from_instance r p c)
  unfolding from_instance
  instance_steady p none = refuse_steady _
  instance_steady p (some c) =
      then_steady (apply_preds c.fills c.inst.context) _ (apply_preds_steady c.fills c.inst.context) λ qs.
      then_steady (all_resolved r qs) _ (all_steady qs) λ es.
      then_steady (apply_type c.fills c.inst.head.ty) _ (apply_steady depth c.fills c.inst.head.ty) λ t. pure_steady _

  or_instance_steady : (ce : ClassEnv) (p : Pred) (o : Option Core) → Steady (or_instance r ce p o)
  unfolding or_instance
  or_instance_steady ce p (some e) = pure_steady e
  or_instance_steady ce p none = then_steady (by_inst 0 ce.instances p) _ (by_inst_steady 0 ce.instances p) λ i. instance_steady p i

-- More steps change no answer of resolution, nor any refusal but the one for want of steps.
pub resolve_steady : (d : ℕ) (ce : ClassEnv) (gs : List Given) (p : Pred) → Steady (resolve_in d ce gs p)
unfolding resolve_in resolve_node
resolve_steady zero ce gs p = refuse_steady _
resolve_steady (suc d) ce gs p = step_steady _
    (then_steady (resolve_from_givens ce gs p) _ (givens_steady ce gs (λ e q. is_yes (same_pred q p))) λ o.
    or_instance_steady (λ q. resolve_in d ce gs q) (λ q. resolve_steady d ce gs q) ce p o)

-- Nor of what `reduce` does with one predicate.
pub reduce_one_steady : (ce : ClassEnv) (gs : List Given) (p : Pred) → Steady (reduce_one ce gs p)
unfolding reduce_one
reduce_one_steady ce gs p =
    if_steady (is_head_normal p.ty) _ _ (givens_steady ce gs (λ e q. is_yes (same_pred q p)))
    (then_steady (resolve ce gs p) _ (resolve_steady depth ce gs p) λ e. pure_steady (some e))

-- ## one answer
-- A steady computation has one answer, whatever the steps that it is given.
pub same_answer : {A : Type 0} (m : Steps A) → Steady m → (n n' : ℕ) (a a' : A) (k k' : ℕ) → m n ≡ done a k → m n' ≡ done a' k' → a ≡ a'
same_answer m h n n' a a' k k' e e' = let f = first in let g = second in cc
  where
    up : (i j : ℕ) (b : _) (l : ℕ) → m i ≡ done b l → m (i + j) ≡ done b (l + j)
    up i j b l f = subst (λ (o : Out _). More j o (m (i + j))) f (h i j)

    first : m (n + n') ≡ done a (k + n')
    first = up n n' a k e

    second : m (n + n') ≡ done a' (k' + n)
    second = let c : n' + n ≡ n + n' = omega arith in subst (λ (i : ℕ). m i ≡ done a' (k' + n)) c (up n' n a' k' e')

-- Two resolutions of a predicate give one term.
pub resolve_once : (d : ℕ) (ce : ClassEnv) (gs : List Given) (p : Pred) (n n' : ℕ) (e e' : Core) (k k' : ℕ)
    → resolve_in d ce gs p n ≡ done e k → resolve_in d ce gs p n' ≡ done e' k' → e ≡ e'
resolve_once d ce gs p n n' e e' k k' = same_answer (resolve_in d ce gs p) (resolve_steady d ce gs p) n n' e e' k k'

-- So do two turns of `reduce`.
pub reduce_one_once : (ce : ClassEnv) (gs : List Given) (p : Pred) (n n' : ℕ) (o o' : Option Core) (k k' : ℕ)
    → reduce_one ce gs p n ≡ done o k → reduce_one ce gs p n' ≡ done o' k' → o ≡ o'
reduce_one_once ce gs p n n' o o' k k' = same_answer (reduce_one ce gs p) (reduce_one_steady ce gs p) n n' o o' k k'
