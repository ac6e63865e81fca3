-- No step is given back: substitution, unification, matching, resolution and what is made of them. Each proof is the
-- `do` block again.
use mathlib.Core.Bool.{Bool}
use mathlib.Core.List.{List, [], ◌∷◌, ◌++◌}
use mathlib.Core.Option.{Option, none, some}
use Prim.Native.Nat.{ℕ, suc, zero}
use Rattle.meaning.specs.Base.{is_yes, null, eqb}
use Rattle.meaning.specs.Ast.{Name, same_name, TyVar, same_tyvar, Ty, Tys, var, con, arrow, nil, ◌◂◌, count_tys, same_ty, Pred, Qual, Scheme, Core, Binder}
use Rattle.meaning.specs.Errors.{missing_superclass, unknown_class}
use Rattle.meaning.specs.Budget.{Steps, depth}
use Rattle.meaning.specs.Map.{tyvars, get}
use Rattle.meaning.specs.Subst.{Subst, empty, each, apply_node, apply_in, apply_pred, apply_preds, apply_preds_pending, apply_qual, apply_values, compose, agree_at, agree, merge, ftv_scheme, filtered, apply_scheme, occurs}
use Rattle.meaning.specs.Unify.{bind_other, bind, unify_zip, unify_con, unify_arrow, unify_node, unify_in, match_in, match_pred}
use Rattle.meaning.specs.Classes.{ClassEnv, ClassInfo, InstanceInfo, Given, Chosen, class_of, supers_of, supers_known, add_class, or_back, overlaps, none_overlaps, add_instance, or_next, by_supers, by_super_in, from_givens, chosen, by_inst, all_resolved, from_instance, or_instance, resolve_node, resolve_in}
use Rattle.meaning.specs.Reduce.{Discharged, Removed, is_head_normal, discharge, reduce_one, reduce_from, sorted_out, simplify_from, roots}
use Rattle.theorems.proofs.MatchCost.{match_down}
use Rattle.theorems.proofs.Spends.{Falls, pure_falls, refuse_falls, then_falls, step_falls, if_falls, attempt_falls, or_refuse_falls}

-- ## substitutions
each_falls : (f : Ty → Steps Ty) → ((t : Ty) → Falls (f t)) → (ts : Tys) → Falls (each f ts)
unfolding each
each_falls f h nil = pure_falls
each_falls f h (t ◂ ts) = then_falls (h t) λ u. then_falls (each_falls f h ts) λ us. pure_falls

apply_node_falls : (f : Ty → Steps Ty) (s : Subst) → ((t : Ty) → Falls (f t)) → (t : Ty) → Falls (apply_node f s t)
unfolding apply_node
apply_node_falls f s h (var x) = pure_falls
apply_node_falls f s h (con c ts) = then_falls (each_falls f h ts) λ us. pure_falls
apply_node_falls f s h (arrow a b) = then_falls (h a) λ u. then_falls (h b) λ v. pure_falls

-- Applying a substitution to a type.
pub apply_falls : (d : ℕ) (s : Subst) (t : Ty) → Falls (apply_in d s t)
unfolding apply_in
apply_falls zero s t = refuse_falls
apply_falls (suc d) s t = step_falls (apply_node_falls _ s (apply_falls d s) t)

-- To a predicate.
pub pred_falls : (s : Subst) (p : Pred) → Falls (apply_pred s p)
unfolding apply_pred
pred_falls s p = then_falls (apply_falls depth s p.ty) λ u. pure_falls

-- To a list of predicates.
pub preds_falls : (s : Subst) (ps : List Pred) → Falls (apply_preds s ps)
unfolding apply_preds
preds_falls s [] = pure_falls
preds_falls s (p ∷ ps) = then_falls (pred_falls s p) λ q. then_falls (preds_falls s ps) λ qs. pure_falls

-- To pending predicates.
pub pending_falls : (s : Subst) (bs : List Binder) → Falls (apply_preds_pending s bs)
unfolding apply_preds_pending
pending_falls s [] = pure_falls
pending_falls s (b ∷ bs) = then_falls (pred_falls s b.1) λ q. then_falls (pending_falls s bs) λ qs. pure_falls

-- To a qualified type.
pub qual_falls : (s : Subst) (q : Qual) → Falls (apply_qual s q)
unfolding apply_qual
qual_falls s q = then_falls (preds_falls s q.preds) λ ps. then_falls (apply_falls depth s q.ty) λ u. pure_falls

-- To a scheme.
pub scheme_falls : (s : Subst) (c : Scheme) → Falls (apply_scheme s c)
unfolding apply_scheme
scheme_falls s c = if_falls (null (ftv_scheme c)) pure_falls (then_falls (qual_falls (filtered c.vars s) c.qual) λ q. pure_falls)

values_falls : (self other : Subst) → Falls (apply_values self other)
unfolding apply_values
values_falls self [] = pure_falls
values_falls self (p ∷ other) = then_falls (apply_falls depth self p.1) λ u. then_falls (values_falls self other) λ rest. pure_falls

-- One substitution after another.
pub compose_falls : (self other : Subst) → Falls (compose self other)
unfolding compose
compose_falls self other = then_falls (values_falls self other) λ out. pure_falls

agree_at_falls : (v : Ty) (o : Option Ty) → Falls (agree_at v o)
unfolding agree_at
agree_at_falls v none = pure_falls
agree_at_falls v (some w) = if_falls (is_yes (same_ty v w)) pure_falls refuse_falls

agree_falls : (self other : Subst) → Falls (agree self other)
unfolding agree
agree_falls [] other = pure_falls
agree_falls (p ∷ self) other = then_falls (agree_at_falls p.1 (get tyvars p.0 other)) λ _. agree_falls self other

-- Two substitutions side by side.
pub merge_falls : (self other : Subst) → Falls (merge self other)
unfolding merge
merge_falls self other = then_falls (agree_falls self other) λ _. pure_falls

-- ## unification and matching
bind_other_falls : (v : TyVar) (t : Ty) → Falls (bind_other v t)
unfolding bind_other
bind_other_falls v t = if_falls (occurs v t) refuse_falls pure_falls

bind_falls : (v : TyVar) (t : Ty) → Falls (bind v t)
unfolding bind
bind_falls v (var u) = if_falls (is_yes (same_tyvar v u)) pure_falls (bind_other_falls v (var u))
bind_falls v (con c ts) = bind_other_falls v (con c ts)
bind_falls v (arrow a b) = bind_other_falls v (arrow a b)

module _ (u : Ty → Ty → Steps Subst) (h : (a b : Ty) → Falls (u a b)) where
  zip_falls : (xs ys : Tys) (s : Subst) → Falls (unify_zip u xs ys s)
  unfolding unify_zip
  zip_falls nil nil s = pure_falls
  zip_falls nil (y ◂ ys) s = pure_falls
  zip_falls (x ◂ xs) nil s = pure_falls
  zip_falls (x ◂ xs) (y ◂ ys) s =
      then_falls (apply_falls depth s x) λ a.
      then_falls (apply_falls depth s y) λ b.
      then_falls (h a b) λ s₁.
      then_falls (compose_falls s₁ s) λ s₂.
      zip_falls xs ys s₂

  con_falls : (c : Name) (xs : Tys) (e : Name) (ys : Tys) → Falls (unify_con u c xs e ys)
  unfolding unify_con
  con_falls c xs e ys = if_falls (is_yes (same_name c e)) (if_falls (eqb (count_tys xs) (count_tys ys)) (zip_falls xs ys empty) refuse_falls) refuse_falls

  arrow_falls : (p₁ r₁ p₂ r₂ : Ty) → Falls (unify_arrow u p₁ r₁ p₂ r₂)
  unfolding unify_arrow
  arrow_falls p₁ r₁ p₂ r₂ =
      then_falls (h p₁ p₂) λ s₁.
      then_falls (apply_falls depth s₁ r₁) λ a.
      then_falls (apply_falls depth s₁ r₂) λ b.
      then_falls (h a b) λ s₂.
      compose_falls s₂ s₁

  unify_node_falls : (a b : Ty) → Falls (unify_node u a b)
  unfolding unify_node
  unify_node_falls (var v) b = bind_falls v b
  unify_node_falls (con c xs) (var v) = bind_falls v (con c xs)
  unify_node_falls (con c xs) (con e ys) = con_falls c xs e ys
  unify_node_falls (con c xs) (arrow a b) = refuse_falls
  unify_node_falls (arrow a b) (var v) = bind_falls v (arrow a b)
  unify_node_falls (arrow a b) (con c xs) = refuse_falls
  unify_node_falls (arrow p₁ r₁) (arrow p₂ r₂) = arrow_falls p₁ r₁ p₂ r₂

-- Unifying two types.
pub unify_falls : (d : ℕ) (a b : Ty) → Falls (unify_in d a b)
unfolding unify_in
unify_falls zero a b = refuse_falls
unify_falls (suc d) a b = step_falls (unify_node_falls _ (λ x y. unify_falls d x y) a b)

-- Matching a type against a pattern.
pub match_falls : (d : ℕ) (p t : Ty) → Falls (match_in d p t)
match_falls d p t = record { down = match_down d p t }

match_pred_falls : (p q : Pred) → Falls (match_pred p q)
unfolding match_pred
match_pred_falls p q = if_falls (is_yes (same_name p.class q.class)) (match_falls depth p.ty q.ty) refuse_falls

-- ## classes and instances
-- The look at a class's superclasses.
pub supers_known_falls : (ce : ClassEnv) (c : Name) (ss : List Name) → Falls (supers_known ce c ss)
unfolding supers_known
supers_known_falls ce c [] = pure_falls
supers_known_falls ce c (s ∷ ss) = then_falls (or_refuse_falls (missing_superclass c s) (class_of ce s)) λ _. supers_known_falls ce c ss

-- One more class.
pub add_class_falls : (ce : ClassEnv) (ci : ClassInfo) → Falls (add_class ce ci)
unfolding add_class
add_class_falls ce ci = then_falls (supers_known_falls ce ci.name ci.supers) λ _. pure_falls

or_back_falls : (r : Option Subst) (a b : Ty) → Falls (or_back r a b)
unfolding or_back
or_back_falls (some s) a b = pure_falls
or_back_falls none a b = then_falls (attempt_falls (match_falls depth b a)) λ r. pure_falls

overlaps_falls : (a b : Ty) → Falls (overlaps a b)
unfolding overlaps
overlaps_falls a b = then_falls (attempt_falls (match_falls depth a b)) λ r. or_back_falls r a b

-- The overlap test.
pub none_overlaps_falls : (is : List InstanceInfo) (h : Pred) → Falls (none_overlaps is h)
unfolding none_overlaps
none_overlaps_falls [] h = pure_falls
none_overlaps_falls (i ∷ rest) h = if_falls (is_yes (same_name i.head.class h.class))
    (then_falls (overlaps_falls i.head.ty h.ty) λ o. if_falls o refuse_falls (none_overlaps_falls rest h))
    (none_overlaps_falls rest h)

-- One more instance.
pub add_instance_falls : (ce : ClassEnv) (i : InstanceInfo) → Falls (add_instance ce i)
unfolding add_instance
add_instance_falls ce i =
    then_falls (or_refuse_falls (unknown_class i.head.class) (class_of ce i.head.class)) λ _.
    then_falls (none_overlaps_falls ce.instances i.head) λ _. pure_falls

or_next_falls : (o : Option Core) {m : Steps (Option Core)} → Falls m → Falls (or_next o m)
unfolding or_next
or_next_falls (some e) h = pure_falls
or_next_falls none h = h

by_supers_falls : (walk : Core → Pred → Steps (Option Core)) → ((e : Core) (p : Pred) → Falls (walk e p)) → (e : Core) (p : Pred) (ss : List Name) → Falls (by_supers walk e p ss)
unfolding by_supers
by_supers_falls walk h e p [] = pure_falls
by_supers_falls walk h e p (s ∷ ss) = then_falls (h _ _) λ r. or_next_falls r (by_supers_falls walk h e p ss)

-- The walk over the superclasses of an entry.
pub by_super_falls : (d : ℕ) (ce : ClassEnv) (hit : Core → Pred → Bool) (e : Core) (p : Pred) → Falls (by_super_in d ce hit e p)
unfolding by_super_in
by_super_falls zero ce hit e p = refuse_falls
by_super_falls (suc d) ce hit e p = step_falls (if_falls (hit e p) pure_falls (by_supers_falls _ (λ e₁ p₁. by_super_falls d ce hit e₁ p₁) e p (supers_of (class_of ce p.class))))

-- Over those of all givens.
pub from_givens_falls : (ce : ClassEnv) (gs : List Given) (hit : Core → Pred → Bool) → Falls (from_givens ce gs hit)
unfolding from_givens
from_givens_falls ce [] hit = pure_falls
from_givens_falls ce (g ∷ gs) hit = then_falls (by_super_falls depth ce hit g.0 g.1) λ r. or_next_falls r (from_givens_falls ce gs hit)

chosen_falls : (k : ℕ) (i : InstanceInfo) (o : Option Subst) {m : Steps (Option Chosen)} → Falls m → Falls (chosen k i o m)
unfolding chosen
chosen_falls k i none h = h
chosen_falls k i (some s) h = pure_falls

-- The search for an instance.
pub by_inst_falls : (k : ℕ) (is : List InstanceInfo) (p : Pred) → Falls (by_inst k is p)
unfolding by_inst
by_inst_falls k [] p = pure_falls
by_inst_falls k (i ∷ rest) p = if_falls (is_yes (same_name i.head.class p.class))
    (then_falls (attempt_falls (match_pred_falls i.head p)) λ r. chosen_falls k i r (by_inst_falls (suc k) rest p))
    (by_inst_falls (suc k) rest p)

module _ (r : Pred → Steps Core) (h : (p : Pred) → Falls (r p)) where
  all_resolved_falls : (ps : List Pred) → Falls (all_resolved r ps)
  unfolding all_resolved
  all_resolved_falls [] = pure_falls
  all_resolved_falls (p ∷ ps) = then_falls (h p) λ e. then_falls (all_resolved_falls ps) λ es. pure_falls

  from_instance_falls : (p : Pred) (i : Option Chosen) → Falls (from_instance r p i)
  unfolding from_instance
  from_instance_falls p none = refuse_falls
  from_instance_falls p (some i) =
      then_falls (preds_falls i.fills i.inst.context) λ subgoals.
      then_falls (all_resolved_falls subgoals) λ sub-dicts.
      then_falls (apply_falls depth i.fills i.inst.head.ty) λ head_ty. pure_falls

  or_instance_falls : (ce : ClassEnv) (p : Pred) (o : Option Core) → Falls (or_instance r ce p o)
  unfolding or_instance
  or_instance_falls ce p (some e) = pure_falls
  or_instance_falls ce p none = then_falls (by_inst_falls 0 ce.instances p) λ i. from_instance_falls p i

-- Resolving a goal.
pub resolve_falls : (d : ℕ) (ce : ClassEnv) (gs : List Given) (p : Pred) → Falls (resolve_in d ce gs p)
unfolding resolve_in resolve_node
resolve_falls zero ce gs p = refuse_falls
resolve_falls (suc d) ce gs p = step_falls (then_falls (from_givens_falls ce gs _) λ e. or_instance_falls _ (λ q. resolve_falls d ce gs q) ce p e)

reduce_one_falls : (ce : ClassEnv) (gs : List Given) (p : Pred) → Falls (reduce_one ce gs p)
unfolding reduce_one
reduce_one_falls ce gs p = if_falls (is_head_normal p.ty) (from_givens_falls ce gs _) (then_falls (resolve_falls depth ce gs p) λ e. pure_falls)

-- Reducing predicates.
pub reduce_falls : (ce : ClassEnv) (gs : List Given) (ps : List Pred) (o : List Discharged × List Pred) → Falls (reduce_from ce gs ps o)
unfolding reduce_from
reduce_falls ce gs [] o = pure_falls
reduce_falls ce gs (p ∷ ps) o = then_falls (reduce_one_falls ce gs p) λ r. reduce_falls ce gs ps (discharge p r o)

-- Simplifying a context.
pub simplify_falls : (ce : ClassEnv) (bs : List Binder) (o : List Binder × List Removed) → Falls (simplify_from ce bs o)
unfolding simplify_from
simplify_falls ce [] o = pure_falls
simplify_falls ce (b ∷ bs) o = then_falls (from_givens_falls ce (roots (o.0 ++ bs)) _) λ r. simplify_falls ce bs (sorted_out b r o)
