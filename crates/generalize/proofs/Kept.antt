-- What is left after `reduce` and `simplify_context`: made predicates whose types are variables.
use mathlib.Core.Path.{◌≡◌, refl, sym, subst}
use mathlib.Core.Bool.{Bool, true, false}
use mathlib.Core.List.{List, [], ◌∷◌, ◌++◌}
use mathlib.Core.Option.{Option, none, some}
use Prim.Native.Nat.{ℕ}
use Rattle.meaning.specs.Base.{is_yes, if, keep, first}
use Rattle.meaning.specs.Ast.{Pred, same_pred, Core, Binder}
use Rattle.meaning.specs.Budget.{Out, done}
use Rattle.meaning.specs.Classes.{ClassEnv}
use Rattle.meaning.specs.Reduce.{Removed, is_head_normal, reduce, find_super_proof, sorted_out, simplify_from, simplify_context}
use Rattle.meaning.specs.Generalize.{Pending, preds_of, with_first, binders_of}
use Rattle.theorems.proofs.Says.{Says, Any, and_then, past}
use Rattle.theorems.proofs.Tests.{and_left}
use Rattle.theorems.proofs.Made.{MadeTy, MadePreds, MadePending}
use Rattle.theorems.proofs.Residuals.{is_new, left_of, reduce_splits}
use Rattle.settle.specs.Settles.{settled}
use Rattle.generalize.specs.Generalizes.{AllVariable}

-- A made predicate whose type is a variable.
abbrev pub Fit : Pred → Type 0
Fit p = MadeTy p.ty × (is_head_normal p.ty ≡ true)

-- Each of them is one.
abbrev pub AllFit : List Pred → Type 0
AllFit [] = Unit {0}
AllFit (p ∷ ps) = Fit p × AllFit ps

-- So they were made.
pub fit_made : (ps : List Pred) → AllFit ps → MadePreds ps
fit_made [] h = tt
fit_made (p ∷ ps) h = (h.0.0, fit_made ps h.1)

-- And their types are variables.
pub fit_variable : (ps : List Pred) → AllFit ps → AllVariable ps
fit_variable [] h = tt
fit_variable (p ∷ ps) h = (h.0.1, fit_variable ps h.1)

-- ## `reduce`
-- What `reduce` leaves of made predicates.
left_fit : (rs ps : List Pred) → MadePreds ps → AllFit (left_of rs ps)
unfolding left_of
left_fit rs [] h = tt
left_fit rs (p ∷ ps) h = go (is_new rs p) refl (left_fit (rs ++ (p ∷ [])) ps h.1) (left_fit rs ps h.1)
  where
    go : (b : Bool) → is_new rs p ≡ b → AllFit (left_of (rs ++ (p ∷ [])) ps) → AllFit (left_of rs ps) → AllFit (if b (p ∷ left_of (rs ++ (p ∷ [])) ps) (left_of rs ps))
    go true e i j = ((h.0, and_left (is_head_normal p.ty) _ e), i)
    go false e i j = j

-- ## binders
-- The binders of predicates.
binders_fit : (qs : List Pred) (ps : Pending) → AllFit qs → AllFit (preds_of (binders_of qs ps))
unfolding binders_of with_first
binders_fit [] ps h = tt
binders_fit (q ∷ qs) ps h = go (first (λ (b : Binder). is_yes (same_pred b.1 q)) ps) (binders_fit qs ps h.1)
  where
    go : (o : Option Binder) → AllFit (preds_of (binders_of qs ps)) → AllFit (preds_of (with_first o q (binders_of qs ps)))
    go none i = i
    go (some b) i = (h.0, i)

-- Those that pass a test.
keep_fit : (f : Binder → Bool) (bs : Pending) → AllFit (preds_of bs) → AllFit (preds_of (keep f bs))
unfolding keep
keep_fit f [] h = tt
keep_fit f (b ∷ bs) h = go (f b) (keep_fit f bs h.1)
  where
    go : (c : Bool) → AllFit (preds_of (keep f bs)) → AllFit (preds_of (if c (b ∷ keep f bs) (keep f bs)))
    go true i = (h.0, i)
    go false i = i

-- Two lists of them.
append_fit : (bs cs : Pending) → AllFit (preds_of bs) → AllFit (preds_of cs) → AllFit (preds_of (bs ++ cs))
append_fit [] cs h k = k
append_fit (b ∷ bs) cs h k = (h.0, append_fit bs cs h.1 k)

-- What `simplify_context` keeps.
simplify_fit : (ce : ClassEnv) (bs : List Binder) (o : List Binder × List Removed) (n : ℕ) → AllFit (preds_of bs) → AllFit (preds_of o.0)
    → Says (λ r. AllFit (preds_of r.0)) Any (simplify_from ce bs o n)
unfolding simplify_from sorted_out
simplify_fit ce [] o n h k = k
simplify_fit ce (b ∷ bs) o n h k = past _ (find_super_proof ce (o.0 ++ bs) b.1 n) _ λ r m. simplify_fit ce bs (sorted_out b r o) m h.1 (go r)
  where
    go : (r : Option Core) → AllFit (preds_of (sorted_out b r o).0)
    go none = append_fit o.0 (b ∷ []) k (h.0, tt)
    go (some e) = k

-- ## all of it
-- What is kept when all is settled.
settled_fit : (ce : ClassEnv) (own : Binder → Bool) (ps : Pending) (e : Core) (n : ℕ) → MadePending ps → Says (λ r. AllFit (preds_of r.0)) Any (settled ce own ps e n)
unfolding settled
settled_fit ce own ps e n h =
    and_then _ _ _ (reduce ce [] (preds_of ps) n) _ (reduce_splits ce (preds_of ps) n) λ o s m.
    and_then _ _ _ (simplify_context ce (keep own (binders_of o.1 ps)) m) _
    (simplify_fit ce (keep own (binders_of o.1 ps)) ([], []) m (keep_fit own (binders_of o.1 ps) (binders_fit o.1 ps (subst AllFit (sym s.residual_is) (left_fit [] (preds_of ps) h)))) tt) λ r k l.
    past _ _ _ λ e₁ j. k

-- The kept binders are so.
pub kept_fit : (ce : ClassEnv) (own : Binder → Bool) (ps : Pending) (e : Core) (n l : ℕ) (kept late : List Binder) (c : Core) → MadePending ps
    → settled ce own ps e n ≡ done (kept, c, late) l → AllFit (preds_of kept)
kept_fit ce own ps e n l kept late c h k = subst (λ (o : Out (List Binder × Core × Pending)). Says (λ r. AllFit (preds_of r.0)) Any o) k (settled_fit ce own ps e n h)
