-- The binders of what `reduce` leaves, in rows: those that stayed pending, the first of each predicate.
use mathlib.Core.Path.{◌≡◌, refl, ap, sym, ◌∙◌}
use mathlib.Core.Bool.{Bool, true, false, not, ◌&&◌, false≢true}
use mathlib.Core.List.{List, [], ◌∷◌, ◌++◌, append-nil, append_assoc}
use mathlib.Core.Option.{some}
use mathlib.Core.Logic.{◌≢◌}
use Prim.Native.Nat.{ℕ, zero, suc, ◌<◌}
use native.Mathlib.Omega.{arith}
use Rattle.meaning.specs.Base.{is_yes, if, any, keep, nth, first}
use Rattle.meaning.specs.Ast.{Pred, same_pred, Binder}
use Rattle.meaning.specs.Reduce.{is_head_normal, contains}
use Rattle.meaning.specs.Generalize.{Pending, preds_of}
use Rattle.theorems.proofs.Tests.{some_inj, none_some}
use Rattle.theorems.proofs.Residuals.{firsts}
use Rattle.theorems.proofs.FirstRows.{NoneBefore}
use Rattle.pending.specs.Owned.{first_of, holds, firsts_from}
use Rattle.pending.proofs.Firsts.{first_here, first_there, add_known, add-new}

-- The binder's type is a variable.
abbrev pub at_variable : Binder → Bool
at_variable b = is_head_normal b.1.ty

-- ## The first of each predicate, in both ways

-- A predicate is among those of binders in both senses.
holds_is : (ks : List Binder) (p : Pred) → contains (preds_of ks) p ≡ holds ks p
unfolding contains any
holds_is [] p = refl
holds_is (k ∷ ks) p = ap (λ (b : Bool). if (is_yes (same_pred k.1 p)) true b) (holds_is ks p)

-- The predicates of binders with one more at the end.
preds_snoc : (ks : List Binder) (b : Binder) → preds_of (ks ++ (b ∷ [])) ≡ preds_of ks ++ (b.1 ∷ [])
preds_snoc [] b = refl
preds_snoc (k ∷ ks) b = ap (λ (l : List Pred). k.1 ∷ l) (preds_snoc ks b)

-- The first binders at variables after others.
firsts_from_lem : (ks rest : List Binder) → firsts_from ks (keep at_variable rest) ≡ ks ++ firsts (preds_of ks) rest
unfolding firsts_from firsts keep
firsts_from_lem ks [] = sym (append-nil ks)
firsts_from_lem ks (b ∷ rest) = go (at_variable b) (holds ks b.1) refl (λ l. firsts_from_lem l rest)
  where
    go : (v h : Bool) → holds ks b.1 ≡ h → ((l : List Binder) → firsts_from l (keep at_variable rest) ≡ l ++ firsts (preds_of l) rest)
        → firsts_from ks (if v (b ∷ keep at_variable rest) (keep at_variable rest)) ≡ ks ++ if (v && not (contains (preds_of ks) b.1)) (b ∷ firsts (preds_of ks ++ (b.1 ∷ [])) rest) (firsts (preds_of ks) rest)
    go false h e ih = ih ks
    go true true e ih = rw (holds_is ks b.1 ∙ e) (ap (λ l. firsts_from l (keep at_variable rest)) (add_known ks b e) ∙ ih ks)
    go true false e ih = rw (holds_is ks b.1 ∙ e)
        (ap (λ l. firsts_from l (keep at_variable rest)) (add-new ks b e) ∙ ih (ks ++ (b ∷ [])) ∙ rw (preds_snoc ks b) (append_assoc ks (b ∷ []) (firsts (preds_of ks ++ (b.1 ∷ [])) rest)))

-- Of all.
pub firsts_same : (ps : Pending) → firsts_from [] (keep at_variable ps) ≡ firsts [] ps
firsts_same ps = firsts_from_lem [] ps

-- ## The first of one predicate

-- A binder of the predicate stands at a number, and none before it has that predicate.
pub record Stood (ps : Pending) (p : Pred) (b : Binder) : Type 0 where
  pub number : ℕ
  pub stands : nth ps number ≡ some b
  pub pred_is : b.1 ≡ p
  pub before : NoneBefore ps number p

-- One number further.
stood_later : (a : Binder) (ps : Pending) (p : Pred) (b : Binder) → a.1 ≢ p → Stood ps p b → Stood (a ∷ ps) p b
unfolding nth
stood_later a ps p b n s = record { number = suc s.number; stands = s.stands; pred_is = s.pred_is; before = go }
  where
    go : (j : ℕ) (c : Binder) → j < suc s.number → nth (a ∷ ps) j ≡ some c → c.1 ≢ p
    go zero c l e i = n (ap (λ (z : Binder). z.1) (some_inj a c e) ∙ i)
    go (suc j) c l e i = s.before j c (omega arith) e i

-- The first binder at a variable of a predicate at a variable is such a one.
pub first_stood : (ps : Pending) (p : Pred) (b : Binder) → is_head_normal p.ty ≡ true → first_of (keep at_variable ps) p ≡ some b → Stood ps p b
unfolding keep first nth
first_stood [] p b h e = absurd (none_some b e)
first_stood (a ∷ ps) p b h e = go (at_variable a) refl (same_pred a.1 p) e (first_stood ps p b h)
  where
    go : (v : Bool) → at_variable a ≡ v → Dec (a.1 ≡ p) → first_of (if v (a ∷ keep at_variable ps) (keep at_variable ps)) p ≡ some b → (first_of (keep at_variable ps) p ≡ some b → Stood ps p b) → Stood (a ∷ ps) p b
    go false k d e ih = stood_later a ps p b (λ i. false≢true (sym k ∙ ap (λ (q : Pred). is_head_normal q.ty) i ∙ h)) (ih e)
    go true k (yes i) e ih =
        let j : a ≡ b = some_inj a b (sym (first_here a (keep at_variable ps) p i) ∙ e) in
        record { number = 0; stands = ap some j; pred_is = ap (λ (z : Binder). z.1) (sym j) ∙ i; before = λ j c l x. absurd (omega (arith, l)) }
    go true k (no n) e ih = stood_later a ps p b n (ih (sym (first_there a (keep at_variable ps) p n) ∙ e))
