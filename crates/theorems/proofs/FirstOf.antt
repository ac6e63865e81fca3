-- The first binder of a predicate, as a search finds it; and the first ones of all predicates, as a loop collects them.
use mathlib.Core.Path.{◌≡◌, refl, ap, sym, ◌∙◌}
use mathlib.Core.Bool.{Bool, true, false, not, ◌&&◌, false≢true}
use mathlib.Core.List.{List, [], ◌∷◌, ◌++◌, append-nil, append_assoc}
use mathlib.Core.Option.{Option, some}
use mathlib.Core.Logic.{◌≢◌}
use Prim.Native.Nat.{ℕ, suc, zero, ◌<◌}
use native.Mathlib.Omega.{arith}
use Rattle.meaning.specs.Base.{is_yes, if, any, keep, first, nth}
use Rattle.meaning.specs.Ast.{Pred, same_pred, Binder}
use Rattle.meaning.specs.Reduce.{is_head_normal, contains}
use Rattle.meaning.specs.Generalize.{Pending, preds_of}
use Rattle.theorems.proofs.Tests.{some_inj, none_some}
use Rattle.theorems.proofs.Residuals.{firsts}
use Rattle.theorems.proofs.FirstRows.{NoneBefore}

-- The first of the binders with this predicate.
abbrev pub first_of : Pending → Pred → Option Binder
first_of ps p = first (λ (b : Binder). is_yes (same_pred b.1 p)) ps

-- It has the predicate, stands at a number, and none before it has the predicate.
pub record Leads (ps : Pending) (p : Pred) (b : Binder) : Type 0 where
  pub number : ℕ
  pub stands : nth ps number ≡ some b
  pub has : b.1 ≡ p
  pub leads : NoneBefore ps number p

-- What the search finds.
pub first_leads : (ps : Pending) (p : Pred) (b : Binder) → first_of ps p ≡ some b → Leads ps p b
unfolding first nth
first_leads [] p b e = absurd (none_some b e)
first_leads (a ∷ ps) p b e = go (same_pred a.1 p) e (first_leads ps p b)
  where
    later : a.1 ≢ p → Leads ps p b → Leads (a ∷ ps) p b
    later n l = record { number = suc l.number; stands = l.stands; has = l.has; leads = before }
      where
        before : (j : ℕ) (c : Binder) → j < suc l.number → nth (a ∷ ps) j ≡ some c → c.1 ≢ p
        before zero c x i k = n (ap (λ (z : Binder). z.1) (some_inj a c i) ∙ k)
        before (suc j) c x i k = l.leads j c (omega arith) i k

    go : (d : Dec (a.1 ≡ p)) → if (is_yes d) (some a) (first_of ps p) ≡ some b → (first_of ps p ≡ some b → Leads ps p b) → Leads (a ∷ ps) p b
    go (yes i) e ih =
        let j : a ≡ b = some_inj a b e in
        record { number = zero; stands = ap some j; has = ap (λ (z : Binder). z.1) (sym j) ∙ i; leads = λ k c x. absurd (omega (arith, x)) }
    go (no n) e ih = later n (ih e)

-- Among those that pass a test which looks at the predicate alone, it is the same.
pub first_kept : (f : Pred → Bool) (ps : Pending) (p : Pred) → f p ≡ true → first_of (keep (λ (b : Binder). f b.1) ps) p ≡ first_of ps p
unfolding first keep
first_kept f [] p h = refl
first_kept f (a ∷ ps) p h = go (f a.1) refl (same_pred a.1 p) refl (first_kept f ps p h)
  where
    go : (c : Bool) → f a.1 ≡ c → (d : Dec (a.1 ≡ p)) → same_pred a.1 p ≡ d → first_of (keep (λ (b : Binder). f b.1) ps) p ≡ first_of ps p
        → first_of (if c (a ∷ keep (λ (b : Binder). f b.1) ps) (keep (λ (b : Binder). f b.1) ps)) p ≡ if (is_yes d) (some a) (first_of ps p)
    go true t (yes i) j ih = rw j refl
    go true t (no n) j ih = rw j ih
    go false t (yes i) j ih = absurd (false≢true (sym t ∙ ap f i ∙ h))
    go false t (no n) j ih = ih

-- ## a loop that collects
-- Some binder has the predicate, or the predicate is among theirs.
pub any_pred : (ks : Pending) (p : Pred) → any (λ (b : Binder). is_yes (same_pred b.1 p)) ks ≡ contains (preds_of ks) p
unfolding any contains
any_pred [] p = refl
any_pred (k ∷ ks) p = ap (λ (c : Bool). if (is_yes (same_pred k.1 p)) true c) (any_pred ks p)

preds_snoc : (ks : Pending) (b : Binder) → preds_of (ks ++ (b ∷ [])) ≡ preds_of ks ++ (b.1 ∷ [])
preds_snoc [] b = refl
preds_snoc (k ∷ ks) b = ap (λ (l : List Pred). k.1 ∷ l) (preds_snoc ks b)

-- Whatever adds each binder whose predicate is not there yet gives, of the variable-typed ones, the first ones.
pub firsts_collected : (F : Pending → Pending → Pending) → ((ks : Pending) → F ks [] ≡ ks)
    → ((ks : Pending) (b : Binder) (bs : Pending) → F ks (b ∷ bs) ≡ F (if (any (λ (c : Binder). is_yes (same_pred c.1 b.1)) ks) ks (ks ++ (b ∷ []))) bs)
    → (ks ps : Pending) → F ks (keep (λ (b : Binder). is_head_normal b.1.ty) ps) ≡ ks ++ firsts (preds_of ks) ps
unfolding keep firsts
firsts_collected F ends goes ks [] = ends ks ∙ sym (append-nil ks)
firsts_collected F ends goes ks (b ∷ ps) = go (is_head_normal b.1.ty) (λ ls. firsts_collected F ends goes ls ps)
  where
    turn : (c : Bool) → ((ls : Pending) → F ls (keep (λ (b : Binder). is_head_normal b.1.ty) ps) ≡ ls ++ firsts (preds_of ls) ps)
        → F (if c ks (ks ++ (b ∷ []))) (keep (λ (b : Binder). is_head_normal b.1.ty) ps) ≡ ks ++ if (not c) (b ∷ firsts (preds_of ks ++ (b.1 ∷ [])) ps) (firsts (preds_of ks) ps)
    turn true ih = ih ks
    turn false ih = ih (ks ++ (b ∷ [])) ∙ append_assoc ks (b ∷ []) (firsts (preds_of (ks ++ (b ∷ []))) ps) ∙ ap (λ (l : List Pred). ks ++ (b ∷ firsts l ps)) (preds_snoc ks b)

    go : (h : Bool) → ((ls : Pending) → F ls (keep (λ (b : Binder). is_head_normal b.1.ty) ps) ≡ ls ++ firsts (preds_of ls) ps)
        → F ks (if h (b ∷ keep (λ (b : Binder). is_head_normal b.1.ty) ps) (keep (λ (b : Binder). is_head_normal b.1.ty) ps))
        ≡ ks ++ if (h && not (contains (preds_of ks) b.1)) (b ∷ firsts (preds_of ks ++ (b.1 ∷ [])) ps) (firsts (preds_of ks) ps)
    go true ih = goes ks b (keep (λ (b : Binder). is_head_normal b.1.ty) ps) ∙ rw (any_pred ks b.1) (turn (contains (preds_of ks) b.1) ih)
    go false ih = ih ks
