-- The search over instances: the first one whose head matches is taken; where none is found, no head can be filled to
-- the goal.
use mathlib.Core.Path.{◌≡◌, refl, sym, ◌∙◌, subst}
use mathlib.Core.Bool.{Bool, true, false}
use mathlib.Core.List.{List, [], ◌∷◌}
use mathlib.Core.Option.{Option, none, some}
use Prim.Native.Nat.{ℕ, suc, zero, ◌+◌}
use native.Mathlib.Omega.{arith}
use Rattle.meaning.specs.Base.{is_yes, nth}
use Rattle.meaning.specs.Ast.{same_name, TyVar, Pred}
use Rattle.meaning.specs.Errors.{Refusal, out_of_steps, too_deep}
use Rattle.meaning.specs.Budget.{Steps, settled, depth}
use Rattle.meaning.specs.Subst.{Subst, look, occurs}
use Rattle.meaning.specs.Plain.{Fill, sub}
use Rattle.meaning.specs.Unify.{match_ty, match_pred}
use Rattle.meaning.specs.Classes.{InstanceInfo, Chosen, chosen, by_inst}
use Rattle.meaning.specs.Derives.{Takes}
use Rattle.theorems.proofs.Says.{Says, Limit, after_says, if_says, weaken, both_say}
use Rattle.theorems.proofs.Tests.{is_yes_true, is_yes_false, some_inj, none_some}
use Rattle.theorems.proofs.Fills.{sub_same}
use Rattle.theorems.proofs.Matched.{Exact, NoMatch, match_says, match_fills, match_stays}
use Rattle.theorems.proofs.MatchRefuses.{match_refuses}
use Rattle.theorems.proofs.Attempted.{Tried, attempt_says}

-- The chosen instance, at its place in a list whose first instance has number k.
pub record Chose (k : ℕ) (insts : List InstanceInfo) (p : Pred) (c : Chosen) : Type 0 where
  pub offset : ℕ
  pub number_is : c.index ≡ k + offset
  pub stands : nth insts offset ≡ some c.inst
  pub class_is : c.inst.head.class ≡ p.class
  pub exact : Exact c.inst.head.ty p.ty c.fills

-- No instance of a list has a head that can be filled to the goal.
abbrev pub NoneTakes : List InstanceInfo → Pred → Type 0
NoneTakes insts p = (j : ℕ) (i : InstanceInfo) → nth insts j ≡ some i → i.head.class ≡ p.class → (θ : Fill) → sub θ i.head.ty ≡ p.ty → ⊥

-- What the search tells.
abbrev pub Picked : ℕ → List InstanceInfo → Pred → Option Chosen → Type 0
Picked k insts p none = NoneTakes insts p
Picked k insts p (some c) = Chose k insts p c

-- The chosen instance is taken for the goal, by what its match found.
pub chosen_takes : {k : ℕ} {insts : List InstanceInfo} {p : Pred} {c : Chosen} → Chose k insts p c → Takes c.inst p (look c.fills)
chosen_takes x = record { class_is = x.class_is; head_is = match_fills x.exact; others_stay = match_stays x.exact }

-- An instance is taken for a goal by one map only.
pub takes_one : {inst : InstanceInfo} {p : Pred} {θ τ : Fill} → Takes inst p θ → Takes inst p τ → (x : TyVar) → θ x ≡ τ x
takes_one {inst} {p} {θ} {τ} a b x = go (occurs x inst.head.ty) refl
  where
    go : (o : Bool) → occurs x inst.head.ty ≡ o → θ x ≡ τ x
    go true e = sub_same θ τ inst.head.ty (a.head_is ∙ sym b.head_is) x e
    go false e = a.others_stay x e ∙ sym (b.others_stay x e)

-- No map fills this head to the goal.
abbrev NotTaken : InstanceInfo → Pred → Type 0
NotTaken i p = i.head.class ≡ p.class → (θ : Fill) → sub θ i.head.ty ≡ p.ty → ⊥

none_takes : (i : InstanceInfo) (insts : List InstanceInfo) (p : Pred) → NotTaken i p → NoneTakes insts p → NoneTakes (i ∷ insts) p
unfolding nth
none_takes i insts p w h zero j e = subst (λ (u : InstanceInfo). NotTaken u p) (some_inj _ _ e) w
none_takes i insts p w h (suc m) j e = h m j e

one_on : (k a b : ℕ) → a ≡ suc k + b → a ≡ k + suc b
one_on k a b e = omega arith

-- An instance that is not taken, before the others.
later : (k : ℕ) (i : InstanceInfo) (insts : List InstanceInfo) (p : Pred) → NotTaken i p → (r : Option Chosen) → Picked (suc k) insts p r → Picked k (i ∷ insts) p r
unfolding nth
later k i insts p w none h = none_takes i insts p w h
later k i insts p w (some c) h = record { offset = suc h.offset; number_is = one_on k c.index h.offset h.number_is; stands = h.stands; class_is = h.class_is; exact = h.exact }

module _ (R : Refusal → Type 0) (six : R out_of_steps) (seven : R too_deep) where
  -- Of two predicates of one class the types are matched.
  pred_match_says : (h p : Pred) → h.class ≡ p.class → (n : ℕ)
      → Says (λ s. Exact h.ty p.ty s × Unit {0}) (λ r. NoMatch h.ty p.ty r × (Limit r → R r)) (match_pred h p n)
  unfolding match_pred
  pred_match_says h p c n = if_says _ _ (is_yes (same_name h.class p.class)) _ _ n
      (λ e. both_say _ _ _ _ (match_ty h.ty p.ty n) (match_says depth h.ty p.ty n)
      (match_refuses (λ r. Limit r → R r) (λ l. six) (λ l. seven) (λ a b l. absurd (l tt)) depth h.ty p.ty n))
      (λ e. absurd (is_yes_false (same_name h.class p.class) e c))

  -- One instance of the goal's class, then the others.
  chosen_says : (k : ℕ) (i : InstanceInfo) (insts : List InstanceInfo) (p : Pred) → i.head.class ≡ p.class
      → (r : Option Subst) → Tried (λ s. Exact i.head.ty p.ty s × Unit {0}) (λ r. NoMatch i.head.ty p.ty r × (Limit r → R r)) r
      → (others : Steps (Option Chosen)) → ((n : ℕ) → Says (Picked (suc k) insts p) R (others n))
      → (n : ℕ) → Says (Picked k (i ∷ insts) p) R (chosen k i r others n)
  unfolding chosen nth
  chosen_says k i insts p c none x others h n = weaken _ _ _ _ (others n) (h n) (later k i insts p (λ _. x.2.0 x.1)) (λ r z. z)
  chosen_says k i insts p c (some s) x others h n = let z : k ≡ k + 0 = omega arith in record { offset = 0; number_is = z; stands = refl; class_is = c; exact = x.0 }

  -- The search, for whatever holds of 6 and 7: no other refusal leaves it.
  pub inst_ends : (k : ℕ) (insts : List InstanceInfo) (p : Pred) (n : ℕ) → Says (Picked k insts p) R (by_inst k insts p n)
  unfolding by_inst nth
  inst_ends k [] p n = λ j i e. absurd (none_some i e)
  inst_ends k (i ∷ insts) p n = if_says _ _ (is_yes (same_name i.head.class p.class)) _ _ n
      (λ e. let c = is_yes_true (same_name i.head.class p.class) e in
      after_says _ _ _ _ (settled (match_pred i.head p n)) _ (attempt_says _ _ (match_pred i.head p n) (pred_match_says i.head p c n)) (λ r z. z.1.1 z.0) λ r x m.
      chosen_says k i insts p c r x (by_inst (suc k) insts p) (λ j. inst_ends (suc k) insts p j) m)
      (λ e. weaken _ _ _ _ (by_inst (suc k) insts p n) (inst_ends (suc k) insts p n) (later k i insts p (λ c. absurd (is_yes_false (same_name i.head.class p.class) e c))) (λ r z. z))

-- The search finds the first instance whose head matches, if any, unless it stops at a limit.
pub inst_says : (k : ℕ) (insts : List InstanceInfo) (p : Pred) (n : ℕ) → Says (Picked k insts p) Limit (by_inst k insts p n)
inst_says k insts p n = inst_ends Limit (λ z. z) (λ z. z) k insts p n
