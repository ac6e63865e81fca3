-- A renaming keeps the number of nodes, and to apply it costs just that many steps: so what a canonical scheme keeps has
-- been paid for.
use mathlib.Core.Path.{◌≡◌, refl}
use mathlib.Core.List.{List, [], ◌∷◌}
use mathlib.Core.Option.{some}
use Prim.Native.Nat.{ℕ, suc, zero, ◌+◌, ◌≤◌}
use native.Mathlib.Omega.{arith}
use Rattle.meaning.specs.Base.{is_yes, if, total}
use Rattle.meaning.specs.Ast.{TyVar, same_tyvar, Ty, Tys, var, con, arrow, nil, ◌◂◌, size, sizes, Pred, pred, Qual, qual, Core}
use Rattle.meaning.specs.Budget.{Steps, step, depth}
use Rattle.meaning.specs.Map.{Map, tyvars, get}
use Rattle.meaning.specs.Subst.{Subst, or_var, look, each, apply_node, apply_in, apply_pred, apply_preds, apply_qual}
use Rattle.meaning.specs.Cores.{as_subst, canonical_renamer, canonical_scheme_and_core}
use Rattle.meaning.specs.Declare.{pred_nodes}
use Rattle.meaning.specs.Session.{scheme_nodes}
use Rattle.theorems.proofs.Gives.{Gives, gives, gives_none, then_gives, gives_more, falls_gives}
use Rattle.theorems.proofs.FallsInfer.{apply_core_falls}

-- All types of the substitution are variables, so what it says of a variable has one node.
abbrev pub Renaming : Subst → Type 0
Renaming s = (x : TyVar) → size (look s x) ≡ 1

-- A renaming as a substitution is one.
pub renaming : (r : Map TyVar TyVar) → Renaming (as_subst r)
unfolding get or_var size
renaming [] x = refl
renaming (p ∷ r) x = go (same_tyvar x p.0) (renaming r x)
  where
    go : (c : Dec (x ≡ p.0)) → size (look (as_subst r) x) ≡ 1 → size (or_var x (if (is_yes c) (some (var p.1)) (get tyvars x (as_subst r)))) ≡ 1
    go (yes e) h = refl
    go (no e) h = h

-- Of k nodes come k₁, and of n steps so many are left.
pub record Renamed (k n k₁ left : ℕ) : Type 0 where
  pub same : k₁ ≡ k
  pub cost : left + k ≡ n

each_renamed : (f : Ty → Steps Ty) → ((t : Ty) (n : ℕ) → Gives (λ u left. Renamed (size t) n (size u) left) (f t n))
    → (ts : Tys) (n : ℕ) → Gives (λ us left. Renamed (sizes ts) n (sizes us) left) (each f ts n)
unfolding each size
each_renamed f h nil n = gives nil n (record { same = refl; cost = omega arith })
each_renamed f h (t ◂ ts) n =
    then_gives (h t n) λ u n₁ a.
    then_gives (each_renamed f h ts n₁) λ us n₂ b.
    gives (u ◂ us) n₂ (record { same = omega arith; cost = omega arith })

node_renamed : (f : Ty → Steps Ty) (s : Subst) → Renaming s → ((t : Ty) (n : ℕ) → Gives (λ u left. Renamed (size t) n (size u) left) (f t n))
    → (t : Ty) (n : ℕ) → Gives (λ u left. Renamed (size t) (suc n) (size u) left) (apply_node f s t n)
unfolding apply_node size
node_renamed f s r h (var x) n = gives _ n (record { same = r x; cost = omega arith })
node_renamed f s r h (con c ts) n =
    then_gives (each_renamed f h ts n) λ us n₁ a.
    gives (con c us) n₁ (record { same = omega arith; cost = omega arith })
node_renamed f s r h (arrow a b) n =
    then_gives (h a n) λ u n₁ p.
    then_gives (h b n₁) λ v n₂ q.
    gives (arrow u v) n₂ (record { same = omega arith; cost = omega arith })

-- Applying a renaming to a type costs what it gives.
pub apply_paid : (d : ℕ) (s : Subst) → Renaming s → (t : Ty) (n : ℕ) → Gives (λ u left. Renamed (size t) n (size u) left) (apply_in d s t n)
unfolding apply_in step
apply_paid zero s r t n = gives_none
apply_paid (suc d) s r t zero = gives_none
apply_paid (suc d) s r t (suc n) = node_renamed (λ u. apply_in d s u) s r (λ u m. apply_paid d s r u m) t n

-- To a predicate.
pub pred_paid : (s : Subst) → Renaming s → (p : Pred) (n : ℕ) → Gives (λ q left. Renamed (size p.ty) n (size q.ty) left) (apply_pred s p n)
unfolding apply_pred
pred_paid s r p n = then_gives (apply_paid depth s r p.ty n) λ u n₁ a. gives (pred p.class u) n₁ a

-- To predicates.
pub preds_paid : (s : Subst) → Renaming s → (ps : List Pred) (n : ℕ) → Gives (λ qs left. Renamed (pred_nodes ps) n (pred_nodes qs) left) (apply_preds s ps n)
unfolding apply_preds pred_nodes total
preds_paid s r [] n = gives [] n (record { same = refl; cost = omega arith })
preds_paid s r (p ∷ ps) n =
    then_gives (pred_paid s r p n) λ q n₁ a.
    then_gives (preds_paid s r ps n₁) λ qs n₂ b.
    gives (q ∷ qs) n₂ (record { same = omega arith; cost = omega arith })

-- To a qualified type.
pub qual_paid : (s : Subst) → Renaming s → (q : Qual) (n : ℕ)
    → Gives (λ q₁ left. Renamed (pred_nodes q.preds + size q.ty) n (pred_nodes q₁.preds + size q₁.ty) left) (apply_qual s q n)
unfolding apply_qual
qual_paid s r q n =
    then_gives (preds_paid s r q.preds n) λ ps n₁ a.
    then_gives (apply_paid depth s r q.ty n₁) λ u n₂ b.
    gives (qual ps u) n₂ (record { same = omega arith; cost = omega arith })

-- So what a renaming makes of a qualified type has no more nodes than the steps it took.
pub rename_paid : (r : Map TyVar TyVar) (q : Qual) (n : ℕ) → Gives (λ q₁ left. pred_nodes q₁.preds + size q₁.ty + left ≤ n) (apply_qual (as_subst r) q n)
rename_paid r q n = gives_more (qual_paid (as_subst r) (renaming r) q n) λ q₁ left a. omega arith

-- A canonical scheme has no more nodes than the steps it took.
pub canonical_paid : (vs : List TyVar) (q : Qual) (e : Core) (n : ℕ) → Gives (λ r left. scheme_nodes r.0 + left ≤ n) (canonical_scheme_and_core vs q e n)
unfolding canonical_scheme_and_core scheme_nodes
canonical_paid vs q e n =
    then_gives (rename_paid (canonical_renamer vs) q n) λ q₁ n₁ a.
    then_gives (falls_gives n₁ (apply_core_falls depth _ e)) λ e₁ n₂ b.
    gives _ n₂ (omega arith)
