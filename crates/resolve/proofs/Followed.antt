-- `resolve` by its parts: the way to a dictionary, and then its end.
use mathlib.Core.Path.{◌≡◌, refl}
use mathlib.Core.List.{List, ◌∷◌}
use mathlib.Core.Option.{Option, none, some}
use Prim.Native.Nat.{ℕ, zero, suc, ◌-◌}
use native.Mathlib.Numerals.{sub-one}
use native.Mathlib.Omega.{arith}
use Rattle.meaning.specs.Ast.{Pred, Core, ◌◃◌}
use Rattle.meaning.specs.Errors as E
use Rattle.meaning.specs.Budget.{Out, done, refused, Steps, after, step}
use Rattle.meaning.specs.Subst.{apply_preds}
use Rattle.meaning.specs.Classes.{ClassEnv, Given, Chosen, resolve_from_givens, by_inst, all_resolved, from_instance, or_instance, resolve_node, resolve_in}
use Rattle.apply.proofs.Hand.{Then}
use Rattle.resolve.specs.Ways.{by, way_by, or_way, way_to, dictionary, follow}

module _ (r : Pred → Steps Core) where
  -- An instance's dictionary, after its contexts.
  by_way : (i : Chosen) (o : Out (List Pred)) → after o (λ ps n. after (all_resolved r ps n) (λ es. dictionary i es)) ≡ after (after o (λ ps n. done (by i ps) n)) (λ y. follow r y)
  unfolding after follow
  by_way i (done ps n) = refl
  by_way i (refused x n) = refl

  -- An instance's dictionary.
  chosen_way : (p : Pred) (o : Out (Option Chosen)) → after o (λ i. from_instance r p i) ≡ after (after o (λ i. way_by p i)) (λ y. follow r y)
  unfolding after from_instance way_by follow dictionary
  chosen_way p (done none n) = refl
  chosen_way p (done (some i) n) = by_way i (apply_preds i.fills i.inst.context n)
  chosen_way p (refused x n) = refl

  -- What the givens gave, or an instance's dictionary.
  given_way : (ce : ClassEnv) (p : Pred) (o : Out (Option Core)) → after o (λ e. or_instance r ce p e) ≡ after (after o (λ e. or_way ce p e)) (λ y. follow r y)
  unfolding after or_instance or_way follow
  given_way ce p (done (some e) n) = refl
  given_way ce p (done none n) = chosen_way p (by_inst 0 ce.instances p n)
  given_way ce p (refused x n) = refl

  -- One goal: the way to its dictionary, and then its end.
  pub node_way : (ce : ClassEnv) (gs : List Given) (p : Pred) (n : ℕ) → Then (resolve_node r ce gs p n) (way_to ce gs p n) (λ y. follow r y)
  unfolding resolve_node way_to
  node_way ce gs p n = record { is = given_way ce p (resolve_from_givens ce gs p n) }

-- No depth is left.
pub no_depth : (d n : ℕ) (ce : ClassEnv) (gs : List Given) (p : Pred) → d ≡ 0 → resolve_in d ce gs p n ≡ refused E.too_deep n
unfolding resolve_in
no_depth zero n ce gs p e = refl
no_depth (suc d) n ce gs p e = absurd (omega arith)

-- No step is left.
pub no_steps : (d n : ℕ) (ce : ClassEnv) (gs : List Given) (p : Pred) → (d ≡ 0 → ⊥) → n ≡ 0 → resolve_in d ce gs p n ≡ refused E.out_of_steps 0
unfolding resolve_in step
no_steps zero n ce gs p h e = absurd (h refl)
no_steps (suc d) zero ce gs p h e = refl
no_steps (suc d) (suc n) ce gs p h e = absurd (omega arith)

-- One step, and then the goal by its way.
pub goes_way : (d n : ℕ) (ce : ClassEnv) (gs : List Given) (p : Pred) → (d ≡ 0 → ⊥) → (n ≡ 0 → ⊥)
    → Then (resolve_in d ce gs p n) (way_to ce gs p (n - 1)) (λ y. follow (λ q. resolve_in (d - 1) ce gs q) y)
unfolding resolve_in step
goes_way zero n ce gs p h i = absurd (h refl)
goes_way (suc d) zero ce gs p h i = absurd (i refl)
goes_way (suc d) (suc n) ce gs p h i = simp sub-one (node_way (λ q. resolve_in d ce gs q) ce gs p n)

-- A list of goals: the first one, and then the others.
pub first_goal : (r : Pred → Steps Core) (p : Pred) (ps : List Pred) (n : ℕ) → Then (all_resolved r (p ∷ ps) n) (r p n) (λ e m. after (all_resolved r ps m) (λ es k. done (e ◃ es) k))
unfolding all_resolved
first_goal r p ps n = record { is = refl }
