-- Which entries are the goal: class numbers decide names, and the types are compared once for a given.
use mathlib.Core.Path.{◌≡◌, refl, ap, sym, ◌∙◌}
use mathlib.Core.Bool.{Bool, true, false, ◌&&◌}
use mathlib.Core.List.{List}
use Prim.Native.Nat.{ℕ}
use Rattle.meaning.specs.Base.{is_yes}
use Rattle.meaning.specs.Ast.{same_name, Field, Ty, same_ty, pred, both_same, same_pred, Core, dict_proj}
use Rattle.meaning.specs.Reduce.{not_root}
use Rattle.names.specs.Names.{Names, name_of}
use Rattle.names.proofs.Distinct.{name_of_same}
use Rattle.supers.specs.Search.{hits}
use Rattle.supers.proofs.FrameLaws.{not_both}

module _ (ns : List ℕ) (N : Names ns) (s goal : ℕ) (u t : Ty) {same : Bool} (S : same ≡ is_yes (same_ty u t)) where
  -- A predicate of the goal's class and type is the goal.
  goal_yes : s ≡ goal → same ≡ true → is_yes (same_pred (pred (name_of ns s) u) (pred (name_of ns goal) t)) ≡ true
  unfolding same_pred both_same
  goal_yes p q = go (same_name (name_of ns s) (name_of ns goal)) (same_ty u t) (sym S ∙ q)
    where
      go : (c : Dec (name_of ns s ≡ name_of ns goal)) (d : Dec (u ≡ t)) → is_yes d ≡ true → is_yes (both_same (pred (name_of ns s) u) (pred (name_of ns goal) t) c d) ≡ true
      go (yes c) (yes d) e = refl
      go (yes c) (no d) e = e
      go (no c) d e = absurd (c (ap (name_of ns) p))

  -- Any other is not.
  goal_no : (s ≡ goal → same ≡ true → ⊥) → is_yes (same_pred (pred (name_of ns s) u) (pred (name_of ns goal) t)) ≡ false
  unfolding same_pred both_same
  goal_no h = go (same_name (name_of ns s) (name_of ns goal)) (same_ty u t) S
    where
      go : (c : Dec (name_of ns s ≡ name_of ns goal)) (d : Dec (u ≡ t)) → same ≡ is_yes d → is_yes (both_same (pred (name_of ns s) u) (pred (name_of ns goal) t) c d) ≡ false
      go (yes c) (yes d) e = absurd (h (name_of_same ns N s goal c) e)
      go (yes c) (no d) e = refl
      go (no c) d e = refl

  -- A projection of the goal's class and type is taken.
  pub proj_hit : (proper : Bool) (f : Core) (x : Field) → s ≡ goal → same ≡ true → hits proper (pred (name_of ns goal) t) (dict_proj f x) (pred (name_of ns s) u) ≡ true
  unfolding not_root
  proj_hit true f x p q = rw (goal_yes p q)
  proj_hit false f x p q = goal_yes p q

  -- Any other is not.
  pub proj_miss : (proper : Bool) (f : Core) (x : Field) → (s ≡ goal → same ≡ true → ⊥) → hits proper (pred (name_of ns goal) t) (dict_proj f x) (pred (name_of ns s) u) ≡ false
  proj_miss true f x h = rw (goal_no h)
  proj_miss false f x h = goal_no h

  -- A given of the goal's class and type is taken, unless the entry must be proper.
  pub root_hit : (proper : Bool) (e : Core) → s ≡ goal → same ≡ true → proper ≡ false → hits proper (pred (name_of ns goal) t) e (pred (name_of ns s) u) ≡ true
  root_hit true e p q b = absurd (not_both refl b)
  root_hit false e p q b = goal_yes p q

  -- Any other is not.
  pub root_miss : (proper : Bool) (e : Core) → not_root e ≡ false → (s ≡ goal → same ≡ true → proper ≡ false → ⊥) → hits proper (pred (name_of ns goal) t) e (pred (name_of ns s) u) ≡ false
  root_miss true e r h = rw r (never (is_yes (same_pred (pred (name_of ns s) u) (pred (name_of ns goal) t))))
    where
      never : (b : Bool) → (b && false) ≡ false
      never true = refl
      never false = refl
  root_miss false e r h = goal_no (λ p q. h p q refl)
