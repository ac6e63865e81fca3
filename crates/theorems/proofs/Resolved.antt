-- Resolution: its dictionaries come with derivations; where it refuses at no limit, there is no derivation.
use mathlib.Core.Path.{◌≡◌, refl, ap, sym, ◌∙◌, subst, fun_ext}
use mathlib.Core.Bool.{Bool, true≢false}
use mathlib.Core.List.{List, [], ◌∷◌}
use mathlib.Core.Option.{Option, none, some}
use Prim.Native.Nat.{ℕ, suc, zero, ◌+◌}
use native.Mathlib.Omega.{arith}
use Rattle.meaning.specs.Base.{is_yes, nth}
use Rattle.meaning.specs.Ast.{Ty, Pred, same_pred, Core, Cores, dict_rec}
use Rattle.meaning.specs.Errors.{Refusal, format, limit, reserved, redeclared, room, out_of_steps, too_deep, output, unbound_variable, unification_failure, occurs_check, con_mismatch, arity_mismatch, no_instance, ambiguous, duplicate_instance, unknown_class, unknown_method, missing_superclass, missing_method}
use Rattle.meaning.specs.Budget.{Steps, depth}
use Rattle.meaning.specs.Subst.{look, apply_type, apply_preds}
use Rattle.meaning.specs.Plain.{Fill, filled, sub_preds}
use Rattle.meaning.specs.Classes.{ClassEnv, InstanceInfo, Given, from_givens, Chosen, by_inst, all_resolved, applied, from_instance, or_instance, resolve_node, resolve_in}
use Rattle.meaning.specs.Derives.{Entry, Takes, Derives, by_given, by_instance, DeriveAll, none_left, one_more, HeadsApart}
use Rattle.theorems.proofs.Says.{Says, Definite, Any, after_says, and_then, step_says}
use Rattle.theorems.proofs.Tests.{is_yes_true, is_yes_of, some_inj}
use Rattle.theorems.proofs.Applied.{apply_says, preds_say}
use Rattle.theorems.proofs.UnifyRefuses.{Only, apply_refuses, preds_refuse}
use Rattle.theorems.proofs.Matched.{match_fills}
use Rattle.theorems.proofs.Entries.{Searched, givens_say, search_ends}
use Rattle.theorems.proofs.Instances.{Chose, NoneTakes, Picked, chosen_takes, takes_one, inst_says, inst_ends}

-- The test of `resolve` on entries.
abbrev equals : Pred → Core → Pred → Bool
equals p = λ e q. is_yes (same_pred q p)

-- A dictionary of the record's shape, whose parts are spelled as the goal spells them.
made : {ce : ClassEnv} {gs : List Given} {p : Pred} {c : Chosen} → Chose 0 ce.instances p c → (qs : List Pred) → qs ≡ sub_preds (look c.fills) c.inst.context
    → (es : Cores) → DeriveAll ce gs qs es → (t : Ty) → t ≡ filled c.fills c.inst.head.ty → Derives ce gs p (applied (dict_rec c.inst.head.class t c.index) es)
made {ce} {gs} {p} {c} x qs e es d t f =
    by_instance x.offset x.stands (chosen_takes x) (subst (λ (l : List Pred). DeriveAll ce gs l es) e d) shape
  where
    shape : applied (dict_rec c.inst.head.class t c.index) es ≡ applied (dict_rec p.class p.ty x.offset) es
    shape =
        let a : c.inst.head.class ≡ p.class = x.class_is in
        let b : t ≡ p.ty = f ∙ match_fills x.exact in
        let k : c.index ≡ 0 + x.offset = x.number_is in
        let n : c.index ≡ x.offset = omega arith in
        cc

module _ (ce : ClassEnv) (gs : List Given) (r : Pred → Steps Core) (h : (q : Pred) (n : ℕ) → Says (Derives ce gs q) Any (r q n)) where
  all_say : (ps : List Pred) (n : ℕ) → Says (DeriveAll ce gs ps) Any (all_resolved r ps n)
  unfolding all_resolved
  all_say [] n = none_left
  all_say (p ∷ ps) n =
      and_then _ _ _ (r p n) _ (h p n) λ e d m.
      and_then _ _ _ (all_resolved r ps m) _ (all_say ps m) λ es ds i. one_more d ds

  instance_says : (p : Pred) (c : Option Chosen) → Picked 0 ce.instances p c → (n : ℕ) → Says (Derives ce gs p) Any (from_instance r p c n)
  unfolding from_instance
  instance_says p none x n = tt
  instance_says p (some c) x n =
      after_says _ _ _ _ (apply_preds c.fills c.inst.context n) _ (preds_say c.fills c.inst.context n) (λ r z. tt) λ qs e n₁.
      and_then _ _ _ (all_resolved r qs n₁) _ (all_say qs n₁) λ es d n₂.
      after_says _ _ _ _ (apply_type c.fills c.inst.head.ty n₂) _ (apply_says depth c.fills c.inst.head.ty n₂) (λ r z. tt) λ t f n₃.
      made x qs e es d t f

  or_says : (p : Pred) (o : Option Core) → Searched ce gs (equals p) o → (n : ℕ) → Says (Derives ce gs p) Any (or_instance r ce p o n)
  unfolding or_instance
  or_says p (some e) x n = by_given x.1 (subst (λ (q : Pred). Entry ce x.0.0 x.0.1 e q) (is_yes_true (same_pred x.2.0 p) x.2.2) x.2.1)
  or_says p none x n =
      after_says _ _ _ _ (by_inst 0 ce.instances p n) _ (inst_says 0 ce.instances p n) (λ r z. tt) λ c y m. instance_says p c y m

-- A dictionary that is resolved comes with a derivation of its shape.
pub resolve_says : (d : ℕ) (ce : ClassEnv) (gs : List Given) (p : Pred) (n : ℕ) → Says (Derives ce gs p) Any (resolve_in d ce gs p n)
unfolding resolve_in resolve_node
resolve_says zero ce gs p n = tt
resolve_says (suc d) ce gs p n = step_says _ _ _ tt (λ m.
    after_says _ _ _ _ (from_givens ce gs (equals p) m) _ (givens_say ce gs (equals p) m) (λ r z. tt) λ o x k.
    or_says ce gs (λ q. resolve_in d ce gs q) (λ q i. resolve_says d ce gs q i) p o x k) n

-- No dictionary can be derived, if the refusal is one of the Rust.
abbrev pub NoneDerives : ClassEnv → List Given → Pred → Refusal → Type 0
NoneDerives ce gs p r = Definite r → (e : Core) → Derives ce gs p e → ⊥

abbrev NotAll : ClassEnv → List Given → List Pred → Refusal → Type 0
NotAll ce gs ps r = Definite r → (es : Cores) → DeriveAll ce gs ps es → ⊥

-- What no given and no instance serves is not derived.
underived : (ce : ClassEnv) (gs : List Given) (p : Pred) → Searched ce gs (equals p) none → NoneTakes ce.instances p → (e : Core) → Derives ce gs p e → ⊥
underived ce gs p s w e (by_given {g = g} m x) = true≢false (sym (is_yes_of (same_pred p p) refl) ∙ s g m e p x)
underived ce gs p s w e (by_instance i {inst} {θ} k t ds q) = w i inst k t.class_is θ t.head_is

-- Heads lie apart, so an instance that was chosen is the one of every derivation, with the same subgoals.
one_way : (ce : ClassEnv) → HeadsApart ce → (gs : List Given) (p : Pred) → Searched ce gs (equals p) none → (c : Chosen) → Chose 0 ce.instances p c
    → (e : Core) → Derives ce gs p e → (es : Cores) × DeriveAll ce gs (sub_preds (look c.fills) c.inst.context) es
one_way ce apart gs p s c x e (by_given {g = g} m y) = absurd (true≢false (sym (is_yes_of (same_pred p p) refl) ∙ s g m e p y))
one_way ce apart gs p s c x e (by_instance i {inst} {θ} {es = es} k t ds q) = (es, go inst same t ds)
  where
    number : x.offset ≡ i
    number = apart x.offset i c.inst inst x.stands k (x.class_is ∙ sym t.class_is) (look c.fills) θ (match_fills x.exact ∙ sym t.head_is)

    same : inst ≡ c.inst
    same = some_inj _ _ (sym k ∙ ap (nth ce.instances) (sym number) ∙ x.stands)

    go : (j : InstanceInfo) → j ≡ c.inst → Takes j p θ → DeriveAll ce gs (sub_preds θ j.context) es → DeriveAll ce gs (sub_preds (look c.fills) c.inst.context) es
    go j a u d =
        let v : Takes c.inst p θ = subst (λ (l : InstanceInfo). Takes l p θ) a u in
        subst (λ (f : Fill). DeriveAll ce gs (sub_preds f c.inst.context) es) (fun_ext (takes_one v (chosen_takes x)))
        (subst (λ (l : InstanceInfo). DeriveAll ce gs (sub_preds θ l.context) es) a d)

-- Derivations of a list are one of the first and those of the rest.
taken_apart : {ce : ClassEnv} {gs : List Given} (p : Pred) (ps : List Pred) (es : Cores) → DeriveAll ce gs (p ∷ ps) es → ((e : Core) × Derives ce gs p e) × ((es₁ : Cores) × DeriveAll ce gs ps es₁)
taken_apart p ps es (one_more {e = e} {es = es₁} d ds) = ((e, d), (es₁, ds))

module _ (ce : ClassEnv) (apart : HeadsApart ce) (gs : List Given) (r : Pred → Steps Core) (h : (q : Pred) (n : ℕ) → Says (λ e. Unit {0}) (NoneDerives ce gs q) (r q n)) where
  all_complete : (ps : List Pred) (n : ℕ) → Says (λ es. Unit {0}) (NotAll ce gs ps) (all_resolved r ps n)
  unfolding all_resolved
  all_complete [] n = tt
  all_complete (p ∷ ps) n =
      after_says _ _ _ _ (r p n) _ (h p n) (λ r z d es y. let a = taken_apart p ps es y in z d a.0.0 a.0.1) λ e _ m.
      after_says _ _ _ _ (all_resolved r ps m) _ (all_complete ps m) (λ r z d es y. let a = taken_apart p ps es y in z d a.1.0 a.1.1) λ es _ i. tt

  instance_complete : (p : Pred) → Searched ce gs (equals p) none → (c : Option Chosen) → Picked 0 ce.instances p c → (n : ℕ) → Says (λ e. Unit {0}) (NoneDerives ce gs p) (from_instance r p c n)
  unfolding from_instance
  instance_complete p s none x n = λ _. underived ce gs p s x
  instance_complete p s (some c) x n =
      after_says _ _ _ _ (apply_preds c.fills c.inst.context n) _ (preds_say c.fills c.inst.context n) (λ r z d. absurd (z d)) λ qs e n₁.
      after_says _ _ _ _ (all_resolved r qs n₁) _ (all_complete qs n₁) (λ r z d f y. missed qs e f y (z d)) λ es _ n₂.
      after_says _ _ _ _ (apply_type c.fills c.inst.head.ty n₂) _ (apply_says depth c.fills c.inst.head.ty n₂) (λ r z d. absurd (z d)) λ t _ n₃. tt
    where
      missed : (qs : List Pred) → qs ≡ sub_preds (look c.fills) c.inst.context → (f : Core) → Derives ce gs p f → ((es : Cores) → DeriveAll ce gs qs es → ⊥) → ⊥
      missed qs e f y z = let a = one_way ce apart gs p s c x f y in z a.0 (subst (λ (l : List Pred). DeriveAll ce gs l a.0) (sym e) a.1)

  or_complete : (p : Pred) (o : Option Core) → Searched ce gs (equals p) o → (n : ℕ) → Says (λ e. Unit {0}) (NoneDerives ce gs p) (or_instance r ce p o n)
  unfolding or_instance
  or_complete p (some e) x n = tt
  or_complete p none x n =
      after_says _ _ _ _ (by_inst 0 ce.instances p n) _ (inst_says 0 ce.instances p n) (λ r z d. absurd (z d)) λ c y m. instance_complete p x c y m

-- Where heads lie apart, a goal that is refused at no limit has no derivation.
pub resolve_complete : (ce : ClassEnv) → HeadsApart ce → (gs : List Given) (d : ℕ) (p : Pred) (n : ℕ) → Says (λ e. Unit {0}) (λ r. Definite r → (e : Core) → Derives ce gs p e → ⊥) (resolve_in d ce gs p n)
unfolding resolve_in resolve_node
resolve_complete ce apart gs zero p n = λ z. absurd z
resolve_complete ce apart gs (suc d) p n = step_says _ _ _ (λ z. absurd z) (λ m.
    after_says _ _ _ _ (from_givens ce gs (equals p) m) _ (givens_say ce gs (equals p) m) (λ r z d. absurd (z d)) λ o x k.
    or_complete ce apart gs (λ q. resolve_in d ce gs q) (λ q i. resolve_complete ce apart gs d q i) p o x k) n

-- The refusals of resolution: 6, 7 and 16.
abbrev pub OnlyThese : Refusal → Type 0
OnlyThese (format k) = ⊥
OnlyThese (limit k) = ⊥
OnlyThese (reserved k) = ⊥
OnlyThese redeclared = ⊥
OnlyThese room = ⊥
OnlyThese out_of_steps = Unit {0}
OnlyThese too_deep = Unit {0}
OnlyThese output = ⊥
OnlyThese (unbound_variable x) = ⊥
OnlyThese (unification_failure a b) = ⊥
OnlyThese (occurs_check v t) = ⊥
OnlyThese (con_mismatch c e) = ⊥
OnlyThese (arity_mismatch c m n) = ⊥
OnlyThese (no_instance p) = Unit {0}
OnlyThese (ambiguous p) = ⊥
OnlyThese (duplicate_instance p) = ⊥
OnlyThese (unknown_class c) = ⊥
OnlyThese (unknown_method m) = ⊥
OnlyThese (missing_superclass c s) = ⊥
OnlyThese (missing_method c a m) = ⊥

module _ (r : Pred → Steps Core) (h : (q : Pred) (n : ℕ) → Only OnlyThese (r q n)) where
  all_refuse : (ps : List Pred) (n : ℕ) → Only OnlyThese (all_resolved r ps n)
  unfolding all_resolved
  all_refuse [] n = tt
  all_refuse (p ∷ ps) n =
      and_then _ _ _ (r p n) _ (h p n) λ e _ m.
      and_then _ _ _ (all_resolved r ps m) _ (all_refuse ps m) λ es _ i. tt

  instance_refuses : (p : Pred) (c : Option Chosen) (n : ℕ) → Only OnlyThese (from_instance r p c n)
  unfolding from_instance
  instance_refuses p none n = tt
  instance_refuses p (some c) n =
      and_then _ _ _ (apply_preds c.fills c.inst.context n) _ (preds_refuse OnlyThese tt tt c.fills c.inst.context n) λ qs _ n₁.
      and_then _ _ _ (all_resolved r qs n₁) _ (all_refuse qs n₁) λ es _ n₂.
      and_then _ _ _ (apply_type c.fills c.inst.head.ty n₂) _ (apply_refuses OnlyThese tt tt depth c.fills c.inst.head.ty n₂) λ t _ n₃. tt

  or_refuses : (ce : ClassEnv) (p : Pred) (o : Option Core) (n : ℕ) → Only OnlyThese (or_instance r ce p o n)
  unfolding or_instance
  or_refuses ce p (some e) n = tt
  or_refuses ce p none n =
      and_then _ _ _ (by_inst 0 ce.instances p n) _ (inst_ends OnlyThese tt tt 0 ce.instances p n) λ c _ m. instance_refuses p c m

-- Resolution ends with no other refusal: no reason why a head did not match is ever handed on.
pub resolve_refuses : (d : ℕ) (ce : ClassEnv) (gs : List Given) (p : Pred) (n : ℕ) → Says (λ e. Unit {0}) OnlyThese (resolve_in d ce gs p n)
unfolding resolve_in resolve_node
resolve_refuses zero ce gs p n = tt
resolve_refuses (suc d) ce gs p n = step_says _ _ _ tt (λ m.
    and_then _ _ _ (from_givens ce gs (equals p) m) _ (search_ends OnlyThese tt tt ce (equals p) gs m) λ o _ k.
    or_refuses (λ q. resolve_in d ce gs q) (λ q i. resolve_refuses d ce gs q i) ce p o k) n
