-- Derivations, as document 01 words them: without steps, without depth, without an order of search.
use Rattle.std.specs.Prelude.{◌≡◌, false, ℕ}
use mathlib.Core.List.{List, [], ◌∷◌, Memᴰ}
use Rattle.std.proofs.Math.Option.{some}
use Rattle.meaning.specs.Base.{nth}
use Rattle.meaning.specs.Ast.{Name, TyVar, super, var, Pred, pred, Core, Cores, dict_proj, dict_rec, cnil, ◌◃◌}
use Rattle.meaning.specs.Subst.{occurs}
use Rattle.meaning.specs.Plain.{Fill, sub, sub_preds}
use Rattle.meaning.specs.Classes.{ClassEnv, ClassInfo, InstanceInfo, Given, class_of, applied}

-- Entry ce e p f q: f at q stands in `by_super`'s list of e at p.
pub data Entry (ce : ClassEnv) : Core → Pred → Core → Pred → Type 0 where
  itself : {e : Core} {p : Pred} → Entry ce e p e p
  above : {e f : Core} {p q : Pred} {s : Name} {ci : ClassInfo}
      → class_of ce p.class ≡ some ci → Memᴰ s ci.supers
      → Entry ce (dict_proj e (super p.class s)) (pred s p.ty) f q → Entry ce e p f q

-- An instance is taken for a goal: its head, filled, is the goal; variables absent from the head stay as written.
pub record Takes (inst : InstanceInfo) (p : Pred) (θ : Fill) : Type 0 where
  pub class_is : inst.head.class ≡ p.class
  pub head_is : sub θ inst.head.ty ≡ p.ty
  pub others_stay : (x : TyVar) → occurs x inst.head.ty ≡ false → θ x ≡ var x

-- Derives ce gs p e: p is derived, and e is the dictionary of that shape.
mutual
  pub data Derives (ce : ClassEnv) (gs : List Given) : Pred → Core → Type 0 where
    by_given : {g : Given} {e : Core} {p : Pred} → Memᴰ g gs → Entry ce g.0 g.1 e p → Derives ce gs p e
    by_instance : (i : ℕ) {inst : InstanceInfo} {θ : Fill} {p : Pred} {e : Core} {es : Cores}
        → nth ce.instances i ≡ some inst
        → Takes inst p θ
        → DeriveAll ce gs (sub_preds θ inst.context) es
        → e ≡ applied (dict_rec p.class p.ty i) es
        → Derives ce gs p e

  pub data DeriveAll (ce : ClassEnv) (gs : List Given) : List Pred → Cores → Type 0 where
    none_left : DeriveAll ce gs [] cnil
    one_more : {p : Pred} {ps : List Pred} {e : Core} {es : Cores} → Derives ce gs p e → DeriveAll ce gs ps es → DeriveAll ce gs (p ∷ ps) (e ◃ es)

-- Demand 2's premise: no two heads of a class fit a common type.
abbrev pub HeadsApart : ClassEnv → Type 0
HeadsApart ce = (i j : ℕ) (a b : InstanceInfo) → nth ce.instances i ≡ some a → nth ce.instances j ≡ some b
    → a.head.class ≡ b.head.class → (θ τ : Fill) → sub θ a.head.ty ≡ sub τ b.head.ty → i ≡ j
