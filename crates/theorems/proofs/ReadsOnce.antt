-- Selection is a function: a stored dictionary is read in one way only, and so is a superclass field.
use mathlib.Core.Path.{◌≡◌, refl, ap, ap₂, sym, ◌∙◌, subst, fun_ext}
use mathlib.Core.Option.{some}
use Prim.Native.Nat.{ℕ}
use Rattle.meaning.specs.Base.{nth}
use Rattle.meaning.specs.Ast.{Field, Ty, Pred, pred, Core, Cores}
use Rattle.meaning.specs.Plain.{Fill, sub}
use Rattle.meaning.specs.Classes.{ClassEnv, InstanceInfo}
use Rattle.meaning.specs.Derives.{Takes}
use Rattle.meaning.specs.Select.{Dict, Dicts, dict, alone, ◌and◌, field_of, outward, Reads, a_name, a_field, a_record, applied_to, ReadAll, no_more, and_more, Picks, picks}
use Rattle.theorems.proofs.Tests.{some_inj}
use Rattle.theorems.proofs.Instances.{takes_one}

-- The record of a stored dictionary is made by one match.
same_match : (ce : ClassEnv) (i : ℕ) (a b : InstanceInfo) (p : Pred) (θ η τ : Fill) → nth ce.instances i ≡ some a → nth ce.instances i ≡ some b
    → Takes a p η → Takes b p τ → outward a.head.ty θ η ≡ outward b.head.ty θ τ
same_match ce i a b p θ η τ at also t u =
    let e : b ≡ a = some_inj b a (sym also ∙ at) in
    let u₁ : Takes a p τ = subst (λ (z : InstanceInfo). Takes z p τ) e u in
    ap₂ (λ (h : Ty) (f : Fill). outward h θ f) (ap (λ (z : InstanceInfo). z.head.ty) (sym e)) (fun_ext (takes_one t u₁))

-- And a field's name finds one field in it.
one_field : (ce : ClassEnv) (i : ℕ) (m : Field) (a b : InstanceInfo) (f g : Field × Core) → nth ce.instances i ≡ some a → nth ce.instances i ≡ some b
    → field_of a.methods m ≡ some f → field_of b.methods m ≡ some g → g ≡ f
one_field ce i m a b f g at also k l =
    let e : b ≡ a = some_inj b a (sym also ∙ at) in
    some_inj g f (sym l ∙ ap (λ (z : InstanceInfo). field_of z.methods m) e ∙ k)

mutual
  -- Two readings of one stored dictionary agree, so demand 3 speaks of the dictionary that reading gives.
  pub reads_once : {ce : ClassEnv} {vs : Dicts} {θ : Fill} {e : Core} {v w : Dict} → Reads ce vs θ e v → Reads ce vs θ e w → v ≡ w
  reads_once (a_name {v = v} x) (a_name {v = w} y) = some_inj v w (sym x ∙ y)
  reads_once {ce = ce} (a_field {m = m} r p) (a_field {w = w₁} r₁ p₁) = picks_once p (subst (λ (z : Dict). Picks ce z m w₁) (sym (reads_once r r₁)) p₁)
  reads_once {ce = ce} (a_record {θ = θ} {η = η} {c = c} {a = a} {i = i} {inst = inst} at t e) (a_record {η = τ} {inst = also} at₁ t₁ e₁) =
      e ∙ ap (λ (f : Fill). dict c (sub θ a) i f alone) (same_match ce i inst also (pred c a) θ η τ at at₁ t t₁) ∙ sym e₁
  reads_once {ce = ce} (applied_to {θ = θ} {η = η} {c = c} {a = a} {i = i} {inst = inst} at t rs e) (applied_to {η = τ} {inst = also} at₁ t₁ rs₁ e₁) =
      e ∙ ap₂ (λ (f : Fill) (ws : Dicts). dict c (sub θ a) i f ws) (same_match ce i inst also (pred c a) θ η τ at at₁ t t₁) (all_once rs rs₁) ∙ sym e₁

  -- The same of a record's arguments.
  pub all_once : {ce : ClassEnv} {vs ws us : Dicts} {θ : Fill} {es : Cores} → ReadAll ce vs θ es ws → ReadAll ce vs θ es us → ws ≡ us
  all_once no_more no_more = refl
  all_once (and_more r rs) (and_more r₁ rs₁) = ap₂ ◌and◌ (reads_once r r₁) (all_once rs rs₁)

  -- And of a superclass field.
  pub picks_once : {ce : ClassEnv} {v w u : Dict} {m : Field} → Picks ce v m w → Picks ce v m u → w ≡ u
  picks_once {ce = ce} (picks {i = i} {θ = θ} {vs = vs} {m = m} {inst = inst} {f = f} at k r) (picks {inst = also} {f = g} {w = u} at₁ k₁ r₁) =
      reads_once r (subst (λ (z : Field × Core). Reads ce vs θ z.1 u) (one_field ce i m inst also f g at at₁ k k₁) r₁)
