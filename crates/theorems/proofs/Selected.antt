-- Over a sound class environment every derived dictionary can be read, and all that its superclass fields lead to is at
-- its type.
use mathlib.Core.Path.{◌≡◌, refl, ap, sym, ◌∙◌, subst}
use mathlib.Core.Bool.{Bool, true, false}
use mathlib.Core.List.{List, [], ◌∷◌, Memᴰ}
use mathlib.Core.Option.{some}
use Prim.Native.Nat.{ℕ, suc, zero, ◌+◌, ◌<◌}
use native.Mathlib.Omega.{arith}
use Rattle.meaning.specs.Base.{if, nth, count}
use Rattle.meaning.specs.Ast.{Name, ctx, Field, method, super, Ty, var, Pred, Core, Cores, cdict, dict_rec, cnil, ◌◃◌}
use Rattle.meaning.specs.Subst.{occurs}
use Rattle.meaning.specs.Plain.{Fill, sub, sub_pred, sub_preds}
use Rattle.meaning.specs.Classes.{ClassEnv, ClassInfo, InstanceInfo, Given, class_of, applied}
use Rattle.meaning.specs.Declare.{context_binders, context_givens}
use Rattle.meaning.specs.Reduce.{roots}
use Rattle.meaning.specs.Derives.{Entry, itself, above, Takes, Derives, by_given, by_instance, DeriveAll, none_left, one_more}
use Rattle.meaning.specs.Select.{Dict, Dicts, dict, alone, ◌and◌, nth_dict, field_of, outward, Reads, a_name, a_field, a_record, applied_to, ReadAll, no_more, and_more, picks}
use Rattle.theorems.proofs.Tests.{some_inj, none_some}
use Rattle.theorems.proofs.Fills.{sub-sub, sub_var, sub-agree}
use Rattle.theorems.proofs.Sound.{Older, SoundAt, Sound}
use Rattle.theorems.proofs.Good.{Good, good, weaker, At}

-- There is a readable argument for each context predicate; of one for the head's own type P holds on the way.
abbrev pub GoodArgs : ClassEnv → (Ty → Type 0) → InstanceInfo → Dicts → Type 0
GoodArgs ce P inst vs = (j : ℕ) (q : Pred) → nth inst.context j ≡ some q
    → (v : Dict) × (nth_dict vs j ≡ some v) × Good ce (λ b. q.ty ≡ inst.head.ty → P b) q.class v

-- Records of instances with numbers below i are good where their arguments are, whatever is asked of the types. (What
-- is asked varies: an argument at another type than its record's must be readable all the same.)
abbrev pub AllGood : ClassEnv → ℕ → Type 1
AllGood ce i = (j : ℕ) → j < i → (inst : InstanceInfo) → nth ce.instances j ≡ some inst
    → (c : Name) → inst.head.class ≡ c → (a : Ty) (θ : Fill) → sub θ inst.head.ty ≡ a
    → (P : Ty → Type 0) → P a → (vs : Dicts) → GoodArgs ce P inst vs → Good ce P c (dict c a j θ vs)

at_true : (b : Bool) (x y : Ty) → b ≡ true → if b x y ≡ x
at_true true x y e = refl
at_true false x y e = let z : ◌≡◌ {A = ℕ} 0 1 = cc in let w : ⊥ = omega arith in absurd w

-- The match of a stored record fills its head to the stored type, filled by the outer match.
pub outward_fills : (h : Ty) (θ η : Fill) (a : Ty) → sub η h ≡ a → sub (outward h θ η) h ≡ sub θ a
unfolding outward
outward_fills h θ η a e =
    sub-agree (outward h θ η) (λ x. sub θ (η x)) h (λ x o. at_true (occurs x h) (sub θ (η x)) (var x) o) ∙ sym (sub-sub θ η h) ∙ ap (sub θ) e

-- A walk of superclass entries stays at one type.
pub entry_type : {old : ClassEnv} {e f : Core} {p q : Pred} → Entry old e p f q → p.ty ≡ q.ty
entry_type itself = refl
entry_type (above k h r) = entry_type r

-- A given of an instance is the name of one of its context predicates.
given_name : (c : Name) (k : ℕ) (ps : List Pred) (g : Given) → Memᴰ g (roots (context_binders c k ps)) → (j : ℕ) × (g.0 ≡ cdict (ctx c (k + j))) × (nth ps j ≡ some g.1)
unfolding context_binders nth
given_name c k [] g m = elim m [ ]
given_name c k (p ∷ ps) g (Memᴰ.head e) = let z : k ≡ k + 0 = omega arith in (0, ap (λ (x : Given). x.0) e ∙ ap (λ i. cdict (ctx c i)) z, ap (λ (x : Given). some x.1) (sym e))
given_name c k (p ∷ ps) g (Memᴰ.tail m) =
    let r = given_name c (suc k) ps g m in
    let z : suc k + r.0 ≡ k + suc r.0 = omega arith in
    (suc r.0, r.1 ∙ ap (λ i. cdict (ctx c i)) z, r.2)

-- A context filled predicate by predicate.
nth-filled : (θ : Fill) (ps : List Pred) (j : ℕ) (q : Pred) → nth ps j ≡ some q → nth (sub_preds θ ps) j ≡ some (sub_pred θ q)
unfolding nth
nth-filled θ [] j q e = cc
nth-filled θ (p ∷ ps) zero q e = let x : p ≡ q = cc in ap (λ (z : Pred). some (sub_pred θ z)) x
nth-filled θ (p ∷ ps) (suc j) q e = nth-filled θ ps j q e

-- A record is read with its arguments, and alone where there are none.
reads_applied : {ce : ClassEnv} {vs ws : Dicts} {θ η : Fill} {es : Cores} (p : Pred) (i : ℕ) (inst : InstanceInfo)
    → nth ce.instances i ≡ some inst → Takes inst p η → ReadAll ce vs θ es ws
    → Reads ce vs θ (applied (dict_rec p.class p.ty i) es) (dict p.class (sub θ p.ty) i (outward inst.head.ty θ η) ws)
unfolding applied
reads_applied p i inst at t no_more = a_record at t refl
reads_applied p i inst at t (and_more r rs) = applied_to at t (and_more r rs) refl

-- A walk of superclass entries is followed by picking fields: from a good dictionary it reads, and stays good.
climb : {old ce : ClassEnv} {n : ℕ} (o : Older old ce n) (P : Ty → Type 0) {vs : Dicts} {θ : Fill} {e f : Core} {p q : Pred} → Entry old e p f q
    → (v : Dict) → Reads ce vs θ e v → Good ce P p.class v → (w : Dict) × Reads ce vs θ f w × Good ce P q.class w
climb o P itself v r g = (v, r, g)
climb o P (above {p = p} {s = s} {ci = ci} k h rest) v r (good {c = c} at class fills here_is methods w ps gs) =
    climb o P rest (w ci (o.infos c ci k) s h) (a_field r (ps ci (o.infos c ci k) s h)) (gs ci (o.infos c ci k) s h)

module _ (ce old : ClassEnv) (i : ℕ) (o : Older old ce i) (earlier : AllGood ce i) (P : Ty → Type 0)
    (me : InstanceInfo) (θ : Fill) (here_is : P (sub θ me.head.ty)) (vs : Dicts) (ok : GoodArgs ce P me vs) where
  -- What is asked of a dictionary for p that a record of this instance stores.
  abbrev Stored : Pred → Dict → Type 0
  Stored p w = Good ce (λ b. p.ty ≡ me.head.ty → P b) p.class w

  abbrev Read : Pred → Core → Type 0
  Read p e = (w : Dict) × Reads ce vs θ e w × Stored p w

  abbrev ReadEach : List Pred → Cores → Type 0
  ReadEach ps es = (ws : Dicts) × ReadAll ce vs θ es ws × ((j : ℕ) (q : Pred) → nth ps j ≡ some q → (w : Dict) × (nth_dict ws j ≡ some w) × Stored q w)

  -- A context's argument, or what its superclass fields lead to.
  of_given : (g : Given) (e : Core) (p : Pred) → Memᴰ g (context_givens me.head me.context) → Entry old g.0 g.1 e p → Read p e
  of_given g e p m ent =
      let r = given_name me.head.class 0 me.context g m in
      let z : 0 + r.0 ≡ r.0 = omega arith in
      let x = ok r.0 g.1 r.2 in
      let y = climb o (λ b. g.1.ty ≡ me.head.ty → P b) ent x.0 (subst (λ (u : Core). Reads ce vs θ u x.0) (sym (r.1 ∙ ap (λ k. cdict (ctx me.head.class k)) z)) (a_name x.1)) x.2 in
      (y.0, y.1, weaker (λ b f s. f (entry_type ent ∙ s)) y.2)

  -- The record of an earlier instance, at the goal's type.
  of_record : (j : ℕ) (inst : InstanceInfo) (η : Fill) (p : Pred) (es : Cores) → nth old.instances j ≡ some inst → Takes inst p η
      → ReadEach (sub_preds η inst.context) es → Read p (applied (dict_rec p.class p.ty j) es)
  of_record j inst η p es at t all =
      let now = o.insts j inst at in (
        dict p.class (sub θ p.ty) j (outward inst.head.ty θ η) all.0,
        reads_applied p j inst now.0 t all.1,
        earlier j now.1 inst now.0 p.class t.class_is (sub θ p.ty) (outward inst.head.ty θ η) (outward_fills inst.head.ty θ η p.ty t.head_is)
            (λ b. p.ty ≡ me.head.ty → P b) (λ s. subst P (sym (ap (sub θ) s)) here_is) all.0 args,
      )
    where
      args : GoodArgs ce (λ b. p.ty ≡ me.head.ty → P b) inst all.0
      args k q n =
          let r = all.2 k (sub_pred η q) (nth-filled η inst.context k q n) in
          (r.0, r.1, weaker (λ b f s₁ s₂. f (ap (sub η) s₁ ∙ t.head_is ∙ s₂)) r.2)

  none_each : ReadEach [] cnil
  unfolding nth
  none_each = (alone, no_more, λ j q n. absurd (none_some q n))

  one_each : (p : Pred) (ps : List Pred) (e : Core) (es : Cores) → Read p e → ReadEach ps es → ReadEach (p ∷ ps) (e ◃ es)
  unfolding nth nth_dict
  one_each p ps e es one rest = (◌and◌ one.0 rest.0, and_more one.1 rest.1, at)
    where
      at : (j : ℕ) (q : Pred) → nth (p ∷ ps) j ≡ some q → (w : Dict) × (nth_dict (◌and◌ one.0 rest.0) j ≡ some w) × Stored q w
      at zero q n = (one.0, refl, subst (λ (z : Pred). Stored z one.0) (some_inj p q n) one.2)
      at (suc j) q n = rest.2 j q n

  mutual
    -- Each derivation from the context and from what stood before gives a dictionary that reads as asked.
    reads_good : {p : Pred} {e : Core} → Derives old (context_givens me.head me.context) p e → Read p e
    reads_good (by_given {g = g} {e = e} {p = p} m ent) = of_given g e p m ent
    reads_good (by_instance j {inst = inst} {θ = η} {p = p} {e = e} {es = es} at t ds eq) =
        let r = of_record j inst η p es at t (all_good ds) in
        (r.0, subst (λ (x : Core). Reads ce vs θ x r.0) (sym eq) r.1, r.2)

    all_good : {ps : List Pred} {es : Cores} → DeriveAll old (context_givens me.head me.context) ps es → ReadEach ps es
    all_good none_left = none_each
    all_good (one_more {p = p} {ps = ps} {e = e} {es = es} x y) = one_each p ps e es (reads_good x) (all_good y)

-- A record of a sound instance is good where its arguments and the records of earlier instances are.
record_good : (ce : ClassEnv) (i : ℕ) → AllGood ce i → (inst : InstanceInfo) → nth ce.instances i ≡ some inst → SoundAt ce i inst
    → (c : Name) → inst.head.class ≡ c → (a : Ty) (θ : Fill) → sub θ inst.head.ty ≡ a
    → (P : Ty → Type 0) → P a → (vs : Dicts) → GoodArgs ce P inst vs → Good ce P c (dict c a i θ vs)
record_good ce i earlier inst at x c class a θ fills P here_is vs ok =
    good at class fills here_is methods (λ ci k s h. (higher ci k s h).0)
    (λ ci k s h. picks at (field ci k s h) (higher ci k s h).1) (λ ci k s h. weaker (λ b f. f refl) (higher ci k s h).2)
  where
    is_info : (ci : ClassInfo) → class_of ce c ≡ some ci → x.info ≡ ci
    is_info ci k = some_inj x.info ci (sym x.has_class ∙ ap (class_of ce) class ∙ k)

    methods : (ci : ClassInfo) → class_of ce c ≡ some ci → (g : Name × Ty) → Memᴰ g ci.sigs
        → (f : Field × Core) × (field_of inst.methods (method g.0) ≡ some f)
    methods ci k g m = x.has_methods g (subst (λ (z : ClassInfo). Memᴰ g z.sigs) (sym (is_info ci k)) m)

    held : (ci : ClassInfo) → class_of ce c ≡ some ci → (s : Name) → Memᴰ s ci.supers → Memᴰ s x.info.supers
    held ci k s h = subst (λ (z : ClassInfo). Memᴰ s z.supers) (sym (is_info ci k)) h

    higher : (ci : ClassInfo) (k : class_of ce c ≡ some ci) (s : Name) (h : Memᴰ s ci.supers)
        → (w : Dict) × Reads ce vs θ (x.has_supers s (held ci k s h)).0.1 w × Good ce (λ b. inst.head.ty ≡ inst.head.ty → P b) s w
    higher ci k s h = reads_good ce x.then_stood i x.older earlier P inst θ (subst P (sym fills) here_is) vs ok (x.has_supers s (held ci k s h)).2

    field : (ci : ClassInfo) (k : class_of ce c ≡ some ci) (s : Name) (h : Memᴰ s ci.supers)
        → field_of inst.methods (super c s) ≡ some (x.has_supers s (held ci k s h)).0
    field ci k s h = ap (λ (d : Name). field_of inst.methods (super d s)) (sym class) ∙ (x.has_supers s (held ci k s h)).1

-- Superclass fields lead to earlier instances only: by induction on the number every record is good.
pub all_records_good : (ce : ClassEnv) → Sound ce → (n : ℕ) → AllGood ce n
all_records_good ce so zero j lt inst at c class a θ fills P here_is vs ok = let x : ⊥ = omega arith in absurd x
all_records_good ce so (suc n) j lt inst at c class a θ fills P here_is vs ok =
    record_good ce j (λ k l. all_records_good ce so n k (less k j n l lt)) inst at (so.at j inst at) c class a θ fills P here_is vs ok
  where
    less : (k j n : ℕ) → k < j → j < suc n → k < n
    less k j n p q = omega arith

nth_below : (l : List InstanceInfo) (j : ℕ) (x : InstanceInfo) → nth l j ≡ some x → j < count l
unfolding nth count
nth_below [] j x e = absurd (none_some x e)
nth_below (y ∷ l) zero x e = omega arith
nth_below (y ∷ l) (suc j) x e = let h = nth_below l j x e in omega arith

-- One who asks for p, as an instance without context.
abbrev seeker : Pred → InstanceInfo
seeker p = record { context = []; head = p; methods = [] }

-- What is derived with nothing assumed can be read, and is good at the goal's type.
pub derived_good : (ce : ClassEnv) → Sound ce → (p : Pred) (e : Core) → Derives ce [] p e
    → (v : Dict) × Reads ce alone var e v × Good ce (At p.ty) p.class v
unfolding context_binders nth
derived_good ce so p e d =
    let r = reads_good ce ce (count ce.instances) (record { insts = λ j inst at. (at, nth_below ce.instances j inst at); infos = λ c ci k. k })
    (all_records_good ce so (count ce.instances)) (At p.ty) (seeker p) var (sub_var p.ty) alone (λ j q n. absurd (none_some q n)) d in
    (r.0, r.1, weaker (λ b f. f refl) r.2)
