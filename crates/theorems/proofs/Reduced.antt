-- `reduce`: what is left is needed, what is discharged is derived, and together they derive all that was asked.
use mathlib.Core.Path.{◌≡◌, refl, ap, sym, subst}
use mathlib.Core.Bool.{Bool, true, false}
use mathlib.Core.List.Memᴰ
use mathlib.Core.List.{List, [], ◌∷◌, ◌++◌, map, append-nil, append_assoc, Memᴰ}
use mathlib.Core.Option.{Option, none, some}
use mathlib.Core.Logic.{◌≢◌, ◌⊎◌, inl, inr}
use Prim.Native.Nat.{ℕ}
use Rattle.meaning.specs.Base.{is_yes, if}
use Rattle.meaning.specs.Ast.{self, Pred, same_pred, Core, cdict}
use Rattle.meaning.specs.Budget.{depth}
use Rattle.meaning.specs.Classes.{ClassEnv, Given, resolve_from_givens, resolve}
use Rattle.meaning.specs.Derives.{Entry, itself, Derives, by_given}
use Rattle.meaning.specs.Reduce.{Discharged, is_head_normal, contains, discharge, reduce_one, reduce_from, reduce}
use Rattle.theorems.proofs.Says.{Says, Any, and_then, weaken, if_says}
use Rattle.theorems.proofs.Tests.{is_yes_true, is_yes_false}
use Rattle.theorems.proofs.Members.{Distinct, contains_true, contains_false, distinct_snoc, snoc_cases}
use Rattle.theorems.proofs.Entries.{Searched, givens_say}
use Rattle.theorems.proofs.Resolved.{resolve_says}
use Rattle.theorems.proofs.Weakens.{derives_more, derives_renamed}

-- Residuals as givens. They all have one name, for a name is nothing to what can be derived (`entails_under`).
abbrev pub assumed : List Pred → List Given
assumed qs = map (λ (q : Pred). (cdict self, q)) qs

-- A predicate that is neither a given nor a superclass entry of one.
abbrev pub NotGiven : ClassEnv → List Given → Pred → Type 0
NotGiven ce gs q = (g : Given) → Memᴰ g gs → (f : Core) (q₂ : Pred) → Entry ce g.0 g.1 f q₂ → q₂ ≢ q

-- What `reduce` makes of predicates: out.0 with their dictionaries, out.1 left over.
pub record Reduced (ce : ClassEnv) (gs : List Given) (ps : List Pred) (out : List Discharged × List Pred) : Type 0 where
  pub distinct : Distinct out.1
  pub variable_typed : (q : Pred) → Memᴰ q out.1 → is_head_normal q.ty ≡ true
  pub not_given : (q : Pred) → Memᴰ q out.1 → NotGiven ce gs q
  pub from_inputs : (q : Pred) → Memᴰ q out.1 → Memᴰ q ps
  pub discharged : (p : Pred) (e : Core) → Memᴰ (p, e) out.0 → Derives ce gs p e × Memᴰ p ps
  pub entails : (p : Pred) → Memᴰ p ps → (e : Core) × Derives ce (gs ++ assumed out.1) p e

-- The predicates asked for are derived from any givens that have the old ones' predicates and the residuals.
pub entails_under : {ce : ClassEnv} {gs : List Given} {ps : List Pred} {out : List Discharged × List Pred} → Reduced ce gs ps out → (hs : List Given)
    → ((g : Given) → Memᴰ g gs → (f : Core) × Memᴰ (f, g.1) hs) → ((q : Pred) → Memᴰ q out.1 → (f : Core) × Memᴰ (f, q) hs)
    → (p : Pred) → Memᴰ p ps → (e : Core) × Derives ce hs p e
entails_under {gs = gs} {out = out} r hs old new p m = derives_renamed (λ g i. cover g (Memᴰ.append_cases gs i)) (r.entails p m).1
  where
    cover : (g : Given) → Memᴰ g gs ⊎ Memᴰ g (assumed out.1) → (f : Core) × Memᴰ (f, g.1) hs
    cover g (inl i) = old g i
    cover g (inr i) =
        let o = Memᴰ.of_map (λ (q : Pred). (cdict self, q)) out.1 i in let n = new o.0 o.1 in
        (n.0, Memᴰ.cast (ap (λ (h : Given). (n.0, h.1)) (sym o.2)) n.1)

-- What one predicate's turn finds: its dictionary, or that it is variable-typed and not given.
abbrev Answered : ClassEnv → List Given → Pred → Option Core → Type 0
Answered ce gs p (some e) = Derives ce gs p e
Answered ce gs p none = (is_head_normal p.ty ≡ true) × NotGiven ce gs p

-- A turn with a dictionary.
with_dictionary : (ce : ClassEnv) (gs : List Given) (seen : List Pred) (p : Pred) (e : Core) (o : List Discharged × List Pred)
    → Reduced ce gs seen o → Derives ce gs p e → Reduced ce gs (seen ++ (p ∷ [])) (o.0 ++ ((p, e) ∷ []), o.1)
with_dictionary ce gs seen p e o r d = record {
  distinct = r.distinct;
  variable_typed = r.variable_typed;
  not_given = r.not_given;
  from_inputs = λ q m. Memᴰ.append_left (p ∷ []) (r.from_inputs q m);
  discharged = λ q f m. snoc_cases (λ (x : Discharged). Derives ce gs x.0 x.1 × Memᴰ x.0 (seen ++ (p ∷ []))) o.0 (p, e)
      (λ x i. let y = r.discharged x.0 x.1 i in (y.0, Memᴰ.append_left (p ∷ []) y.1))
      (d, Memᴰ.append_right seen (Memᴰ.head refl)) (q, f) m;
  entails = snoc_cases (λ (q : Pred). (f : Core) × Derives ce (gs ++ assumed o.1) q f) seen p r.entails
      (e, derives_more (λ g m. Memᴰ.append_left (assumed o.1) m) d);
}

-- A turn of a predicate that is left over already.
left_again : (ce : ClassEnv) (gs : List Given) (seen : List Pred) (p : Pred) (o : List Discharged × List Pred)
    → Reduced ce gs seen o → Memᴰ p o.1 → Reduced ce gs (seen ++ (p ∷ [])) (o.0, o.1)
left_again ce gs seen p o r i = record {
  distinct = r.distinct;
  variable_typed = r.variable_typed;
  not_given = r.not_given;
  from_inputs = λ q m. Memᴰ.append_left (p ∷ []) (r.from_inputs q m);
  discharged = λ q f m. let y = r.discharged q f m in (y.0, Memᴰ.append_left (p ∷ []) y.1);
  entails = snoc_cases (λ (q : Pred). (f : Core) × Derives ce (gs ++ assumed o.1) q f) seen p r.entails
      (cdict self, by_given (Memᴰ.append_right gs (Memᴰ.map (λ (q : Pred). (cdict self, q)) i)) itself);
}

-- A turn of a predicate that is left over for the first time.
left_over : (ce : ClassEnv) (gs : List Given) (seen : List Pred) (p : Pred) (o : List Discharged × List Pred)
    → Reduced ce gs seen o → Answered ce gs p none → ¬ Memᴰ p o.1 → Reduced ce gs (seen ++ (p ∷ [])) (o.0, o.1 ++ (p ∷ []))
left_over ce gs seen p o r a n = record {
  distinct = distinct_snoc o.1 p r.distinct n;
  variable_typed = snoc_cases (λ (q : Pred). is_head_normal q.ty ≡ true) o.1 p r.variable_typed a.0;
  not_given = snoc_cases (NotGiven ce gs) o.1 p r.not_given a.1;
  from_inputs = snoc_cases (λ (q : Pred). Memᴰ q (seen ++ (p ∷ []))) o.1 p
      (λ q m. Memᴰ.append_left (p ∷ []) (r.from_inputs q m)) (Memᴰ.append_right seen (Memᴰ.head refl));
  discharged = λ q f m. let y = r.discharged q f m in (y.0, Memᴰ.append_left (p ∷ []) y.1);
  entails = snoc_cases (λ (q : Pred). (f : Core) × Derives ce (gs ++ assumed (o.1 ++ (p ∷ []))) q f) seen p
      (λ q m. let y = r.entails q m in (y.0, derives_more more y.1))
      (cdict self, by_given (Memᴰ.append_right gs (Memᴰ.map (λ (q : Pred). (cdict self, q)) (Memᴰ.append_right o.1 (Memᴰ.head refl)))) itself);
}
  where
    grows : (g : Given) → Memᴰ g gs ⊎ Memᴰ g (assumed o.1) → Memᴰ g (gs ++ assumed (o.1 ++ (p ∷ [])))
    grows g (inl i) = Memᴰ.append_left (assumed (o.1 ++ (p ∷ []))) i
    grows g (inr i) =
        let y = Memᴰ.of_map (λ (q : Pred). (cdict self, q)) o.1 i in
        Memᴰ.append_right gs (Memᴰ.cast (sym y.2) (Memᴰ.map (λ (q : Pred). (cdict self, q)) (Memᴰ.append_left (p ∷ []) y.1)))

    more : (g : Given) → Memᴰ g (gs ++ assumed o.1) → Memᴰ g (gs ++ assumed (o.1 ++ (p ∷ [])))
    more g m = grows g (Memᴰ.append_cases gs m)

-- The accumulator after one more turn.
discharge_keeps : (ce : ClassEnv) (gs : List Given) (seen : List Pred) (p : Pred) (o : List Discharged × List Pred) (a : Option Core)
    → Reduced ce gs seen o → Answered ce gs p a → Reduced ce gs (seen ++ (p ∷ [])) (discharge p a o)
unfolding discharge
discharge_keeps ce gs seen p o (some e) r d = with_dictionary ce gs seen p e o r d
discharge_keeps ce gs seen p o none r a = go (contains o.1 p) refl
  where
    go : (b : Bool) → contains o.1 p ≡ b → Reduced ce gs (seen ++ (p ∷ [])) (o.0, if b o.1 (o.1 ++ (p ∷ [])))
    go true i = left_again ce gs seen p o r (contains_true o.1 p i)
    go false i = left_over ce gs seen p o r a (contains_false o.1 p i)

-- At the start.
nothing_yet : (ce : ClassEnv) (gs : List Given) → Reduced ce gs [] ([], [])
nothing_yet ce gs = record {
  distinct = tt;
  variable_typed = λ q m. absurd (Memᴰ.not-nil m);
  not_given = λ q m. absurd (Memᴰ.not-nil m);
  from_inputs = λ q m. m;
  discharged = λ p e m. absurd (Memᴰ.not-nil m);
  entails = λ p m. absurd (Memᴰ.not-nil m);
}

module _ (ce : ClassEnv) where
  -- What the givens give for a variable-typed predicate.
  given_answers : (gs : List Given) (p : Pred) → is_head_normal p.ty ≡ true → (a : Option Core) → Searched ce gs (λ e q. is_yes (same_pred q p)) a → Answered ce gs p a
  given_answers gs p v (some e) (g, m, (q, x, h)) = by_given m (subst (λ (q : Pred). Entry ce g.0 g.1 e q) (is_yes_true (same_pred q p) h) x)
  given_answers gs p v none h = (v, λ g m f q x. is_yes_false (same_pred q p) (h g m f q x))

  reduce_one_says : (gs : List Given) (p : Pred) (n : ℕ) → Says (Answered ce gs p) Any (reduce_one ce gs p n)
  unfolding reduce_one
  reduce_one_says gs p n = if_says _ _ (is_head_normal p.ty) (resolve_from_givens ce gs p) _ n
      (λ v. weaken _ _ _ _ (resolve_from_givens ce gs p n) (givens_say ce gs _ n) (given_answers gs p v) (λ r _. tt))
      (λ _. and_then _ _ _ (resolve ce gs p n) _ (resolve_says depth ce gs p n) (λ e d m. d))

  -- The loop: what it has seen stands in its accumulator, and the rest is added.
  reduce_from_says : (gs : List Given) (seen ps : List Pred) (o : List Discharged × List Pred) → Reduced ce gs seen o → (n : ℕ)
      → Says (Reduced ce gs (seen ++ ps)) Any (reduce_from ce gs ps o n)
  unfolding reduce_from
  reduce_from_says gs seen [] o r n = subst (λ (l : List Pred). Reduced ce gs l o) (sym (append-nil seen)) r
  reduce_from_says gs seen (p ∷ ps) o r n =
      and_then _ _ _ (reduce_one ce gs p n) _ (reduce_one_says gs p n) λ a x m.
      subst (λ (l : List Pred). Says (Reduced ce gs l) Any (reduce_from ce gs ps (discharge p a o) m)) (append_assoc seen (p ∷ []) ps)
      (reduce_from_says gs (seen ++ (p ∷ [])) ps (discharge p a o) (discharge_keeps ce gs seen p o a r x) m)

  -- `reduce` leaves only what it must, discharges by derivations, and loses nothing.
  pub reduce_says : (gs : List Given) (ps : List Pred) (n : ℕ) → Says (Reduced ce gs ps) Any (reduce ce gs ps n)
  reduce_says gs ps n = reduce_from_says gs [] ps ([], []) (nothing_yet ce gs) n
