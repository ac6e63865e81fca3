-- `merge`: the maps that have each pair of both substitutions are just those that have each pair of the merged one.
use mathlib.Core.Path.{◌≡◌, refl, ap, sym, ◌∙◌}
use mathlib.Core.Bool.{Bool, true, false, ◌||◌, false≢true}
use mathlib.Core.List.{[], ◌∷◌}
use mathlib.Core.Option.{Option, none, some}
use Prim.Native.Nat.{ℕ}
use Rattle.meaning.specs.Base.{is_yes, if}
use Rattle.meaning.specs.Ast.{TyVar, same_tyvar, Ty, same_ty}
use Rattle.meaning.specs.Errors.{Refusal, unification_failure}
use Rattle.meaning.specs.Budget.{pure, refuse}
use Rattle.meaning.specs.Map.{tyvars, get, insert, or_insert}
use Rattle.meaning.specs.Subst.{Subst, or_var, look, agree_at, agree, merge}
use Rattle.meaning.specs.Plain.{Fill}
use Rattle.theorems.proofs.Says.{Says, Definite, after_says, weaken}
use Rattle.theorems.proofs.Tests.{some_inj, none_some}
use Rattle.theorems.proofs.Looks.{or_second, get-or_insert}

-- A map has each pair of a substitution.
abbrev pub Holds : Fill → Subst → Type 0
Holds θ [] = Unit {0}
Holds θ (p ∷ s) = (θ p.0 ≡ p.1) × Holds θ s

-- Something is found.
unfoldable pub is_some : Option Ty → Bool
is_some none = false
is_some (some u) = true

-- The substitution names the variable.
unfoldable pub has : TyVar → Subst → Bool
has x s = is_some (get tyvars x s)

-- The merged substitution names what either names.
pub has_or_insert : (x : TyVar) (s other : Subst) → has x (or_insert tyvars s other) ≡ (has x s || has x other)
unfolding has
has_or_insert x s other = ap is_some (get-or_insert tyvars x s other) ∙ go (get tyvars x s) (get tyvars x other)
  where
    go : (a b : Option Ty) → is_some (or_second a b) ≡ (is_some a || is_some b)
    go none b = unfold is_some in refl
    go (some u) b = unfold is_some in refl

-- What is found in a substitution is what each map that has its pairs says, for every list of pairs.
pub holds_get : (θ : Fill) (s : Subst) (x : TyVar) (u : Ty) → Holds θ s → get tyvars x s ≡ some u → θ x ≡ u
unfolding get
holds_get θ [] x u h e = absurd (none_some u e)
holds_get θ (p ∷ s) x u h e = go (same_tyvar x p.0) e (holds_get θ s x u h.1)
  where
    go : (c : Dec (x ≡ p.0)) → if (is_yes c) (some p.1) (get tyvars x s) ≡ some u → (get tyvars x s ≡ some u → θ x ≡ u) → θ x ≡ u
    go (yes i) e ih = ap θ i ∙ h.0 ∙ some_inj _ _ e
    go (no i) e ih = ih e

-- The second substitution finds all that the first one finds.
abbrev pub Within : Subst → Subst → Type 0
Within s r = (x : TyVar) (u : Ty) → get tyvars x s ≡ some u → get tyvars x r ≡ some u

-- The second substitution names each variable that the first one names.
abbrev Named : Subst → Subst → Type 0
Named t s = (x : TyVar) → has x t ≡ true → has x s ≡ true

named_head : (p : TyVar × Ty) (t s : Subst) → Named (p ∷ t) s → has p.0 s ≡ true
unfolding has get is_some
named_head p t s h = h p.0 (go (same_tyvar p.0 p.0))
  where
    go : (c : Dec (p.0 ≡ p.0)) → is_some (if (is_yes c) (some p.1) (get tyvars p.0 t)) ≡ true
    go (yes e) = refl
    go (no n) = absurd (n refl)

named_tail : (p : TyVar × Ty) (t s : Subst) → Named (p ∷ t) s → Named t s
unfolding has get is_some
named_tail p t s h x e = h x (go (same_tyvar x p.0))
  where
    go : (c : Dec (x ≡ p.0)) → is_some (if (is_yes c) (some p.1) (get tyvars x t)) ≡ true
    go (yes i) = refl
    go (no n) = e

-- What a substitution that names the variable says of it.
at_look : (θ : Fill) (x : TyVar) (u : Ty) (o : Option Ty) → is_some o ≡ true → or_var x o ≡ u → ((w : Ty) → o ≡ some w → θ x ≡ w) → θ x ≡ u
unfolding is_some or_var
at_look θ x u none i e h = absurd (false≢true i)
at_look θ x u (some w) i e h = h w refl ∙ e

holds_of : (θ : Fill) (s t : Subst) → Named t s → Holds (look s) t → ((x : TyVar) (u : Ty) → get tyvars x s ≡ some u → θ x ≡ u) → Holds θ t
unfolding has
holds_of θ s [] i o h = tt
holds_of θ s (p ∷ t) i o h = (at_look θ p.0 p.1 (get tyvars p.0 s) (named_head p t s i) o.0 (λ w. h p.0 w), holds_of θ s t (named_tail p t s i) o.1 h)

-- Conversely a map that says what is found has each pair, where the substitution has each of its own pairs.
pub get_holds : (θ : Fill) (s : Subst) → Holds (look s) s → ((x : TyVar) (u : Ty) → get tyvars x s ≡ some u → θ x ≡ u) → Holds θ s
get_holds θ s o h = holds_of θ s s (λ x e. e) o h

-- A map that has the larger substitution has the smaller one.
pub holds_within : (θ : Fill) (s r : Subst) → Holds (look s) s → Within s r → Holds θ r → Holds θ s
holds_within θ s r o w h = get_holds θ s o (λ x u e. holds_get θ r x u h (w x u e))

-- So has the larger one itself, as a map.
look_within : (s r : Subst) → Holds (look s) s → Within s r → Holds (look r) s
unfolding or_var
look_within s r o w = get_holds (look r) s o (λ x u e. ap (or_var x) (w x u e))

holds_insert : (θ : Fill) (p : TyVar × Ty) (s : Subst) → θ p.0 ≡ p.1 → Holds θ s → Holds θ (insert tyvars p s)
unfolding insert
holds_insert θ p [] e h = (e, tt)
holds_insert θ p (q ∷ s) e h = go (same_tyvar p.0 q.0) (tyvars.before p.0 q.0) (holds_insert θ p s e h.1)
  where
    go : (a : Dec (p.0 ≡ q.0)) (b : Bool) → Holds θ (insert tyvars p s) → Holds θ (if (is_yes a) (p ∷ s) (if b (p ∷ (q ∷ s)) (q ∷ insert tyvars p s)))
    go (yes i) b ih = (e, h.1)
    go (no i) true ih = (e, h)
    go (no i) false ih = (h.0, ih)

holds_or_insert : (θ : Fill) (s other : Subst) → Holds θ s → Holds θ other → Holds θ (or_insert tyvars s other)
holds_or_insert θ [] other h k = k
holds_or_insert θ (p ∷ s) other h k = holds_insert θ p (or_insert tyvars s other) h.0 (holds_or_insert θ s other h.1 k)

-- No variable has two types.
abbrev Agree : Subst → Subst → Type 0
Agree s other = (x : TyVar) (v w : Ty) → get tyvars x s ≡ some v → get tyvars x other ≡ some w → v ≡ w

within_first : (s other : Subst) → Within s (or_insert tyvars s other)
within_first s other x u e = get-or_insert tyvars x s other ∙ ap (λ (o : Option Ty). or_second o (get tyvars x other)) e

within_second : (s other : Subst) → Agree s other → Within other (or_insert tyvars s other)
within_second s other h x u e = get-or_insert tyvars x s other ∙ go (get tyvars x s) refl
  where
    go : (o : Option Ty) → get tyvars x s ≡ o → or_second o (get tyvars x other) ≡ some u
    go none i = e
    go (some v) i = ap some (h x v u i e)

-- No map has each pair of both.
abbrev pub Apart : Subst → Subst → Refusal → Type 0
Apart s other r = Definite r → (θ : Fill) → Holds θ s → Holds θ other → ⊥

agree_cons : (p : TyVar × Ty) (s other : Subst) → ((w : Ty) → get tyvars p.0 other ≡ some w → p.1 ≡ w) → Agree s other → Agree (p ∷ s) other
unfolding get
agree_cons p s other k h x v w a b = go (same_tyvar x p.0) a
  where
    go : (c : Dec (x ≡ p.0)) → if (is_yes c) (some p.1) (get tyvars x s) ≡ some v → v ≡ w
    go (yes i) e = sym (some_inj _ _ e) ∙ k w (ap (λ (y : TyVar). get tyvars y other) (sym i) ∙ b)
    go (no i) e = h x v w e b

agree_at_says : (x : TyVar) (v : Ty) (other : Subst) (o : Option Ty) → get tyvars x other ≡ o → (n : ℕ)
    → Says (λ _. (w : Ty) → o ≡ some w → v ≡ w) (λ r. Definite r → (θ : Fill) → θ x ≡ v → Holds θ other → ⊥) (agree_at v o n)
unfolding agree_at
agree_at_says x v other none i n = λ w e. absurd (none_some w e)
agree_at_says x v other (some u) i n = go (same_ty v u)
  where
    go : (c : Dec (v ≡ u)) → Says (λ _. (w : Ty) → some u ≡ some w → v ≡ w) (λ r. Definite r → (θ : Fill) → θ x ≡ v → Holds θ other → ⊥) (if (is_yes c) (pure (tt {0})) (refuse (unification_failure v u)) n)
    go (yes e) = λ w j. e ∙ some_inj _ _ j
    go (no h) = λ _ θ e k. h (sym e ∙ holds_get θ other x u k i)

agree_says : (s other : Subst) (n : ℕ) → Says (λ _. Agree s other) (Apart s other) (agree s other n)
unfolding agree get
agree_says [] other n = λ x v w e f. absurd (none_some v e)
agree_says (p ∷ s) other n =
    after_says _ _ _ _ (agree_at p.1 (get tyvars p.0 other) n) _ (agree_at_says p.0 p.1 other (get tyvars p.0 other) refl n) (λ r z d θ h k. z d θ h.0 k) λ _ a m.
    weaken _ _ _ _ (agree s other m) (agree_says s other m) (λ _ b. agree_cons p s other a b) (λ r z d θ h k. z d θ h.1 k)

-- A substitution that has just the pairs of two others.
pub record Joined (s other out : Subst) : Type 0 where
  pub to : (θ : Fill) → Holds θ out → Holds θ s × Holds θ other
  pub of : (θ : Fill) → Holds θ s → Holds θ other → Holds θ out
  pub own : Holds (look out) out
  pub names : (x : TyVar) → has x out ≡ (has x s || has x other)

-- `merge` gives such a substitution; where it refuses, no map has each pair of both.
pub merge_says : (s other : Subst) → Holds (look s) s → Holds (look other) other → (n : ℕ) → Says (Joined s other) (Apart s other) (merge s other n)
unfolding merge
merge_says s other o q n =
    after_says _ _ _ _ (agree s other n) _ (agree_says s other n) (λ r z. z) λ _ a m.
    let first = within_first s other in
    let second = within_second s other a in
    record {
      to = λ θ h. (holds_within θ s (or_insert tyvars s other) o first h, holds_within θ other (or_insert tyvars s other) q second h);
      of = λ θ. holds_or_insert θ s other;
      own = holds_or_insert (look (or_insert tyvars s other)) s other (look_within s _ o first) (look_within other _ q second);
      names = λ x. has_or_insert x s other;
    }
