-- What inference may do to an environment: names come and go in pairs, and schemes without free variables stay.
use mathlib.Core.Path.{◌≡◌, refl, ap, sym, ◌∙◌}
use mathlib.Core.Bool.{true, not, true≢false}
use mathlib.Core.List.{[], ◌∷◌}
use mathlib.Core.Option.{Option, none, some}
use mathlib.Core.Logic.{◌≢◌}
use Prim.Native.Nat.{ℕ}
use Rattle.meaning.specs.Base.{is_yes, if, null, keep}
use Rattle.meaning.specs.Ast.{Name, same_name, Scheme}
use Rattle.meaning.specs.Budget.{Out, done, refused}
use Rattle.meaning.specs.Map.{Keys, Map, names, get, insert, remove}
use Rattle.meaning.specs.Subst.{Subst, apply_qual, filtered, ftv_scheme, apply_scheme}
use Rattle.meaning.specs.Generalize.{Env}
use Rattle.meaning.specs.Infer.{apply_schemes}
use Rattle.theorems.proofs.Says.{Says, Any, after_says, and_then, if_says, both_say, past}
use Rattle.theorems.proofs.Maps.{get_insert_same, get_insert_other}
use Rattle.theorems.proofs.Ordered.{Below, Sorted, sorted_insert, sorted_remove, same_finds}
use Rattle.theorems.proofs.ByteOrder.{names_ordered}

-- ## removal
module _ {K A : Type 0} (k : Keys K) where
  -- What was removed is not found, even where it stood twice.
  pub get_remove_same : (x : K) (s : Map K A) → get k x (remove k x s) ≡ none
  unfolding get remove keep
  get_remove_same x [] = refl
  get_remove_same x (p ∷ s) = go (k.same x p.0) refl (get_remove_same x s)
    where
      go : (c : Dec (x ≡ p.0)) → k.same x p.0 ≡ c → get k x (remove k x s) ≡ none
          → get k x (if (not (is_yes c)) (p ∷ remove k x s) (remove k x s)) ≡ none
      go (yes e) i ih = ih
      go (no h) i ih = rw i ih

  -- Every other key is found as before.
  pub get_remove_other : (x y : K) (s : Map K A) → y ≢ x → get k y (remove k x s) ≡ get k y s
  unfolding get remove keep
  get_remove_other x y [] h = refl
  get_remove_other x y (p ∷ s) h = go (k.same x p.0) (k.same y p.0) refl (get_remove_other x y s h)
    where
      go : (c : Dec (x ≡ p.0)) (d : Dec (y ≡ p.0)) → k.same y p.0 ≡ d → get k y (remove k x s) ≡ get k y s
          → get k y (if (not (is_yes c)) (p ∷ remove k x s) (remove k x s)) ≡ if (is_yes d) (some p.1) (get k y s)
      go (yes e) (yes f) i ih = absurd (h (f ∙ sym e))
      go (yes e) (no f) i ih = ih
      go (no e) (yes f) i ih = rw i refl
      go (no e) (no f) i ih = rw i ih

-- ## schemes
-- A scheme without free variables: no substitution changes it, and that for no step.
abbrev pub Closed : Scheme → Type 0
Closed c = null (ftv_scheme c) ≡ true

-- A closed scheme is given back at once, every step left over.
pub closed_scheme : (s : Subst) (c : Scheme) (n : ℕ) → Closed c → apply_scheme s c n ≡ done c n
unfolding apply_scheme
closed_scheme s c n h = rw h refl

-- A substitution leaves a closed scheme as it is.
pub scheme_stays : (s : Subst) (c : Scheme) (n : ℕ) → Says (λ d. Closed c → d ≡ c) Any (apply_scheme s c n)
unfolding apply_scheme
scheme_stays s c n =
    if_says _ _ (null (ftv_scheme c)) _ _ n (λ e h. refl)
    λ e. past _ (apply_qual (filtered c.vars s) c.qual n) _ λ q m h. absurd (true≢false (sym h ∙ e))

-- ## environments
-- A name is there before and after, or neither; a closed scheme is still the same.
abbrev pub Alike : Option Scheme → Option Scheme → Type 0
Alike none none = Unit {0}
Alike none (some d) = ⊥
Alike (some c) none = ⊥
Alike (some c) (some d) = Closed c → d ≡ c

alike_refl : (o : Option Scheme) → Alike o o
alike_refl none = tt
alike_refl (some c) = λ h. refl

alike_trans : (o p q : Option Scheme) → Alike o p → Alike p q → Alike o q
alike_trans none none none a b = tt
alike_trans none none (some e) a b = b
alike_trans none (some d) q a b = absurd a
alike_trans (some c) none q a b = absurd a
alike_trans (some c) (some d) none a b = b
alike_trans (some c) (some d) (some e) a b = λ h. let i = a h in b (rw i h) ∙ i

-- The same names are there, and closed schemes are still the same.
abbrev pub Stays : Env → Env → Type 0
Stays env env' = (x : Name) → Alike (get names x env) (get names x env')

-- An environment may stay as it is.
pub stays_refl : (env : Env) → Stays env env
stays_refl env x = alike_refl (get names x env)

-- One change after another.
pub stays_trans : (a b c : Env) → Stays a b → Stays b c → Stays a c
stays_trans a b c h k x = alike_trans (get names x a) (get names x b) (get names x c) (h x) (k x)

-- A substitution done to each scheme keeps the names and the closed schemes.
pub schemes_stay : (s : Subst) (env : Env) (n : ℕ) → Says (λ env'. Stays env env') Any (apply_schemes s env n)
unfolding apply_schemes get
schemes_stay s [] n = λ x. tt
schemes_stay s (p ∷ env) n =
    and_then _ _ _ (apply_scheme s p.1 n) _ (scheme_stays s p.1 n) λ c h m.
    and_then _ _ _ (apply_schemes s env m) _ (schemes_stay s env m) λ env' k l x. go x c env' h k (same_name x p.0)
  where
    go : (x : Name) (c : Scheme) (env' : Env) → (Closed p.1 → c ≡ p.1) → Stays env env' → (d : Dec (x ≡ p.0))
        → Alike (if (is_yes d) (some p.1) (get names x env)) (if (is_yes d) (some c) (get names x env'))
    go x c env' h k (yes e) = h
    go x c env' h k (no e) = k x

below_keys : (s : Subst) (x : Name) (env : Env) (n : ℕ) → Below names x env → Says (λ env'. Below names x env') Any (apply_schemes s env n)
unfolding apply_schemes
below_keys s x [] n b = tt
below_keys s x (p ∷ env) n b =
    past _ (apply_scheme s p.1 n) _ λ c m.
    and_then _ _ _ (apply_schemes s env m) _ (below_keys s x env m b.1) λ env' k l. (b.0, k)

-- And their order.
pub schemes_sorted : (s : Subst) (env : Env) (n : ℕ) → Sorted names env → Says (λ env'. Sorted names env') Any (apply_schemes s env n)
unfolding apply_schemes
schemes_sorted s [] n w = tt
schemes_sorted s (p ∷ env) n w =
    past _ (apply_scheme s p.1 n) _ λ c m.
    after_says _ _ _ _ (apply_schemes s env m) _ (both_say _ _ _ _ (apply_schemes s env m) (below_keys s p.0 env m w.0) (schemes_sorted s env m w.1)) (λ r z. tt) λ env' k l. k

-- Both: what a part of inference does to the environment.
pub record Keeps (env env' : Env) : Type 0 where
  pub stays : Stays env env'
  pub sorted : Sorted names env → Sorted names env'

-- An environment keeps itself.
pub keeps_refl : (env : Env) → Keeps env env
keeps_refl env = record { stays = stays_refl env; sorted = λ w. w }

-- One change after another.
pub keeps_trans : {a b c : Env} → Keeps a b → Keeps b c → Keeps a c
keeps_trans {a} {b} {c} h k = record { stays = stays_trans a b c h.stays k.stays; sorted = λ w. k.sorted (h.sorted w) }

-- A substitution done to each scheme keeps the environment.
pub schemes_keep : (s : Subst) (env : Env) (n : ℕ) → Says (λ env'. Keeps env env') Any (apply_schemes s env n)
schemes_keep s env n = go (apply_schemes s env n) (schemes_stay s env n) (λ w. schemes_sorted s env n w)
  where
    go : (o : Out Env) → Says (λ env'. Stays env env') Any o → (Sorted names env → Says (λ env'. Sorted names env') Any o) → Says (λ env'. Keeps env env') Any o
    go (done env' m) h k = record { stays = h; sorted = k }
    go (refused r m) h k = tt

-- What stood at a name before, put back.
abbrev pub restored : Name → Option Scheme → Env → Env
restored x none env = remove names x env
restored x (some c) env = insert names (x, c) env

restored_same : (x : Name) (o : Option Scheme) (env : Env) → get names x (restored x o env) ≡ o
restored_same x none env = get_remove_same names x env
restored_same x (some c) env = get_insert_same names x c env

restored_other : (x y : Name) (o : Option Scheme) (env : Env) → y ≢ x → get names y (restored x o env) ≡ get names y env
restored_other x y none env h = get_remove_other names x y env h
restored_other x y (some c) env h = get_insert_other names y (x, c) env h

restored_sorted : (x : Name) (o : Option Scheme) (env : Env) → Sorted names env → Sorted names (restored x o env)
restored_sorted x none env w = sorted_remove names x env w
restored_sorted x (some c) env w = sorted_insert names names_ordered (x, c) env w

-- A name bound for a while and then put back: nothing is left of the binding, whatever happened meanwhile.
pub keeps_restored : (x : Name) (c : Scheme) (env env' : Env) → Keeps (insert names (x, c) env) env' → Keeps env (restored x (get names x env) env')
keeps_restored x c env env' h =
    record { stays = λ y. at y (same_name y x); sorted = λ w. restored_sorted x (get names x env) env' (h.sorted (sorted_insert names names_ordered (x, c) env w)) }
  where
    at : (y : Name) → Dec (y ≡ x) → Alike (get names y env) (get names y (restored x (get names x env) env'))
    at y (yes e) = rw e (rw (restored_same x (get names x env) env') (alike_refl (get names x env)))
    at y (no i) = rw (restored_other x y (get names x env) env' i) (rw (get_insert_other names y (x, c) env i) at (h.stays y))

-- Every scheme that is found is closed.
abbrev pub AllClosed : Env → Type 0
AllClosed env = (x : Name) (c : Scheme) → get names x env ≡ some c → Closed c

-- In an environment of closed schemes all is found as it was: so it is the same environment.
pub keeps_same : (env env' : Env) → Keeps env env' → Sorted names env → AllClosed env → env' ≡ env
keeps_same env env' h w k = same_finds names names_ordered env' env (h.sorted w) w (λ x. go (get names x env) (get names x env') (h.stays x) (k x))
  where
    go : (o p : Option Scheme) → Alike o p → ((c : Scheme) → o ≡ some c → Closed c) → p ≡ o
    go none none a f = refl
    go none (some d) a f = absurd a
    go (some c) none a f = absurd a
    go (some c) (some d) a f = ap some (a (f c refl))
