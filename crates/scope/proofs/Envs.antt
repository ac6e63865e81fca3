-- Laws of environments: two that agree row by row, what is found in one, and that it is in order.
use mathlib.Core.Path.{◌≡◌, refl, ap, sym, ◌∙◌}
use mathlib.Core.Bool.{true}
use mathlib.Core.List.{List, [], ◌∷◌, ◌++◌}
use mathlib.Core.Option.{Option, none, some}
use mathlib.Core.Logic.{◌≢◌}
use Prim.Native.Nat.{ℕ, zero, suc, ◌+◌, ◌-◌, ◌<◌, ◌≤◌}
use native.Mathlib.Omega.{arith}
use native.Mathlib.Decide.{ℕ_discrete, dec_lt}
use lib.ListN.{length, get_or}
use Rattle.meaning.specs.Ast.{Name, same_name, name_before, Scheme}
use Rattle.meaning.specs.Map.{names, get}
use Rattle.meaning.specs.Generalize.{Env}
use Rattle.names.specs.Names.{name_of}
use Rattle.theorems.proofs.Maps.{get_cons_same, get_cons_other}
use Rattle.theorems.proofs.Ordered.{Below, Sorted}
use Rattle.theorems.proofs.ByteOrder.{names_ordered}
use Rattle.scope.specs.Scope.{entry_of, scheme_in, with_scheme, env_from, Order}

-- ## The order

-- The i-th name in byte order.
abbrev pub name_at : List ℕ → List ℕ → ℕ → Name
name_at ns od i = name_of ns (get_or od i 0)

-- The scheme that it has.
abbrev pub scheme_at : List ℕ → List ℕ → List ℕ → List ℕ → ℕ → Option Scheme
scheme_at ns w ev od i = scheme_in ns w (entry_of ev (get_or od i 0))

module _ {ns od : List ℕ} (O : Order ns od) where
  -- A name lies before the one that is suc k places on.
  rising_by : (k i j : ℕ) → j ≡ suc (i + k) → j < length od → name_before (name_at ns od i) (name_at ns od j) ≡ true
  rising_by zero i j e h = let f : j ≡ suc i = omega arith in rw f (O.rises i (omega arith))
  rising_by (suc k) i j e h =
      let f : j ≡ suc (suc i + k) = omega arith in
      names_ordered.trans (name_at ns od i) (name_at ns od (suc i)) (name_at ns od j) (O.rises i (omega arith)) (rising_by k (suc i) j f h)

  -- An earlier name lies before a later one.
  pub rising : (i j : ℕ) → i < j → j < length od → name_before (name_at ns od i) (name_at ns od j) ≡ true
  rising i j h k = rising_by (j - suc i) i j (omega arith) k

  -- Names of two places differ.
  pub apart : (i j : ℕ) → i < length od → j < length od → i ≢ j → name_at ns od i ≢ name_at ns od j
  apart i j a b h e = go (dec_lt i j)
    where
      go : Dec (i < j) → ⊥
      go (yes l) = names_ordered.irrefl (name_at ns od j) (rw e at (rising i j l b))
      go (no l) = names_ordered.irrefl (name_at ns od j) (rw e at (rising j i (omega arith) a))

-- ## Two environments

-- They are equal where their schemes are.
pub envs_same : (ns w w' ev ev' od : List ℕ) (i k : ℕ) → ((j : ℕ) → i ≤ j → j < i + k → scheme_at ns w' ev' od j ≡ scheme_at ns w ev od j) → env_from ns w' ev' od i k ≡ env_from ns w ev od i k
unfolding env_from
envs_same ns w w' ev ev' od i zero h = refl
envs_same ns w w' ev ev' od i (suc k) h = rw (h i (omega arith) (omega arith), envs_same ns w w' ev ev' od (suc i) k (λ j p q. h j (omega arith) (omega arith)))

-- One more name goes last.
pub env_last : (ns w ev od : List ℕ) (i k : ℕ) → env_from ns w ev od i (suc k) ≡ env_from ns w ev od i k ++ with_scheme (name_at ns od (i + k)) (scheme_at ns w ev od (i + k)) []
unfolding env_from
env_last ns w ev od i zero = let e : i + 0 ≡ i = omega arith in rw e
env_last ns w ev od i (suc k) = let e : i + suc k ≡ suc i + k = omega arith in rw e (go (scheme_at ns w ev od i) (env_last ns w ev od (suc i) k))
  where
    last : Env
    last = with_scheme (name_at ns od (suc i + k)) (scheme_at ns w ev od (suc i + k)) []

    go : (o : Option Scheme) → env_from ns w ev od (suc i) (suc k) ≡ env_from ns w ev od (suc i) k ++ last
        → with_scheme (name_at ns od i) o (env_from ns w ev od (suc i) (suc k)) ≡ with_scheme (name_at ns od i) o (env_from ns w ev od (suc i) k) ++ last
    go none ih = ih
    go (some c) ih = ap (λ (s : Env). (name_at ns od i, c) ∷ s) ih

-- The same is found of a name where its schemes are equal.
pub finds_same : (ns w w' ev ev' od : List ℕ) (x : Name) (i k : ℕ) → ((j : ℕ) → i ≤ j → j < i + k → x ≡ name_at ns od j → scheme_at ns w' ev' od j ≡ scheme_at ns w ev od j)
    → get names x (env_from ns w' ev' od i k) ≡ get names x (env_from ns w ev od i k)
unfolding env_from
finds_same ns w w' ev ev' od x i zero h = refl
finds_same ns w w' ev ev' od x i (suc k) h =
    go (same_name x (name_at ns od i)) (scheme_at ns w' ev' od i) (scheme_at ns w ev od i) (h i (omega arith) (omega arith)) (finds_same ns w w' ev ev' od x (suc i) k (λ j p q. h j (omega arith) (omega arith)))
  where
    go : Dec (x ≡ name_at ns od i) → (o' o : Option Scheme) → (x ≡ name_at ns od i → o' ≡ o) → get names x (env_from ns w' ev' od (suc i) k) ≡ get names x (env_from ns w ev od (suc i) k)
        → get names x (with_scheme (name_at ns od i) o' (env_from ns w' ev' od (suc i) k)) ≡ get names x (with_scheme (name_at ns od i) o (env_from ns w ev od (suc i) k))
    go (yes e) o' none f ih = rw (f e) ih
    go (yes e) o' (some c) f ih = rw (f e, e) (get_cons_same names (name_at ns od i) c (env_from ns w' ev' od (suc i) k) ∙ sym (get_cons_same names (name_at ns od i) c (env_from ns w ev od (suc i) k)))
    go (no n) none none f ih = ih
    go (no n) none (some c) f ih = ih ∙ sym (get_cons_other names x (name_at ns od i) c (env_from ns w ev od (suc i) k) n)
    go (no n) (some c) none f ih = get_cons_other names x (name_at ns od i) c (env_from ns w' ev' od (suc i) k) n ∙ ih
    go (no n) (some c) (some d) f ih =
        get_cons_other names x (name_at ns od i) c (env_from ns w' ev' od (suc i) k) n ∙ ih ∙ sym (get_cons_other names x (name_at ns od i) d (env_from ns w ev od (suc i) k) n)

-- ## One environment

module _ {ns od : List ℕ} (O : Order ns od) (w ev : List ℕ) where
  -- A name before all others lies before all keys.
  below_from : (x : Name) (i k : ℕ) → ((j : ℕ) → i ≤ j → j < i + k → name_before x (name_at ns od j) ≡ true) → Below names x (env_from ns w ev od i k)
  unfolding env_from
  below_from x i zero h = tt
  below_from x i (suc k) h = go (scheme_at ns w ev od i) (below_from x (suc i) k (λ j p q. h j (omega arith) (omega arith)))
    where
      go : (o : Option Scheme) → Below names x (env_from ns w ev od (suc i) k) → Below names x (with_scheme (name_at ns od i) o (env_from ns w ev od (suc i) k))
      go none ih = ih
      go (some c) ih = (h i (omega arith) (omega arith), ih)

  -- It is in order.
  pub in_order : (i k : ℕ) → i + k ≤ length od → Sorted names (env_from ns w ev od i k)
  unfolding env_from
  in_order i zero h = tt
  in_order i (suc k) h = go (scheme_at ns w ev od i) (below_from (name_at ns od i) (suc i) k (λ j p q. rising O i j (omega arith) (omega arith))) (in_order (suc i) k (omega arith))
    where
      go : (o : Option Scheme) → Below names (name_at ns od i) (env_from ns w ev od (suc i) k) → Sorted names (env_from ns w ev od (suc i) k) → Sorted names (with_scheme (name_at ns od i) o (env_from ns w ev od (suc i) k))
      go none b ih = ih
      go (some c) b ih = (b, ih)

  -- A name that has no place in it is not found.
  missing : (x : Name) (i k : ℕ) → ((j : ℕ) → i ≤ j → j < i + k → x ≢ name_at ns od j) → get names x (env_from ns w ev od i k) ≡ none
  unfolding env_from get
  missing x i zero h = refl
  missing x i (suc k) h = go (scheme_at ns w ev od i) (missing x (suc i) k (λ j p q. h j (omega arith) (omega arith)))
    where
      go : (o : Option Scheme) → get names x (env_from ns w ev od (suc i) k) ≡ none → get names x (with_scheme (name_at ns od i) o (env_from ns w ev od (suc i) k)) ≡ none
      go none ih = ih
      go (some c) ih = get_cons_other names x (name_at ns od i) c (env_from ns w ev od (suc i) k) (h i (omega arith) (omega arith)) ∙ ih

  -- Of the j-th name its scheme is found.
  pub found_at : (j i k : ℕ) → i ≤ j → j < i + k → i + k ≤ length od → get names (name_at ns od j) (env_from ns w ev od i k) ≡ scheme_at ns w ev od j
  unfolding env_from
  found_at j i zero p q h = absurd (omega arith)
  found_at j i (suc k) p q h =
      go (ℕ_discrete i j) (scheme_at ns w ev od i) refl (λ g. found_at j (suc i) k g (omega arith) (omega arith)) (λ g. missing (name_at ns od j) (suc i) k (λ a b c. apart O j a (omega arith) (omega arith) (omega arith)))
    where
      go : Dec (i ≡ j) → (o : Option Scheme) → scheme_at ns w ev od i ≡ o → (suc i ≤ j → get names (name_at ns od j) (env_from ns w ev od (suc i) k) ≡ scheme_at ns w ev od j)
          → (i ≡ j → get names (name_at ns od j) (env_from ns w ev od (suc i) k) ≡ none)
          → get names (name_at ns od j) (with_scheme (name_at ns od i) o (env_from ns w ev od (suc i) k)) ≡ scheme_at ns w ev od j
      go (yes e) none s on non = non e ∙ sym s ∙ rw e
      go (yes e) (some c) s on non = rw (← e) (get_cons_same names (name_at ns od i) c (env_from ns w ev od (suc i) k) ∙ sym s)
      go (no n) none s on non = on (omega arith)
      go (no n) (some c) s on non = get_cons_other names (name_at ns od j) (name_at ns od i) c (env_from ns w ev od (suc i) k) (apart O j i (omega arith) (omega arith) (omega arith)) ∙ on (omega arith)
