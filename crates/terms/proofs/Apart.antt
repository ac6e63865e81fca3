-- Where the walk is `subst_core`, and that it depends on what the map says alone.
use mathlib.Core.Path.{◌≡◌, refl, ap, sym}
use mathlib.Core.Bool.{not}
use mathlib.Core.List.{List, [], ◌∷◌}
use mathlib.Core.Option.{none, some}
use Prim.Native.Nat.{ℕ, suc, zero}
use native.Mathlib.Omega.{arith}
use Rattle.meaning.specs.Base.{is_yes, if, keep}
use Rattle.meaning.specs.Ast.{DictName, same_dict, Core, Cores, cvar, cdict, cint, cbool, cabs, capp, clet, dict_abs, dict_app, dict_proj, dict_rec, cnil, ◌◃◌, Binder}
use Rattle.meaning.specs.Budget.{Out, Steps, done, refused, after, step}
use Rattle.meaning.specs.Map.{Map, dicts, get, remove}
use Rattle.meaning.specs.Cores.{each_core, or_core, hidden, subst_node, subst_in}
use Rattle.terms.specs.Plain.{plain_node, plain_in, NotReplaced, Apart, AllApart}

-- ## Nothing to hide

-- A map without a key that it has not.
remove_none : (d : DictName) (sub : Map DictName Core) → get dicts d sub ≡ none → remove dicts d sub ≡ sub
unfolding get remove keep
remove_none d [] h = refl
remove_none d (p ∷ sub) h = go (same_dict d p.0) h (remove_none d sub)
  where
    go : (c : Dec (d ≡ p.0)) → if (is_yes c) (some p.1) (get dicts d sub) ≡ none → (get dicts d sub ≡ none → keep (λ q. not (is_yes (same_dict d q.0))) sub ≡ sub)
        → if (not (is_yes c)) (p ∷ keep (λ q. not (is_yes (same_dict d q.0))) sub) (keep (λ q. not (is_yes (same_dict d q.0))) sub) ≡ p ∷ sub
    go (yes e) h ih = let z : ◌≡◌ {A = ℕ} 0 1 = cc in absurd (omega arith)
    go (no n) h ih = ap (λ s. p ∷ s) (ih h)

-- A map without names that it has not.
hidden_none : (bs : List Binder) (sub : Map DictName Core) → NotReplaced bs sub → hidden bs sub ≡ sub
unfolding NotReplaced hidden
hidden_none [] sub h = refl
hidden_none (b ∷ bs) sub h = rw (remove_none b.0 sub h.0) (hidden_none bs sub h.1)

-- ## Two walks that agree one deeper

-- What follows equal outcomes.
after_same : {A B : Type 0} {o o' : Out A} {k k' : A → Steps B} → o ≡ o' → ((a : A) (l : ℕ) → k a l ≡ k' a l) → after o k ≡ after o' k'
unfolding after
after_same {o = o} {k = k} {k' = k'} e h = rw (sym e) (go o)
  where
    go : (o : Out _) → after o k ≡ after o k'
    go (done a l) = h a l
    go (refused q l) = refl

-- Where the walk and `subst_core` agree on each term that is apart.
module _ (sub : Map DictName Core) (f : Core → Steps Core) (g : Map DictName Core → Core → Steps Core) (h : (e : Core) (n : ℕ) → Apart e sub → f e n ≡ g sub e n) where
  -- Each term of a list.
  each_same : (es : Cores) (n : ℕ) → AllApart es sub → each_core f es n ≡ each_core (g sub) es n
  unfolding each_core Apart
  each_same cnil n a = refl
  each_same (e ◃ es) n a = after_same (h e n a.0) (λ u l. after_same (each_same es l a.1) (λ us m. refl))

  -- At a node.
  node_same : (e : Core) (n : ℕ) → Apart e sub → plain_node f sub e n ≡ subst_node g sub e n
  unfolding plain_node subst_node Apart
  node_same (cvar x) n a = refl
  node_same (cdict d) n a = refl
  node_same (cint i) n a = refl
  node_same (cbool b) n a = refl
  node_same (cabs x e) n a = after_same (h e n a) (λ u l. refl)
  node_same (capp e₁ e₂) n a = after_same (h e₁ n a.0) (λ u l. after_same (h e₂ l a.1) (λ v m. refl))
  node_same (clet x e₁ e₂) n a = after_same (h e₁ n a.0) (λ u l. after_same (h e₂ l a.1) (λ v m. refl))
  node_same (dict_abs bs e) n a = rw (hidden_none bs sub a.0) (after_same (h e n a.1) (λ u l. refl))
  node_same (dict_app e es) n a = after_same (h e n a.0) (λ u l. after_same (each_same es l a.1) (λ us m. refl))
  node_same (dict_proj e m) n a = after_same (h e n a) (λ u l. refl)
  node_same (dict_rec c t i) n a = refl

-- The walk is `subst_core` where no dictionary abstraction binds a name that is replaced.
pub plain_is : (k : ℕ) (sub : Map DictName Core) (e : Core) (n : ℕ) → Apart e sub → plain_in k sub e n ≡ subst_in k sub e n
unfolding plain_in subst_in step
plain_is zero sub e n a = refl
plain_is (suc k) sub e zero a = refl
plain_is (suc k) sub e (suc n) a = node_same sub (λ u. plain_in k sub u) (λ s u. subst_in k s u) (λ u m b. plain_is k sub u m b) e n a

-- ## Two maps that say the same

module _ (sub sub' : Map DictName Core) (same : (d : DictName) → or_core (cdict d) (get dicts d sub) ≡ or_core (cdict d) (get dicts d sub')) where
  module _ (f g : Core → Steps Core) (h : (e : Core) (n : ℕ) → f e n ≡ g e n) where
    -- Each term of a list.
    each_like : (es : Cores) (n : ℕ) → each_core f es n ≡ each_core g es n
    unfolding each_core
    each_like cnil n = refl
    each_like (e ◃ es) n = after_same (h e n) (λ u l. after_same (each_like es l) (λ us m. refl))

    -- At a node.
    node_like : (e : Core) (n : ℕ) → plain_node f sub e n ≡ plain_node g sub' e n
    unfolding plain_node
    node_like (cvar x) n = refl
    node_like (cdict d) n = ap (λ u. done u n) (same d)
    node_like (cint i) n = refl
    node_like (cbool b) n = refl
    node_like (cabs x e) n = after_same (h e n) (λ u l. refl)
    node_like (capp e₁ e₂) n = after_same (h e₁ n) (λ u l. after_same (h e₂ l) (λ v m. refl))
    node_like (clet x e₁ e₂) n = after_same (h e₁ n) (λ u l. after_same (h e₂ l) (λ v m. refl))
    node_like (dict_abs bs e) n = after_same (h e n) (λ u l. refl)
    node_like (dict_app e es) n = after_same (h e n) (λ u l. after_same (each_like es l) (λ us m. refl))
    node_like (dict_proj e m) n = after_same (h e n) (λ u l. refl)
    node_like (dict_rec c t i) n = refl

  -- The walk is the same for maps that say the same of every name.
  pub subst_same : (k : ℕ) (e : Core) (n : ℕ) → plain_in k sub e n ≡ plain_in k sub' e n
  unfolding plain_in step
  subst_same zero e n = refl
  subst_same (suc k) e zero = refl
  subst_same (suc k) e (suc n) = node_like (λ u. plain_in k sub u) (λ u. plain_in k sub' u) (λ u m. subst_same k u m) e n
