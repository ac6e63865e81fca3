-- The substitution for the core as a function of names: what `fill_discharged` and `fill_aliases` have for a name, by the predicate
-- that the pending list has for it.
use mathlib.Core.Path.{◌≡◌, refl, ap, sym, ◌∙◌}
use mathlib.Core.Bool.{Bool, true, false, not, ◌&&◌}
use mathlib.Core.List.{List, [], ◌∷◌, ◌++◌}
use mathlib.Core.Option.{Option, none, some}
use Prim.Native.Nat.{ℕ}
use native.Mathlib.Omega.{arith}
use Rattle.meaning.specs.Base.{if, is_yes}
use Rattle.meaning.specs.Ast.{DictName, same_dict, Pred, same_pred, Core, cdict, Binder}
use Rattle.meaning.specs.Map.{Map, dicts, get, insert}
use Rattle.meaning.specs.Reduce.{Discharged}
use Rattle.meaning.specs.Cores.{or_core}
use Rattle.meaning.specs.Generalize.{fill_equal, fill_discharged, fill_alias, fill_aliases}
use Rattle.theorems.proofs.Maps.{get_cons_same, get_cons_other, get_insert_same, get_insert_other}
use Rattle.pending.specs.Owned.{first_of}
use Rattle.pending.proofs.Firsts.{yes_is, no_is, first_none, first_here, first_there}
use Rattle.pending.proofs.Residuals.{Apart}

-- No name stands twice.
abbrev pub Distinct : List Binder → Type 0
Distinct [] = Unit {0}
Distinct (b ∷ bs) = (get dicts b.0 bs ≡ none) × Distinct bs

-- The first answer, or the second.
abbrev pub or_else : Option Core → Option Core → Option Core
or_else none x = x
or_else (some e) x = some e

-- A binder's new term put into a map.
abbrev put_term : Binder → Option Core → Map DictName Core → Map DictName Core
put_term b none m = m
put_term b (some e) m = insert dicts (b.0, e) m

-- Each binder's new term.
unfoldable fill_cores_by : (Binder → Option Core) → List Binder → Map DictName Core → Map DictName Core
fill_cores_by f [] m = m
fill_cores_by f (b ∷ bs) m = fill_cores_by f bs (put_term b (f b) m)

-- A map after one binder, at another name and at its own.
put_other : (d : DictName) (b : Binder) (o : Option Core) (m : Map DictName Core) → (d ≡ b.0 → ⊥) → get dicts d (put_term b o m) ≡ get dicts d m
put_other d b none m n = refl
put_other d b (some e) m n = get_insert_other dicts d (b.0, e) m n

put_own : (b : Binder) (o : Option Core) (m : Map DictName Core) → get dicts b.0 (put_term b o m) ≡ or_else o (get dicts b.0 m)
put_own b none m = refl
put_own b (some e) m = get_insert_same dicts b.0 e m

-- A name that no binder has.
fill_absent : (f : Binder → Option Core) (d : DictName) (ps : List Binder) (m : Map DictName Core) → get dicts d ps ≡ none → get dicts d (fill_cores_by f ps m) ≡ get dicts d m
unfolding fill_cores_by
fill_absent f d [] m e = refl
fill_absent f d (b ∷ bs) m e = go (same_dict d b.0) (fill_absent f d bs (put_term b (f b) m))
  where
    go : Dec (d ≡ b.0) → (get dicts d bs ≡ none → get dicts d (fill_cores_by f bs (put_term b (f b) m)) ≡ get dicts d (put_term b (f b) m)) → get dicts d (fill_cores_by f bs (put_term b (f b) m)) ≡ get dicts d m
    go (yes k) ih = absurd (let u : get dicts d (b ∷ bs) ≡ some b.1 = rw k (get_cons_same dicts b.0 b.1 bs) in let z : ◌≡◌ {A = ℕ} 0 1 = cc in omega arith)
    go (no n) ih = ih (sym (get_cons_other dicts d b.0 b.1 bs n) ∙ e) ∙ put_other d b (f b) m n

-- A name with a predicate.
fill_present : {p : Pred} (f : Binder → Option Core) (d : DictName) (ps : List Binder) (m : Map DictName Core) → Distinct ps → get dicts d ps ≡ some p → get dicts d (fill_cores_by f ps m) ≡ or_else (f (d, p)) (get dicts d m)
unfolding fill_cores_by get
fill_present f d [] m D e = cc
fill_present {p} f d (b ∷ bs) m D e = go (same_dict d b.0) (fill_present f d bs (put_term b (f b) m) D.1)
  where
    here : (x : DictName) (q : Pred) → x ≡ b.0 → q ≡ b.1 → get dicts x bs ≡ none → get dicts x (fill_cores_by f bs (put_term b (f b) m)) ≡ or_else (f (x, q)) (get dicts x m)
    here x q k v a = fill_absent f x bs (put_term b (f b) m) a ∙ rw (k, v) (put_own b (f b) m)

    go : Dec (d ≡ b.0) → (get dicts d bs ≡ some p → get dicts d (fill_cores_by f bs (put_term b (f b) m)) ≡ or_else (f (d, p)) (get dicts d (put_term b (f b) m))) → get dicts d (fill_cores_by f bs (put_term b (f b) m)) ≡ or_else (f (d, p)) (get dicts d m)
    go (yes k) ih =
        let u : get dicts d (b ∷ bs) ≡ some b.1 = ap (λ x. get dicts x (b ∷ bs)) k ∙ get_cons_same dicts b.0 b.1 bs in
        let v : p ≡ b.1 = cc in
        here d p k v (rw k D.0)
    go (no n) ih = ih (sym (get_cons_other dicts d b.0 b.1 bs n) ∙ e) ∙ rw (put_other d b (f b) m n) refl

-- ## Both fillings as such

-- A binder of the discharged predicate.
abbrev pub equal_to : Discharged → Binder → Option Core
equal_to o b = if (is_yes (same_pred b.1 o.0)) (some o.1) none

-- Another binder of the same predicate.
abbrev pub alias_to : Binder → Binder → Option Core
alias_to k b = if (is_yes (same_pred b.1 k.1) && not (is_yes (same_dict b.0 k.0))) (some (cdict k.0)) none

-- A test before or behind.
put_if : (t : Bool) (b : Binder) (e : Core) (m : Map DictName Core) → if t (insert dicts (b.0, e) m) m ≡ put_term b (if t (some e) none) m
put_if true b e m = refl
put_if false b e m = refl

equal_by : (o : Discharged) (ps : List Binder) (m : Map DictName Core) → fill_equal o ps m ≡ fill_cores_by (equal_to o) ps m
unfolding fill_equal fill_cores_by
equal_by o [] m = refl
equal_by o (b ∷ bs) m = rw (put_if (is_yes (same_pred b.1 o.0)) b o.1 m) (equal_by o bs (put_term b (equal_to o b) m))

alias_by : (k : Binder) (ps : List Binder) (m : Map DictName Core) → fill_alias k ps m ≡ fill_cores_by (alias_to k) ps m
unfolding fill_alias fill_cores_by
alias_by k [] m = refl
alias_by k (b ∷ bs) m = rw (put_if (is_yes (same_pred b.1 k.1) && not (is_yes (same_dict b.0 k.0))) b (cdict k.0) m) (alias_by k bs (put_term b (alias_to k b) m))

-- What the discharged predicates have for a name with the predicate p, if it had x before.
unfoldable pub discharged_as : List Discharged → DictName → Pred → Option Core → Option Core
discharged_as [] d p x = x
discharged_as (o ∷ os) d p x = discharged_as os d p (or_else (equal_to o (d, p)) x)

-- What the binders ks have for it.
unfoldable pub aliased_as : List Binder → DictName → Pred → Option Core → Option Core
aliased_as [] d p x = x
aliased_as (k ∷ ks) d p x = aliased_as ks d p (or_else (alias_to k (d, p)) x)

module _ (d : DictName) (ps : List Binder) where
  -- A name that no binder has.
  discharged_absent : (os : List Discharged) (m : Map DictName Core) → get dicts d ps ≡ none → get dicts d (fill_discharged os ps m) ≡ get dicts d m
  unfolding fill_discharged
  discharged_absent [] m e = refl
  discharged_absent (o ∷ os) m e = discharged_absent os (fill_equal o ps m) e ∙ rw (equal_by o ps m) (fill_absent (equal_to o) d ps m e)

  aliased_absent : (ks : List Binder) (m : Map DictName Core) → get dicts d ps ≡ none → get dicts d (fill_aliases ks ps m) ≡ get dicts d m
  unfolding fill_aliases
  aliased_absent [] m e = refl
  aliased_absent (k ∷ ks) m e = aliased_absent ks (fill_alias k ps m) e ∙ rw (alias_by k ps m) (fill_absent (alias_to k) d ps m e)

  module _ {p : Pred} (D : Distinct ps) (e : get dicts d ps ≡ some p) where
    -- A name with the predicate p.
    discharged_present : (os : List Discharged) (m : Map DictName Core) → get dicts d (fill_discharged os ps m) ≡ discharged_as os d p (get dicts d m)
    unfolding fill_discharged discharged_as
    discharged_present [] m = refl
    discharged_present (o ∷ os) m = discharged_present os (fill_equal o ps m) ∙ ap (discharged_as os d p) (rw (equal_by o ps m) (fill_present (equal_to o) d ps m D e))

    aliased_present : (ks : List Binder) (m : Map DictName Core) → get dicts d (fill_aliases ks ps m) ≡ aliased_as ks d p (get dicts d m)
    unfolding fill_aliases aliased_as
    aliased_present [] m = refl
    aliased_present (k ∷ ks) m = aliased_present ks (fill_alias k ps m) ∙ ap (aliased_as ks d p) (rw (alias_by k ps m) (fill_present (alias_to k) d ps m D e))

    -- What the whole substitution has for it.
    pub filled_present : (ks : List Binder) (os : List Discharged) → get dicts d (fill_aliases ks ps (fill_discharged os ps [])) ≡ aliased_as ks d p (discharged_as os d p none)
    unfolding get
    filled_present ks os = aliased_present ks (fill_discharged os ps []) ∙ ap (aliased_as ks d p) (discharged_present os [])

  -- And for a name that no binder has.
  pub filled_absent : (ks : List Binder) (os : List Discharged) → get dicts d ps ≡ none → get dicts d (fill_aliases ks ps (fill_discharged os ps [])) ≡ none
  unfolding get
  filled_absent ks os e = aliased_absent ks (fill_discharged os ps []) e ∙ discharged_absent os [] e

-- ## Aliases of a predicate

-- A binder of another predicate is no alias.
alias_other : (k : Binder) (d : DictName) (p : Pred) → (k.1 ≡ p → ⊥) → alias_to k (d, p) ≡ none
alias_other k d p n = rw (no_is (same_pred p k.1) (λ e. n (sym e))) refl

-- None has the predicate.
pub alias_none : (ks : List Binder) (d : DictName) (p : Pred) (x : Option Core) → first_of ks p ≡ none → aliased_as ks d p x ≡ x
unfolding aliased_as
alias_none [] d p x e = refl
alias_none (k ∷ ks) d p x e = go (same_pred k.1 p) (alias_none ks d p x)
  where
    go : Dec (k.1 ≡ p) → (first_of ks p ≡ none → aliased_as ks d p x ≡ x) → aliased_as ks d p (or_else (alias_to k (d, p)) x) ≡ x
    go (yes c) ih = absurd (let u = first_here k ks p c in let z : ◌≡◌ {A = ℕ} 0 1 = cc in omega arith)
    go (no n) ih = rw (alias_other k d p n) (ih (sym (first_there k ks p n) ∙ e))

-- One has it: the name becomes that binder's.
pub alias_some : {k : Binder} (ks : List Binder) (d : DictName) (p : Pred) → Apart ks → first_of ks p ≡ some k → or_core (cdict d) (aliased_as ks d p none) ≡ cdict k.0
unfolding aliased_as or_core
alias_some [] d p A e = absurd (let u = first_none p in let z : ◌≡◌ {A = ℕ} 0 1 = cc in omega arith)
alias_some {k} (c ∷ ks) d p A e = go (same_pred c.1 p) (alias_some ks d p A.1)
  where
    name : Dec (d ≡ c.0) → p ≡ c.1 → or_core (cdict d) (or_else (alias_to c (d, p)) none) ≡ cdict c.0
    name (yes i) s = rw (yes_is (same_pred p c.1) s, yes_is (same_dict d c.0) i) (ap cdict i)
    name (no n) s = rw (yes_is (same_pred p c.1) s, no_is (same_dict d c.0) n) refl

    go : Dec (c.1 ≡ p) → (first_of ks p ≡ some k → or_core (cdict d) (aliased_as ks d p none) ≡ cdict k.0) → or_core (cdict d) (aliased_as ks d p (or_else (alias_to c (d, p)) none)) ≡ cdict k.0
    go (yes i) ih =
        let u = first_here c ks p i in
        let v : c ≡ k = cc in
        rw (alias_none ks d p (or_else (alias_to c (d, p)) none) (rw i at A.0)) (name (same_dict d c.0) (sym i) ∙ ap (λ (b : Binder). cdict b.0) v)
    go (no n) ih = rw (alias_other c d p n) (ih (sym (first_there c ks p n) ∙ e))

-- ## Discharged predicates

-- The last one counts.
pub discharged_last : (os : List Discharged) (o : Discharged) (d : DictName) (p : Pred) (x : Option Core) → discharged_as (os ++ (o ∷ [])) d p x ≡ or_else (equal_to o (d, p)) (discharged_as os d p x)
unfolding discharged_as
discharged_last [] o d p x = refl
discharged_last (q ∷ os) o d p x = discharged_last os o d p (or_else (equal_to q (d, p)) x)
