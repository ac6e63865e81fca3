-- Laws of what rows replace: the loop that looks for a row, and what it finds.
use mathlib.Core.Path.{◌≡◌, refl, ap, sym, ◌∙◌}
use mathlib.Core.List.{List}
use mathlib.Core.Option.{none, some}
use Prim.Native.Nat.{ℕ, zero, suc, ◌+◌, ◌-◌, ◌<◌, ◌≤◌}
use native.Mathlib.Omega.{arith}
use native.Mathlib.Decide.{ℕ_discrete}
use native.Mathlib.Numerals.{add-one}
use Rattle.meaning.specs.Base.{if, eqb, is_yes}
use Rattle.meaning.specs.Ast.{Name, DictName, dvar, ctx, self, same_dict, Core, cdict}
use Rattle.meaning.specs.Map.{Map, dicts, get}
use Rattle.meaning.specs.Cores.{or_core}
use Rattle.ast.specs.Table.{Table, Node, Kept}
use Rattle.ast.proofs.Laws.{node_more}
use Rattle.cores.specs.Terms.{core}
use Rattle.cores.proofs.TermLaws.{kept_core}
use Rattle.supers.specs.Rows.{row_at}
use Rattle.supers.specs.declared.rows.Row.{Row}
use Rattle.supers.specs.declared.rows.Row.TheVariants.{Pending, Replaced}
use Rattle.terms.specs.Rows.{with_replaced, replaced_from, replaced_in, row_for, or_word, replacement_from, replacement_in, TermIn, Replacing}
use Rattle.std.specs.Prelude.{Option, Some, None}

-- ## One row: q is what `row_at` returned

module _ (bs : List ℕ) (j d : ℕ) {q : Row} (e : q ≡ row_at bs j) where
  -- A pending row replaces nothing.
  pub for_none : {c a t : ℕ} → q ≡ Pending c a t → None ≡ row_for (row_at bs j) d
  for_none k = rw (sym e ∙ k)

  -- It replaces the dictionary of its own number.
  pub for_this : {c x : ℕ} → q ≡ Replaced c x → c ≡ d → Some x ≡ row_for (row_at bs j) d
  unfolding eqb
  for_this {c} {x} k h = rw (sym e ∙ k) (go (ℕ_discrete c d))
    where
      go : (t : Dec (c ≡ d)) → Some x ≡ if (is_yes t) (Some x) None
      go (yes p) = refl
      go (no n) = absurd (n h)

  -- And no other.
  pub for_other : {c x : ℕ} → q ≡ Replaced c x → (c ≡ d → ⊥) → None ≡ row_for (row_at bs j) d
  unfolding eqb
  for_other {c} {x} k h = rw (sym e ∙ k) (go (ℕ_discrete c d))
    where
      go : (t : Dec (c ≡ d)) → None ≡ if (is_yes t) (Some x) None
      go (yes p) = absurd (h p)
      go (no n) = refl

-- ## The rows one after the other

-- The rows from j on are row j and those after it.
replacement_step : (bs : List ℕ) (j n d e : ℕ) → j < n → replacement_in bs j n d e ≡ or_word (row_for (row_at bs j) d) (replacement_in bs (suc j) n d e)
unfolding replacement_from
replacement_step bs j n d e h = let z : n - j ≡ suc (n - suc j) = omega arith in rw z

-- None of the rows up to j is for the number d.
pub record Looking (bs : List ℕ) (n d e j : ℕ) : Type 0 where
  pub is : replacement_in bs 0 n d e ≡ replacement_in bs j n d e

-- At first there is none.
pub looking : (bs : List ℕ) (n d e : ℕ) → Looking bs n d e 0
looking bs n d e = record { is = refl }

module _ {bs : List ℕ} {n d e j : ℕ} (L : Looking bs n d e j) where
  -- There are no more rows.
  pub looked_all : n ≤ j → e ≡ replacement_in bs 0 n d e
  unfolding replacement_from
  looked_all h = let z : n - j ≡ 0 = omega arith in sym (L.is ∙ rw z)

  module _ {f : Option ℕ} (h : j < n) (i : f ≡ row_for (row_at bs j) d) where
    -- Row j is for the number.
    pub looked_at : {x : ℕ} → f ≡ Some x → x ≡ replacement_in bs 0 n d e
    looked_at k = sym (L.is ∙ replacement_step bs j n d e h ∙ rw (sym i ∙ k))

    -- It is not.
    pub looked_on : f ≡ None → Looking bs n d e (j + 1)
    looked_on k = record { is = L.is ∙ replacement_step bs j n d e h ∙ rw (sym i ∙ k, add-one j) }

-- ## What is found

-- The map has for a dictionary's name what the first row has that is for its number.
or_row : (ns w : List ℕ) (d : ℕ) (q : Row) (sub : Map DictName Core) (y : ℕ) → or_core (cdict (dvar d)) (get dicts (dvar d) sub) ≡ core ns w y
    → or_core (cdict (dvar d)) (get dicts (dvar d) (with_replaced ns w q sub)) ≡ core ns w (or_word (row_for q d) y)
unfolding get eqb or_core
or_row ns w d (Pending c a t) sub y ih = ih
or_row ns w d (Replaced c x) sub y ih = go (same_dict (dvar d) (dvar c)) (ℕ_discrete c d)
  where
    go : (p : Dec (dvar d ≡ dvar c)) (t : Dec (c ≡ d)) → or_core (cdict (dvar d)) (if (is_yes p) (some (core ns w x)) (get dicts (dvar d) sub)) ≡ core ns w (or_word (if (is_yes t) (Some x) None) y)
    go (yes p) (yes t) = refl
    go (yes p) (no t) = absurd (t (cc))
    go (no p) (yes t) = absurd (p (ap dvar (sym t)))
    go (no p) (no t) = ih

-- So of k rows.
or_rows : (ns w bs : List ℕ) (d e : ℕ) → core ns w e ≡ cdict (dvar d) → (j k : ℕ) → or_core (cdict (dvar d)) (get dicts (dvar d) (replaced_from ns w bs j k)) ≡ core ns w (replacement_from bs j k d e)
unfolding replaced_from replacement_from get or_core
or_rows ns w bs d e h j zero = sym h
or_rows ns w bs d e h j (suc k) = or_row ns w d (row_at bs j) (replaced_from ns w bs (suc j) k) (replacement_from bs (suc j) k d e) (or_rows ns w bs d e h (suc j) k)

-- And of the first n.
pub or_found : (ns w bs : List ℕ) (n d e : ℕ) {m : ℕ} → core ns w e ≡ cdict (dvar d) → m ≡ replacement_in bs 0 n d e → or_core (cdict (dvar d)) (get dicts (dvar d) (replaced_in ns w bs n)) ≡ core ns w m
or_found ns w bs n d e h i = or_rows ns w bs d e h 0 n ∙ rw i (let z : n - 0 ≡ n = omega arith in rw z)

-- A name that has no number is not replaced.
other_row : (ns w : List ℕ) (x : DictName) → ((d : ℕ) → x ≡ dvar d → ⊥) → (q : Row) (sub : Map DictName Core) → get dicts x sub ≡ none → get dicts x (with_replaced ns w q sub) ≡ none
unfolding get
other_row ns w x n (Pending c a t) sub h = h
other_row ns w x n (Replaced c y) sub h = go (same_dict x (dvar c))
  where
    go : (p : Dec (x ≡ dvar c)) → if (is_yes p) (some (core ns w y)) (get dicts x sub) ≡ none
    go (yes p) = absurd (n c p)
    go (no p) = h

-- By no row.
other_rows : (ns w bs : List ℕ) (x : DictName) → ((d : ℕ) → x ≡ dvar d → ⊥) → (j k : ℕ) → get dicts x (replaced_from ns w bs j k) ≡ none
unfolding replaced_from get
other_rows ns w bs x n j zero = refl
other_rows ns w bs x n j (suc k) = other_row ns w x n (row_at bs j) (replaced_from ns w bs (suc j) k) (other_rows ns w bs x n (suc j) k)

-- So `self` stays.
pub or_self : (ns w bs : List ℕ) (n : ℕ) → or_core (cdict self) (get dicts self (replaced_in ns w bs n)) ≡ cdict self
unfolding or_core
or_self ns w bs n = rw (other_rows ns w bs self (λ d e. let z : ◌≡◌ {A = ℕ} 0 1 = cc in omega arith) 0 n)

-- And so does a context's name.
pub or_context : (ns w bs : List ℕ) (n : ℕ) (c : Name) (i : ℕ) → or_core (cdict (ctx c i)) (get dicts (ctx c i) (replaced_in ns w bs n)) ≡ cdict (ctx c i)
unfolding or_core
or_context ns w bs n c i = rw (other_rows ns w bs (ctx c i) (λ d e. let z : ◌≡◌ {A = ℕ} 0 1 = cc in omega arith) 0 n)

-- ## What is found lies in the table, and stands with it

-- By one row.
found_in : {w : List ℕ} {top y : ℕ} (d : ℕ) (q : Row) → TermIn w top q → Node w top y → Node w top (or_word (row_for q d) y)
unfolding eqb
found_in d (Pending c a t) h Y = Y
found_in {w} {top} {y} d (Replaced c x) h Y = go (ℕ_discrete c d)
  where
    go : (t : Dec (c ≡ d)) → Node w top (or_word (if (is_yes t) (Some x) None) y)
    go (yes p) = h
    go (no p) = Y

-- By k rows.
found_rows : {w : List ℕ} {top e : ℕ} (bs : List ℕ) (d j k : ℕ) → ((i : ℕ) → j ≤ i → i < j + k → TermIn w top (row_at bs i)) → Node w top e → Node w top (replacement_from bs j k d e)
unfolding replacement_from
found_rows bs d j zero h E = E
found_rows bs d j (suc k) h E = found_in d (row_at bs j) (h j (omega arith) (omega arith)) (found_rows bs d (suc j) k (λ i p q. h i (omega arith) (omega arith)) E)

-- By the first n.
pub found_node : {w bs : List ℕ} {top n e m : ℕ} (d : ℕ) → Replacing w bs top n → Node w top e → m ≡ replacement_in bs 0 n d e → Node w top m
found_node {bs = bs} {n = n} d R E i = rw i (found_rows bs d 0 (n - 0) (λ j p q. R.terms j (omega arith)) E)

-- One row under words that keep the table.
kept_row : {w w' : List ℕ} {top : ℕ} (ns : List ℕ) (q : Row) (sub : Map DictName Core) → Kept w w' top → TermIn w top q → with_replaced ns w' q sub ≡ with_replaced ns w q sub
kept_row ns (Pending c a t) sub K N = refl
kept_row ns (Replaced c x) sub K N = rw (kept_core ns K N)

-- Some of them.
kept_from : {w w' : List ℕ} {top : ℕ} (ns bs : List ℕ) → Kept w w' top → (j k : ℕ) → ((i : ℕ) → j ≤ i → i < j + k → TermIn w top (row_at bs i)) → replaced_from ns w' bs j k ≡ replaced_from ns w bs j k
unfolding replaced_from
kept_from ns bs K j zero h = refl
kept_from {w} {w'} ns bs K j (suc k) h =
    ap (with_replaced ns w' (row_at bs j)) (kept_from ns bs K (suc j) k (λ i p q. h i (omega arith) (omega arith)))
    ∙ kept_row ns (row_at bs j) (replaced_from ns w bs (suc j) k) K (h j (omega arith) (omega arith))

-- What the first n rows replace stands where the table does.
pub kept_replaced : {w w' bs : List ℕ} {top n : ℕ} (ns : List ℕ) → Kept w w' top → Replacing w bs top n → replaced_in ns w' bs n ≡ replaced_in ns w bs n
kept_replaced {bs = bs} {n = n} ns K R = kept_from ns bs K 0 n (λ i p q. R.terms i (omega arith))

-- One row's term in a larger table.
more_row : (w : List ℕ) {w' : List ℕ} (top : ℕ) {top' : ℕ} (q : Row) → Table w' top' → top ≤ top' → TermIn w top q → TermIn w' top' q
more_row w top (Pending c a t) T h N = tt
more_row w top (Replaced c x) T h N = node_more T h N

-- The rows over a larger table.
pub more_replacing : {w w' bs : List ℕ} {top top' n : ℕ} → Table w' top' → top ≤ top' → Replacing w bs top n → Replacing w' bs top' n
more_replacing {w = w} {bs = bs} {top = top} T h R = record { fits = R.fits; terms = λ j l. more_row w top (row_at bs j) T h (R.terms j l) }
