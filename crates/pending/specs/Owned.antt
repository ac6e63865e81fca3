-- What `generalize_binding` does to binders after `reduce`: of equal predicates the first stays, and those that are not the
-- binding's own come first.
use Rattle.std.specs.Prelude.{◌≡◌, Bool, true, false, not, ◌||◌, List, [], ◌∷◌, ◌++◌, ℕ, ◌+◌, ◌*◌, ◌-◌, ◌<◌, ◌≤◌, get_or, Option, Some, None}
use Rattle.std.proofs.Math.Option.{Option as Maybe, none, some}
use Rattle.meaning.specs.Base.{is_yes, if, any, keep, first}
use Rattle.meaning.specs.Ast.{TyVar, dvar, Ty, var, con, arrow, Pred, pred, same_pred, Binder}
use Rattle.meaning.specs.Map.{tyvars, elem}
use Rattle.names.specs.Names.{Names, first_fresh, name_of}
use Rattle.ast.specs.Table.{tree, Node}
use Rattle.supers.specs.Rows.{row_at, binders_in, Binders}
use Rattle.scope.specs.Scope.{Scope}
use Rattle.supers.specs.declared.rows.Row.{Row}
use Rattle.supers.specs.declared.rows.Row.TheVariants.{Pending, Replaced}
use Rattle.terms.specs.Rows.{replaced_from}
use Rattle.pending.specs.Rows.{NumbersApart, Rotated}

-- ## Binders with equal predicates

-- The first of the binders with this predicate.
abbrev pub first_of : List Binder → Pred → Maybe Binder
first_of bs p = first (λ (b : Binder). is_yes (same_pred b.1 p)) bs

-- Some binder has this predicate.
abbrev pub holds : List Binder → Pred → Bool
holds bs p = any (λ (b : Binder). is_yes (same_pred b.1 p)) bs

-- One binder more, unless its predicate is there.
unfoldable pub add_first : List Binder → Binder → List Binder
add_first ks b = if (holds ks b.1) ks (ks ++ (b ∷ []))

-- The binders ks, and of others the first of each predicate that is not there yet.
unfoldable pub firsts_from : List Binder → List Binder → List Binder
firsts_from ks [] = ks
firsts_from ks (b ∷ bs) = firsts_from (add_first ks b) bs

-- Of binders with equal predicates the first, in order.
abbrev pub firsts : List Binder → List Binder
firsts bs = firsts_from [] bs

-- ## Binders of one's own: fs are the variables of the binding's type, es those of the environment

-- A type that is a variable: the binding's type has it or the environment has not. (Residual types are variables.)
unfoldable pub owns : List TyVar → List TyVar → Ty → Bool
owns fs es (var x) = elem tyvars x fs || not (elem tyvars x es)
owns fs es (con c ts) = true
owns fs es (arrow a b) = true

-- A binder that stays with the binding.
abbrev pub own_binder : List TyVar → List TyVar → Binder → Bool
own_binder fs es b = owns fs es b.1.ty

-- One that is deferred.
abbrev pub late_binder : List TyVar → List TyVar → Binder → Bool
late_binder fs es b = not (owns fs es b.1.ty)

-- The environment of the slices ev and od, the binding's type t, and the first n rows.
pub record ReadyOwn (ns w ev od bs : List ℕ) (top n t : ℕ) : Type 0 where
  pub names : Names ns
  pub scope : Scope ns w ev od top
  pub type : Node w top t
  pub binders : Binders w bs top n

-- ## The first row of a predicate

-- The binders os, and the dictionary's number of the first of them with the predicate p.
abbrev pub EarlierAs : List Binder → Pred → Option ℕ → Type 0
EarlierAs os p (Some d) = (first_of os p ≡ some (dvar d, p)) × (d < first_fresh)
EarlierAs os p None = first_of os p ≡ none

pub record FindsEarlier (os : List Binder) (p : Pred) (r : Option ℕ) : Type 0 where
  pub says : EarlierAs os p r

-- The word x replaces the dictionary of number d: it is that of the first binder with the predicate p, if p is the
-- binding's own, else the word of d itself.
pub record StandsIn (fs es : List TyVar) (os : List Binder) (p : Pred) (d x : ℕ) : Type 0 where
  pub number : ℕ
  pub small : number < first_fresh
  pub is : first_of os p ≡ some (dvar number, p)
  pub word : x ≡ first_fresh + if (owns fs es p.ty) number d

-- What becomes of a row after rows with the binders os: it stays if its predicate is not among them, else it is replaced.
abbrev pub Settled : List TyVar → List TyVar → List ℕ → List ℕ → List Binder → Row → Row → Type 0
Settled fs es ns w os (Pending d c t) (Pending d' c' t') = (Pending d' c' t' ≡ Pending d c t) × (first_of os (pred (name_of ns c) (tree ns w t)) ≡ none)
Settled fs es ns w os (Pending d c t) (Replaced d' x) = (d' ≡ d) × StandsIn fs es os (pred (name_of ns c) (tree ns w t)) d x
Settled fs es ns w os (Replaced d x) (Pending d' c' t') = ⊥
Settled fs es ns w os (Replaced d x) (Replaced d' x') = Replaced d' x' ≡ Replaced d x

-- Row i was settled, and all other words stand.
pub record GivesSettled (fs es : List TyVar) (ns w bs bs' : List ℕ) (i : ℕ) : Type 0 where
  pub row : Settled fs es ns w (binders_in ns w bs 0 i) (row_at bs i) (row_at bs' i)
  pub before : (j : ℕ) → j < 3 * i → get_or bs' j 0 ≡ get_or bs j 0
  pub behind : (j : ℕ) → 3 * i + 3 ≤ j → get_or bs' j 0 ≡ get_or bs j 0

-- What becomes of each row, os being all binders: one that stays is the first of its predicate.
abbrev pub Aliased : List TyVar → List TyVar → List ℕ → List ℕ → List Binder → Row → Row → Type 0
Aliased fs es ns w os (Pending d c t) (Pending d' c' t') = (Pending d' c' t' ≡ Pending d c t) × (first_of os (pred (name_of ns c) (tree ns w t)) ≡ some (dvar d, pred (name_of ns c) (tree ns w t)))
Aliased fs es ns w os (Pending d c t) (Replaced d' x) = (d' ≡ d) × StandsIn fs es os (pred (name_of ns c) (tree ns w t)) d x
Aliased fs es ns w os (Replaced d x) (Pending d' c' t') = ⊥
Aliased fs es ns w os (Replaced d x) (Replaced d' x') = Replaced d' x' ≡ Replaced d x

-- Of equal predicates the first row stays pending, and no word behind the first n rows changed.
pub record GivesAliased (fs es : List TyVar) (ns w bs bs' : List ℕ) (n : ℕ) : Type 0 where
  pub rows : (i : ℕ) → i < n → Aliased fs es ns w (binders_in ns w bs 0 n) (row_at bs i) (row_at bs' i)
  pub behind : (i : ℕ) → 3 * n ≤ i → get_or bs' i 0 ≡ get_or bs i 0
  pub is : binders_in ns w bs' 0 n ≡ firsts (binders_in ns w bs 0 n)

-- ## Deferred rows come first

-- The row is pending.
abbrev pub IsPending : Row → Type 0
IsPending (Pending d c t) = Unit {0}
IsPending (Replaced d x) = ⊥

-- The row is one of the first n rows of bs.
pub record Among (bs : List ℕ) (n : ℕ) (r : Row) : Type 0 where
  pub number : ℕ
  pub below : number < n
  pub is : row_at bs number ≡ r

-- Whether a row is pending and deferred.
abbrev pub late_row : List TyVar → List TyVar → List ℕ → List ℕ → Row → Bool
late_row fs es ns w (Pending d c t) = not (owns fs es (tree ns w t))
late_row fs es ns w (Replaced d x) = false

-- Row i moved to number nd, or nothing changed.
abbrev pub LateAs : List ℕ → List ℕ → ℕ → ℕ → ℕ → Bool → Type 0
LateAs bs bs' nd i r true = (r ≡ nd + 1) × Rotated bs bs' nd i
LateAs bs bs' nd i r false = (r ≡ nd) × (bs' ≡ bs)

pub record GivesLate (late : Bool) (bs bs' : List ℕ) (nd i r : ℕ) : Type 0 where
  pub says : LateAs bs bs' nd i r late

-- Of the first n rows the deferred ones came to the front, nd of them; all others follow, in their order.
pub record GivesDeferred (fs es : List TyVar) (ns w bs bs' : List ℕ) (n nd : ℕ) : Type 0 where
  pub most : nd ≤ n
  pub late : binders_in ns w bs' 0 nd ≡ keep (late_binder fs es) (binders_in ns w bs 0 n)
  pub own : binders_in ns w bs' nd n ≡ keep (own_binder fs es) (binders_in ns w bs 0 n)
  pub replaced : (ns₁ w₁ : List ℕ) → replaced_from ns₁ w₁ bs' nd (n - nd) ≡ replaced_from ns₁ w₁ bs 0 n
  pub front : (i : ℕ) → i < nd → IsPending (row_at bs' i)
  pub comes : (i : ℕ) → i < n → Among bs n (row_at bs' i)
  pub goes : (i : ℕ) → i < n → Among bs' n (row_at bs i)
  pub numbers : NumbersApart bs n → NumbersApart bs' n
  pub behind : (i : ℕ) → 3 * n ≤ i → get_or bs' i 0 ≡ get_or bs i 0
