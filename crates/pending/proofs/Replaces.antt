-- The rows after `reduce` and `alias_rows` replace names as the substitution of `generalize_binding` does.
use mathlib.Core.Path.{◌≡◌, refl, ap, sym, subst, ◌∙◌}
use mathlib.Core.Bool.{Bool, true, false, not}
use mathlib.Core.List.{List, []}
use mathlib.Core.Option.{Option, none, some}
use Prim.Native.Nat.{ℕ, ◌+◌, ◌-◌, ◌<◌}
use native.Mathlib.Omega.{arith}
use Rattle.meaning.specs.Base.{if, keep}
use Rattle.meaning.specs.Ast.{TyVar, DictName, dvar, Pred, pred, Core, cdict, Binder}
use Rattle.meaning.specs.Map.{dicts, get}
use Rattle.meaning.specs.Reduce.{Discharged, is_head_normal}
use Rattle.meaning.specs.Cores.{or_core}
use Rattle.meaning.specs.Generalize.{fill_discharged, fill_aliases, binders_of, is_own}
use Rattle.names.specs.Names.{first_fresh, name_of}
use Rattle.ast.specs.Table.{tree, Kept}
use Rattle.ast.proofs.Laws.{kept_tree}
use Rattle.cores.specs.Terms.{core}
use Rattle.cores.proofs.TermLaws.{dict_core}
use Rattle.supers.specs.Rows.{row_at, binders_in, HasWord, TypeIn, Binders}
use Rattle.supers.specs.declared.rows.Row.{Row}
use Rattle.supers.specs.declared.rows.Row.TheVariants.{Pending, Replaced}
use Rattle.supers.proofs.RowLaws.{kept_rows}
use Rattle.reduce.specs.Reduces.{discharged_in, residuals_in, Became}
use Rattle.terms.specs.Rows.{replaced_from}
use Rattle.pending.specs.Owned.{first_of, firsts, owns, own_binder, late_binder, IsPending, Aliased, GivesAliased}
use Rattle.pending.proofs.Firsts.{first_of_firsts}
use Rattle.pending.proofs.Aliases.{pick_small}
use Rattle.pending.proofs.Residuals.{StaysAs, waits_at_variable, first_kept, first_dropped, firsts_apart, keep_apart, left_rows, found_binders, found_variables, keep_own}
use Rattle.pending.proofs.Fills.{Distinct, discharged_as, aliased_as, filled_present, filled_absent, alias_none, alias_some}
use Rattle.pending.proofs.Means.{value_at, Valued, values, undischarged, FindsRow, discharged_row}

-- ## One row: `left` are the binders that `reduce` left, and os what it discharged

-- What a name with a predicate becomes.
abbrev value_of : List TyVar → List TyVar → List Binder → List Discharged → DictName → Pred → Core
value_of fs es left os d p = or_core (cdict d) (aliased_as (keep (own_binder fs es) (firsts left)) d p (discharged_as os d p none))

-- A predicate that is left: the first binder's name if it is one's own, else the name itself.
left_value : (fs es : List TyVar) (left : List Binder) (p : Pred) (f a : DictName) → first_of left p ≡ some (f, p) → or_core (cdict a) (aliased_as (keep (own_binder fs es) (firsts left)) a p none) ≡ cdict (if (owns fs es p.ty) f a)
unfolding or_core
left_value fs es left p f a h = go (owns fs es p.ty) refl
  where
    go : (b : Bool) → owns fs es p.ty ≡ b → or_core (cdict a) (aliased_as (keep (own_binder fs es) (firsts left)) a p none) ≡ cdict (if b f a)
    go true k =
        alias_some (keep (own_binder fs es) (firsts left)) a p (keep_apart (own_binder fs es) (firsts left) (firsts_apart [] left tt))
        (first_kept (own_binder fs es) (firsts left) p (λ b e. ap (λ (q : Pred). owns fs es q.ty) e ∙ k) ∙ first_of_firsts [] left p ∙ h)
    go false k = rw (alias_none (keep (own_binder fs es) (firsts left)) a p none (first_dropped (own_binder fs es) (firsts left) p (λ b e. ap (λ (q : Pred). owns fs es q.ty) e ∙ k))) refl

-- What a discharged row has.
abbrev DischargedRow : List ℕ → List ℕ → List ℕ → List Discharged → Row → Row → Type 0
DischargedRow ns w w' os (Pending d c t) (Pending d' c' t') = Unit {0}
DischargedRow ns w w' os (Pending d c t) (Replaced d' e) = (a : DictName) → discharged_as os a (pred (name_of ns c) (tree ns w t)) none ≡ some (core ns w' e)
DischargedRow ns w w' os (Replaced d x) r = Unit {0}

module _ (fs es : List TyVar) (ns w w' : List ℕ) {top : ℕ} (left : List Binder) (os : List Discharged) (K : Kept w w' top)
    (gone : (p : Pred) → is_head_normal p.ty ≡ false → first_of left p ≡ none) (stay : (d : DictName) (p : Pred) → is_head_normal p.ty ≡ true → discharged_as os d p none ≡ none) where
  -- A row that `reduce` left.
  value_left : (d c t : ℕ) (r'' : Row) → TypeIn w top (Pending d c t) → d < first_fresh → is_head_normal (tree ns w t) ≡ true → Aliased fs es ns w' left (Pending d c t) r'' → Valued (value_of fs es left os) ns w w' (Pending d c t) r''
  value_left d c t (Pending d'' c'' t'') N small h A =
      let te = kept_tree ns K N in
      let f : first_of left (pred (name_of ns c) (tree ns w t)) ≡ some (dvar d, pred (name_of ns c) (tree ns w t)) = rw te at A.1 in
      (number A.0, sym (rw (stay (dvar d) (pred (name_of ns c) (tree ns w t)) h) (left_value fs es left (pred (name_of ns c) (tree ns w t)) (dvar d) (dvar d) f) ∙ either (owns fs es (tree ns w t))))
    where
      number : Pending d'' c'' t'' ≡ Pending d c t → d'' ≡ d
      number e = cc

      either : (b : Bool) → cdict (if b (dvar d) (dvar d)) ≡ cdict (dvar d)
      either true = refl
      either false = refl
  value_left d c t (Replaced d'' x) N small h A =
      let te = kept_tree ns K N in
      let f : first_of left (pred (name_of ns c) (tree ns w t)) ≡ some (dvar A.1.number, pred (name_of ns c) (tree ns w t)) = rw te at A.1.is in
      let y : x ≡ first_fresh + if (owns fs es (tree ns w t)) A.1.number d = rw te at A.1.word in
      (A.0, rw (y, stay (dvar d) (pred (name_of ns c) (tree ns w t)) h) (dict_core ns w' (if (owns fs es (tree ns w t)) A.1.number d) (pick_small (owns fs es (tree ns w t)) A.1.number d first_fresh refl A.1.small small) ∙ within (owns fs es (tree ns w t)) A.1.number ∙ sym (left_value fs es left (pred (name_of ns c) (tree ns w t)) (dvar A.1.number) (dvar d) f)))
    where
      within : (b : Bool) (m : ℕ) → cdict (dvar (if b m d)) ≡ cdict (if b (dvar m) (dvar d))
      within true m = refl
      within false m = refl

  -- Any row.
  row_valued : (w₁ : List ℕ) (top₁ : ℕ) (r r' r'' : Row) → TypeIn w top r → HasWord r → IsPending r → Became w₁ top₁ r r' → StaysAs ns w r r' → Aliased fs es ns w' left r' r'' → DischargedRow ns w w' os r r'
      → Valued (value_of fs es left os) ns w w' r r''
  unfolding or_core
  row_valued w₁ top₁ (Pending d c t) (Pending d' c' t') r'' N small P b s A D = value_left d c t r'' N small s (subst (λ z. Aliased fs es ns w' left z r'') b A)
  row_valued w₁ top₁ (Pending d c t) (Replaced d' e) (Pending d'' c'' t'') N small P b s A D = absurd A
  row_valued w₁ top₁ (Pending d c t) (Replaced d' e) (Replaced d'' x) N small P b s A D =
      (number A b.0, ap (core ns w') (word A) ∙ sym (rw (alias_none (keep (own_binder fs es) (firsts left)) (dvar d) (pred (name_of ns c) (tree ns w t)) (discharged_as os (dvar d) (pred (name_of ns c) (tree ns w t)) none) nowhere, D (dvar d)) refl))
    where
      number : Replaced d'' x ≡ Replaced d' e → d' ≡ d → d'' ≡ d
      number k l = cc

      word : Replaced d'' x ≡ Replaced d' e → x ≡ e
      word k = cc

      nowhere : first_of (keep (own_binder fs es) (firsts left)) (pred (name_of ns c) (tree ns w t)) ≡ none
      nowhere = go (owns fs es (tree ns w t)) refl
        where
          go : (o : Bool) → owns fs es (tree ns w t) ≡ o → first_of (keep (own_binder fs es) (firsts left)) (pred (name_of ns c) (tree ns w t)) ≡ none
          go true k = first_kept (own_binder fs es) (firsts left) (pred (name_of ns c) (tree ns w t)) (λ z q. ap (λ (p : Pred). owns fs es p.ty) q ∙ k) ∙ first_of_firsts [] left (pred (name_of ns c) (tree ns w t)) ∙ gone (pred (name_of ns c) (tree ns w t)) s
          go false k = first_dropped (own_binder fs es) (firsts left) (pred (name_of ns c) (tree ns w t)) (λ z q. ap (λ (p : Pred). owns fs es p.ty) q ∙ k)
  row_valued w₁ top₁ (Replaced d x) r' r'' N small P b s A D = absurd P

-- ## All rows

-- The rows before and after `reduce`, over w and w': all were pending at types of the table, and one is pending afterwards if its
-- type is a variable, and only then.
pub record Reduction (ns w w' bs bs' : List ℕ) (top top' n : ℕ) : Type 0 where
  pub kept : Kept w w' top
  pub rows : Binders w bs top n
  pub pending : (i : ℕ) → i < n → IsPending (row_at bs i)
  pub became : (i : ℕ) → i < n → Became w' top' (row_at bs i) (row_at bs' i)
  pub stays : (i : ℕ) → i < n → StaysAs ns w (row_at bs i) (row_at bs' i)

-- The type of a row that was left.
became_type : (w w' : List ℕ) (top top' : ℕ) (r r' : Row) → Became w' top' r r' → TypeIn w top r → TypeIn w top r'
became_type w w' top top' (Pending d c t) (Pending d' c' t') b N = subst (TypeIn w top) (sym b) N
became_type w w' top top' (Pending d c t) (Replaced d' e) b N = tt
became_type w w' top top' (Replaced d x) (Pending d' c' t') b N = absurd b
became_type w w' top top' (Replaced d x) (Replaced d' e) b N = tt

module _ {ns w w' bs bs' : List ℕ} {top top' n : ℕ} (R : Reduction ns w w' bs bs' top top' n) where
  -- What `reduce` left, over both.
  left_same : binders_in ns w' bs' 0 n ≡ binders_in ns w bs' 0 n
  left_same = kept_rows ns bs' R.kept 0 (n - 0) (λ i p q. became_type w w' top top' (row_at bs i) (row_at bs' i) (R.became i (omega arith)) (R.rows.types i (omega arith)))

  -- The binders that `generalize_binding` finds.
  pub residual_binders : binders_of (residuals_in ns w bs bs' n) (binders_in ns w bs 0 n) ≡ firsts (binders_in ns w' bs' 0 n)
  residual_binders = found_binders ns w w' bs bs' top' n R.became R.stays ∙ ap firsts (sym left_same)

  -- Those of its own.
  pub own_binders : (fs es : List TyVar) → keep (is_own fs es) (binders_of (residuals_in ns w bs bs' n) (binders_in ns w bs 0 n)) ≡ keep (own_binder fs es) (firsts (binders_in ns w' bs' 0 n))
  own_binders fs es =
      ap (keep (is_own fs es)) (found_binders ns w w' bs bs' top' n R.became R.stays)
      ∙ keep_own fs es (λ b. b) (firsts (binders_in ns w bs' 0 n)) (found_variables ns w w' bs bs' top' n R.became R.stays)
      ∙ ap (λ os. keep (own_binder fs es) (firsts os)) (sym left_same)

  -- Those that it defers.
  pub late_binders : (fs es : List TyVar) → keep (λ b. not (is_own fs es b)) (binders_of (residuals_in ns w bs bs' n) (binders_in ns w bs 0 n)) ≡ keep (late_binder fs es) (firsts (binders_in ns w' bs' 0 n))
  late_binders fs es =
      ap (keep (λ b. not (is_own fs es b))) (found_binders ns w w' bs bs' top' n R.became R.stays)
      ∙ keep_own fs es not (firsts (binders_in ns w bs' 0 n)) (found_variables ns w w' bs bs' top' n R.became R.stays)
      ∙ ap (λ os. keep (late_binder fs es) (firsts os)) (sym left_same)

  -- A predicate at no variable is not left.
  not_left : (p : Pred) → is_head_normal p.ty ≡ false → first_of (binders_in ns w' bs' 0 n) p ≡ none
  not_left p h =
      rw (left_same, left_rows ns w w' bs bs' top' 0 (n - 0) (λ i a b. R.became i (omega arith)) (λ i a b. R.stays i (omega arith)))
      (first_dropped waits_at_variable (binders_in ns w bs 0 n) p (λ b e. ap (λ (q : Pred). is_head_normal q.ty) e ∙ h))

  -- Equal predicates have equal dictionaries: `Finds` says which is found for which.
  module _ (Finds : Pred → Core → Type 0) (steady : (p : Pred) (e e' : Core) → Finds p e → Finds p e' → e ≡ e') (finds : (i : ℕ) → i < n → FindsRow Finds steady ns w w' (row_at bs i) (row_at bs' i)) where
    -- What each row has.
    row_has : (i : ℕ) → i < n → (r r' : Row) → row_at bs i ≡ r → row_at bs' i ≡ r' → DischargedRow ns w w' (discharged_in ns w w' bs bs' n) r r'
    row_has i h (Pending d c t) (Pending d' c' t') a b = tt
    row_has i h (Pending d c t) (Replaced d' e) a b = λ x. discharged_row Finds steady ns w w' bs bs' x i n h a b finds
    row_has i h (Replaced d x) r' a b = tt

    -- After `alias_rows` each name becomes what the definition's substitution makes of it.
    pub replaces : {bs'' : List ℕ} {fs es : List TyVar} → GivesAliased fs es ns w' bs' bs'' n → Distinct (binders_in ns w bs 0 n) → (d : DictName)
        → or_core (cdict d) (get dicts d (fill_aliases (keep (is_own fs es) (binders_of (residuals_in ns w bs bs' n) (binders_in ns w bs 0 n))) (binders_in ns w bs 0 n) (fill_discharged (discharged_in ns w w' bs bs' n) (binders_in ns w bs 0 n) [])))
        ≡ or_core (cdict d) (get dicts d (replaced_from ns w' bs'' 0 n))
    unfolding or_core
    replaces {bs''} {fs} {es} A D d = rw (own_binders fs es) (go (get dicts d (binders_in ns w bs 0 n)) refl) ∙ sym (ap (λ k. or_core (cdict d) (get dicts d (replaced_from ns w' bs'' 0 k))) (sym zero_less) ∙ all)
      where
        zero_less : n - 0 ≡ n
        zero_less = omega arith

        all : or_core (cdict d) (get dicts d (replaced_from ns w' bs'' 0 (n - 0))) ≡ value_at (value_of fs es (binders_in ns w' bs' 0 n) (discharged_in ns w w' bs bs' n)) d (get dicts d (binders_in ns w bs 0 n))
        all = values (value_of fs es (binders_in ns w' bs' 0 n) (discharged_in ns w w' bs bs' n)) ns w w' bs bs'' d 0 (n - 0)
            (λ i p q. row_valued fs es ns w w' (binders_in ns w' bs' 0 n) (discharged_in ns w w' bs bs' n) R.kept not_left (λ a b h. undischarged ns w w' bs bs' a b n h R.stays) w' top' (row_at bs i) (row_at bs' i) (row_at bs'' i)
            (R.rows.types i (omega arith)) (R.rows.rows.dicts i (omega arith)) (R.pending i (omega arith)) (R.became i (omega arith)) (R.stays i (omega arith)) (A.rows i (omega arith)) (row_has i (omega arith) (row_at bs i) (row_at bs' i) refl refl))
            D

        go : (o : Option Pred) → get dicts d (binders_in ns w bs 0 n) ≡ o
            → or_core (cdict d) (get dicts d (fill_aliases (keep (own_binder fs es) (firsts (binders_in ns w' bs' 0 n))) (binders_in ns w bs 0 n) (fill_discharged (discharged_in ns w w' bs bs' n) (binders_in ns w bs 0 n) [])))
            ≡ value_at (value_of fs es (binders_in ns w' bs' 0 n) (discharged_in ns w w' bs bs' n)) d (get dicts d (binders_in ns w bs 0 n))
        go none e = rw (e, filled_absent d (binders_in ns w bs 0 n) (keep (own_binder fs es) (firsts (binders_in ns w' bs' 0 n))) (discharged_in ns w w' bs bs' n) e) refl
        go (some p) e = rw (filled_present d (binders_in ns w bs 0 n) D e (keep (own_binder fs es) (firsts (binders_in ns w' bs' 0 n))) (discharged_in ns w w' bs bs' n), e) refl
