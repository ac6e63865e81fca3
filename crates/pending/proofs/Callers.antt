-- What a caller of `reduce`, `alias_rows` and `defer_rows` knows of the rows after each: they stand for binders, those that are
-- pending are in their bounds, and what replaces the others are words of the table.
use mathlib.Core.Path.{◌≡◌, refl, ap, sym, subst, ◌∙◌}
use mathlib.Core.List.{List}
use mathlib.Core.Option.{none}
use Prim.Native.Nat.{ℕ, zero, suc, ◌+◌, ◌*◌, ◌-◌, ◌<◌, ◌≤◌}
use native.Mathlib.Omega.{arith}
use lib.ListN.{length}
use Rattle.meaning.specs.Ast.{TyVar, dvar, pred, Binder}
use Rattle.meaning.specs.Map.{dicts, get}
use Rattle.theorems.proofs.Maps.{get_cons_other}
use Rattle.names.specs.Names.{first_fresh, name_of}
use Rattle.ast.specs.Table.{tree, Table}
use Rattle.ast.proofs.Laws.{node_more}
use Rattle.supers.specs.Rows.{row_at, with_row, binders_from, binders_in, HasWord, TypeIn, Binders}
use Rattle.supers.specs.declared.rows.Row.{Row}
use Rattle.supers.specs.declared.rows.Row.TheVariants.{Pending, Replaced}
use Rattle.reduce.specs.Reduces.{Became}
use Rattle.terms.specs.Rows.{TermIn}
use Rattle.pending.specs.Rows.{PendingRow, PendingRows, number_of, NumbersApart}
use Rattle.pending.specs.Owned.{owns, IsPending, Aliased, GivesAliased, GivesDeferred}
use Rattle.pending.proofs.Aliases.{pick_small}
use Rattle.pending.proofs.Fills.{Distinct}

-- A row in its bounds: a pending one is as inference made it, and what replaces another is a word of the table.
abbrev pub Sound : List ℕ → ℕ → Row → Type 0
Sound w top (Pending d c t) = PendingRow w top (Pending d c t)
Sound w top (Replaced d x) = TermIn w top (Replaced d x)

-- Its dictionary has a word, and its type is one of the table.
sound_word : (w : List ℕ) (top : ℕ) (r : Row) → Sound w top r → HasWord r
sound_word w top (Pending d c t) S = let x = S.0 in omega arith
sound_word w top (Replaced d x) S = tt

sound_type : (w : List ℕ) (top : ℕ) (r : Row) → Sound w top r → TypeIn w top r
sound_type w top (Pending d c t) S = S.1.1
sound_type w top (Replaced d x) S = tt

-- All of the first n rows are.
pub record SoundRows (w bs : List ℕ) (top n : ℕ) : Type 0 where
  pub fits : 3 * n ≤ length bs
  pub each : (i : ℕ) → i < n → Sound w top (row_at bs i)

-- So they stand for binders.
pub sound_binders : {w bs : List ℕ} {top n : ℕ} → SoundRows w bs top n → Binders w bs top n
sound_binders {w} {bs} {top} S = record {
  rows = record { fits = S.fits; dicts = λ i h. sound_word w top (row_at bs i) (S.each i h) };
  types = λ i h. sound_type w top (row_at bs i) (S.each i h);
}

-- A pending row of inference is sound.
pending_sound : (w : List ℕ) (top : ℕ) (r : Row) → PendingRow w top r → Sound w top r
pending_sound w top (Pending d c t) P = P
pending_sound w top (Replaced d x) P = absurd P

-- And is pending.
pending_is : (w : List ℕ) (top : ℕ) (r : Row) → PendingRow w top r → IsPending r
pending_is w top (Pending d c t) P = tt
pending_is w top (Replaced d x) P = P

-- A sound row that is pending is one of inference.
sound_pending : (w : List ℕ) (top : ℕ) (r : Row) → Sound w top r → IsPending r → PendingRow w top r
sound_pending w top (Pending d c t) S p = S
sound_pending w top (Replaced d x) S p = p

-- Rows of inference, before anything was done to them.
pub pending_rows_sound : {w bs : List ℕ} {top n : ℕ} → PendingRows w bs top n → SoundRows w bs top n
pending_rows_sound {w} {bs} {top} P = record { fits = P.fits; each = λ i h. pending_sound w top (row_at bs i) (P.each i h) }

pub pending_rows_are : {w bs : List ℕ} {top n : ℕ} → PendingRows w bs top n → (i : ℕ) → i < n → IsPending (row_at bs i)
pending_rows_are {w} {bs} {top} P i h = pending_is w top (row_at bs i) (P.each i h)

-- ## After `reduce`

became_sound : {w' : List ℕ} {top' : ℕ} (w : List ℕ) (top : ℕ) (r r' : Row) → Table w' top' → top ≤ top' → Became w' top' r r' → PendingRow w top r → Sound w' top' r'
became_sound {w'} {top'} w top (Pending d c t) (Pending d' c' t') T m b P = subst (Sound w' top') (sym b) (P.0, (P.1.0, node_more T m P.1.1))
became_sound w top (Pending d c t) (Replaced d' e) T m b P = b.1
became_sound w top (Replaced d x) r' T m b P = absurd P

pub reduced_sound : {w w' bs bs' : List ℕ} {top top' n : ℕ} → PendingRows w bs top n → Table w' top' → top ≤ top' → length bs' ≡ length bs → ((i : ℕ) → i < n → Became w' top' (row_at bs i) (row_at bs' i)) → SoundRows w' bs' top' n
reduced_sound {w} {w'} {bs} {bs'} {top} {top'} P T m l b = record {
  fits = (let f = P.fits in omega arith);
  each = λ i h. became_sound w top (row_at bs i) (row_at bs' i) T m (b i h) (P.each i h);
}

-- ## After `alias_rows`

alias_sound : {top : ℕ} (fs es : List TyVar) (ns w : List ℕ) (os : List Binder) (r r' : Row) → Table w top → Aliased fs es ns w os r r' → Sound w top r → Sound w top r'
alias_sound {top} fs es ns w os (Pending d c t) (Pending d' c' t') T A S = subst (Sound w top) (sym A.0) S
alias_sound {top} fs es ns w os (Pending d c t) (Replaced d' x) T A S =
    let e = A.1.word in let p = S.0 in
    let y = pick_small (owns fs es (tree ns w t)) A.1.number d first_fresh refl A.1.small (omega arith) in
    record { table = T; below = omega arith }
alias_sound fs es ns w os (Replaced d x) (Pending d' c' t') T A S = absurd A
alias_sound {top} fs es ns w os (Replaced d x) (Replaced d' x') T A S = subst (Sound w top) (sym A) S

pub aliased_sound : {fs es : List TyVar} {ns w bs bs' : List ℕ} {top n : ℕ} → SoundRows w bs top n → Table w top → length bs' ≡ length bs → GivesAliased fs es ns w bs bs' n → SoundRows w bs' top n
aliased_sound {fs} {es} {ns} {w} {bs} {bs'} {top} {n} S T l A = record {
  fits = (let f = S.fits in omega arith);
  each = λ i h. alias_sound fs es ns w (binders_in ns w bs 0 n) (row_at bs i) (row_at bs' i) T (A.rows i h) (S.each i h);
}

-- ## After `defer_rows`

module _ {fs es : List TyVar} {ns w bs bs' : List ℕ} {top n nd : ℕ} (S : SoundRows w bs top n) (l : length bs' ≡ length bs) (D : GivesDeferred fs es ns w bs bs' n nd) where
  -- All rows.
  pub deferred_sound : SoundRows w bs' top n
  deferred_sound = record {
    fits = (let f = S.fits in omega arith);
    each = λ i h. let a = D.comes i h in subst (Sound w top) a.is (S.each a.number a.below);
  }

  -- The deferred ones are pending.
  pub deferred_pending : PendingRows w bs' top nd
  deferred_pending = record {
    fits = (let f = S.fits in let m = D.most in omega arith);
    each = λ i h. let m = D.most in sound_pending w top (row_at bs' i) (deferred_sound.each i (omega arith)) (D.front i h);
  }

-- ## Numbers

-- Rows that keep their numbers.
pub numbers_kept : {bs bs' : List ℕ} {n : ℕ} → ((i : ℕ) → i < n → number_of (row_at bs' i) ≡ number_of (row_at bs i)) → NumbersApart bs n → NumbersApart bs' n
numbers_kept k N = record { apart = λ i j p q e. N.apart i j p q (sym (k i p) ∙ e ∙ k j q) }

-- So does `reduce`,
pub became_number : (w' : List ℕ) (top' : ℕ) (r r' : Row) → Became w' top' r r' → number_of r' ≡ number_of r
became_number w' top' (Pending d c t) (Pending d' c' t') b = ap number_of b
became_number w' top' (Pending d c t) (Replaced d' e) b = b.0
became_number w' top' (Replaced d x) (Pending d' c' t') b = absurd b
became_number w' top' (Replaced d x) (Replaced d' e) b = ap number_of b

-- and so does `alias_rows`.
pub aliased_number : (fs es : List TyVar) (ns w : List ℕ) (os : List Binder) (r r' : Row) → Aliased fs es ns w os r r' → number_of r' ≡ number_of r
aliased_number fs es ns w os (Pending d c t) (Pending d' c' t') A = ap number_of A.0
aliased_number fs es ns w os (Pending d c t) (Replaced d' x) A = A.0
aliased_number fs es ns w os (Replaced d x) (Pending d' c' t') A = absurd A
aliased_number fs es ns w os (Replaced d x) (Replaced d' x') A = ap number_of A

-- Rows with other numbers have not the name.
absent_name : (ns w bs : List ℕ) (d j k : ℕ) → ((i : ℕ) → j ≤ i → i < j + k → number_of (row_at bs i) ≡ d → ⊥) → get dicts (dvar d) (binders_from ns w bs j k) ≡ none
unfolding binders_from get
absent_name ns w bs d j zero h = refl
absent_name ns w bs d j (suc k) h = go (row_at bs j) refl (absent_name ns w bs d (suc j) k (λ i p q. h i (omega arith) (omega arith)))
  where
    go : (r : Row) → row_at bs j ≡ r → get dicts (dvar d) (binders_from ns w bs (suc j) k) ≡ none → get dicts (dvar d) (with_row ns w r (binders_from ns w bs (suc j) k)) ≡ none
    go (Pending e c t) m ih = get_cons_other dicts (dvar d) (dvar e) (pred (name_of ns c) (tree ns w t)) (binders_from ns w bs (suc j) k) (λ q. h j (omega arith) (omega arith) (ap number_of m ∙ sym (inner q))) ∙ ih
      where
        inner : dvar d ≡ dvar e → d ≡ e
        inner q = cc
    go (Replaced e x) m ih = ih

-- Binders of rows with numbers apart have distinct names.
distinct_from : (ns w bs : List ℕ) (j k : ℕ) → ((i l : ℕ) → j ≤ i → i < l → l < j + k → number_of (row_at bs i) ≡ number_of (row_at bs l) → ⊥) → Distinct (binders_from ns w bs j k)
unfolding binders_from
distinct_from ns w bs j zero h = tt
distinct_from ns w bs j (suc k) h = go (row_at bs j) refl (distinct_from ns w bs (suc j) k (λ i l p q s. h i l (omega arith) q (omega arith)))
  where
    go : (r : Row) → row_at bs j ≡ r → Distinct (binders_from ns w bs (suc j) k) → Distinct (with_row ns w r (binders_from ns w bs (suc j) k))
    go (Pending d c t) m ih = (absent_name ns w bs d (suc j) k (λ i p q e. h j i (omega arith) (omega arith) (omega arith) (ap number_of m ∙ sym e)), ih)
    go (Replaced d x) m ih = ih

pub numbers_distinct : {bs : List ℕ} {n : ℕ} (ns w : List ℕ) → NumbersApart bs n → Distinct (binders_in ns w bs 0 n)
numbers_distinct {bs} {n} ns w N = distinct_from ns w bs 0 (n - 0) (λ i l p q r e. let z = N.apart i l (omega arith) (omega arith) e in omega arith)
