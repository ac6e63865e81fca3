-- The ways out of `settle_row`, and the loop of `alias_rows`.
use mathlib.Core.Path.{◌≡◌, refl, ap, sym, subst, ◌∙◌}
use mathlib.Core.Bool.{Bool, true, false}
use mathlib.Core.List.{List, [], ◌∷◌, ◌++◌, append-nil}
use Prim.Native.Nat.{ℕ, suc, ◌+◌, ◌*◌, ◌-◌, ◌<◌, ◌≤◌}
use native.Mathlib.Omega.{arith}
use native.Mathlib.Decide.{ℕ_discrete, dec_lt}
use native.Mathlib.Numerals.{add-one}
use lib.ListN.{length, get_or}
use Rattle.meaning.specs.Base.{if}
use Rattle.meaning.specs.Ast.{TyVar, dvar, Pred, pred, Binder}
use Rattle.names.specs.Names.{first_fresh, name_of}
use Rattle.ast.specs.Table.{tree, Node}
use Rattle.supers.specs.Rows.{mark, row_at, with_row, binders_in, HasWord, TypeIn, Binders}
use Rattle.supers.specs.declared.rows.Row.{Row}
use Rattle.supers.specs.declared.rows.Row.TheVariants.{Pending, Replaced}
use Rattle.supers.proofs.RowLaws.{row_replaced, row_step, rows_end}
use Rattle.reduce.proofs.Marks.{row_same}
use Rattle.std.specs.Prelude.{Option, Some, None}
use Rattle.pending.specs.Rows.{put_row}
use Rattle.pending.specs.Owned.{first_of, firsts_from, firsts, owns, ReadyOwn, FindsEarlier, Settled, GivesSettled, Aliased, GivesAliased}
use Rattle.pending.proofs.Puts.{put_here, put_before, put_behind}
use Rattle.simplify.proofs.RowSets.{same_rows}
use Rattle.pending.proofs.Loops.{binders_split, binders_snoc}
use Rattle.pending.proofs.Firsts.{first_here, first_left, first_right, none_holds, some_holds, add_known, add-new, firsts_then, first_of_firsts}
use Rattle.pending.proofs.Owns.{binders_fewer}

-- ## The ways out of `settle_row`: q is what `row_at` returned

-- One of two small numbers is small.
pub pick_small : {x : ℕ} (b : Bool) (m n z : ℕ) → x ≡ if b m n → m < z → n < z → x < z
pick_small true m n z e p q = rw e p
pick_small false m n z e p q = rw e q

module _ {ns w ev od bs : List ℕ} {top t : ℕ} (i : ℕ) (fs es : List TyVar) (R : ReadyOwn ns w ev od bs top (i + 1) t) {q : Row} (e : q ≡ row_at bs i) where
  -- It was replaced before.
  pub settle_gone : {d x : ℕ} → q ≡ Replaced d x → GivesSettled fs es ns w bs bs i
  settle_gone h = record { row = rw (sym e ∙ h) refl; before = λ j p. refl; behind = λ j p. refl }

  module _ {d c u : ℕ} (h : q ≡ Pending d c u) where
    -- What it was.
    was : row_at bs i ≡ Pending d c u
    was = sym e ∙ h

    -- Its type.
    pub settle_type : Node w top u
    settle_type = rw was at (R.binders.types i (omega arith))

    -- Its dictionary has a word.
    pub settle_word : d < first_fresh
    settle_word = rw was at (R.binders.rows.dicts i (omega arith))

    -- The rows before it.
    pub settle_rows : Binders w bs top i
    settle_rows = binders_fewer i R.binders (omega arith)

    module _ {f : Option ℕ} (F : FindsEarlier (binders_in ns w bs 0 i) (pred (name_of ns c) (tree ns w u)) f) where
      -- No earlier row has its predicate.
      pub settle_first : f ≡ None → GivesSettled fs es ns w bs bs i
      settle_first k = record { row = rw was (refl, rw k at F.says); before = λ j p. refl; behind = λ j p. refl }

      -- The dictionary's number of the first row with it has a word.
      pub settle_small : {y x : ℕ} {own b : Bool} → f ≡ Some y → own ≡ b → x ≡ if own y d → x < first_fresh
      settle_small {y} {x} {own} k o z = pick_small own y d first_fresh z (rw k at F.says).1 settle_word

      -- One has, and it is replaced.
      pub settle_twin : {bs₁ : List ℕ} {own : Bool} {y x : ℕ} → f ≡ Some y → own ≡ owns fs es (tree ns w u) → x ≡ if own y d → bs₁ ≡ put_row bs i d mark (first_fresh + x) → GivesSettled fs es ns w bs bs₁ i
      settle_twin {bs₁} {own} {y} {x} k o z p =
          let A = rw k at F.says in
          let g = R.binders.rows.fits in
          let b : row_at bs₁ i ≡ Replaced d (first_fresh + x) = put_here bs i d mark (first_fresh + x) p (omega arith) ∙ row_replaced d mark (first_fresh + x) refl in
          record {
            row = rw (was, b) (refl, record { number = y; small = A.1; is = A.0; word = ap (λ v. first_fresh + v) (z ∙ ap (λ v. if v y d) o) });
            before = put_before bs i d mark (first_fresh + x) p;
            behind = put_behind bs i d mark (first_fresh + x) p;
          }

-- ## A settled row among all rows

-- The rows before it are the binders ks, of which the first of each predicate is that of os; those after it are ys.
settled_aliased : (fs es : List TyVar) (ns w : List ℕ) (ks os ys : List Binder) (r r' : Row) → ((p : Pred) → first_of ks p ≡ first_of os p) → Settled fs es ns w ks r r' → Aliased fs es ns w (os ++ with_row ns w r ys) r r'
settled_aliased fs es ns w ks os ys (Pending d c t) (Pending d' c' t') f s =
    (s.0, first_right os ((dvar d, pred (name_of ns c) (tree ns w t)) ∷ ys) (pred (name_of ns c) (tree ns w t)) (sym (f (pred (name_of ns c) (tree ns w t))) ∙ s.1) ∙ first_here (dvar d, pred (name_of ns c) (tree ns w t)) ys (pred (name_of ns c) (tree ns w t)) refl)
settled_aliased fs es ns w ks os ys (Pending d c t) (Replaced d' x) f s = (
  s.0,
  record {
    number = s.1.number;
    small = s.1.small;
    is = first_left os ((dvar d, pred (name_of ns c) (tree ns w t)) ∷ ys) (pred (name_of ns c) (tree ns w t)) (sym (f (pred (name_of ns c) (tree ns w t))) ∙ s.1.is);
    word = s.1.word;
  },
)
settled_aliased fs es ns w ks os ys (Replaced d x) (Pending d' c' t') f s = s
settled_aliased fs es ns w ks os ys (Replaced d x) (Replaced d' x') f s = s

-- The firsts with it.
settled-firsts : (fs es : List TyVar) (ns w : List ℕ) (ks : List Binder) (r r' : Row) → Settled fs es ns w ks r r' → ks ++ with_row ns w r' [] ≡ firsts_from ks (with_row ns w r [])
unfolding firsts_from
settled-firsts fs es ns w ks (Pending d c t) (Pending d' c' t') s =
    ap (λ z. ks ++ with_row ns w z []) s.0 ∙ sym (add-new ks (dvar d, pred (name_of ns c) (tree ns w t)) (none_holds ks (pred (name_of ns c) (tree ns w t)) s.1))
settled-firsts fs es ns w ks (Pending d c t) (Replaced d' x) s = append-nil ks ∙ sym (add_known ks (dvar d, pred (name_of ns c) (tree ns w t)) (some_holds ks (pred (name_of ns c) (tree ns w t)) s.1.is))
settled-firsts fs es ns w ks (Replaced d x) (Pending d' c' t') s = absurd s
settled-firsts fs es ns w ks (Replaced d x) (Replaced d' x') s = append-nil ks

-- It still has a word and a type.
settled_word : (fs es : List TyVar) (ns w : List ℕ) (ks : List Binder) (r r' : Row) → Settled fs es ns w ks r r' → HasWord r → HasWord r'
settled_word fs es ns w ks (Pending d c t) (Pending d' c' t') s h = subst HasWord (sym s.0) h
settled_word fs es ns w ks (Pending d c t) (Replaced d' x) s h = tt
settled_word fs es ns w ks (Replaced d x) (Pending d' c' t') s h = absurd s
settled_word fs es ns w ks (Replaced d x) (Replaced d' x') s h = tt

settled_type : (fs es : List TyVar) (ns w : List ℕ) (ks : List Binder) (top : ℕ) (r r' : Row) → Settled fs es ns w ks r r' → TypeIn w top r → TypeIn w top r'
settled_type fs es ns w ks top (Pending d c t) (Pending d' c' t') s h = subst (TypeIn w top) (sym s.0) h
settled_type fs es ns w ks top (Pending d c t) (Replaced d' x) s h = tt
settled_type fs es ns w ks top (Replaced d x) (Pending d' c' t') s h = absurd s
settled_type fs es ns w ks top (Replaced d x) (Replaced d' x') s h = tt

-- ## The loop of `alias_rows`: the rows before number i are settled

pub record Aliasing (fs es : List TyVar) (ns w bs₀ bs : List ℕ) (top n i : ℕ) : Type 0 where
  pub under : i ≤ n
  pub wide : length bs ≡ length bs₀
  pub binders : Binders w bs top n
  pub rows : (j : ℕ) → j < i → Aliased fs es ns w (binders_in ns w bs₀ 0 n) (row_at bs₀ j) (row_at bs j)
  pub behind : (j : ℕ) → 3 * i ≤ j → get_or bs j 0 ≡ get_or bs₀ j 0
  pub is : binders_in ns w bs 0 i ≡ firsts (binders_in ns w bs₀ 0 i)

-- At first none.
pub aliasing : {ns w ev od bs : List ℕ} {top n t : ℕ} (fs es : List TyVar) → ReadyOwn ns w ev od bs top n t → Aliasing fs es ns w bs bs top n 0
unfolding firsts_from
aliasing {ns} {w} {ev} {od} {bs} fs es R = record {
  under = omega arith;
  wide = refl;
  binders = R.binders;
  rows = λ j h. absurd (omega arith);
  behind = λ j h. refl;
  is = rw (rows_end ns w bs 0 0 (omega arith)) refl;
}

module _ {fs es : List TyVar} {ns w bs₀ bs : List ℕ} {top n i : ℕ} (A : Aliasing fs es ns w bs₀ bs top n i) where
  -- All rows are settled.
  pub aliased_all : n ≤ i → GivesAliased fs es ns w bs₀ bs n
  aliased_all h =
      let u = A.under in
      let e : i ≡ n = omega arith in
      record { rows = λ j p. A.rows j (omega arith); behind = λ j p. A.behind j (omega arith); is = rw e at A.is }

  -- What is asked of the next.
  pub aliased_ready : {ev od : List ℕ} {t : ℕ} → ReadyOwn ns w ev od bs₀ top n t → i < n → ReadyOwn ns w ev od bs top (i + 1) t
  aliased_ready R h = record { names = R.names; scope = R.scope; type = R.type; binders = binders_fewer (i + 1) A.binders (omega arith) }

  module _ {bs₁ : List ℕ} (h : i < n) (S : GivesSettled fs es ns w bs bs₁ i) (len : length bs₁ ≡ length bs) where
    -- The row is as it was before.
    ahead : row_at bs i ≡ row_at bs₀ i
    ahead = row_same bs₀ bs i (λ j p q. A.behind j (omega arith))

    -- Other rows stand.
    others : (j : ℕ) → (j ≡ i → ⊥) → row_at bs₁ j ≡ row_at bs j
    others j g = row_same bs bs₁ j (λ k p q. go k p q (split k))
      where
        split : (k : ℕ) → Dec (k < 3 * i)
        split k = dec_lt k (3 * i)

        go : (k : ℕ) → 3 * j ≤ k → k < 3 * j + 3 → Dec (k < 3 * i) → get_or bs₁ k 0 ≡ get_or bs k 0
        go k p q (yes x) = S.before k x
        go k p q (no x) = S.behind k (omega arith)

    -- What became of the row.
    settled : Settled fs es ns w (binders_in ns w bs 0 i) (row_at bs₀ i) (row_at bs₁ i)
    settled = rw ahead at S.row

    -- The firsts before it.
    before : (p : Pred) → first_of (binders_in ns w bs 0 i) p ≡ first_of (binders_in ns w bs₀ 0 i) p
    before p = rw A.is (first_of_firsts [] (binders_in ns w bs₀ 0 i) p)

    -- All binders, around it.
    around : binders_in ns w bs₀ 0 n ≡ binders_in ns w bs₀ 0 i ++ with_row ns w (row_at bs₀ i) (binders_in ns w bs₀ (suc i) n)
    around = binders_split ns w bs₀ 0 i n (omega arith) (omega arith) ∙ ap (λ ys. binders_in ns w bs₀ 0 i ++ ys) (row_step ns w bs₀ i n h)

    -- What became of each row.
    each : (j : ℕ) → j < suc i → Dec (j ≡ i) → Aliased fs es ns w (binders_in ns w bs₀ 0 n) (row_at bs₀ j) (row_at bs₁ j)
    each j g (yes k) = rw (k, around) (settled_aliased fs es ns w (binders_in ns w bs 0 i) (binders_in ns w bs₀ 0 i) (binders_in ns w bs₀ (suc i) n) (row_at bs₀ i) (row_at bs₁ i) before settled)
    each j g (no k) = rw (others j k) (A.rows j (omega arith))

    -- The rows stand for binders.
    still_word : (j : ℕ) → j < n → Dec (j ≡ i) → HasWord (row_at bs₁ j)
    still_word j g (yes k) = rw k (settled_word fs es ns w (binders_in ns w bs 0 i) (row_at bs i) (row_at bs₁ i) S.row (A.binders.rows.dicts i h))
    still_word j g (no k) = rw (others j k) (A.binders.rows.dicts j g)

    still_type : (j : ℕ) → j < n → Dec (j ≡ i) → TypeIn w top (row_at bs₁ j)
    still_type j g (yes k) = rw k (settled_type fs es ns w (binders_in ns w bs 0 i) top (row_at bs i) (row_at bs₁ i) S.row (A.binders.types i h))
    still_type j g (no k) = rw (others j k) (A.binders.types j g)

    -- The firsts up to it.
    up_to : binders_in ns w bs₁ 0 (suc i) ≡ firsts (binders_in ns w bs₀ 0 (suc i))
    up_to =
        binders_snoc ns w bs₁ 0 i (omega arith)
        ∙ ap (λ os. os ++ with_row ns w (row_at bs₁ i) []) (same_rows ns w bs bs₁ 0 (i - 0) (λ j p q. others j (omega arith)))
        ∙ settled-firsts fs es ns w (binders_in ns w bs 0 i) (row_at bs₀ i) (row_at bs₁ i) settled
        ∙ ap (λ os. firsts_from os (with_row ns w (row_at bs₀ i) [])) A.is
        ∙ sym (firsts_then [] (binders_in ns w bs₀ 0 i) (with_row ns w (row_at bs₀ i) []))
        ∙ ap firsts (sym (binders_snoc ns w bs₀ 0 i (omega arith)))

    -- One row more is settled.
    pub aliased_on : Aliasing fs es ns w bs₀ bs₁ top n (i + 1)
    aliased_on = let f = A.binders.rows.fits in rw (add-one i) (record {
      under = omega arith;
      wide = len ∙ A.wide;
      binders = record { rows = record { fits = omega arith; dicts = λ j g. still_word j g (ℕ_discrete j i) }; types = λ j g. still_type j g (ℕ_discrete j i) };
      rows = λ j g. each j g (ℕ_discrete j i);
      behind = λ j g. S.behind j (omega arith) ∙ A.behind j (omega arith);
      is = up_to;
    })
