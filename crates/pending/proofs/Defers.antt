-- The ways out of `is_late` and `defer_row`, and the loop of `defer_rows`.
use mathlib.Core.Path.{◌≡◌, refl, ap, sym, subst, ◌∙◌}
use mathlib.Core.Bool.{Bool, true, false, not}
use mathlib.Core.List.{List, [], ◌∷◌, ◌++◌, append-nil}
use Prim.Native.Nat.{ℕ, zero, suc, ◌+◌, ◌*◌, ◌-◌, ◌<◌, ◌≤◌}
use native.Mathlib.Omega.{arith}
use native.Mathlib.Decide.{ℕ_discrete, dec_lt}
use native.Mathlib.Numerals.{add-one}
use lib.ListN.{length, get_or}
use Rattle.meaning.specs.Base.{if, keep}
use Rattle.meaning.specs.Ast.{TyVar, DictName, dvar, pred, Core, Binder}
use Rattle.meaning.specs.Map.{Map}
use Rattle.names.specs.Names.{name_of}
use Rattle.ast.specs.Table.{tree, Node}
use Rattle.supers.specs.Rows.{row_at, with_row, binders_from, binders_in, HasWord, TypeIn}
use Rattle.supers.specs.declared.rows.Row.{Row}
use Rattle.supers.specs.declared.rows.Row.TheVariants.{Pending, Replaced}
use Rattle.supers.proofs.RowLaws.{rows_end}
use Rattle.reduce.proofs.Marks.{row_same}
use Rattle.terms.specs.Rows.{with_replaced, replaced_from}
use Rattle.pending.specs.Rows.{NumbersApart, Rotated}
use Rattle.pending.specs.Owned.{owns, own_binder, late_binder, late_row, ReadyOwn, IsPending, Among, LateAs, GivesLate, GivesDeferred}
use Rattle.simplify.proofs.RowSets.{same_rows}
use Rattle.pending.proofs.Loops.{binders_snoc}
use Rattle.pending.proofs.Numbers.{rotated_numbers}

-- ## The ways out of `is_late`: q is what `row_at` returned

module _ {q r : Row} (fs es : List TyVar) (ns w : List ℕ) (e : q ≡ r) where
  -- The row was replaced.
  pub late_gone : {d x : ℕ} → q ≡ Replaced d x → false ≡ late_row fs es ns w r
  late_gone h = rw (sym e ∙ h) refl

  -- It is pending.
  pub late_own : {d c u : ℕ} {own : Bool} → q ≡ Pending d c u → own ≡ owns fs es (tree ns w u) → not own ≡ late_row fs es ns w r
  late_own h k = rw (sym e ∙ h, k) refl

-- Its type is a word of the table.
pub late_type : {ns w ev od bs : List ℕ} {top t : ℕ} (i : ℕ) → ReadyOwn ns w ev od bs top (i + 1) t → {q : Row} → q ≡ row_at bs i → {d c u : ℕ} → q ≡ Pending d c u → Node w top u
late_type i R e h = rw (sym e ∙ h) at (R.binders.types i (omega arith))

-- ## The ways out of `defer_row`: late is what `is_late` returned

-- The row moves.
pub late_moves : {bs bs₁ : List ℕ} {late l : Bool} {nd i : ℕ} → late ≡ l → late ≡ true → Rotated bs bs₁ nd i → GivesLate l bs bs₁ nd i (nd + 1)
late_moves {bs} {bs₁} {late} {l} {nd} {i} e h R = record { says = subst (LateAs bs bs₁ nd i (nd + 1)) (sym h ∙ e) (refl, R) }

-- Nothing changes.
pub late_stays : {late l : Bool} (bs : List ℕ) (nd i : ℕ) → late ≡ l → late ≡ false → GivesLate l bs bs nd i nd
late_stays bs nd i e h = record { says = subst (LateAs bs bs nd i nd) (sym h ∙ e) (refl, refl) }

-- ## Rows that move

-- Binders of rows one number up.
rows_shift : (ns w bs bs' : List ℕ) (j k : ℕ) → ((i : ℕ) → j ≤ i → i < j + k → row_at bs' (suc i) ≡ row_at bs i) → binders_from ns w bs' (suc j) k ≡ binders_from ns w bs j k
unfolding binders_from
rows_shift ns w bs bs' j zero h = refl
rows_shift ns w bs bs' j (suc k) h = rw (h j (omega arith) (omega arith), rows_shift ns w bs bs' (suc j) k (λ i p q. h i (omega arith) (omega arith)))

-- What rows one number up replace.
replaced_shift : (ns w bs bs' : List ℕ) (j k : ℕ) → ((i : ℕ) → j ≤ i → i < j + k → row_at bs' (suc i) ≡ row_at bs i) → replaced_from ns w bs' (suc j) k ≡ replaced_from ns w bs j k
unfolding replaced_from
replaced_shift ns w bs bs' j zero h = refl
replaced_shift ns w bs bs' j (suc k) h = rw (h j (omega arith) (omega arith), replaced_shift ns w bs bs' (suc j) k (λ i p q. h i (omega arith) (omega arith)))

-- One row's replacement before others, as lists.
with_replaced_lem : (ns w : List ℕ) (r : Row) (xs ys : Map DictName Core) → with_replaced ns w r (xs ++ ys) ≡ with_replaced ns w r xs ++ ys
with_replaced_lem ns w (Pending d c t) xs ys = refl
with_replaced_lem ns w (Replaced d x) xs ys = refl

-- The last row's replacement comes last.
pub replaced_snoc : (ns w bs : List ℕ) (j k : ℕ) → replaced_from ns w bs j (suc k) ≡ replaced_from ns w bs j k ++ with_replaced ns w (row_at bs (j + k)) []
unfolding replaced_from
replaced_snoc ns w bs j zero = let e : j + 0 ≡ j = omega arith in rw e refl
replaced_snoc ns w bs j (suc k) =
    let e : j + suc k ≡ suc j + k = omega arith in
    rw e (ap (with_replaced ns w (row_at bs j)) (replaced_snoc ns w bs (suc j) k) ∙ with_replaced_lem ns w (row_at bs j) (replaced_from ns w bs (suc j) k) (with_replaced ns w (row_at bs (suc j + k)) []))

-- The same of the first rows.
pub replaced_last : (ns w bs : List ℕ) (k : ℕ) → replaced_from ns w bs 0 (suc k) ≡ replaced_from ns w bs 0 k ++ with_replaced ns w (row_at bs k) []
replaced_last ns w bs k = let e : 0 + k ≡ k = omega arith in rw e at (replaced_snoc ns w bs 0 k)

-- ## What one row adds

-- What two lists keep.
pub keep_both : {A : Type 0} (f : A → Bool) (xs ys : List A) → keep f (xs ++ ys) ≡ keep f xs ++ keep f ys
unfolding keep
keep_both f [] ys = refl
keep_both f (x ∷ xs) ys = go (f x) (keep_both f xs ys)
  where
    go : (b : Bool) → keep f (xs ++ ys) ≡ keep f xs ++ keep f ys → if b (x ∷ keep f (xs ++ ys)) (keep f (xs ++ ys)) ≡ if b (x ∷ keep f xs) (keep f xs) ++ keep f ys
    go true ih = ap (λ zs. x ∷ zs) ih
    go false ih = ih

-- A row that is not deferred is kept as one's own, and not among the others.
own_row : (fs es : List TyVar) (ns w : List ℕ) (r : Row) → late_row fs es ns w r ≡ false → (keep (own_binder fs es) (with_row ns w r []) ≡ with_row ns w r []) × (keep (late_binder fs es) (with_row ns w r []) ≡ [])
unfolding keep
own_row fs es ns w (Pending d c t) h = go (owns fs es (tree ns w t)) h
  where
    go : (b : Bool) → not b ≡ false → (◌≡◌ {A = List Binder} (if b ((dvar d, pred (name_of ns c) (tree ns w t)) ∷ []) []) ((dvar d, pred (name_of ns c) (tree ns w t)) ∷ [])) × (◌≡◌ {A = List Binder} (if (not b) ((dvar d, pred (name_of ns c) (tree ns w t)) ∷ []) []) [])
    go true k = (refl, refl)
    go false k = absurd (let z : ◌≡◌ {A = ℕ} 0 1 = cc in omega arith)
own_row fs es ns w (Replaced d x) h = (refl, refl)

-- A deferred one the other way round; and it replaces nothing and is pending.
late_row_lem : (fs es : List TyVar) (ns w : List ℕ) (r : Row) → late_row fs es ns w r ≡ true → (keep (own_binder fs es) (with_row ns w r []) ≡ []) × ((keep (late_binder fs es) (with_row ns w r []) ≡ with_row ns w r []) × IsPending r)
unfolding keep
late_row_lem fs es ns w (Pending d c t) h = go (owns fs es (tree ns w t)) h
  where
    go : (b : Bool) → not b ≡ true → (◌≡◌ {A = List Binder} (if b ((dvar d, pred (name_of ns c) (tree ns w t)) ∷ []) []) []) × ((◌≡◌ {A = List Binder} (if (not b) ((dvar d, pred (name_of ns c) (tree ns w t)) ∷ []) []) ((dvar d, pred (name_of ns c) (tree ns w t)) ∷ [])) × Unit {0})
    go true k = absurd (let z : ◌≡◌ {A = ℕ} 0 1 = cc in omega arith)
    go false k = (refl, (refl, tt))
late_row_lem fs es ns w (Replaced d x) h = absurd (let z : ◌≡◌ {A = ℕ} 0 1 = cc in omega arith)

-- A pending row replaces nothing.
pub pending_replaces : (ns w : List ℕ) (r : Row) (os : Map DictName Core) → IsPending r → with_replaced ns w r os ≡ os
pending_replaces ns w (Pending d c t) os p = refl
pending_replaces ns w (Replaced d x) os p = absurd p

-- ## The loop of `defer_rows`: of the rows before number i the deferred ones are in front, nd of them

pub record Deferring (fs es : List TyVar) (ns w bs₀ bs : List ℕ) (n nd i : ℕ) : Type 0 where
  pub under : i ≤ n
  pub most : nd ≤ i
  pub wide : length bs ≡ length bs₀
  pub late : binders_in ns w bs 0 nd ≡ keep (late_binder fs es) (binders_in ns w bs₀ 0 i)
  pub own : binders_in ns w bs nd i ≡ keep (own_binder fs es) (binders_in ns w bs₀ 0 i)
  pub replaced : (ns₁ w₁ : List ℕ) → replaced_from ns₁ w₁ bs nd (i - nd) ≡ replaced_from ns₁ w₁ bs₀ 0 i
  pub front : (j : ℕ) → j < nd → IsPending (row_at bs j)
  pub comes : (j : ℕ) → j < n → Among bs₀ n (row_at bs j)
  pub goes : (j : ℕ) → j < n → Among bs n (row_at bs₀ j)
  pub numbers : NumbersApart bs₀ n → NumbersApart bs n
  pub behind : (j : ℕ) → 3 * i ≤ j → get_or bs j 0 ≡ get_or bs₀ j 0

-- At first there are none.
pub deferring : {ns w ev od bs : List ℕ} {top n t : ℕ} (fs es : List TyVar) → ReadyOwn ns w ev od bs top n t → Deferring fs es ns w bs bs n 0 0
unfolding keep
deferring {ns} {w} {ev} {od} {bs} fs es R = record {
  under = omega arith;
  most = omega arith;
  wide = refl;
  late = rw (rows_end ns w bs 0 0 (omega arith)) refl;
  own = rw (rows_end ns w bs 0 0 (omega arith)) refl;
  replaced = λ ns₁ w₁. refl;
  front = λ j h. absurd (omega arith);
  comes = λ j h. record { number = j; below = h; is = refl };
  goes = λ j h. record { number = j; below = h; is = refl };
  numbers = λ x. x;
  behind = λ j h. refl;
}

module _ {fs es : List TyVar} {ns w bs₀ bs : List ℕ} {n nd i : ℕ} (D : Deferring fs es ns w bs₀ bs n nd i) where
  -- All rows are done.
  pub deferred_all : n ≤ i → GivesDeferred fs es ns w bs₀ bs n nd
  deferred_all h =
      let u = D.under in let m = D.most in
      let e : i ≡ n = omega arith in
      record {
        most = omega arith;
        late = rw e at D.late;
        own = rw e at D.own;
        replaced = rw e at D.replaced;
        front = D.front;
        comes = D.comes;
        goes = D.goes;
        numbers = D.numbers;
        behind = λ j p. D.behind j (omega arith);
      }

  -- What is asked of the next.
  pub deferred_ready : {ev od : List ℕ} {top t : ℕ} → ReadyOwn ns w ev od bs₀ top n t → i < n → ReadyOwn ns w ev od bs top (i + 1) t
  deferred_ready {ev} {od} {top} R h =
      let f = R.binders.rows.fits in let l = D.wide in
      record {
        names = R.names;
        scope = R.scope;
        type = R.type;
        binders = record {
          rows = record { fits = omega arith; dicts = λ j p. let a = D.comes j (omega arith) in subst HasWord a.is (R.binders.rows.dicts a.number a.below) };
          types = λ j p. let a = D.comes j (omega arith) in subst (TypeIn w top) a.is (R.binders.types a.number a.below);
        };
      }

  module _ (h : i < n) where
    -- The row is as it was before.
    ahead : row_at bs i ≡ row_at bs₀ i
    ahead = row_same bs₀ bs i (λ j p q. D.behind j (omega arith))

    -- The row stays.
    stays : late_row fs es ns w (row_at bs i) ≡ false → Deferring fs es ns w bs₀ bs n nd (suc i)
    stays l =
        let m = D.most in
        let o = own_row fs es ns w (row_at bs₀ i) (rw ahead at l) in
        let k : suc i - nd ≡ suc (i - nd) = omega arith in
        let z : nd + (i - nd) ≡ i = omega arith in
        record {
          under = omega arith;
          most = omega arith;
          wide = D.wide;
          late = D.late ∙ sym (ap (keep (late_binder fs es)) (binders_snoc ns w bs₀ 0 i (omega arith)) ∙ keep_both (late_binder fs es) (binders_in ns w bs₀ 0 i) (with_row ns w (row_at bs₀ i) []) ∙ ap (λ ys. keep (late_binder fs es) (binders_in ns w bs₀ 0 i) ++ ys) o.1 ∙ append-nil _);
          own = binders_snoc ns w bs nd i m ∙ rw (D.own, ahead) (sym (ap (keep (own_binder fs es)) (binders_snoc ns w bs₀ 0 i (omega arith)) ∙ keep_both (own_binder fs es) (binders_in ns w bs₀ 0 i) (with_row ns w (row_at bs₀ i) []) ∙ ap (λ ys. keep (own_binder fs es) (binders_in ns w bs₀ 0 i) ++ ys) o.0));
          replaced = λ ns₁ w₁. rw k (replaced_snoc ns₁ w₁ bs nd (i - nd) ∙ rw (z, ahead, D.replaced ns₁ w₁) (sym (replaced_last ns₁ w₁ bs₀ i)));
          front = D.front;
          comes = D.comes;
          goes = D.goes;
          numbers = D.numbers;
          behind = λ j p. D.behind j (omega arith);
        }

    module _ {bs₁ : List ℕ} (R : Rotated bs bs₁ nd i) where
      -- A row before number nd or behind number i stands.
      low : (j : ℕ) → j < nd → row_at bs₁ j ≡ row_at bs j
      low j p = row_same bs bs₁ j (λ k x y. R.before k (omega arith))

      high : (j : ℕ) → i < j → row_at bs₁ j ≡ row_at bs j
      high j p = row_same bs bs₁ j (λ k x y. R.behind k (omega arith))

      -- Where a row comes from.
      from : (j : ℕ) → j < n → Dec (j < nd) → Dec (j ≡ nd) → Dec (i < j) → Among bs₀ n (row_at bs₁ j)
      from j p (yes a) b c = rw (low j a) (D.comes j p)
      from j p (no a) (yes b) c = rw (b, R.moved) (D.comes i h)
      from j p (no a) (no b) (yes c) = rw (high j c) (D.comes j p)
      from j p (no a) (no b) (no c) =
          let e : suc (j - 1) ≡ j = omega arith in
          let u = R.up (j - 1) (omega arith) (omega arith) in
          rw (rw e at u) (D.comes (j - 1) (omega arith))

      -- Where a row goes.
      onto : (j : ℕ) → j < n → Dec (j < nd) → Dec (j ≡ i) → Dec (i < j) → Among bs₁ n (row_at bs j)
      onto j p (yes a) b c = record { number = j; below = p; is = low j a }
      onto j p (no a) (yes b) c = let m = D.most in record { number = nd; below = omega arith; is = rw b R.moved }
      onto j p (no a) (no b) (yes c) = record { number = j; below = p; is = high j c }
      onto j p (no a) (no b) (no c) = record { number = suc j; below = omega arith; is = R.up j (omega arith) (omega arith) }

      -- The row moves to the front.
      moves : late_row fs es ns w (row_at bs i) ≡ true → length bs₁ ≡ length bs → Deferring fs es ns w bs₀ bs₁ n (suc nd) (suc i)
      moves l len =
          let m = D.most in
          let o = late_row_lem fs es ns w (row_at bs₀ i) (rw ahead at l) in
          let e : suc i - suc nd ≡ i - nd = omega arith in
          record {
            under = omega arith;
            most = omega arith;
            wide = len ∙ D.wide;
            late = binders_snoc ns w bs₁ 0 nd (omega arith)
                ∙ rw (R.moved, ahead, same_rows ns w bs bs₁ 0 (nd - 0) (λ j p q. low j (omega arith)), D.late)
                (sym (ap (keep (late_binder fs es)) (binders_snoc ns w bs₀ 0 i (omega arith)) ∙ keep_both (late_binder fs es) (binders_in ns w bs₀ 0 i) (with_row ns w (row_at bs₀ i) []) ∙ ap (λ ys. keep (late_binder fs es) (binders_in ns w bs₀ 0 i) ++ ys) o.1.0));
            own = rw e (rows_shift ns w bs bs₁ nd (i - nd) (λ j p q. R.up j p (omega arith))
                ∙ D.own
                ∙ sym (ap (keep (own_binder fs es)) (binders_snoc ns w bs₀ 0 i (omega arith)) ∙ keep_both (own_binder fs es) (binders_in ns w bs₀ 0 i) (with_row ns w (row_at bs₀ i) []) ∙ ap (λ ys. keep (own_binder fs es) (binders_in ns w bs₀ 0 i) ++ ys) o.0 ∙ append-nil _));
            replaced = λ ns₁ w₁. rw e (replaced_shift ns₁ w₁ bs bs₁ nd (i - nd) (λ j p q. R.up j p (omega arith))
                ∙ D.replaced ns₁ w₁
                ∙ sym (replaced_last ns₁ w₁ bs₀ i ∙ ap (λ ys. replaced_from ns₁ w₁ bs₀ 0 i ++ ys) (pending_replaces ns₁ w₁ (row_at bs₀ i) [] o.1.1) ∙ append-nil _));
            front = λ j p. front j p (dec_lt j nd) o.1.1;
            comes = λ j p. from j p (dec_lt j nd) (ℕ_discrete j nd) (dec_lt i j);
            goes = λ j p. let a = D.goes j p in let b = onto a.number a.below (dec_lt a.number nd) (ℕ_discrete a.number i) (dec_lt i a.number) in record { number = b.number; below = b.below; is = b.is ∙ a.is };
            numbers = λ x. rotated_numbers R m h (D.numbers x);
            behind = λ j p. R.behind j (omega arith) ∙ D.behind j (omega arith);
          }
        where
          front : (j : ℕ) → j < suc nd → Dec (j < nd) → IsPending (row_at bs₀ i) → IsPending (row_at bs₁ j)
          front j p (yes a) q = rw (low j a) (D.front j a)
          front j p (no a) q = let e : j ≡ nd = omega arith in rw (e, R.moved, ahead) q

    -- One row more is done.
    pub deferred_on : {bs₁ : List ℕ} {r : ℕ} → GivesLate (late_row fs es ns w (row_at bs i)) bs bs₁ nd i r → length bs₁ ≡ length bs → Deferring fs es ns w bs₀ bs₁ n r (i + 1)
    deferred_on {bs₁} {r} G len = rw (add-one i) (go (late_row fs es ns w (row_at bs i)) refl G.says)
      where
        go : (l : Bool) → late_row fs es ns w (row_at bs i) ≡ l → LateAs bs bs₁ nd i r l → Deferring fs es ns w bs₀ bs₁ n r (suc i)
        go true k a = rw (a.0, add-one nd) (moves a.1 k len)
        go false k a = rw (a.0, a.1) (stays k)
