-- The walks for the least word: what they give of a type by what they give of its parts, and the loop over the rows.
use mathlib.Core.Path.{◌≡◌, refl, sym, ◌∙◌, subst}
use mathlib.Core.Bool.{Bool, true, false, ◌||◌, false≢true}
use mathlib.Core.List.{List}
use Prim.Native.Nat.{ℕ, suc, ◌+◌, ◌*◌, ◌<◌, ◌≤◌}
use native.Mathlib.Omega.{arith}
use native.Mathlib.Decide.{dec_lt}
use native.Mathlib.Numerals.{add-one}
use lib.ListN.{length}
use Rattle.meaning.specs.Ast.{TyVar, same_tyvar, var, Binder}
use Rattle.meaning.specs.Map.{tyvars, elem}
use Rattle.meaning.specs.Subst.{occurs, occurs_in}
use Rattle.meaning.specs.Generalize.{preds_of}
use Rattle.theorems.proofs.Tests.{is_yes_true, is_yes_of, or_cases, or_left, or_right}
use Rattle.theorems.proofs.FreeVars.{occurs_preds, occurs_qual}
use Rattle.names.specs.Names.{Names, first_nullary, tyvar_of}
use Rattle.names.proofs.Distinct.{tyvar_of_same}
use Rattle.ast.specs.Table.{shape_of, cell_of, tree, list, Node}
use Rattle.ast.specs.declared.Shape.{Shape}
use Rattle.ast.specs.declared.Shape.TheVariants.{Var, Con, Arrow}
use Rattle.ast.specs.declared.Cell.{Cell}
use Rattle.ast.specs.declared.Cell.TheVariants.{Nil, Cons}
use Rattle.ast.proofs.Laws.{tree_var, tree_con, tree_arrow, list_nil, list_cons}
use Rattle.supers.specs.Rows.{row_at, with_row, binders_in, TypeIn, Binders}
use Rattle.supers.specs.declared.rows.Row.{Row}
use Rattle.supers.specs.declared.rows.Row.TheVariants.{Pending, Replaced}
use Rattle.supers.proofs.RowLaws.{row_step, rows_end}
use Rattle.canonical.specs.Picks.{Least}
use Rattle.canonical.specs.Named.{rows_qual, row_has, ReadyVar, ReadyType}

-- A variable occurs in a variable's type where it is that variable.
pub is_that : (v x : TyVar) → occurs v (var x) ≡ true → v ≡ x
unfolding occurs
is_that v x e = is_yes_true (same_tyvar v x) e

-- It does.
pub that_is : (x : TyVar) → occurs x (var x) ≡ true
unfolding occurs
that_is x = is_yes_of (same_tyvar x x) refl

-- ## One variable
module _ {ns : List ℕ} {E : List TyVar} {from best : ℕ} (N : Names ns) (x : ℕ) where
  -- Its word lies below the first one asked for,
  pub least_low : x < from → Least ns E (λ v. occurs v (var (tyvar_of ns x))) from best best
  least_low h = record {
    below = omega arith;
    found = λ l. absurd (omega arith);
    least = λ y p q e. let i = tyvar_of_same ns N y x (is_that (tyvar_of ns y) (tyvar_of ns x) e) in absurd (omega arith);
  }

  -- or not below the best one,
  pub least_high : best ≤ x → Least ns E (λ v. occurs v (var (tyvar_of ns x))) from best best
  least_high h = record {
    below = omega arith;
    found = λ l. absurd (omega arith);
    least = λ y p q e. let i = tyvar_of_same ns N y x (is_that (tyvar_of ns y) (tyvar_of ns x) e) in absurd (omega arith);
  }

  -- or it is free in the environment,
  pub least_free : {r : Bool} → r ≡ elem tyvars (tyvar_of ns x) E → r ≡ true → Least ns E (λ v. occurs v (var (tyvar_of ns x))) from best best
  least_free h k = record {
    below = omega arith;
    found = λ l. absurd (omega arith);
    least = λ y p q e. subst (λ (v : TyVar). elem tyvars v E ≡ true) (sym (is_that (tyvar_of ns y) (tyvar_of ns x) e)) (sym h ∙ k);
  }

  -- or it is the new best one.
  pub least_new : {r : Bool} → from ≤ x → x < best → r ≡ elem tyvars (tyvar_of ns x) E → r ≡ false → Least ns E (λ v. occurs v (var (tyvar_of ns x))) from best x
  least_new f b h k = record {
    below = omega arith;
    found = λ l. (f, (that_is (tyvar_of ns x), sym h ∙ k));
    least = λ y p q e. let i = tyvar_of_same ns N y x (is_that (tyvar_of ns y) (tyvar_of ns x) e) in absurd (omega arith);
  }

-- ## One after the other
module _ {ns : List ℕ} {E : List TyVar} {p q : TyVar → Bool} {from best m r : ℕ} where
  -- The least of the first ones, and then of the others below it.
  pub least_then : Least ns E p from best m → Least ns E q from m r → Least ns E (λ v. p v || q v) from best r
  least_then A B = record {
    below = (let a = A.below in let b = B.below in omega arith);
    found = λ l. go l (dec_lt r m);
    least = λ x f l e. or_cases (p (tyvar_of ns x)) (q (tyvar_of ns x)) e _ (λ i. A.least x f (let b = B.below in omega arith) i) (λ i. B.least x f l i);
  }
    where
      same : (m ≤ r) → r ≡ m
      same h = let b = B.below in omega arith

      go : r < best → Dec (r < m) → (from ≤ r) × (((p (tyvar_of ns r) || q (tyvar_of ns r)) ≡ true) × (elem tyvars (tyvar_of ns r) E ≡ false))
      go l (yes h) = let g = B.found h in (g.0, (or_right (p (tyvar_of ns r)) (q (tyvar_of ns r)) g.1.0, g.1.1))
      go l (no h) =
          let e = same (omega arith) in
          let g = A.found (omega arith) in
          rw e (g.0, (or_left (p (tyvar_of ns m)) (q (tyvar_of ns m)) g.1.0, g.1.1))

-- None occurs in nothing.
pub least_none : {ns : List ℕ} {E : List TyVar} {from best : ℕ} → Least ns E (λ v. false) from best best
least_none = record { below = omega arith; found = λ l. absurd (omega arith); least = λ x f l e. absurd (false≢true e) }

-- ## Types: r is what `shape_at` returned
module _ {w : List ℕ} {top t : ℕ} {r : Shape} (ns : List ℕ) (N : Node w top t) (e : r ≡ shape_of w t) {E : List TyVar} {from best : ℕ} where
  -- A variable.
  pub least_var : {x m : ℕ} → r ≡ Var x → Least ns E (λ v. occurs v (var (tyvar_of ns x))) from best m → Least ns E (λ v. occurs v (tree ns w t)) from best m
  least_var k L = rw (tree_var ns N e k) L

  -- A constructor, as its arguments.
  pub least_con : {c l m : ℕ} → r ≡ Con c l → Least ns E (λ v. occurs_in v (list ns w l)) from best m → Least ns E (λ v. occurs v (tree ns w t)) from best m
  unfolding occurs
  least_con k L = rw (tree_con ns N e k) L

  -- An arrow: its left side, then its right side.
  pub least_arrow : {a b m n : ℕ} → r ≡ Arrow a b → Least ns E (λ v. occurs v (tree ns w a)) from best m → Least ns E (λ v. occurs v (tree ns w b)) from m n
      → Least ns E (λ v. occurs v (tree ns w t)) from best n
  unfolding occurs
  least_arrow k A B = rw (tree_arrow ns N e k) (least_then A B)

-- ## Lists: r is what `cell_at` returned
module _ {w : List ℕ} {top l : ℕ} {r : Cell} (ns : List ℕ) (N : Node w top l) (e : r ≡ cell_of w l) {E : List TyVar} {from best : ℕ} where
  -- No types.
  pub least_nil : r ≡ Nil → Least ns E (λ v. occurs_in v (list ns w l)) from best best
  unfolding occurs
  least_nil k = rw (list_nil ns N e k) least_none

  -- The first type, then the rest.
  pub least_cons : {a b m n : ℕ} → r ≡ Cons a b → Least ns E (λ v. occurs v (tree ns w a)) from best m → Least ns E (λ v. occurs_in v (list ns w b)) from m n
      → Least ns E (λ v. occurs_in v (list ns w l)) from best n
  unfolding occurs
  least_cons k A B = rw (list_cons ns N e k) (least_then A B)

-- ## Rows
-- What the rows from number i on leave of `best` is what all rows and the type leave of the first one.
pub record Leasting (ns w bs : List ℕ) (E : List TyVar) (from n t best i : ℕ) : Type 0 where
  pub is : (r : ℕ) → Least ns E (λ v. occurs_preds v (preds_of (binders_in ns w bs i n))) from best r → Least ns E (λ v. occurs_qual v (rows_qual ns w bs n t)) from first_nullary r

-- The two tests of a qualified type in the order of the walk.
or_turned : {ns : List ℕ} {E : List TyVar} (p q : TyVar → Bool) {from best r : ℕ} → Least ns E (λ v. p v || q v) from best r → Least ns E (λ v. q v || p v) from best r
or_turned {ns} {E} p q {from} {best} {r} L = record {
  below = L.below;
  found = λ l. let g = L.found l in (g.0, (turn (p (tyvar_of ns r)) (q (tyvar_of ns r)) g.1.0, g.1.1));
  least = λ x f l e. L.least x f l (turn (q (tyvar_of ns x)) (p (tyvar_of ns x)) e);
}
  where
    turn : (a b : Bool) → (a || b) ≡ true → (b || a) ≡ true
    turn a b e = or_cases a b e _ (λ i. or_right b a i) (λ i. or_left b a i)

-- A row, then others.
row_then : {ns : List ℕ} {E : List TyVar} {from best m r : ℕ} (w : List ℕ) (os : List Binder) (q : Row) → Least ns E (λ v. row_has ns w q v) from best m → Least ns E (λ v. occurs_preds v (preds_of os)) from m r
    → Least ns E (λ v. occurs_preds v (preds_of (with_row ns w q os))) from best r
row_then w os (Pending d c t) A B = least_then A B
row_then w os (Replaced d x) A B = least_then A B

module _ {ns w bs : List ℕ} {E : List TyVar} {from n t : ℕ} where
  -- At first the type was walked.
  pub leasting : {best : ℕ} → Least ns E (λ v. occurs v (tree ns w t)) from first_nullary best → Leasting ns w bs E from n t best 0
  leasting L = record { is = λ r B. or_turned (λ v. occurs v (tree ns w t)) (λ v. occurs_preds v (preds_of (binders_in ns w bs 0 n))) (least_then L B) }

  module _ {best i : ℕ} (G : Leasting ns w bs E from n t best i) where
    -- No row is left.
    pub leasted : n ≤ i → Least ns E (λ v. occurs_qual v (rows_qual ns w bs n t)) from first_nullary best
    leasted h = G.is best (rw (rows_end ns w bs i n h) least_none)

    -- A row more.
    pub leasts_on : {m : ℕ} → i < n → Least ns E (λ v. row_has ns w (row_at bs i) v) from best m → Leasting ns w bs E from n t m (i + 1)
    leasts_on {m} h L = record { is = λ r B. G.is r (rw (row_step ns w bs i n h) (row_then w (binders_in ns w bs (suc i) n) (row_at bs i) L (rw (add-one i) at B))) }

-- What `least_row` gives: r is what `row_at` returned.
module _ {ns : List ℕ} {E : List TyVar} {from best : ℕ} {r : Row} (w bs : List ℕ) (i : ℕ) (e : r ≡ row_at bs i) where
  -- A pending row.
  pub row_least : {d c u m : ℕ} → r ≡ Pending d c u → Least ns E (λ v. occurs v (tree ns w u)) from best m → Least ns E (λ v. row_has ns w (row_at bs i) v) from best m
  row_least {m = m} k L = subst (λ (q : Row). Least ns E (λ v. row_has ns w q v) from best m) (sym (sym e ∙ k)) L

  -- One that was replaced.
  pub row_none : {d x : ℕ} → r ≡ Replaced d x → Least ns E (λ v. row_has ns w (row_at bs i) v) from best best
  row_none k = subst (λ (q : Row). Least ns E (λ v. row_has ns w q v) from best best) (sym (sym e ∙ k)) least_none

-- ## What a call asks
-- Another type of the same table.
pub ready_at : {ns w ev od : List ℕ} {top t u : ℕ} → ReadyType ns w ev od top t → Node w top u → ReadyType ns w ev od top u
ready_at R N = record { env = R.env; node = N }

-- The type of a pending row, r being what `row_at` returned.
pub ready_row : {ns w ev od bs : List ℕ} {top n i d c u : ℕ} {r : Row} → ReadyVar ns w ev od top → Binders w bs top n → i < n → r ≡ row_at bs i → r ≡ Pending d c u → ReadyType ns w ev od top u
ready_row {w = w} {top = top} {i = i} R B h e k = record { env = R; node = subst (TypeIn w top) (sym e ∙ k) (B.types i h) }

-- A row is there.
pub row_there : {w bs : List ℕ} {top n : ℕ} (i : ℕ) → Binders w bs top n → i < n → 3 * i + 3 ≤ length bs
row_there i B h = let f = B.rows.fits in omega arith
