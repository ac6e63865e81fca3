-- The walks for the last variable in byte order: what they give of a type by what they give of its parts.
use mathlib.Core.Path.{◌≡◌, refl, sym, ◌∙◌, subst}
use mathlib.Core.Bool.{Bool, true, false, ◌||◌, true≢false, false≢true}
use mathlib.Core.List.{List}
use mathlib.Core.Logic.{◌⊎◌, inl, inr, ⊎_elim}
use Prim.Native.Nat.{ℕ, ◌+◌, ◌<◌}
use Rattle.meaning.specs.Ast.{TyVar, tyvar_before, var}
use Rattle.meaning.specs.Map.{tyvars, elem}
use Rattle.meaning.specs.Subst.{occurs, occurs_in}
use Rattle.theorems.proofs.Tests.{or_cases, or_left, or_right}
use Rattle.theorems.proofs.ByteOrder.{tyvars_ordered}
use Rattle.names.specs.Names.{first_node, tyvar_of}
use Rattle.ast.specs.Table.{shape_of, cell_of, tree, list, Node}
use Rattle.ast.specs.declared.Shape.{Shape}
use Rattle.ast.specs.declared.Shape.TheVariants.{Var, Con, Arrow}
use Rattle.ast.specs.declared.Cell.{Cell}
use Rattle.ast.specs.declared.Cell.TheVariants.{Nil, Cons}
use Rattle.ast.proofs.Laws.{tree_var, tree_con, tree_arrow, list_nil, list_cons}
use Rattle.canonical.specs.Picks.{Under, Upto, IsUnder, IsOver, Fits, Last}
use Rattle.std.specs.Prelude.{Option, Some, None}
use Rattle.canonical.proofs.Leasts.{is_that, that_is}

-- ## What the two tests say
-- Every variable lies before none,
pub under_nothing : (ns : List ℕ) (p : Option ℕ) (v : TyVar) → p ≡ None → IsUnder ns p v true
under_nothing ns p v e = subst (λ (q : Option ℕ). IsUnder ns q v true) (sym e) refl

-- or before the picked one, as the order says.
pub under_word : {r : Bool} (ns : List ℕ) (p : Option ℕ) (v : TyVar) (y : ℕ) → p ≡ Some y → r ≡ tyvar_before v (tyvar_of ns y) → IsUnder ns p v r
under_word {r} ns p v y e h = subst (λ (q : Option ℕ). IsUnder ns q v r) (sym e) h

-- Every variable lies after none,
pub over_nothing : (ns : List ℕ) (p : Option ℕ) (v : TyVar) → p ≡ None → IsOver ns p v true
over_nothing ns p v e = subst (λ (q : Option ℕ). IsOver ns q v true) (sym e) refl

-- or after the picked one, as the order says.
pub over_word : {r : Bool} (ns : List ℕ) (p : Option ℕ) (v : TyVar) (y : ℕ) → p ≡ Some y → r ≡ tyvar_before (tyvar_of ns y) v → IsOver ns p v r
over_word {r} ns p v y e h = subst (λ (q : Option ℕ). IsOver ns q v r) (sym e) h

-- ## One variable
-- A variable that is not before the picked one.
not_under : (ns : List ℕ) (p : Option ℕ) (v : TyVar) (r : Bool) → IsUnder ns p v r → r ≡ false → Under ns p v → ⊥
not_under ns None v r e f u = true≢false (sym e ∙ f)
not_under ns (Some y) v r e f u = true≢false (sym u ∙ sym e ∙ f)

-- One that is.
is_under : (ns : List ℕ) (p : Option ℕ) (v : TyVar) (r : Bool) → IsUnder ns p v r → r ≡ true → Under ns p v
is_under ns None v r e f = tt
is_under ns (Some y) v r e f = sym e ∙ f

-- One that is not after the picked one.
not_over : (ns : List ℕ) (p : Option ℕ) (v : TyVar) (r : Bool) → IsOver ns p v r → r ≡ false → Upto ns p v
not_over ns None v r e f = true≢false (sym e ∙ f)
not_over ns (Some y) v r e f = sym e ∙ f

-- What is not after the picked one is not after one that lies after it.
over_more : (ns : List ℕ) (p : Option ℕ) (v u : TyVar) (r : Bool) → IsOver ns p v r → r ≡ true → Upto ns p u → tyvar_before v u ≡ false
over_more ns None v u r e f h = absurd h
over_more ns (Some y) v u r e f h = go (tyvar_before v u) refl
  where
    go : (b : Bool) → tyvar_before v u ≡ b → tyvar_before v u ≡ false
    go true i = absurd (true≢false (sym (tyvars_ordered.trans (tyvar_of ns y) v u (sym e ∙ f) i) ∙ h))
    go false i = i

module _ {ns : List ℕ} {E : List TyVar} {top : ℕ} {last best : Option ℕ} (x : ℕ) (low : x < first_node + top) where
  -- What stays where the variable is not taken.
  stays : ((elem tyvars (tyvar_of ns x) E ≡ false) → Under ns last (tyvar_of ns x) → Upto ns best (tyvar_of ns x)) → Last ns E (λ v. occurs v (var (tyvar_of ns x))) top last best best
  stays h = record {
    found = inl refl;
    most = λ v e. subst (λ (u : TyVar). elem tyvars u E ≡ false → Under ns last u → Upto ns best u) (sym (is_that v (tyvar_of ns x) e)) h;
    up = λ v u. u;
  }

  -- It is not before `last`,
  pub last_high : {r : Bool} → IsUnder ns last (tyvar_of ns x) r → r ≡ false → Last ns E (λ v. occurs v (var (tyvar_of ns x))) top last best best
  last_high {r} e f = stays (λ n u. absurd (not_under ns last (tyvar_of ns x) r e f u))

  -- or not after `best`,
  pub last_low : {r : Bool} → IsOver ns best (tyvar_of ns x) r → r ≡ false → Last ns E (λ v. occurs v (var (tyvar_of ns x))) top last best best
  last_low {r} e f = stays (λ n u. not_over ns best (tyvar_of ns x) r e f)

  -- or free in the environment,
  pub last_free : {r : Bool} → r ≡ elem tyvars (tyvar_of ns x) E → r ≡ true → Last ns E (λ v. occurs v (var (tyvar_of ns x))) top last best best
  last_free e f = stays (λ n u. absurd (true≢false (sym f ∙ e ∙ n)))

  -- or the new best one.
  pub last_new : {p o r : Bool} → IsUnder ns last (tyvar_of ns x) p → p ≡ true → IsOver ns best (tyvar_of ns x) o → o ≡ true → r ≡ elem tyvars (tyvar_of ns x) E → r ≡ false
      → Last ns E (λ v. occurs v (var (tyvar_of ns x))) top last best (Some x)
  last_new {p} {o} a b c d e f = record {
    found = inr (low, (that_is (tyvar_of ns x), (sym e ∙ f, is_under ns last (tyvar_of ns x) p a b)));
    most = λ v i n u. subst (λ (y : TyVar). tyvar_before (tyvar_of ns x) y ≡ false) (sym (is_that v (tyvar_of ns x) i)) (not_itself (tyvar_of ns x));
    up = λ v u. over_more ns best (tyvar_of ns x) v o c d u;
  }
    where
      not_itself : (v : TyVar) → tyvar_before v v ≡ false
      not_itself v = go (tyvar_before v v) refl
        where
          go : (b : Bool) → tyvar_before v v ≡ b → tyvar_before v v ≡ false
          go true i = absurd (tyvars_ordered.irrefl v i)
          go false i = i

-- ## One after the other
-- What fits for fewer variables fits for more.
fits_more : (ns : List ℕ) (E : List TyVar) (p q : TyVar → Bool) (top : ℕ) (last r : Option ℕ) → ((v : TyVar) → p v ≡ true → q v ≡ true) → Fits ns E p top last r → Fits ns E q top last r
fits_more ns E p q top last None h f = f
fits_more ns E p q top last (Some x) h f = (f.0, (h (tyvar_of ns x) f.1.0, f.1.1))

-- The same variables, told by another test.
pub last_same : {ns : List ℕ} {E : List TyVar} {top : ℕ} {last best r : Option ℕ} (p q : TyVar → Bool) → ((v : TyVar) → p v ≡ q v) → Last ns E p top last best r → Last ns E q top last best r
last_same {ns} {E} {top} {last} {best} {r} p q h L = record {
  found = ⊎_elim (λ e. inl e) (λ f. inr (fits_more ns E p q top last r (λ v e. sym (h v) ∙ e) f)) L.found;
  most = λ v e n u. L.most v (h v ∙ e) n u;
  up = L.up;
}

-- The last of the first ones, and then of the others.
pub last_then : {ns : List ℕ} {E : List TyVar} {p q : TyVar → Bool} {top : ℕ} {last best m r : Option ℕ} → Last ns E p top last best m → Last ns E q top last m r → Last ns E (λ v. p v || q v) top last best r
last_then {ns} {E} {p} {q} {top} {last} {best} {m} {r} A B = record {
  found = ⊎_elim (λ e. first e A.found) (λ f. inr (fits_more ns E q (λ v. p v || q v) top last r (λ v e. or_right (p v) (q v) e) f)) B.found;
  most = λ v e n u. or_cases (p v) (q v) e _ (λ i. B.up v (A.most v i n u)) (λ i. B.most v i n u);
  up = λ v u. B.up v (A.up v u);
}
  where
    first : r ≡ m → (m ≡ best) ⊎ Fits ns E p top last m → (r ≡ best) ⊎ Fits ns E (λ v. p v || q v) top last r
    first e (inl i) = inl (e ∙ i)
    first e (inr f) = inr (subst (Fits ns E (λ v. p v || q v) top last) (sym e) (fits_more ns E p (λ v. p v || q v) top last m (λ v i. or_left (p v) (q v) i) f))

-- None occurs in nothing.
pub last_none : {ns : List ℕ} {E : List TyVar} {top : ℕ} {last best : Option ℕ} → Last ns E (λ v. false) top last best best
last_none = record { found = inl refl; most = λ v e n u. absurd (false≢true e); up = λ v u. u }

-- ## Types: r is what `shape_at` returned
module _ {w : List ℕ} {top t : ℕ} {r : Shape} (ns : List ℕ) (N : Node w top t) (e : r ≡ shape_of w t) {E : List TyVar} {last best : Option ℕ} where
  -- A variable.
  pub last_var : {x : ℕ} {m : Option ℕ} → r ≡ Var x → Last ns E (λ v. occurs v (var (tyvar_of ns x))) top last best m → Last ns E (λ v. occurs v (tree ns w t)) top last best m
  last_var k L = rw (tree_var ns N e k) L

  -- A constructor, as its arguments.
  pub last_con : {c l : ℕ} {m : Option ℕ} → r ≡ Con c l → Last ns E (λ v. occurs_in v (list ns w l)) top last best m → Last ns E (λ v. occurs v (tree ns w t)) top last best m
  unfolding occurs
  last_con k L = rw (tree_con ns N e k) L

  -- An arrow: its left side, then its right side.
  pub last_arrow : {a b : ℕ} {m n : Option ℕ} → r ≡ Arrow a b → Last ns E (λ v. occurs v (tree ns w a)) top last best m → Last ns E (λ v. occurs v (tree ns w b)) top last m n
      → Last ns E (λ v. occurs v (tree ns w t)) top last best n
  unfolding occurs
  last_arrow k A B = rw (tree_arrow ns N e k) (last_then A B)

-- ## Lists: r is what `cell_at` returned
module _ {w : List ℕ} {top l : ℕ} {r : Cell} (ns : List ℕ) (N : Node w top l) (e : r ≡ cell_of w l) {E : List TyVar} {last best : Option ℕ} where
  -- No types.
  pub last_nil : r ≡ Nil → Last ns E (λ v. occurs_in v (list ns w l)) top last best best
  unfolding occurs
  last_nil k = rw (list_nil ns N e k) last_none

  -- The first type, then the rest.
  pub last_cons : {a b : ℕ} {m n : Option ℕ} → r ≡ Cons a b → Last ns E (λ v. occurs v (tree ns w a)) top last best m → Last ns E (λ v. occurs_in v (list ns w b)) top last m n
      → Last ns E (λ v. occurs_in v (list ns w l)) top last best n
  unfolding occurs
  last_cons k A B = rw (list_cons ns N e k) (last_then A B)
