-- Laws of looking for a variable in pairs: what the words have is what the substitution has.
use mathlib.Core.Path.{◌≡◌, refl, ap, sym, ◌∙◌, subst}
use mathlib.Core.Bool.{Bool, true, false}
use mathlib.Core.List.{List}
use mathlib.Core.Option.{Option, none, some}
use Prim.Native.Nat.{ℕ, zero, suc, ◌+◌, ◌*◌, ◌-◌, ◌<◌, ◌≤◌}
use native.Mathlib.Decide.{ℕ_discrete}
use native.Mathlib.Numerals.{sub-one}
use native.Mathlib.Omega.{arith}
use lib.ListN.{get_or}
use Rattle.meaning.specs.Base.{is_yes, if, eqb}
use Rattle.meaning.specs.Ast.{Ty, var, same_tyvar}
use Rattle.meaning.specs.Map.{tyvars, get}
use Rattle.meaning.specs.Subst.{Subst, or_var, look}
use Rattle.names.specs.Names.{Names, tyvar_of, first_node}
use Rattle.names.proofs.Tests.{eq_yes, eq_no}
use Rattle.names.proofs.Distinct.{tyvar_of_same}
use Rattle.ast.specs.Table.{tree, Table, Node}
use Rattle.pairs.specs.Pairs.{sub_at, find_at, Below, Sub}
use Rattle.std.specs.Prelude.{Option as Maybe, Some, None}

-- No pairs have nothing.
pub find_none : (w : List ℕ) (at k x : ℕ) → k ≤ 0 → find_at w at k x ≡ None
unfolding find_at
find_none w at zero x h = refl
find_none w at (suc k) x h = absurd (omega arith)

-- The first pair, then the others.
find_open : (w : List ℕ) (at k x : ℕ) → 0 < k → find_at w at k x ≡ if (eqb (get_or w at 0) x) (Some (get_or w (at + 1) 0)) (find_at w (at + 2) (k - 1) x)
unfolding find_at
find_open w at zero x h = absurd (omega arith)
find_open w at (suc k) x h = simp sub-one

-- The first pair has the variable.
pub find_hit : (w : List ℕ) (at k x : ℕ) → 0 < k → get_or w at 0 ≡ x → find_at w at k x ≡ Some (get_or w (at + 1) 0)
find_hit w at k x h e = find_open w at k x h ∙ rw (eq_yes _ _ e)

-- It has another one.
pub find_miss : (w : List ℕ) (at k x : ℕ) → 0 < k → (get_or w at 0 ≡ x → ⊥) → find_at w at k x ≡ find_at w (at + 2) (k - 1) x
find_miss w at k x h e = find_open w at k x h ∙ rw (eq_no _ _ e)

-- The j pairs from i, which are left, have for x what all k have.
pub record Looking (w : List ℕ) (at k x i j : ℕ) : Type 0 where
  pub ends : i + 2 * j ≡ at + 2 * k
  pub finds : find_at w i j x ≡ find_at w at k x

-- At first all are left.
pub looking : {w : List ℕ} {at k x : ℕ} → Looking w at k x at k
looking = record { ends = refl; finds = refl }

-- A pair of another variable is passed.
pub looks_on : {w : List ℕ} {at k x i j : ℕ} → Looking w at k x i j → 0 < j → (get_or w i 0 ≡ x → ⊥) → Looking w at k x (i + 2) (j - 1)
looks_on {w} {at} {k} {x} {i} {j} L h e = record { ends = (let z = L.ends in omega arith); finds = sym (find_miss w i j x h e) ∙ L.finds }

-- The same by how many came before.
pub looks_next : {w : List ℕ} {at k x i : ℕ} → Looking w at k x (at + 2 * i) (k - i) → i < k → (get_or w (at + 2 * i) 0 ≡ x → ⊥)
    → Looking w at k x (at + 2 * (i + 1)) (k - (i + 1))
looks_next {w} {at} {k} {x} {i} L h e =
    let p : at + 2 * i + 2 ≡ at + 2 * (i + 1) = omega arith in
    let q : k - i - 1 ≡ k - (i + 1) = omega arith in
    subst (λ j. Looking w at k x (at + 2 * (i + 1)) j) q (subst (λ m. Looking w at k x m (k - i - 1)) p (looks_on L (omega arith) e))

-- What was found, as the meaning says it.
abbrev pub type_of : List ℕ → List ℕ → Maybe ℕ → Option Ty
type_of ns w (Some m) = some (tree ns w m)
type_of ns w None = none

-- One pair more, told by a test of the words and by one of the variables.
one_more : (ns w : List ℕ) {x y : ℕ} (m : ℕ) (f : Maybe ℕ) (s : Subst) → Names ns → (p : Dec (tyvar_of ns x ≡ tyvar_of ns y)) (q : Dec (y ≡ x))
    → get tyvars (tyvar_of ns x) s ≡ type_of ns w f → if (is_yes p) (some (tree ns w m)) (get tyvars (tyvar_of ns x) s) ≡ type_of ns w (if (is_yes q) (Some m) f)
one_more ns w m f s N (yes p) (yes q) e = refl
one_more ns w {x} {y} m f s N (yes p) (no q) e = absurd (q (sym (tyvar_of_same ns N x y p)))
one_more ns w m f s N (no p) (yes q) e = absurd (p (ap (tyvar_of ns) (sym q)))
one_more ns w m f s N (no p) (no q) e = e

-- The substitution has for a variable what the pairs have for its word.
pub get_is : (ns : List ℕ) → Names ns → (w : List ℕ) (at k x : ℕ) → get tyvars (tyvar_of ns x) (sub_at ns w at k) ≡ type_of ns w (find_at w at k x)
unfolding get sub_at find_at eqb
get_is ns N w at zero x = refl
get_is ns N w at (suc k) x = one_more ns w (get_or w (at + 1) 0) (find_at w (at + 2) k x) (sub_at ns w (at + 2) k) N
    (same_tyvar (tyvar_of ns x) (tyvar_of ns (get_or w at 0))) (ℕ_discrete (get_or w at 0) x) (get_is ns N w (at + 2) k x)

-- The bound of the first pair's type.
pub below_head : {w : List ℕ} {top at k : ℕ} → Below w top at (suc k) → get_or w (at + 1) 0 < first_node + top
below_head {w} {top} {at} b = let e : at + 2 * 0 + 1 ≡ at + 1 = omega arith in subst (λ (j : ℕ). get_or w j 0 < first_node + top) e (b.node 0 (omega arith))

-- The bounds of the others.
pub below_tail : {w : List ℕ} {top at k : ℕ} → Below w top at (suc k) → Below w top (at + 2) k
below_tail {w} {top} {at} {k} b = record {
  node = λ i h. let e : at + 2 * suc i + 1 ≡ at + 2 + 2 * i + 1 = omega arith in
      subst (λ (j : ℕ). get_or w j 0 < first_node + top) e (b.node (suc i) (omega arith));
}

-- A found word is below a bound.
abbrev FoundBelow : ℕ → Maybe ℕ → Type 0
FoundBelow b (Some m) = m < b
FoundBelow b None = Unit {0}

-- One of two that are.
either_below : (b : ℕ) (c : Bool) (m : ℕ) (f : Maybe ℕ) → m < b → FoundBelow b f → FoundBelow b (if c (Some m) f)
either_below b true m f h g = h
either_below b false m f h g = g

-- What is found is bounded as the pairs are.
found_below : (w : List ℕ) (top at k x : ℕ) → Below w top at k → FoundBelow (first_node + top) (find_at w at k x)
unfolding find_at
found_below w top at zero x b = tt
found_below w top at (suc k) x b = either_below (first_node + top) (eqb (get_or w at 0) x) _ _ (below_head b) (found_below w top (at + 2) k x (below_tail b))

-- What a caller of `find` learns: f is what it returned, and the arm of the match says which one it is.
module _ (ns : List ℕ) (N : Names ns) (w : List ℕ) (at k x : ℕ) {f : Maybe ℕ} (e : f ≡ find_at w at k x) where
  -- The substitution has the type of the word that was found.
  pub get_at : {m : ℕ} → f ≡ Some m → get tyvars (tyvar_of ns x) (sub_at ns w at k) ≡ some (tree ns w m)
  get_at h = get_is ns N w at k x ∙ ap (type_of ns w) (sym e ∙ h)

  -- It has none.
  pub get_nothing : f ≡ None → get tyvars (tyvar_of ns x) (sub_at ns w at k) ≡ none
  get_nothing h = get_is ns N w at k x ∙ ap (type_of ns w) (sym e ∙ h)

  -- So the variable becomes that type.
  pub look_at : {m : ℕ} → f ≡ Some m → look (sub_at ns w at k) (tyvar_of ns x) ≡ tree ns w m
  unfolding or_var
  look_at h = rw (get_at h)

  -- Or it stays.
  pub look_nothing : f ≡ None → look (sub_at ns w at k) (tyvar_of ns x) ≡ var (tyvar_of ns x)
  unfolding or_var
  look_nothing h = rw (get_nothing h)

-- A found word is below the words of the table's next node.
pub found_at : {w : List ℕ} {top at k m : ℕ} (x : ℕ) {f : Maybe ℕ} → Sub w top at k → f ≡ find_at w at k x → f ≡ Some m → m < first_node + top
found_at {w} {top} {at} {k} x S e h = rw (sym e ∙ h) at (found_below w top at k x S.bound)

-- So it is a word of the table.
pub found_node : {w : List ℕ} {top at k m : ℕ} (x : ℕ) {f : Maybe ℕ} → Table w top → Sub w top at k → f ≡ find_at w at k x → f ≡ Some m → Node w top m
found_node x T S e h = record { table = T; below = found_at x S e h }
