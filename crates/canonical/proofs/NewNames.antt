-- The variables of a renamed type that the environment has not are the new names.
use mathlib.Core.Path.{◌≡◌, refl, ap, sym, ◌∙◌, subst}
use mathlib.Core.Bool.{true, false, true≢false, false≢true}
use mathlib.Core.List.{List, [], ◌∷◌}
use mathlib.Core.Option.{none, some}
use mathlib.Core.Logic.{◌≢◌}
use Prim.Native.Nat.{ℕ, suc, ◌+◌, ◌*◌, ◌^◌, ◌<◌, ◌≤◌}
use native.Mathlib.Omega.{arith}
use native.Mathlib.Decide.{dec_lt}
use lib.Dec.{lit≤}
use Rattle.meaning.specs.Base.{is_yes, if, ltb}
use Rattle.meaning.specs.Text.{packed}
use Rattle.meaning.specs.Ast.{TyVar, same_tyvar, letter}
use Rattle.meaning.specs.Map.{tyvars, get, insert, elem}
use Rattle.meaning.specs.Cores.{renamer_from}
use Rattle.theorems.proofs.Tests.{or_right, none_some, some_inj}
use Rattle.theorems.proofs.Maps.{get_insert_same}
use Rattle.theorems.proofs.Ordered.{Sorted, sorted_insert}
use Rattle.theorems.proofs.ByteOrder.{tyvars_ordered}
use Rattle.theorems.proofs.FreeVars.{elem_cons, elem_head}
use Rattle.theorems.proofs.Made.{IsMade}
use Rattle.theorems.proofs.MadeGeneralized.{MadeVars}
use Rattle.theorems.proofs.MadeOrder.{Once}
use Rattle.names.proofs.Words.{same_parts}
use Rattle.names.proofs.Tests.{lt_yes, lt_no}
use Rattle.canonical.proofs.Chosen.{later_name}

-- ## letters
-- No two letters are equal.
letter_same : (j k : ℕ) → letter j ≡ letter k → j ≡ k
unfolding letter packed
letter_same j k e =
    let f : (97 + j) * 256 ^ 31 + 0 ≡ (97 + k) * 256 ^ 31 + 0 = cc in
    let g = (same_parts (256 ^ 31) (97 + j) (97 + k) 0 0 (lit≤ tt) (lit≤ tt) f).0 in
    omega arith

-- None was made.
pub letter_named : (k : ℕ) → IsMade (letter k) → ⊥
unfolding letter
letter_named k m = m

-- ## the renaming as a map
-- It is in byte order.
pub renamer_sorted : (k : ℕ) (vs : List TyVar) → Sorted tyvars (renamer_from k vs)
unfolding renamer_from
renamer_sorted k [] = tt
renamer_sorted k (v ∷ vs) = sorted_insert tyvars tyvars_ordered (v, if (ltb k 26) (letter k) v) (renamer_from (suc k) vs) (renamer_sorted (suc k) vs)

-- A new name from the k-th letter on: a letter, or the variable itself, which is one of vs.
pub data Named (k : ℕ) (vs : List TyVar) (x y : TyVar) : Type 0 where
  by_letter : (j : ℕ) → k ≤ j → j < 26 → y ≡ letter j → elem tyvars x vs ≡ true → Named k vs x y
  by_itself : y ≡ x → elem tyvars x vs ≡ true → Named k vs x y

-- What the first variable gets.
first_new : (k : ℕ) (v : TyVar) (vs : List TyVar) → Named k (v ∷ vs) v (if (ltb k 26) (letter k) v)
first_new k v vs = go (dec_lt k 26)
  where
    go : Dec (k < 26) → Named k (v ∷ vs) v (if (ltb k 26) (letter k) v)
    go (yes h) = by_letter k (omega arith) h (rw (lt_yes k 26 h) refl) (elem_head v vs)
    go (no h) = by_itself (rw (lt_no k 26 (omega arith)) refl) (elem_head v vs)

-- One of the rest is one of all.
in_more : (x v : TyVar) (vs : List TyVar) → elem tyvars x vs ≡ true → elem tyvars x (v ∷ vs) ≡ true
in_more x v vs e = elem_cons x v vs ∙ or_right (is_yes (same_tyvar x v)) (elem tyvars x vs) e

-- What the renaming has is such a name.
pub renamer_names : (k : ℕ) (vs : List TyVar) (x y : TyVar) → get tyvars x (renamer_from k vs) ≡ some y → Named k vs x y
unfolding renamer_from get
renamer_names k [] x y e = absurd (none_some y e)
renamer_names k (v ∷ vs) x y e = go (same_tyvar x v) (λ f. renamer_names (suc k) vs x y f)
  where
    more : Named (suc k) vs x y → Named k (v ∷ vs) x y
    more (by_letter j a b c d) = by_letter j (omega arith) b c (in_more x v vs d)
    more (by_itself c d) = by_itself c (in_more x v vs d)

    go : Dec (x ≡ v) → (get tyvars x (renamer_from (suc k) vs) ≡ some y → Named (suc k) vs x y) → Named k (v ∷ vs) x y
    go (yes i) ih =
        let f : if (ltb k 26) (letter k) v ≡ y = some_inj _ y (sym (get_insert_same tyvars v (if (ltb k 26) (letter k) v) (renamer_from (suc k) vs)) ∙ ap (λ (z : TyVar). get tyvars z (renamer_from k (v ∷ vs))) (sym i) ∙ e) in
        subst (λ (z : TyVar). Named k (v ∷ vs) z y) (sym i) (subst (Named k (v ∷ vs) v) f (first_new k v vs))
    go (no n) ih = more (ih (sym (later_name x v k vs n) ∙ e))

-- The first variable's name is no later one's.
not_again : (k : ℕ) (v : TyVar) (vs : List TyVar) (x : TyVar) → MadeVars (v ∷ vs) → elem tyvars v vs ≡ false → get tyvars x (renamer_from (suc k) vs) ≡ some (if (ltb k 26) (letter k) v) → ⊥
not_again k v vs x m o e = go (dec_lt k 26) (renamer_names (suc k) vs x (if (ltb k 26) (letter k) v) e)
  where
    is_letter : k < 26 → if (ltb k 26) (letter k) v ≡ letter k
    is_letter h = rw (lt_yes k 26 h) refl

    is_itself : 26 ≤ k → if (ltb k 26) (letter k) v ≡ v
    is_itself h = rw (lt_no k 26 h) refl

    go : Dec (k < 26) → Named (suc k) vs x (if (ltb k 26) (letter k) v) → ⊥
    go (yes h) (by_letter j a b c d) = let f = letter_same k j (sym (is_letter h) ∙ c) in omega arith
    go (yes h) (by_itself c d) =
        let f : x ≡ letter k = sym c ∙ is_letter h in
        letter_named k (subst IsMade f (m x (in_more x v vs d)))
    go (no h) (by_letter j a b c d) = omega arith
    go (no h) (by_itself c d) =
        let f : v ≡ x = sym (is_itself (omega arith)) ∙ c in
        true≢false (sym d ∙ ap (λ (z : TyVar). elem tyvars z vs) (sym f) ∙ o)

-- Two variables of one new name are one variable.
pub renamer_once : (k : ℕ) (vs : List TyVar) (x x' y : TyVar) → MadeVars vs → Once vs → get tyvars x (renamer_from k vs) ≡ some y → get tyvars x' (renamer_from k vs) ≡ some y → x ≡ x'
unfolding renamer_from get
renamer_once k [] x x' y m o e f = absurd (none_some y e)
renamer_once k (v ∷ vs) x x' y m o e f = go (same_tyvar x v) (same_tyvar x' v) (λ a b. renamer_once (suc k) vs x x' y (λ z i. m z (in_more z v vs i)) o.1 a b)
  where
    new : TyVar
    new = if (ltb k 26) (letter k) v

    at_first : (z : TyVar) → z ≡ v → get tyvars z (renamer_from k (v ∷ vs)) ≡ some y → new ≡ y
    at_first z i g = some_inj new y (sym (get_insert_same tyvars v new (renamer_from (suc k) vs)) ∙ ap (λ (u : TyVar). get tyvars u (renamer_from k (v ∷ vs))) (sym i) ∙ g)

    at_rest : (z : TyVar) → z ≢ v → get tyvars z (renamer_from k (v ∷ vs)) ≡ some y → get tyvars z (renamer_from (suc k) vs) ≡ some y
    at_rest z n g = sym (later_name z v k vs n) ∙ g

    go : Dec (x ≡ v) → Dec (x' ≡ v) → (get tyvars x (renamer_from (suc k) vs) ≡ some y → get tyvars x' (renamer_from (suc k) vs) ≡ some y → x ≡ x') → x ≡ x'
    go (yes i) (yes j) ih = i ∙ sym j
    go (yes i) (no j) ih = absurd (not_again k v vs x' m o.0 (at_rest x' j f ∙ ap some (sym (at_first x i e))))
    go (no i) (yes j) ih = absurd (not_again k v vs x m o.0 (at_rest x i e ∙ ap some (sym (at_first x' j f))))
    go (no i) (no j) ih = ih (at_rest x i e) (at_rest x' j f)

-- Every variable of the list gets a new name.
pub renames_all : (x : TyVar) (k : ℕ) (vs : List TyVar) → elem tyvars x vs ≡ true → get tyvars x (renamer_from k vs) ≡ none → ⊥
unfolding renamer_from elem
renames_all x k [] e h = false≢true e
renames_all x k (v ∷ vs) e h = go (same_tyvar x v) refl (λ f g. renames_all x (suc k) vs f g)
  where
    new : TyVar
    new = if (ltb k 26) (letter k) v

    go : (d : Dec (x ≡ v)) → same_tyvar x v ≡ d → (elem tyvars x vs ≡ true → get tyvars x (renamer_from (suc k) vs) ≡ none → ⊥) → ⊥
    go (yes i) j ih =
        let m : get tyvars x (insert tyvars (v, new) (renamer_from (suc k) vs)) ≡ some new = rw i (get_insert_same tyvars v new (renamer_from (suc k) vs)) in
        none_some new (sym h ∙ m)
    go (no i) j ih = ih (rw j at e) (sym (later_name x v k vs i) ∙ h)
