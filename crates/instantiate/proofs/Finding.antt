-- Looking for the first row of a class, and what the meaning finds there.
use mathlib.Core.Path.{◌≡◌, refl, ap, sym, ◌∙◌}
use mathlib.Core.Bool.{Bool}
use mathlib.Core.List.{List}
use mathlib.Core.Option.{none, some}
use Prim.Native.Nat.{ℕ, zero, suc, ◌+◌, ◌*◌, ◌<◌, ◌≤◌}
use native.Mathlib.Decide.{ℕ_discrete}
use native.Mathlib.Omega.{arith}
use lib.ListN.{get_or}
use Rattle.meaning.specs.Base.{is_yes, first}
use Rattle.meaning.specs.Ast.{Name, same_name, dvar, pred, Binder}
use Rattle.theorems.proofs.Tests.{is_yes_of, is_no_of}
use Rattle.names.specs.Names.{Names, name_of}
use Rattle.names.proofs.Distinct.{name_of_same}
use Rattle.ast.specs.Table.{tree}
use Rattle.supers.specs.Rows.{binders_from}
use Rattle.simplify.proofs.RowSets.{row_words}
use Rattle.instantiate.specs.Instance.{Rows}
use Rattle.instantiate.specs.Looks.{NoneOf, FirstIs, FindsFirst}
use Rattle.std.specs.Prelude.{Some, None}

-- ## The loop

-- At first no rows were passed.
pub none_yet : (bs : List ℕ) (c : ℕ) → NoneOf bs c 0
none_yet bs c = record { none = λ i h e. omega arith }

-- One more row is of another class.
pub none_more : {bs : List ℕ} {c j : ℕ} → NoneOf bs c j → (get_or bs (3 * j + 1) 0 ≡ c → ⊥) → NoneOf bs c (j + 1)
none_more {bs} {c} {j} F n = record { none = λ i h e. go i h e (ℕ_discrete i j) }
  where
    go : (i : ℕ) → i < j + 1 → get_or bs (3 * i + 1) 0 ≡ c → Dec (i ≡ j) → ⊥
    go i h e (yes p) = n (rw p at e)
    go i h e (no p) = F.none i (omega arith) e

-- The row is found.
pub first_found : {bs : List ℕ} {m c j : ℕ} → NoneOf bs c j → j < m → get_or bs (3 * j + 1) 0 ≡ c → FindsFirst bs m c (Some (get_or bs (3 * j) 0))
first_found {j = j} F h e = record { says = record { at = j; below = h; class = e; dict = refl; before = F } }

-- There is none.
pub first_none : {bs : List ℕ} {m c j : ℕ} → NoneOf bs c j → m ≤ j → FindsFirst bs m c None
first_none F h = record { says = record { none = λ i l e. F.none i (omega arith) e } }

-- ## What the meaning finds

-- Whether a binder is of the class.
abbrev pub of_class : Name → Binder → Bool
of_class x = λ (b : Binder). is_yes (same_name b.1.class x)

module _ {w bs : List ℕ} {top dv m : ℕ} (ns : List ℕ) (N : Names ns) (R : Rows w bs top dv m) (c : ℕ) where
  -- A row of another class is passed.
  one_passed : (j k : ℕ) → j < m → (get_or bs (3 * j + 1) 0 ≡ c → ⊥) → first (of_class (name_of ns c)) (binders_from ns w bs j (suc k)) ≡ first (of_class (name_of ns c)) (binders_from ns w bs (suc j) k)
  unfolding binders_from first
  one_passed j k h n =
      let W = R.at j h in let K = row_words bs j W.row in
      rw (W.row, is_no_of (same_name (name_of ns W.class) (name_of ns c)) (λ e. n (K.class ∙ name_of_same ns N W.class c e)))

  -- The first binder of the class has the name of number d.
  pub record Hit (bs' : List Binder) (d : ℕ) : Type 0 where
    pub binder : Binder
    pub is : first (of_class (name_of ns c)) bs' ≡ some binder
    pub dict : binder.0 ≡ dvar d

  -- A row of the class is found.
  one_found : {d : ℕ} (j k : ℕ) → j < m → get_or bs (3 * j + 1) 0 ≡ c → d ≡ get_or bs (3 * j) 0 → Hit (binders_from ns w bs j (suc k)) d
  unfolding binders_from first
  one_found j k h e q =
      let W = R.at j h in let K = row_words bs j W.row in
      record {
        binder = (dvar (dv + j), pred (name_of ns W.class) (tree ns w W.type));
        is = rw (W.row, is_yes_of (same_name (name_of ns W.class) (name_of ns c)) (ap (name_of ns) (sym K.class ∙ e))) refl;
        dict = ap dvar (sym (q ∙ K.dict));
      }

  -- So is the first of all of them.
  pub found_from : {d : ℕ} (F : FirstIs bs m c d) (k j : ℕ) → j + k ≡ m → j ≤ F.at → Hit (binders_from ns w bs j k) d
  found_from F zero j e h = let b = F.below in absurd (omega arith)
  found_from {d} F (suc k) j e h = go (ℕ_discrete j F.at) (λ g. found_from F k (suc j) (omega arith) g)
    where
      go : Dec (j ≡ F.at) → (suc j ≤ F.at → Hit (binders_from ns w bs (suc j) k) d) → Hit (binders_from ns w bs j (suc k)) d
      go (yes p) ih = let b = F.below in one_found j k (omega arith) (rw p F.class) (rw p F.dict)
      go (no n) ih = let b = F.below in let H = ih (omega arith) in
          record { binder = H.binder; is = one_passed j k (omega arith) (F.before.none j (omega arith)) ∙ H.is; dict = H.dict }

  -- Or none is.
  pub none_from : NoneOf bs c m → (k j : ℕ) → j + k ≡ m → first (of_class (name_of ns c)) (binders_from ns w bs j k) ≡ none
  unfolding binders_from first
  none_from F zero j e = refl
  none_from F (suc k) j e = one_passed j k (omega arith) (F.none j (omega arith)) ∙ none_from F k (suc j) (omega arith)
