-- Laws of maps: what is found after an insertion, for every list of pairs, in order or not.
use mathlib.Core.Path.{◌≡◌, refl, sym, ◌∙◌}
use mathlib.Core.Bool.{Bool, true, false}
use mathlib.Core.List.{[], ◌∷◌}
use mathlib.Core.Option.{some}
use mathlib.Core.Logic.{◌≢◌}
use Rattle.meaning.specs.Base.{is_yes, if}
use Rattle.meaning.specs.Map.{Keys, Map, get, insert}
use Rattle.theorems.proofs.Tests.{is_yes_of, is_no_of}

module _ {K A : Type 0} (k : Keys K) where
  -- The newest pair is found first.
  pub get_cons_same : (x : K) (a : A) (s : Map K A) → get k x ((x, a) ∷ s) ≡ some a
  unfolding get
  get_cons_same x a s = rw (is_yes_of (k.same x x) refl) refl

  pub get_cons_other : (x y : K) (a : A) (s : Map K A) → x ≢ y → get k x ((y, a) ∷ s) ≡ get k x s
  unfolding get
  get_cons_other x y a s h = rw (is_no_of (k.same x y) h) refl

  pub get-insert : (x : K) (p : K × A) (s : Map K A) → get k x (insert k p s) ≡ get k x (p ∷ s)
  unfolding get insert
  get-insert x p [] = refl
  get-insert x p (q ∷ s) = go (k.same p.0 q.0) (k.before p.0 q.0) (k.same x p.0) refl (k.same x q.0) refl (get-insert x p s)
    where
      go : (a : Dec (p.0 ≡ q.0)) (b : Bool) (c : Dec (x ≡ p.0)) → k.same x p.0 ≡ c → (e : Dec (x ≡ q.0)) → k.same x q.0 ≡ e
          → get k x (insert k p s) ≡ get k x (p ∷ s)
          → get k x (if (is_yes a) (p ∷ s) (if b (p ∷ (q ∷ s)) (q ∷ insert k p s))) ≡ get k x (p ∷ (q ∷ s))
      go (yes a) b (yes c) i (yes e) j ih = cc
      go (yes a) b (yes c) i (no e) j ih = cc
      go (yes a) b (no c) i (yes e) j ih = absurd (c (e ∙ sym a))
      go (yes a) b (no c) i (no e) j ih = cc
      go (no a) true c i e j ih = refl
      go (no a) false (yes c) i (yes e) j ih = absurd (a (sym c ∙ e))
      go (no a) false (yes c) i (no e) j ih = cc
      go (no a) false (no c) i (yes e) j ih = cc
      go (no a) false (no c) i (no e) j ih = cc

  pub get_insert_same : (x : K) (a : A) (s : Map K A) → get k x (insert k (x, a) s) ≡ some a
  get_insert_same x a s = get-insert x (x, a) s ∙ get_cons_same x a s

  pub get_insert_other : (x : K) (p : K × A) (s : Map K A) → x ≢ p.0 → get k x (insert k p s) ≡ get k x s
  get_insert_other x p s h = get-insert x p s ∙ get_cons_other x p.0 p.1 s h
