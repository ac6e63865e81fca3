-- What a node names stands before it: its number is smaller, and it is that thing of the whole section too.
use mathlib.Core.Path.{◌≡◌}
use mathlib.Core.List.{List, [], ◌∷◌}
use mathlib.Core.Option.{some}
use Prim.Native.Nat.{ℕ, zero, suc, ◌<◌}
use native.Mathlib.Omega.{arith}
use Rattle.meaning.specs.Base.{nth}
use Rattle.theorems.proofs.Tests.{none_some}
use Rattle.reader.specs.Placing.{upto}
use Rattle.views.specs.Numbers.{Named}

nth-upto : {A : Type 0} (i : ℕ) (xs : List A) (v : ℕ) (x : A) → nth (upto i xs) v ≡ some x → (v < i) × (nth xs v ≡ some x)
unfolding nth upto
nth-upto zero xs v x e = absurd (none_some x e)
nth-upto (suc i) [] v x e = absurd (none_some x e)
nth-upto (suc i) (y ∷ xs) zero x e = (omega arith, e)
nth-upto (suc i) (y ∷ xs) (suc v) x e = let h = nth-upto i xs v x e in let l = h.0 in (omega arith, h.1)

pub named_smaller : {A : Type 0} (i : ℕ) (xs : List A) (v : ℕ) (x : A) → Named (upto i xs) v x → v < i
named_smaller i xs v x h = (nth-upto i xs v x h.there).0

pub named_whole : {A : Type 0} (i : ℕ) (xs : List A) (v : ℕ) (x : A) → Named (upto i xs) v x → Named xs v x
named_whole i xs v x h = record { there = (nth-upto i xs v x h.there).1 }
