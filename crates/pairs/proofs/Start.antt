-- The substitutions that are made of nothing.
use Prim.Native.Nat.{ℕ, ◌-◌}
use mathlib.Core.Path.{refl}
use mathlib.Core.List.{List}
use Rattle.pairs.specs.Pairs.{sub_at}
use Rattle.pairs.proofs.OnePair.{OnePut, pair_is, pair_sub}
use Rattle.pairs.specs.Made.{Empty, Single}

-- No pairs are the empty substitution.
pub made_empty : (sp : ℕ) → Empty sp sp 0
unfolding sub_at
made_empty sp = record { begins = refl; none = refl; is = λ ns w. refl }

-- Two stores below sp make one pair.
pub made_single : {w w' : List ℕ} {sp x t : ℕ} → OnePut w w' sp x t → Single w w' sp x t (sp - 2) 1
made_single P = record {
  begins = refl;
  one = refl;
  low = P.low;
  high = P.high;
  is = λ ns top room N. pair_is P ns room N;
  sub = λ top room N. pair_sub P N;
}
