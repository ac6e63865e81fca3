-- The names passed are new.
use Prim.Native.Nat.{ℕ, ◌<◌}
use Rattle.cases.specs.Tested.{New}
use Rattle.cases.proofs.rows.are_distinct.Given as goal

abbrev pub invariant-loop-i : goal.invariant-loop-i
invariant-loop-i l = (k : ℕ) → k < l.i → New l.names k
