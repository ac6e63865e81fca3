-- The names passed differ from name i.
use Prim.Native.Nat.{ℕ, ◌<◌}
use Rattle.cases.specs.Tested.{Apart}
use Rattle.cases.proofs.rows.is_old.Given as goal

abbrev pub invariant-loop-j : goal.invariant-loop-j
invariant-loop-j l = (k : ℕ) → k < l.j → Apart l.names l.i k
