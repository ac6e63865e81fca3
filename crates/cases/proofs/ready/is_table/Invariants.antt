-- The nodes passed refer to lower words.
use mathlib.Core.List.{◌++◌}
use Prim.Native.Nat.{ℕ, ◌<◌}
use Rattle.cases.specs.Tested.{Falls}
use Rattle.cases.proofs.ready.is_table.Given as goal

abbrev pub invariant-loop-n : goal.invariant-loop-n
invariant-loop-n l = (k : ℕ) → k < l.n → Falls (l.base.words.now ++ l.work) k
