-- The rows passed are typed.
use Prim.Native.Nat.{ℕ, ◌<◌}
use Rattle.supers.specs.Rows.{row_at}
use Rattle.cases.specs.Typed.{Typed}
use Rattle.cases.proofs.binders.are_typed.Given as goal

abbrev pub invariant-loop-j : goal.invariant-loop-j
invariant-loop-j l = (k : ℕ) → k < l.j → Typed l.top (row_at l.binders k)
