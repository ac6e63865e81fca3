-- A pending row's type is renamed, then the rest; the measure is how many rows are left.
use Prim.Native.Nat.{◌-◌}
use Rattle.canoncore.proofs.rows.+rows_from.Given as goal

abbrev pub decreases-rows_from : goal.decreases-rows_from
decreases-rows_from l = l.n - l.j
