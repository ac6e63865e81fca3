-- The measure is twice the steps left, and one more for a list: a goal that is resolved has spent a step.
use Prim.Native.Nat.{◌+◌, ◌*◌}
use Rattle.resolve.proofs.+all_resolved_resolve.Given as goal

abbrev pub decreases-all_resolved : goal.decreases-all_resolved
decreases-all_resolved l = 2 * l.room.now.left + 1

abbrev pub decreases-resolve : goal.decreases-resolve
decreases-resolve l = 2 * l.room.now.left
