-- The measure is four times the steps left, and one or two more where a call passes the steps on as they are.
use Prim.Native.Nat.{◌+◌, ◌*◌}
use Rattle.unify.proofs.+one_unify_unify_arrow_unify_con_unify_zip.Given as goal

abbrev pub decreases-one : goal.decreases-one
decreases-one l = 4 * l.room.now.left

abbrev pub decreases-unify : goal.decreases-unify
decreases-unify l = 4 * l.room.now.left

abbrev pub decreases-unify_arrow : goal.decreases-unify_arrow
decreases-unify_arrow l = 4 * l.room.now.left + 1

abbrev pub decreases-unify_con : goal.decreases-unify_con
decreases-unify_con l = 4 * l.room.now.left + 2

abbrev pub decreases-unify_zip : goal.decreases-unify_zip
decreases-unify_zip l = 4 * l.room.now.left + 1
