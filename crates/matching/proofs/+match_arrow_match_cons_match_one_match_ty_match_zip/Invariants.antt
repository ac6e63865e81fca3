-- The measure is four times the steps left, and who calls whom at the same number of them.
use Prim.Native.Nat.{◌+◌, ◌*◌}
use Rattle.matching.proofs.+match_arrow_match_cons_match_one_match_ty_match_zip.Given as goal

abbrev pub decreases-match_arrow : goal.decreases-match_arrow
decreases-match_arrow l = 4 * l.room.now.left + 2

abbrev pub decreases-match_cons : goal.decreases-match_cons
decreases-match_cons l = 4 * l.room.now.left + 3

abbrev pub decreases-match_one : goal.decreases-match_one
decreases-match_one l = 4 * l.room.now.left + 1

abbrev pub decreases-match_ty : goal.decreases-match_ty
decreases-match_ty l = 4 * l.room.now.left

abbrev pub decreases-match_zip : goal.decreases-match_zip
decreases-match_zip l = 4 * l.room.now.left + 2
