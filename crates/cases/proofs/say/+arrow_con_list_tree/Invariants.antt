-- The measure is twice the depth left, and one more for what calls the others at the same depth.
use Rattle.std.proofs.Common.{◌+◌, ◌*◌}
use Rattle.cases.proofs.say.+arrow_con_list_tree.Given as goal

abbrev pub decreases-arrow : goal.decreases-arrow
decreases-arrow g l = 2 * l.depth + 1

abbrev pub decreases-con : goal.decreases-con
decreases-con g l = 2 * l.depth + 1

abbrev pub decreases-list : goal.decreases-list
decreases-list g l = 2 * l.depth

abbrev pub decreases-tree : goal.decreases-tree
decreases-tree g l = 2 * l.depth
