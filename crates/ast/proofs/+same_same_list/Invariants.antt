-- The measure of each is twice its first word, since what a word refers to lies below it, and one more for the test before the walk.
use Prim.Native.Nat.{◌+◌, ◌*◌}
use Rattle.ast.proofs.+same_same_list.Given as goal

abbrev pub decreases-same : goal.decreases-same
decreases-same l = 2 * l.s + 1

abbrev pub decreases-same_below : goal.decreases-same_below
decreases-same_below l = 2 * l.s

abbrev pub decreases-same_list : goal.decreases-same_list
decreases-same_list l = 2 * l.k
