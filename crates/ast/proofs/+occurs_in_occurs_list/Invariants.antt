-- The measure of each is twice the word, since what a word refers to lies below it, and one more for the test before the walk.
use Prim.Native.Nat.{◌+◌, ◌*◌}
use Rattle.ast.proofs.+occurs_in_occurs_list.Given as goal

abbrev pub decreases-occurs_in : goal.decreases-occurs_in
decreases-occurs_in l = 2 * l.t + 1

abbrev pub decreases-occurs_below : goal.decreases-occurs_below
decreases-occurs_below l = 2 * l.t

abbrev pub decreases-occurs_list : goal.decreases-occurs_list
decreases-occurs_list l = 2 * l.l
