-- The measure is the list's word: what a word refers to lies below it.
use Rattle.ast.proofs.+count_list.Given as goal

abbrev pub decreases-count_list : goal.decreases-count_list
decreases-count_list l = l.l
