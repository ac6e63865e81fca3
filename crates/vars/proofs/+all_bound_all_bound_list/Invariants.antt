-- Each way out by its law of `Bound`. The measure is the word: what a word refers to lies below it.
use Rattle.vars.proofs.+all_bound_all_bound_list.Given as goal

abbrev pub decreases-all_bound : goal.decreases-all_bound
decreases-all_bound l = l.t

abbrev pub decreases-all_bound_list : goal.decreases-all_bound_list
decreases-all_bound_list l = l.l
