-- Each way out by its law of `Lasts`. The measure is the word: what a word refers to lies below it.
use Rattle.canonical.proofs.sorted.+last_in_last_list.Given as goal

abbrev pub decreases-last_in : goal.decreases-last_in
decreases-last_in l = l.t

abbrev pub decreases-last_list : goal.decreases-last_list
decreases-last_list l = l.l
