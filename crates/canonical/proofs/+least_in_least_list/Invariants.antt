-- Each way out by its law of `Leasts`. The measure is the word: what a word refers to lies below it.
use Rattle.canonical.proofs.+least_in_least_list.Given as goal

abbrev pub decreases-least_in : goal.decreases-least_in
decreases-least_in l = l.t

abbrev pub decreases-least_list : goal.decreases-least_list
decreases-least_list l = l.l
