-- Each way out by the laws of `Arms` and `Ways`. The measure is the word: what a word refers to lies below it.
use Rattle.free.proofs.+free_type_free_types.Given as goal

abbrev pub decreases-free_type : goal.decreases-free_type
decreases-free_type l = l.t

abbrev pub decreases-free_types : goal.decreases-free_types
decreases-free_types l = l.l
