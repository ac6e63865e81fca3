-- The cycle of `rename` and `rename_list`: each way out by its law of `Arms` or `Ways`. The measure is the word.
use Rattle.rename.proofs.+rename_rename_list.Given as goal

abbrev pub decreases-rename : goal.decreases-rename
decreases-rename l = l.t

abbrev pub decreases-rename_list : goal.decreases-rename_list
decreases-rename_list l = l.n
