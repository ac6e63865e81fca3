-- The loop's invariant: so many words were passed, and what is left has the word just where all has it. The measure is the list's word.
use mathlib.Core.List.{◌++◌}
use Rattle.rename.proofs.Places.{Passed}
use Rattle.rename.proofs.renamed.Given as goal

abbrev pub invariant-loop-a : goal.invariant-loop-a
invariant-loop-a l = Passed (l.base.words.now ++ l.work) l.top l.vs l.x l.l l.i

abbrev pub decreases-loop-a : goal.decreases-loop-a
decreases-loop-a l = l.l
