-- The loop's invariant: what is left of the list has the variable just where all of it has. The measure is the list's word.
use mathlib.Core.List.{◌++◌}
use Rattle.vars.proofs.VarLaws.{Seeking}
use Rattle.vars.proofs.has_var.Given as goal

abbrev pub invariant-loop-a : goal.invariant-loop-a
invariant-loop-a l = Seeking l.base.names.now (l.base.words.now ++ l.work) l.top l.vs l.x l.l

abbrev pub decreases-loop-a : goal.decreases-loop-a
decreases-loop-a l = l.l
