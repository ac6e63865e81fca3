-- `names::made` meets its contract. The loop's invariant: the digits after n are packed. The measure is n. Assumes nothing.
use Rattle.names.proofs.Digits.{Spelled}
use Rattle.names.proofs.made.Given as goal

abbrev pub invariant-loop-n : goal.invariant-loop-n
invariant-loop-n l = Spelled l.k l.n l.e

abbrev pub decreases-loop-n : goal.decreases-loop-n
decreases-loop-n l = l.n
