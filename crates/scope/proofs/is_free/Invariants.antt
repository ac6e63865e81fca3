-- The loop's invariant: the names that are left have the variable just where all have.
use mathlib.Core.List.{◌++◌}
use Rattle.scope.proofs.FreeLaws.{Asking}
use Rattle.scope.proofs.is_free.Given as goal

abbrev pub invariant-loop-r : goal.invariant-loop-r
invariant-loop-r l = Asking l.base.names.now (l.base.words.now ++ l.work) l.env.rows.now l.env.order.now l.x l.r-index
