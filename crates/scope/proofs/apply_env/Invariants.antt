-- The loop's invariant: the rows of the names that are left, after those before them, give what all of them give.
use mathlib.Core.List.{◌++◌}
use Rattle.scope.proofs.Sweeping.{Sweeping}
use Rattle.scope.proofs.apply_env.Given as goal

abbrev pub invariant-loop-r : goal.invariant-loop-r
invariant-loop-r l = Sweeping l.base.names.now (l.base.words.now ++ l.initial.work) l.initial.env l.order l.initial.room.top l.initial.room.left l.sub.at l.sub.k (l.base.words.now ++ l.work) l.env l.room.top l.room.left l.r-index
