-- The loop's invariant: what the rows from row i on leave is what all leave.
use mathlib.Core.List.{◌++◌}
use Rattle.canonical.specs.Named.{free_in}
use Rattle.canonical.proofs.Leasts.{Leasting}
use Rattle.canonical.proofs.least_above.Given as goal

abbrev pub invariant-loop-i : goal.invariant-loop-i
invariant-loop-i l = Leasting l.base.names.now (l.base.words.now ++ l.work) l.binders (free_in l.base.names.now (l.base.words.now ++ l.work) l.env.rows.now l.env.order.now) l.from l.n l.t l.best l.i
