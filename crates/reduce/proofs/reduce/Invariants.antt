-- The loop's invariant: the rows that are left give what all of them give, from what those before them became.
use mathlib.Core.List.{◌++◌}
use Rattle.reduce.proofs.Loops.{Reducing}
use Rattle.reduce.proofs.reduce.Given as goal

abbrev pub invariant-loop-j : goal.invariant-loop-j
invariant-loop-j l = Reducing l.base.names.now l.rules.classes.now (l.base.words.now ++ l.initial.work) l.rules.insts.now l.initial.binders l.initial.room.top l.initial.room.left l.sp l.root l.l l.n (l.base.words.now ++ l.work) l.binders l.room.top l.room.left l.j
