-- The loop's invariant: what all rows give is what those from row i on give now.
use mathlib.Core.List.{◌++◌}
use Rattle.simplify.proofs.Loop.{Going}
use Rattle.simplify.proofs.simplify_context.Given as goal

abbrev pub invariant-loop-i : goal.invariant-loop-i
invariant-loop-i l = Going l.base.names.now l.classes (l.base.words.now ++ l.initial.work) (l.base.words.now ++ l.work) l.initial.binders l.binders l.initial.room.top l.initial.room.left l.sp l.n l.i l.room.top l.room.left
