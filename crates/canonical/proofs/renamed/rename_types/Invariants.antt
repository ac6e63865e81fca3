-- The loop's invariant: what all rows give is what those from row i on give now.
use mathlib.Core.List.{◌++◌}
use Rattle.canonical.proofs.Goes.{Going}
use Rattle.canonical.proofs.renamed.rename_types.Given as goal

abbrev pub invariant-loop-i : goal.invariant-loop-i
invariant-loop-i l = Going l.base.names.now (l.base.words.now ++ l.initial.work) (l.base.words.now ++ l.work) l.letters l.initial.binders l.binders l.initial.room.top l.initial.room.left l.n l.i l.room.top l.room.left
