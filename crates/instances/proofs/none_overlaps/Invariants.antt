-- The loop's invariant: the instances that are left give what all of them give.
use mathlib.Core.Path.{◌≡◌}
use mathlib.Core.List.{◌++◌}
use Rattle.meaning.specs.Ast.{pred}
use Rattle.names.specs.Names.{name_of}
use Rattle.ast.specs.Table.{tree}
use Rattle.instances.proofs.Loops.{parts_from, Going}
use Rattle.instances.proofs.none_overlaps.Given as goal

abbrev pub invariant-loop-j : goal.invariant-loop-j
invariant-loop-j l = (l.room.top ≡ l.initial.room.top) × Going (parts_from (pred (name_of l.base.names.now l.c) (tree l.base.names.now (l.base.words.now ++ l.initial.work) l.t))) l.base.names.now (l.base.words.now ++ l.initial.work) l.insts l.initial.room.top l.initial.room.left l.sp (l.base.words.now ++ l.work) l.room.left l.j
