-- The loop's invariant: the instances that are left give what all of them give.
use mathlib.Core.Path.{◌≡◌}
use mathlib.Core.List.{◌++◌}
use Rattle.meaning.specs.Ast.{pred}
use Rattle.names.specs.Names.{name_of}
use Rattle.ast.specs.Table.{tree}
use Rattle.instances.proofs.Loops.{picks, Going}
use Rattle.instances.proofs.by_inst.Given as goal

abbrev pub invariant-loop-i : goal.invariant-loop-i
invariant-loop-i l = (l.room.top ≡ l.initial.room.top) × Going (picks (pred (name_of l.base.names.now l.c) (tree l.base.names.now (l.base.words.now ++ l.initial.work) l.t))) l.base.names.now (l.base.words.now ++ l.initial.work) l.insts l.initial.room.top l.initial.room.left l.sp (l.base.words.now ++ l.work) l.room.left l.i
