-- The loop's invariant: no row before number j has the predicate.
use mathlib.Core.List.{◌++◌}
use Rattle.meaning.specs.Ast.{pred}
use Rattle.names.specs.Names.{name_of}
use Rattle.ast.specs.Table.{tree}
use Rattle.pending.proofs.Owns.{Seeking}
use Rattle.pending.proofs.own.earlier.Given as goal

abbrev pub invariant-loop-j : goal.invariant-loop-j
invariant-loop-j l = Seeking l.base.names.now (l.base.words.now ++ l.work) l.binders l.i (pred (name_of l.base.names.now l.c) (tree l.base.names.now (l.base.words.now ++ l.work) l.u)) l.j
