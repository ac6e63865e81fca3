-- The loop's invariant: of the rows before row i the deferred ones are in front.
use mathlib.Core.List.{[], ◌++◌}
use Rattle.meaning.specs.Subst.{ftv_type}
use Rattle.meaning.specs.Generalize.{env_ftv}
use Rattle.ast.specs.Table.{tree}
use Rattle.scope.specs.Scope.{env_of}
use Rattle.pending.proofs.Defers.{Deferring}
use Rattle.pending.proofs.own.defer_rows.Given as goal

abbrev pub invariant-loop-i : goal.invariant-loop-i
invariant-loop-i l = Deferring (ftv_type (tree l.base.names.now (l.base.words.now ++ l.work) l.t) []) (env_ftv (env_of l.base.names.now (l.base.words.now ++ l.work) l.env.rows.now l.env.order.now)) l.base.names.now (l.base.words.now ++ l.work) l.initial.binders l.binders l.n l.nd l.i
