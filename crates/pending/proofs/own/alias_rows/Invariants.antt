-- The loop's invariant: the rows before row i are settled.
use mathlib.Core.List.{[], ◌++◌}
use Rattle.meaning.specs.Subst.{ftv_type}
use Rattle.meaning.specs.Generalize.{env_ftv}
use Rattle.ast.specs.Table.{tree}
use Rattle.scope.specs.Scope.{env_of}
use Rattle.pending.proofs.Aliases.{Aliasing}
use Rattle.pending.proofs.own.alias_rows.Given as goal

abbrev pub invariant-loop-i : goal.invariant-loop-i
invariant-loop-i l = Aliasing (ftv_type (tree l.base.names.now (l.base.words.now ++ l.work) l.t) []) (env_ftv (env_of l.base.names.now (l.base.words.now ++ l.work) l.env.rows.now l.env.order.now)) l.base.names.now (l.base.words.now ++ l.work) l.initial.binders l.binders l.top l.n l.i
